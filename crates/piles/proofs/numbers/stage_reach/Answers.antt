use Rattle.std.proofs.Common.{mul-le-mul, arith}
use Rattle.chains.specs.FromLaw.{within}
use Rattle.pile_laws.proofs.Calls.{stage_number}
use Rattle.stage_laws.proofs.Reach.{distance_within}
use Rattle.piles.proofs.numbers.stage_reach.Goals as goal

pub overflow_mul-result : goal.overflow_mul-result
overflow_mul-result g c =
    let chain = c.args.chain.now in
    let h = g.H.Chain.model chain in
    let law = g.met.H.Chain.lawful chain c.requires.0 in
    let code = c.args.code.now in
    let m = g.A.Code.model code in
    let code-law = g.met.A.Code.lawful code c.requires.1.0 in
    let inner = stage_number h h.distance c.args.stage c.in_ok-inner.inner c.requires.1.1 (c.in_ok-inner.ensures.sound c.requires.0) in
    let small = mul-le-mul {n₁ = c.in_ok-inner.inner} {m₁ = c.distance-2.result} {n₂ = 16} {m₂ = 4096} (omega (arith, inner, within h law c.args.stage c.requires.1.1, law.few_cells)) (omega (arith, c.distance-2.ensures c.requires.1.0, distance_within m code-law, code-law.short)) in
    record { fits = omega (arith, small) }
