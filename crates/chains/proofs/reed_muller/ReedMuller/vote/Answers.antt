use Rattle.std.proofs.Common.{◌≡◌, ℕ, ◌^◌, ◌<◌, ◌≤◌, Bool, cond, ap, ap₂, ltb, ◌∙◌, rules, arith}
use Rattle.chains.specs.Bits.{bits_of}
use Rattle.chains.specs.MullerColumns.{muller_sizes}
use Rattle.chains.proofs.MullerSteps.{shifted, voice_is, vote_free, vote_held, votes_over}
use Rattle.chains.proofs.reed_muller.ReedMuller.vote.Goals as goal
use Rattle.chains.proofs.reed_muller.ReedMuller.vote.Goals.{then-a-s-eq0, else-a-s-eq0}

pub subsets-requires : goal.subsets-requires
subsets-requires c = omega (arith, c.requires, (muller_sizes c.args.self.now.r c.args.self.now.range).few_cells)

pub overflow_shl-set : goal.overflow_shl-set
overflow_shl-set c = omega (arith, c.cells-a-end.ensures, (muller_sizes c.args.self.now.r c.args.self.now.range).few_cells)

pub loop-a-preserved : goal.loop-a-preserved
loop-a-preserved c =
    let r = c.args.self.now.r in
    let range = c.args.self.now.range in
    let s = c.args.s in
    let a = c.loop-a.a in
    let word = c.args.word in
    let blank = c.args.blank in
    let cells = bits_of (2 ^ r) word in
    let marks = bits_of (2 ^ r) blank in
    let ha : a < 2 ^ r = omega (arith, c.cells-a-end.ensures) in
    let inv = c.loop-a.invariant in
    elim c.if-a-s-eq0.branch [
      | then-a-s-eq0 w ↦
          let set : (b : ℕ) → _ = λ b. shifted r range s a b cells marks c.requires ha w.subsets.result w.subsets.ensures w.if-a-s-eq0.true in
          let none : w.from-zeros.result ≡ cond w.speaks.result 1 0 = search rules in
          let one : w.from-ones.result ≡ cond w.speaks-then-a-s-eq0.result 1 0 = search rules in
          let no = none ∙ ap (λ (t : Bool). cond {A = ℕ} t 1 0) w.speaks.ensures ∙ voice_is (2 ^ r) 0 _ word blank (set 0).1 in
          let yes = one ∙ ap (λ (t : Bool). cond {A = ℕ} t 1 0) w.speaks-then-a-s-eq0.ensures ∙ voice_is (2 ^ r) 1 _ word blank (set 1).1 in
          let zeros = vote_free r range s a 0 cells marks c.requires ha _ _ _ w.subsets.result _ w.if-a-s-eq0.true w.subsets.ensures no w.zeros-is (inv.0, inv.2) in
          let ones = vote_free r range s a 1 cells marks c.requires ha _ _ _ w.subsets.result _ w.if-a-s-eq0.true w.subsets.ensures yes w.ones-is (inv.1, inv.3) in
          (zeros.0, ones.0, zeros.1, ones.1)
      | else-a-s-eq0 w ↦
          let zeros = vote_held r range s a 0 cells marks c.requires ha _ _ _ w.if-a-s-eq0.false w.zeros-is (inv.0, inv.2) in
          let ones = vote_held r range s a 1 cells marks c.requires ha _ _ _ w.if-a-s-eq0.false w.ones-is (inv.1, inv.3) in
          (zeros.0, ones.0, zeros.1, ones.1)
    ]

pub returns : goal.returns
returns c =
    let n = 2 ^ c.args.self.now.r in
    let cells = bits_of n c.args.word in
    let marks = bits_of n c.args.blank in
    let over : n ≤ c.loop-a.a = omega (arith, c.cells-a-end.ensures) in
    let zeros = votes_over n c.args.s c.loop-a.a 0 c.loop-a.zeros _ cells marks over c.loop-a.invariant.2 in
    let ones = votes_over n c.args.s c.loop-a.a 1 c.loop-a.ones _ cells marks over c.loop-a.invariant.3 in
    let number : c.from.result ≡ cond {A = ℕ} (ltb c.loop-a.zeros c.loop-a.ones) 1 0 = search rules in
    number ∙ ap₂ (λ (z o : ℕ). cond {A = ℕ} (ltb z o) 1 0) zeros ones
