use Rattle.std.proofs.Common.{◌^◌, ◌≤◌, arith, pow_mono}
use Rattle.std.proofs.lemmas.Nat.{mul-le}
use Rattle.fields.proofs.below.Below.join.Goals as goal

pub overflow_mul-result : goal.overflow_mul-result
overflow_mul-result g c =
    let top : 2 ^ c.args.self.now.width ≤ 16 = pow_mono c.args.self.now.narrow in
    let h = mul-le c.size-q.result c.args.x.high 16 15 (omega arith) (omega arith) in
    record { fits = omega arith }

pub overflow_add-result : goal.overflow_add-result
overflow_add-result g c =
    let top : 2 ^ c.args.self.now.width ≤ 16 = pow_mono c.args.self.now.narrow in
    let h = mul-le c.size-q.result c.args.x.high 16 15 (omega arith) (omega arith) in
    record { fits = omega arith }
