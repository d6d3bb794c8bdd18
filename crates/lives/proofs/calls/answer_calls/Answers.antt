use Rattle.std.proofs.Common.{◌≡◌, ℕ, ◌+◌, ◌-◌, ◌*◌, ◌≤◌, List, [], length, take, drop, refl, sym, ap, ◌∙◌, subst, arith, mul-zero}
use Rattle.std.proofs.lemmas.List.{length-drop, length-take-le}
use Rattle.lives.proofs.Living.{ahead_more, does_of, joined_on, kept_on, lived_on, part_in}
use Rattle.lives.specs.Runs.{Run, step_of}
use Rattle.lives.proofs.calls.answer_calls.Goals as goal

pub loop-i-init : goal.loop-i-init
loop-i-init g c =
    let bytes = c.args.bytes in
    let room = c.args.room.now in
    let none : [] ≡ take (bytes * 0) room = ap (λ (k : ℕ). take k room) (sym (mul-zero bytes)) in
    let start = c.args.memory.now.medium.now in
    record {
      lived = subst (λ (xs : List ℕ). Run g.M.Medium (g.C.Code.model c.args.memory.now.code) start [] [] xs xs start) none Run.begins;
      joined = c.requires.joined;
      kept = record { lenders = refl; order = refl; medium = refl; code = refl };
      ahead = refl;
    }

pub loop-i-preserved : goal.loop-i-preserved
loop-i-preserved g c =
    let bytes = c.args.bytes in
    let i = c.loop-i.i in
    let calls = c.args.calls.now in
    let room = c.loop-i.room in
    let ys = c.answer_call.new.room in
    let answer = c.answer_call.result in
    let memory = c.loop-i.memory in
    let memory' = c.answer_call.new.memory in
    let so = c.loop-i.invariant in
    let done = c.answer_call.ensures.done in
    let step = step_of _ answer _ ys done.1 in
    let span : bytes * i + bytes - bytes * i ≡ bytes = omega arith in
    let inside = part_in bytes (length calls) i c.loop-i-test.true in
    let fits : bytes * i + bytes ≤ length room = omega (arith, inside, c.requires.room, c.loop-i.auto.room) in
    let part : length (take (bytes * i + bytes - bytes * i) (drop (bytes * i) room)) ≡ bytes = ap (λ (k : ℕ). length (take k (drop (bytes * i) room))) span ∙ length-take-le bytes (drop (bytes * i) room) (omega (arith, length-drop (bytes * i) room, inside, c.requires.room, c.loop-i.auto.room)) in
    let wide : length ys ≡ bytes = c.answer_call.auto.room ∙ part in
    let lm = g.met.M.Medium.lawful memory.medium.now so.joined.medium in
    let lc = g.met.C.Code.lawful memory.code so.joined.code in
    let code = c.args.memory.now.code in
    let does = does_of g.M.Medium g.C.Code.model code memory.code so.kept.code _ answer _ ys done.1 c.answer_call.ensures.bytes c.answer_call.ensures.beside in
    record {
      lived = lived_on bytes c.args.room.now room ys i fits so.ahead wide g.M.Medium (g.C.Code.model code) c.requires.bytes calls c.loop-i.answers c.loop-i-test.true (omega (arith, c.requires.answers, c.loop-i.auto.answers)) _ answer (bytes * i + bytes - bytes * i) span so.lived does;
      joined = joined_on g.M.Medium g.C.Code memory memory' lm lc so.joined c.answer_call.ensures.kept done.0 step;
      kept = kept_on g.M.Medium g.C.Code c.args.memory.now memory memory' so.kept c.answer_call.ensures.kept;
      ahead = ahead_more bytes c.args.room.now room ys i fits so.ahead wide (bytes * i + bytes - bytes * i) span;
    }
