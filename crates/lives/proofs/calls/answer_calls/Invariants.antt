use Rattle.std.proofs.Common.{◌≡◌, ◌*◌, drop, take}
use Rattle.memories.specs.Promises.{Joined, Kept}
use Rattle.lives.specs.Runs.{Run}
use Rattle.lives.proofs.calls.answer_calls.Given as goal

-- the calls so far are lived, and the room behind theirs is as it was
abbrev pub invariant-loop-i : goal.invariant-loop-i
invariant-loop-i g l = record {
  lived : Run g.M.Medium (g.C.Code.model l.fn.memory.code) l.fn.memory.medium.now (take l.i l.calls) (take l.i l.answers) (take (l.bytes * l.i) l.fn.room) (take (l.bytes * l.i) l.room) l.memory.medium.now;
  joined : Joined g.M.Medium g.C.Code l.memory;
  kept : Kept g.M.Medium g.C.Code l.fn.memory l.memory;
  ahead : drop (l.bytes * l.i) l.room ≡ drop (l.bytes * l.i) l.fn.room;
}
