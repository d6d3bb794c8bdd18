use Rattle.std.proofs.Common.{◌≡◌, map, drop}
use Rattle.words.specs.Buffers.{given as handed, first_of, wrong_length}
use Rattle.words.proofs.buffer.check_lengths.Given as goal

-- the buffers that are left have the refusal of all
abbrev pub invariant-loop-buffer : goal.invariant-loop-buffer
invariant-loop-buffer l = first_of (wrong_length l.layer) (map handed (drop l.buffer-index l.buffers)) ≡ first_of (wrong_length l.layer) (map handed l.buffers)
