use Rattle.std.proofs.Common.{length, arith}
use Rattle.memory_laws.proofs.Gathering.{bytes_from}
use Rattle.memories.proofs.bits.gather.Goals as goal
use Rattle.memories.proofs.bits.gather.Goals.{After-spell}

pub returns : goal.returns
returns c =
    bytes_from (length c.args.payload.now) c.loop-i.payload c.args.message.now (omega arith) (λ k l. c.loop-i.invariant k (omega arith))
