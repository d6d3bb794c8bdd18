use Rattle.std.proofs.Common.{Ok, ap}
use Rattle.worked.proofs.Once.{encoded_once}
use Rattle.worked.proofs.corrections.encoded.Goals as goal

pub returns : goal.returns
returns c = ap Ok (encoded_once c.in_ok-code.code c.in_ok-code.ensures c.encode.new.word c.encode.result c.encode.ensures.sound)
