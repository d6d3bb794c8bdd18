-- What a code's calls check their buffers against. Assumes nothing.
use Rattle.std.specs.Prelude.{◌^◌}
use Rattle.codes.specs.declared.checks.Parameters.{Parameters}
use Rattle.codes.specs.Model.{CodeModel}

abbrev pub parameters_of : CodeModel → Parameters
parameters_of c = record { symbols = 2 ^ c.width; message_len = c.message_len; len = c.len }
