use Rattle.std.proofs.Common.{arith}
use Rattle.texts.proofs.HexLemmas.{hex_is_ascii}
use Rattle.texts.proofs.hexadecimals.hex_key.Goals as goal

pub as_text-requires : goal.as_text-requires
as_text-requires c = (omega arith, (omega arith, hex_is_ascii c.encode.new.digits _ c.encode.ensures))
