use Rattle.std.proofs.Common.{codes}
use Rattle.std.specs.Fmt.{decimal}
use Rattle.texts.specs.Hexadecimals.{hex_word}
use Rattle.monitor.proofs.Pieces.{four_pieces}
use Rattle.monitor.proofs.showing.push_refusal.Goals as goal

pub returns-clause-text : goal.returns-clause-text
returns-clause-text c =
    four_pieces c.args.out.now.bytes (codes "refused ReadData addr ") (hex_word c.args.refusal.addr) (codes " module ") (decimal c.args.refusal.id)
    c.push_str.new.self.bytes c.push_hex_word.new.out.bytes c.push_str-2.new.self.bytes c.push_decimal.new.out.bytes
    c.push_str.ensures.bytes c.push_hex_word.ensures.text c.push_str-2.ensures.bytes c.push_decimal.ensures.text
