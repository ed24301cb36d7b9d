use Rattle.link_symbols.proofs.KeyLemmas.{notes}
use Rattle.link_symbols.proofs.names.note_number.Goals as goal

pub returns : goal.returns
returns c = notes c.args.commons.now c.insert.new.self c.last_bytes.result c.args.name.now c.args.number c.last_bytes.ensures c.in_ok-insert.ensures.updates c.requires
