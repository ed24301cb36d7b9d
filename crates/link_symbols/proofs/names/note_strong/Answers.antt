use Rattle.link_symbols.proofs.KeyLemmas.{notes}
use Rattle.link_symbols.proofs.names.note_strong.Goals as goal

pub returns-clause-noted : goal.returns-clause-noted
returns-clause-noted c = λ none. notes c.args.strong.now c.insert.new.self c.last_bytes.result c.args.name.now c.args.definition c.last_bytes.ensures c.in_ok-earlier.ensures.updates none
