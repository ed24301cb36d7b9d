use Rattle.std.proofs.Common.{◌≡◌, None, arith}
use Rattle.std.proofs.lemmas.Grind.{common_steps}
use Rattle.link_symbols.specs.internal.Maps.{name_entry}
use Rattle.link_symbols.proofs.KeyLemmas.{notes}
use Rattle.link_symbols.proofs.names.note_weak.Goals as goal

pub returns-clause-noted : goal.returns-clause-noted
returns-clause-noted c =
    let none : name_entry c.args.weak.now c.args.name.now ≡ None = grind (arith, common_steps) in
    notes c.args.weak.now c.insert.new.self c.last_bytes.result c.args.name.now c.args.meaning c.last_bytes.ensures c.in_ok-insert.ensures.updates none
