use Rattle.flow_check.specs.internal.Points.{program_point}
use Rattle.flow_check.proofs.Placing.{place_noted, placed_noted, placed_entries}
use Rattle.flow_check.proofs.labelling.note_place.Goals as goal

pub returns-clause-placed : goal.returns-clause-placed
returns-clause-placed c = placed_noted c.args.places.now c.insert.new.self c.key.result (program_point c.args.point.now) c.args.at c.key.ensures c.in_ok-insert.ensures.updates

pub returns-clause-noted : goal.returns-clause-noted
returns-clause-noted c = place_noted c.args.places.now c.insert.new.self c.key.result (program_point c.args.point.now) c.args.at c.key.ensures c.in_ok-insert.ensures.updates

pub returns-in_err-insert-clause-placed : goal.returns-in_err-insert-clause-placed
returns-in_err-insert-clause-placed c = λ ns _. placed_entries c.args.places.now c.insert.new.self c.in_err-insert.ensures.err ns
