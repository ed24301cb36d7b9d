use Rattle.link_symbols.proofs.MeaningLemmas.{no_gaps}
use Rattle.std.proofs.Common.{sym}
use Rattle.link_symbols.proofs.check.check_used.Goals as goal

pub returns-then-all_stand-clause-sound : goal.returns-then-all_stand-clause-sound
returns-then-all_stand-clause-sound c = no_gaps c.args.number c.args.object.now.relocations 0 c.args.meanings.now (sym c.if-all_stand.ensures)
