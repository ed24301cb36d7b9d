use Rattle.std.proofs.Common.{◌∙◌, ap}
use Rattle.mod_layout.specs.Table.{Table, place_in, place_of}
use Rattle.mod_layout.proofs.table.ModuleTable.at.Goals as goal

pub returns-clause-place : goal.returns-clause-place
unfolding place_of
returns-clause-place c = c.place_among.ensures ∙ ap (λ ms. place_in ms c.args.addr) c.as_slice.ensures.value ∙ ap (λ (t : Table). place_in t.modules c.args.addr) c.self.view_is
