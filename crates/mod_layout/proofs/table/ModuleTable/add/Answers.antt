use Rattle.std.proofs.Common.{is_none, ◌∙◌, ◌+◌, sym, ap, subst}
use Rattle.mod_layout.specs.Table.{Table, fault_of}
use Rattle.mod_layout.specs.Tables.{IsTable}
use Rattle.mod_layout.proofs.TableLemmas.{table_more}
use Rattle.mod_layout.proofs.table.ModuleTable.add.Goals as goal

pub invariant_of-self : goal.invariant_of-self
invariant_of-self c =
    let t : Table = record { modules = c.self.inside.modules.items; given = c.self.inside.given; room = c.self.inside.room } in
    let free = ap is_none (ap (λ (u : Table). fault_of u c.args.text c.args.ram) c.self.view_is ∙ sym c.fault.ensures ∙ c.in_default.is) in
    subst (λ ms. IsTable record { modules = ms; given = c.self.inside.given + 1; room = c.self.inside.room }) (sym c.push.ensures.items)
    (table_more t c.args.vendor c.args.text c.args.ram c.self.invariant free)

pub returns-clause-table : goal.returns-clause-table
returns-clause-table c = invariant_of-self c
