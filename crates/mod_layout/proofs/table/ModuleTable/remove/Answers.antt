use Rattle.std.proofs.Common.{refl, sym, ap, ◌∙◌, subst}
use Rattle.mod_layout.specs.Table.{Table}
use Rattle.mod_layout.specs.Tables.{IsTable}
use Rattle.mod_layout.proofs.TableLemmas.{table_dropped, found_at, found_nowhere}
use Rattle.mod_layout.proofs.table.ModuleTable.remove.Goals as goal

pub invariant_of-self : goal.invariant_of-self
invariant_of-self c =
    let f = found_at c.args.id c.self.inside.modules.items c.in-Some.index (rw (← c.as_slice.ensures.value) (sym c.index_of.ensures ∙ c.in-Some.is)) in
    subst (λ ms. IsTable record { modules = ms; given = c.self.inside.given; room = c.self.inside.room }) (f.dropped ∙ sym c.remove.ensures.items)
    (table_dropped record { modules = c.self.inside.modules.items; given = c.self.inside.given; room = c.self.inside.room } c.args.id c.self.invariant)

pub returns-in-None-clause-held : goal.returns-in-None-clause-held
returns-in-None-clause-held c =
    let f = found_nowhere c.args.id c.self.inside.modules.items (rw (← c.as_slice.ensures.value) (sym c.index_of.ensures ∙ c.in-None.is)) in
    rw (← c.self.view_is, f.missing) ((λ e. e), (λ e. e))

pub returns-in-Some-clause-without : goal.returns-in-Some-clause-without
returns-in-Some-clause-without c =
    let f = found_at c.args.id c.self.inside.modules.items c.in-Some.index (rw (← c.as_slice.ensures.value) (sym c.index_of.ensures ∙ c.in-Some.is)) in
    rw (← c.self.view_is) (ap (λ ms. let t : Table = record { modules = ms; given = c.self.inside.given; room = c.self.inside.room } in t) (c.remove.ensures.items ∙ sym f.dropped))

pub returns-in-Some-clause-held : goal.returns-in-Some-clause-held
returns-in-Some-clause-held c =
    let f = found_at c.args.id c.self.inside.modules.items c.in-Some.index (rw (← c.as_slice.ensures.value) (sym c.index_of.ensures ∙ c.in-Some.is)) in
    rw (← c.self.view_is) ((λ e. f.found), (λ e. refl))

pub returns-in-None-clause-without : goal.returns-in-None-clause-without
returns-in-None-clause-without c =
    let f = found_nowhere c.args.id c.self.inside.modules.items (rw (← c.as_slice.ensures.value) (sym c.index_of.ensures ∙ c.in-None.is)) in
    rw (← c.self.view_is) (ap (λ ms. let t : Table = record { modules = ms; given = c.self.inside.given; room = c.self.inside.room } in t) (sym f.kept))

pub returns-in-Some-clause-table : goal.returns-in-Some-clause-table
returns-in-Some-clause-table c = invariant_of-self c
