use Rattle.std.proofs.Common.{◌≡◌, ◌<◌, ◌≤◌, subst, true, List, All, length, get_or}
use Rattle.std.proofs.lemmas.List.{take_all}
use Rattle.std.proofs.lemmas.List.Elements.{All-more}
use Rattle.page_pool.specs.declared.store.Table.{Table}
use Rattle.page_pool.proofs.StoreLemmas.{no_table}
use Rattle.page_pool.proofs.ViewLemmas.{all_shown}
use Rattle.page_pool.proofs.store.Store.unused.Goals as goal

pub loop-t-preserved : goal.loop-t-preserved
loop-t-preserved c =
    let same = c.deref-table-items.ensures.value in
    All-more (λ (t : Table). t.is_live ≡ true) c.args.self.now.tables.items c.loop-t.t no_table
    (subst (λ (ts : List Table). c.loop-t.t < length ts) same c.loop-t-test.true)
    c.loop-t.invariant
    (subst (λ (ts : List Table). (get_or ts c.loop-t.t no_table).is_live ≡ true) same c.if-not-table.false)

pub returns-clause-none : goal.returns-clause-none
returns-clause-none c n =
    let same = c.deref-table-items.ensures.value in
    let past : length c.args.self.now.tables.items ≤ c.loop-t.t = subst (λ (ts : List Table). length ts ≤ c.loop-t.t) same c.loop-t-test.false in
    all_shown c.args.self.now.pages.items c.args.self.now.tables.items
    (subst (λ (ts : List Table). All (λ (t : Table). t.is_live ≡ true) ts) (take_all c.loop-t.t c.args.self.now.tables.items past) c.loop-t.invariant)
