use Rattle.std.proofs.Common.{List, Option, ℕ, subst, sym}
use Rattle.page_pool.specs.Tables.{IsLive}
use Rattle.page_pool.specs.internal.Naming.{tables_of}
use Rattle.page_pool.proofs.StoreLemmas.{page_written}
use Rattle.page_pool.proofs.store.Store.write.Goals as goal

pub returns-clause-written : goal.returns-clause-written
returns-clause-written c =
    let s = c.own_page-own.new.self in
    let own = c.own_page-own.ensures in
    let live = subst (λ (ts : List (Option (List ℕ))). IsLive ts c.args.t) (sym own.same) c.requires.live in
    page_written s.pages.items s.counts.items s.tables.items s.free.items s.spare c.args.t c.args.n c.own_page-own.result c.args.at c.args.byte c.index_mut.result.now (tables_of c.args.self.now)
    own.store live c.requires.place c.requires.at own.place own.own c.index_mut.ensures.value own.same
