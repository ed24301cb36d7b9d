use Rattle.page_pool.proofs.StoreLemmas.{place_found}
use Rattle.page_pool.proofs.store.Store.own_page.Goals as goal

pub returns-then-index-eq1-clause-place : goal.returns-then-index-eq1-clause-place
returns-then-index-eq1-clause-place c = place_found _ _ _ _ _ c.args.t c.args.n _ _ c.requires.store c.requires.live c.requires.place c.index.ensures c.from-page.ensures

pub copy_page-requires-clause-named : goal.copy_page-requires-clause-named
copy_page-requires-clause-named c = place_found _ _ _ _ _ c.args.t c.args.n _ _ c.requires.store c.requires.live c.requires.place c.index.ensures c.from-page.ensures
