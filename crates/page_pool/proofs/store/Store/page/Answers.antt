use Rattle.page_pool.proofs.ViewLemmas.{page_shown}
use Rattle.page_pool.proofs.store.Store.page.Goals as goal

pub returns-clause-page : goal.returns-clause-page
returns-clause-page c = page_shown _ _ _ _ _ c.args.t c.args.n _ _ _ c.requires.store c.requires.live c.requires.place c.index.ensures c.from.ensures c.index-2.ensures
