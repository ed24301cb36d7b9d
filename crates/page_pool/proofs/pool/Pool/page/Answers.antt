use Rattle.page_pool.proofs.ViewLemmas.{size_shown}
use Rattle.page_pool.proofs.pool.Pool.page.Goals as goal

pub returns-clause-size : goal.returns-clause-size
returns-clause-size c =
    let s = c.self.inside.store in
    size_shown s.pages.items s.counts.items s.tables.items s.free.items s.spare c.args.t c.args.self.now c.self.invariant c.self.view_is c.requires
