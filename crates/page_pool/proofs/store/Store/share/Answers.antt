use Rattle.page_pool.proofs.ShareLemmas.{places_named, total_small, share_counted}
use Rattle.page_pool.proofs.store.Store.share.Goals as goal

pub raise-requires-clause-small : goal.raise-requires-clause-small
raise-requires-clause-small c =
    let s = c.args.self.now in
    total_small s.pages.items s.counts.items s.tables.items s.free.items s.spare c.args.to c.requires.store c.requires.unused

pub returns-clause-store : goal.returns-clause-store
returns-clause-store c =
    let s = c.args.self.now in
    share_counted s.pages.items s.counts.items s.tables.items s.free.items s.spare c.args.from c.args.to c.index.result.now c.raise.new.counts.items
    c.requires.store c.requires.live c.requires.unused c.index.ensures c.raise.ensures.length c.raise.ensures.counted c.raise.ensures.total c.raise.ensures.zeros

pub raise-requires-clause-named : goal.raise-requires-clause-named
raise-requires-clause-named c = places_named _ _ _ _ _ c.args.from _ c.requires.store c.requires.live c.index.ensures
