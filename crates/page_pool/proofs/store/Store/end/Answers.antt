use Rattle.page_pool.proofs.ShareLemmas.{names_enough, end_counted}
use Rattle.page_pool.proofs.store.Store.end.Goals as goal

pub lower-self-requires-clause-counted : goal.lower-self-requires-clause-counted
lower-self-requires-clause-counted c = names_enough _ _ _ _ _ c.args.t _ c.requires.store c.requires.live c.index.ensures

pub returns-clause-store : goal.returns-clause-store
returns-clause-store c =
    let lowered = c.lower-self.ensures in
    end_counted _ _ _ _ _ c.args.t _ _ _ _ _ c.requires.store c.requires.live c.index.ensures c.index_mut.ensures.value lowered.length lowered.room lowered.counted lowered.total lowered.free
