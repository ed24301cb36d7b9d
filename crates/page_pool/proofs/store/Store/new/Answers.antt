use Rattle.page_pool.proofs.NewLemmas.{new_counted}
use Rattle.page_pool.proofs.store.Store.new.Goals as goal

pub returns-clause-store : goal.returns-clause-store
returns-clause-store c =
    new_counted c.in_ok-zero_pages.field-0.items c.in_ok-zero_counts.field-0.items c.in_ok-unused_tables.field-0.items c.in_ok-free_pages.field-0.items c.args.tables c.index_mut.result.now
    c.requires.least c.requires.most c.in_ok-zero_pages.ensures c.in_ok-zero_counts.ensures c.in_ok-unused_tables.ensures c.index_mut.ensures.value
    c.in_ok-free_pages.ensures.length c.in_ok-free_pages.ensures.falling
