use Rattle.std.proofs.Common.{◌≤◌, ℕ, rules, subst, sym}
use Rattle.page_pool.proofs.StoreLemmas.{named_counted, spare_there, page_there, copied}
use Rattle.page_pool.proofs.store.Store.copy_page.Goals as goal

pub overflow_sub-self : goal.overflow_sub-self
overflow_sub-self c = spare_there _ _ _ _ _ c.args.t c.args.n c.args.shared c.requires.store c.requires.live c.requires.place c.requires.named c.requires.shared

pub index_mut-requires : goal.index_mut-requires
index_mut-requires c =
    let there = page_there _ _ _ _ _ c.args.t c.args.n c.args.shared _ _ c.requires.store c.requires.live c.requires.place c.requires.named c.requires.shared c.index-place.ensures c.from-page.ensures in
    let inside = there.1 in
    search rules

pub index_mut-requires-3 : goal.index_mut-requires-3
index_mut-requires-3 c =
    let there = page_there _ _ _ _ _ c.args.t c.args.n c.args.shared _ _ c.requires.store c.requires.live c.requires.place c.requires.named c.requires.shared c.index-place.ensures c.from-page.ensures in
    let inside = there.0 in
    search rules

pub returns : goal.returns
returns c =
    let done = copied _ _ _ _ _ c.args.t c.args.n c.args.shared _ _ _ _ _ c.requires.store c.requires.live c.requires.place c.requires.named c.requires.shared
    c.index-place.ensures c.from-page.ensures c.index.ensures c.index_mut-2.ensures.value c.index_mut-4.ensures.value in
    record { store = done.counted; same = done.same; place = done.place; own = done.own }

pub overflow_sub-index_mut : goal.overflow_sub-index_mut
overflow_sub-index_mut c =
    subst (λ (x : ℕ). 1 ≤ x) (sym c.index_mut-2.ensures.value)
    (named_counted _ _ _ _ _ c.args.t c.args.n c.args.shared _ c.requires.store c.requires.live c.requires.place c.requires.named)
