use Rattle.std.proofs.Common.{◌≡◌, ◌≤◌, ◌<◌, ◌-◌, ◌∙◌, ℕ, arith, rules, length, get_or, inl, inr, refl, sym, subst, ap}
use Rattle.std.proofs.lemmas.List.{length-set, get_or_read}
use Rattle.std.proofs.lemmas.List.Elements.{All-get_or}
use Rattle.page_pool.specs.internal.Counts.{times_in}
use Rattle.page_pool.proofs.LoopLemmas.{lowered_both, count_there, spare_room}
use Rattle.page_pool.proofs.store.lower.Goals as goal
use Rattle.page_pool.proofs.store.lower.Goals.{then-count-eq0, else-count-eq0}

pub index_mut-requires-then-count-eq0 : goal.index_mut-requires-then-count-eq0
index_mut-requires-then-count-eq0 c =
    let place = c.from-page.result in
    let at : c.loop-place.place-index < length c.args.places.now = omega arith in
    let enough : times_in place c.args.places.now ≤ get_or c.args.counts.now.items place 0 =
    subst (λ (x : ℕ). times_in x c.args.places.now ≤ get_or c.args.counts.now.items x 0) (sym c.from-page.ensures)
    (All-get_or (λ p. times_in p c.args.places.now ≤ get_or c.args.counts.now.items p 0) c.args.places.now c.loop-place.place-index 0 at c.requires.counted) in
    let inside : place < length c.args.counts.now.items = subst (λ (x : ℕ). x < length c.args.counts.now.items) (sym c.from-page.ensures)
    (All-get_or (λ p. p < length c.args.counts.now.items) c.args.places.now c.loop-place.place-index 0 at c.requires.inside) in
    let some = count_there c.args.counts.now.items c.loop-place.counts.items c.args.places.now c.loop-place.place-index place at c.from-page.ensures enough c.loop-place.invariant.0.counted in
    let a = c.loop-place.invariant.1 in
    let b = c.loop-place.invariant.2 in
    let room = spare_room c.loop-place.counts.items c.loop-place.free.items c.loop-place.spare place c.loop-place.invariant.0.spared (omega arith) (omega arith) some in
    search rules

pub loop-place-preserved : goal.loop-place-preserved
loop-place-preserved c =
    let place = c.from-page.result in
    let count = c.index.result.now in
    let at : c.loop-place.place-index < length c.args.places.now = omega arith in
    let enough : times_in place c.args.places.now ≤ get_or c.args.counts.now.items place 0 =
    subst (λ (x : ℕ). times_in x c.args.places.now ≤ get_or c.args.counts.now.items x 0) (sym c.from-page.ensures)
    (All-get_or (λ p. times_in p c.args.places.now ≤ get_or c.args.counts.now.items p 0) c.args.places.now c.loop-place.place-index 0 at c.requires.counted) in
    let inside : place < length c.args.counts.now.items = subst (λ (x : ℕ). x < length c.args.counts.now.items) (sym c.from-page.ensures)
    (All-get_or (λ p. p < length c.args.counts.now.items) c.args.places.now c.loop-place.place-index 0 at c.requires.inside) in
    let some = count_there c.args.counts.now.items c.loop-place.counts.items c.args.places.now c.loop-place.place-index place at c.from-page.ensures enough c.loop-place.invariant.0.counted in
    let a = c.loop-place.invariant.1 in
    let b = c.loop-place.invariant.2 in
    let read : count ≡ get_or c.loop-place.counts.items place 0 = get_or_read c.loop-place.counts.items place count (omega arith) c.index.ensures 0 in (
      lowered_both c.args.counts.now.items c.loop-place.counts.items c.args.places.now c.loop-place.free.items c.loop-place.spare c.loop-place.place-index place (count - 1) c.if-count-eq0.free.items c.if-count-eq0.spare
          (omega arith) (omega arith) at c.from-page.ensures inside some (ap (λ (x : ℕ). x - 1) read)
          (elim c.if-count-eq0.branch [
            | then-count-eq0 w ↦ inl (w.if-count-eq0.true, (rw w.free-is refl), w.spare-is)
            | else-count-eq0 w ↦ inr (w.if-count-eq0.false, (rw w.free-is refl), w.spare-is)
          ])
          c.loop-place.invariant.0,
      length-set c.loop-place.counts.items place (count - 1) ∙ a,
      elim c.if-count-eq0.branch [
        | then-count-eq0 w ↦ rw w.free-is (length-set c.loop-place.free.items c.loop-place.spare (get_or c.args.places.now c.loop-place.place-index 0) ∙ b)
        | else-count-eq0 w ↦ rw w.free-is b
      ],
    )
