-- Items stand one after another in their region, each at a multiple of its alignment.
use Rattle.std.proofs.Common.{◌≡◌, ◌≢◌, ◌⊎◌, inl, inr, ℕ, zero, suc, ◌+◌, ◌/◌, ◌%◌, ◌-◌, ◌<◌, ◌≤◌, List, [], ◌∷◌, take, filter, max, Option, Some, None, refl, ap, sym, ◌∙◌, arith}
use Rattle.std.specs.Prelude.{slice_index}
use Rattle.std.proofs.lemmas.Bool.{cases_lt}
use Rattle.std.proofs.Math.Nat.{mul-mod_left}
use Rattle.link_symbols.specs.declared.item.Item.{Item}
use Rattle.link_symbols.specs.declared.item.Part.{Part}
use Rattle.linker.specs.Placement.{filled_end, address_at, items_end, goes_to}
use Rattle.linker.specs.internal.Placed.{own_part, AreIn, part_start}
use Rattle.linker.proofs.BoundLemmas.{end_above, start_up, end_within, round_up_above, up_to_3}
use Rattle.linker.proofs.PlaceLemmas.{Goes, more_in, address_is, address_none, goes_in, goes_yes, start_next, some_not, filled_is}

-- what is in a part is an item
goes_of : (items : List Item) (k : ℕ) (p : Part) → own_part items k ≡ Some p → (i : Item) × Goes items k i p
goes_of [] k p e = some_not p (sym e)
goes_of (x ∷ xs) zero p e = (x, (refl, e))
goes_of (x ∷ xs) (suc k) p e = goes_of xs k p e

module _ (starts : List ℕ) (items : List Item) where
  -- where the k-th item ends
  abbrev pub ends : ℕ → Item → ℕ
  ends k i = address_at starts items k + i.size

  -- what stands before the k-th item in its part ends here
  abbrev ahead : ℕ → Part → ℕ
  ahead k p = items_end (part_start starts items p.region p.rank) (filter (goes_to p.region p.rank) (take k items))

  end_is : (k : ℕ) (i : Item) (p : Part) → Goes items k i p → ends k i ≡ ahead (k + 1) p
  end_is k i p g =
      let a = address_is starts items k i p g in
      let t = more_in (goes_to p.region p.rank) (part_start starts items p.region p.rank) k items i g.0 (goes_yes p.region p.rank i.part p g.1 refl refl) in
      omega (arith, a, t)

  above : (k : ℕ) (i : Item) (p : Part) → Goes items k i p → ahead k p ≤ address_at starts items k
  above k i p g = let a = address_is starts items k i p g in let r = round_up_above (max i.align 2) (ahead k p) (omega arith) in omega (arith, a, r)

  rank_above : (k : ℕ) (i : Item) (p : Part) → Goes items k i p →
      part_start starts items p.region p.rank ≤ address_at starts items k
  rank_above k i p g = let a = above k i p g in let b = end_above (part_start starts items p.region p.rank) (filter (goes_to p.region p.rank) (take k items)) in omega (arith, a, b)

  start_at : (p : Part) → slice_index starts p.region ≤ part_start starts items p.region p.rank
  unfolding part_start
  start_at p = let u = start_up starts items p.region 0 p.rank in let z : p.rank + 0 ≡ p.rank = omega arith in let e = ap (part_start starts items p.region) z in omega (arith, u, e)

  -- it stands above where its region has room
  pub item_low : (k : ℕ) (i : Item) (p : Part) → Goes items k i p → slice_index starts p.region ≤ address_at starts items k
  item_low k i p g = let a = rank_above k i p g in let b = start_at p in omega (arith, a, b)

  part_end : (k : ℕ) (i : Item) (p : Part) → Goes items k i p → ends k i ≤ part_start starts items p.region (p.rank + 1)
  part_end k i p g =
      let a = end_is k i p g in
      let w = end_within (goes_to p.region p.rank) (part_start starts items p.region p.rank) (k + 1) items in
      let n = start_next starts items p.region p.rank in
      omega (arith, a, w, n)

  -- and ends no further than its region's contents
  pub item_high : (k : ℕ) (i : Item) (p : Part) → Goes items k i p → p.rank < 3 → ends k i ≤ filled_end starts items p.region
  item_high k i p g h = let a = part_end k i p g in let u = up_to_3 starts items p.region p.rank h in omega (arith, a, u)

  low_by : (n k : ℕ) → AreIn n items → ((r : ℕ) → r < n → filled_end starts items r ≤ 65504) → (o : Option Part) →
      own_part items k ≡ o → address_at starts items k ≤ 65504
  low_by n k are high None e = let z = address_none starts items k e in omega (arith, z)
  low_by n k are high (Some p) e =
      let x = goes_of items k p e in
      let in_it = goes_in items n k p are e in
      let h = item_high k x.0 p x.1 in_it.1 in
      let r = high p.region in_it.0 in
      omega (arith, h, r)

  pub all_low : (n : ℕ) → AreIn n items → ((r : ℕ) → r < n → filled_end starts items r ≤ 65504) → (k : ℕ) →
      address_at starts items k ≤ 65504
  all_low n are high k = low_by n k are high (own_part items k) refl

  -- ---- two items of one region

  take_take : (j k : ℕ) → j ≤ k → take j (take k items) ≡ take j items
  take_take j k h = by items j k h
    where
      by : (xs : List Item) (j k : ℕ) → j ≤ k → take j (take k xs) ≡ take j xs
      by xs zero k h = refl
      by [] (suc j) zero h = absurd (omega arith)
      by [] (suc j) (suc k) h = refl
      by (x ∷ xs) (suc j) zero h = absurd (omega arith)
      by (x ∷ xs) (suc j) (suc k) h = ap (λ (l : List Item). x ∷ l) (by xs j k (omega arith))

  -- of one part, the earlier one ends first
  earlier : (j k : ℕ) (x y : Item) (p : Part) → Goes items j x p → Goes items k y p → j < k →
      ends j x ≤ address_at starts items k
  earlier j k x y p e f h =
      let g = goes_to p.region p.rank in
      let s = part_start starts items p.region p.rank in
      let a = end_is j x p e in
      let w = end_within g s (j + 1) (take k items) in
      let t = ap (λ (l : List Item). items_end s (filter g l)) (take_take (j + 1) k (omega arith)) in
      let b = above k y p f in
      omega (arith, a, w, t, b)

  -- of one region, so does the one of the lower rank
  lower : (j k : ℕ) (x y : Item) (p q : Part) → Goes items j x p → Goes items k y q →
      p.region ≡ q.region → p.rank < q.rank → ends j x ≤ address_at starts items k
  lower j k x y p q e f r h =
      let a = part_end j x p e in
      let u = start_up starts items p.region (p.rank + 1) (q.rank - (p.rank + 1)) in
      let z : (q.rank - (p.rank + 1)) + (p.rank + 1) ≡ q.rank = omega arith in
      let t = ap (part_start starts items p.region) z in
      let v = ap (λ (n : ℕ). part_start starts items n q.rank) r in
      let b = rank_above k y q f in
      omega (arith, a, u, t, v, b)

  same_part : (p q : Part) → p.region ≡ q.region → p.rank ≡ q.rank → p ≡ q
  same_part p q r k = ap (λ (n : ℕ). let t : Part = record { region = n; rank = p.rank } in t) r ∙ ap (λ (n : ℕ). let t : Part = record { region = q.region; rank = n } in t) k

  by_index : (j k : ℕ) (x y : Item) (p : Part) → Goes items j x p → Goes items k y p → j ≢ k →
      (j < k) ⊎ (k ≤ j) → (ends j x ≤ address_at starts items k) ⊎ (ends k y ≤ address_at starts items j)
  by_index j k x y p e f ne (inl h) = inl (earlier j k x y p e f h)
  by_index j k x y p e f ne (inr h) = by (cases_lt k j)
    where
      by : (k < j) ⊎ (j ≤ k) → (ends j x ≤ address_at starts items k) ⊎ (ends k y ≤ address_at starts items j)
      by (inl l) = inr (earlier k j y x p f e l)
      by (inr l) = absurd (ne (omega arith))

  -- two items of one region stand one after the other
  pub in_turn : (j k : ℕ) (x y : Item) (p q : Part) → Goes items j x p → Goes items k y q → j ≢ k →
      p.region ≡ q.region → (ends j x ≤ address_at starts items k) ⊎ (ends k y ≤ address_at starts items j)
  in_turn j k x y p q e f ne r = by (cases_lt p.rank q.rank) (cases_lt q.rank p.rank)
    where
      by : (p.rank < q.rank) ⊎ (q.rank ≤ p.rank) → (q.rank < p.rank) ⊎ (p.rank ≤ q.rank) →
          (ends j x ≤ address_at starts items k) ⊎ (ends k y ≤ address_at starts items j)
      by (inl h) c = inl (lower j k x y p q e f r h)
      by (inr h) (inl g) = inr (lower k j y x q p f e (sym r) g)
      by (inr h) (inr g) = by_index j k x y q (e.0, e.1 ∙ ap Some (same_part p q r (omega arith))) f ne (cases_lt j k)

  -- a region's contents end no earlier than they begin
  pub room_for : (r : ℕ) → slice_index starts r ≤ filled_end starts items r
  unfolding part_start
  room_for r = let u = start_up starts items r 0 3 in let w = filled_is starts items r in omega (arith, u, w)

  -- an item stands at a multiple of its alignment
  pub aligned : (k : ℕ) (i : Item) (p : Part) → Goes items k i p → address_at starts items k % max i.align 2 ≡ 0
  aligned k i p g =
      let a = max i.align 2 in
      ap (λ (n : ℕ). n % a) (address_is starts items k i p g) ∙ mul-mod_left ((ahead k p + (a - 1)) / a) a
