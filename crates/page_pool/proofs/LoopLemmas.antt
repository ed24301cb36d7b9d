-- The loops that count names up and down, step by step.
use Rattle.std.proofs.Common.{◌≡◌, ◌≢◌, ℕ, ◌+◌, ◌-◌, ◌<◌, ◌≤◌, cond, eqb, List, length, get_or, sum, count_by, sym, refl, ap, ◌∙◌, subst, ⊎_elim, ◌⊎◌, arith, take}
use Rattle.std.proofs.Math.ListN.{set}
use Rattle.std.proofs.lemmas.List.Sums.{sum_by_more, sum_by-take-le, count_by-le-length}
use Rattle.std.proofs.lemmas.List.{get_or-set_same, get_or-set_other, length-set}
use Rattle.std.proofs.lemmas.Bool.Decides.{eqb_tells}
use Rattle.page_pool.specs.internal.Counts.{times_in, IsFree}
use Rattle.page_pool.proofs.CopyLemmas.{are_free, free_inside, free_once, free_unnamed, zeros_set, not_zero, is_zero, same_page, other_page, sum_set}

-- one more place is looked at
pub times_in_more : (page : ℕ) (places : List ℕ) (i place : ℕ) → i < length places → place ≡ get_or places i 0
    → times_in page (take (i + 1) places) ≡ times_in page (take i places) + cond {A = ℕ} (eqb place page) 1 0
times_in_more page places i place h e = subst (λ (x : ℕ). times_in page (take (i + 1) places) ≡ times_in page (take i places) + cond {A = ℕ} (eqb x page) 1 0) (sym e)
    (sum_by_more (λ q. cond {A = ℕ} (eqb q page) 1 0) places i 0 h)

-- what the front of the places does to the counts going up
pub record Raised (before counts places : List ℕ) (i : ℕ) : Type 0 where
  pub counted : (page : ℕ) → get_or counts page 0 ≡ get_or before page 0 + times_in page (take i places)
  pub total : sum counts ≡ sum before + i
  pub zeros : count_by (λ count. eqb count 0) counts ≡ count_by (λ count. eqb count 0) before

pub raised_start : (before places : List ℕ) → Raised before before places 0
raised_start before places = record { counted = λ page. omega arith; total = omega arith; zeros = refl }

pub raised_more : (before counts places : List ℕ) (i place : ℕ)
    → length counts ≡ length before → i < length places → place ≡ get_or places i 0 → place < length before → 0 < get_or before place 0
    → Raised before counts places i → Raised before (set counts place (get_or counts place 0 + 1)) places (i + 1)
raised_more before counts places i place long h e inside some r =
    let now : get_or counts place 0 ≡ get_or before place 0 + times_in place (take i places) = r.counted place in
    let z = zeros_set counts place (get_or counts place 0 + 1) (omega arith) in
    let za = not_zero (get_or counts place 0) (omega arith) in
    let zb = not_zero (get_or counts place 0 + 1) (omega arith) in
    let zo = r.zeros in
    let s = sum_set counts place (get_or counts place 0 + 1) (omega arith) in
    let t = r.total in
    record {
      counted = λ page.
          let more = times_in_more page places i place h e in
          let old = r.counted page in
          ⊎_elim
          (λ k. let f : place ≡ page = k.1 in
          let one = same_page place page f in
          let a : get_or (set counts place (get_or counts place 0 + 1)) page 0 ≡ get_or counts page 0 + 1 =
          subst (λ (x : ℕ). get_or (set counts place (get_or counts place 0 + 1)) x 0 ≡ get_or counts x 0 + 1) f (get_or-set_same counts place (get_or counts place 0 + 1) 0 (omega arith)) in
          omega arith)
          (λ k. let one = other_page place page k.1 in
          let a = get_or-set_other counts place page (get_or counts place 0 + 1) 0 (λ g. k.1 (sym g)) in
          omega arith)
          (eqb_tells place page);
      total = omega arith;
      zeros = omega arith;
    }

-- what the front of the places does to the counts going down
pub record Lowered (before counts places free : List ℕ) (spare i : ℕ) : Type 0 where
  pub counted : (page : ℕ) → get_or counts page 0 + times_in page (take i places) ≡ get_or before page 0
  pub total : sum counts + i ≡ sum before
  pub spared : IsFree counts free spare

pub lowered_start : (before places free : List ℕ) (spare : ℕ) → IsFree before free spare → Lowered before before places free spare 0
lowered_start before places free spare f = record { counted = λ page. omega arith; total = omega arith; spared = f }

lowered_counts : (before counts places : List ℕ) (i place : ℕ)
    → length counts ≡ length before → i < length places → place ≡ get_or places i 0 → place < length before → 1 ≤ get_or counts place 0
    → ((page : ℕ) → get_or counts page 0 + times_in page (take i places) ≡ get_or before page 0)
    → (page : ℕ) → get_or (set counts place (get_or counts place 0 - 1)) page 0 + times_in page (take (i + 1) places) ≡ get_or before page 0
lowered_counts before counts places i place long h e inside some counted page =
    let more = times_in_more page places i place h e in
    let old = counted page in
    ⊎_elim
    (λ k. let f : place ≡ page = k.1 in
    let one = same_page place page f in
    let there : 1 ≤ get_or counts page 0 = subst (λ (x : ℕ). 1 ≤ get_or counts x 0) f some in
    let a : get_or (set counts place (get_or counts place 0 - 1)) page 0 ≡ get_or counts page 0 - 1 =
    subst (λ (x : ℕ). get_or (set counts place (get_or counts place 0 - 1)) x 0 ≡ get_or counts x 0 - 1) f (get_or-set_same counts place (get_or counts place 0 - 1) 0 (omega arith)) in
    omega arith)
    (λ k. let one = other_page place page k.1 in
    let a = get_or-set_other counts place page (get_or counts place 0 - 1) 0 (λ g. k.1 (sym g)) in
    omega arith)
    (eqb_tells place page)

-- the count that falls is there
pub count_there : (before counts places : List ℕ) (i place : ℕ) → i < length places → place ≡ get_or places i 0
    → times_in place places ≤ get_or before place 0
    → ((page : ℕ) → get_or counts page 0 + times_in page (take i places) ≡ get_or before page 0)
    → 1 ≤ get_or counts place 0
count_there before counts places i place h e enough counted =
    let more = times_in_more place places i place h e in
    let one = same_page place place refl in
    let front = sum_by-take-le (λ q. cond {A = ℕ} (eqb q place) 1 0) places (i + 1) in
    let old = counted place in
    omega arith

pub lowered_free : (before counts places free : List ℕ) (spare i place count : ℕ)
    → length counts ≡ length before → length before ≤ length free → i < length places → place ≡ get_or places i 0 → place < length before
    → 1 ≤ get_or counts place 0 → count ≡ get_or counts place 0 - 1 → count ≡ 0
    → Lowered before counts places free spare i → Lowered before (set counts place count) places (set free spare place) (spare + 1) (i + 1)
lowered_free before counts places free spare i place count long room h e inside some is none r =
    let f = r.spared in
    let after = set counts place count in
    let free_after = set free spare place in
    let counted = lowered_counts before counts places i place long h e inside some r.counted in
    let after_is : set counts place (get_or counts place 0 - 1) ≡ after = ap (set counts place) (sym is) in
    let z = zeros_set counts place count (omega arith) in
    let za = not_zero (get_or counts place 0) some in
    let zb = is_zero count none in
    let s = sum_set counts place count (omega arith) in
    let t = r.total in
    let number : spare ≡ count_by (λ c. eqb c 0) counts = f.number in
    let at_most = count_by-le-length (λ c. eqb c 0) after in
    let long_after : length after ≡ length counts = length-set counts place count in
    let long_free : length free_after ≡ length free = length-set free spare place in
    let fits : spare < length free = omega arith in
    let new : get_or free_after spare 0 ≡ place = get_or-set_same free spare place 0 fits in
    let old : (k : ℕ) → k < spare → get_or free_after k 0 ≡ get_or free k 0 = λ k l. get_or-set_other free spare k place 0 (λ g. absurd (omega arith)) in
    let differs : (k : ℕ) → k < spare → get_or free k 0 ≢ place = λ k l g. absurd (let q : get_or counts place 0 ≡ 0 = subst (λ (x : ℕ). get_or counts x 0 ≡ 0) g (free_unnamed counts free spare k f l) in omega arith) in
    let here : get_or after place 0 ≡ 0 = get_or-set_same counts place count 0 (omega arith) ∙ none in
    record {
      counted = λ page. subst (λ (cs : List ℕ). get_or cs page 0 + times_in page (take (i + 1) places) ≡ get_or before page 0) after_is (counted page);
      total = omega arith;
      spared = are_free after free_after (spare + 1) (omega arith) (omega arith)
          (λ k l. lower_or_last (λ x. x < length after) free_after spare k place l new (λ m. rw (old k m) (let g = free_inside counts free spare k f m in omega arith)) (omega arith))
          (λ k l. lower_or_last (λ x. get_or after x 0 ≡ 0) free_after spare k place l new
          (λ m. rw (old k m) (get_or-set_other counts place (get_or free k 0) count 0 (differs k m) ∙ free_unnamed counts free spare k f m)) here)
          (λ k j. once_more free free_after spare place new old differs (λ a b. free_once counts free spare a b f) k j);
    }
  where
    -- an entry of the front is one of before, or the new one
    lower_or_last : (P : ℕ → Type 0) (xs : List ℕ) (n k place : ℕ) → k < n + 1 → get_or xs n 0 ≡ place → (k < n → P (get_or xs k 0)) → P place → P (get_or xs k 0)
    lower_or_last P xs n k place l new before there = ⊎_elim
        (λ e. let g : k ≡ n = e.1 in subst P (sym new ∙ ap (λ (j : ℕ). get_or xs j 0) (sym g)) there)
        (λ e. let g : k ≢ n = e.1 in before (omega arith))
        (eqb_tells k n)

    once_more : (free free_after : List ℕ) (n place : ℕ) → get_or free_after n 0 ≡ place → ((k : ℕ) → k < n → get_or free_after k 0 ≡ get_or free k 0)
        → ((k : ℕ) → k < n → get_or free k 0 ≢ place) → ((a b : ℕ) → a < b → b < n → get_or free a 0 ≢ get_or free b 0)
        → (a b : ℕ) → a < b → b < n + 1 → get_or free_after a 0 ≢ get_or free_after b 0
    once_more free free_after n place new old differs once a b l m = ⊎_elim
        (λ e. let g : b ≡ n = e.1 in λ q. differs a (omega arith) (sym (old a (omega arith)) ∙ q ∙ ap (λ (j : ℕ). get_or free_after j 0) g ∙ new))
        (λ e. let g : b ≢ n = e.1 in λ q. once a b l (omega arith) (sym (old a (omega arith)) ∙ q ∙ old b (omega arith)))
        (eqb_tells b n)

pub lowered_kept : (before counts places free : List ℕ) (spare i place count : ℕ)
    → length counts ≡ length before → i < length places → place ≡ get_or places i 0 → place < length before
    → 1 ≤ get_or counts place 0 → count ≡ get_or counts place 0 - 1 → count ≢ 0
    → Lowered before counts places free spare i → Lowered before (set counts place count) places free spare (i + 1)
lowered_kept before counts places free spare i place count long h e inside some is more r =
    let f = r.spared in
    let after = set counts place count in
    let counted = lowered_counts before counts places i place long h e inside some r.counted in
    let after_is : set counts place (get_or counts place 0 - 1) ≡ after = ap (set counts place) (sym is) in
    let z = zeros_set counts place count (omega arith) in
    let za = not_zero (get_or counts place 0) some in
    let zb = not_zero count (omega arith) in
    let s = sum_set counts place count (omega arith) in
    let t = r.total in
    let number : spare ≡ count_by (λ c. eqb c 0) counts = f.number in
    let long_after : length after ≡ length counts = length-set counts place count in
    let differs : (k : ℕ) → k < spare → get_or free k 0 ≢ place = λ k l g. absurd (let q : get_or counts place 0 ≡ 0 = subst (λ (x : ℕ). get_or counts x 0 ≡ 0) g (free_unnamed counts free spare k f l) in omega arith) in
    record {
      counted = λ page. subst (λ (cs : List ℕ). get_or cs page 0 + times_in page (take (i + 1) places) ≡ get_or before page 0) after_is (counted page);
      total = omega arith;
      spared = are_free after free spare f.room (omega arith)
          (λ k l. let g = free_inside counts free spare k f l in omega arith)
          (λ k l. get_or-set_other counts place (get_or free k 0) count 0 (differs k l) ∙ free_unnamed counts free spare k f l)
          (λ k j. free_once counts free spare k j f);
    }

-- where a page is named, not all pages are free
pub spare_room : (counts free : List ℕ) (spare place : ℕ) → IsFree counts free spare → length counts ≤ length free → place < length counts → 1 ≤ get_or counts place 0 → spare < length free
spare_room counts free spare place f room inside some =
    let number : spare ≡ count_by (λ c. eqb c 0) counts = f.number in
    let z = zeros_set counts place 0 inside in
    let za = not_zero (get_or counts place 0) some in
    let zb = is_zero 0 refl in
    let at_most = count_by-le-length (λ c. eqb c 0) (set counts place 0) in
    let long = length-set counts place 0 in
    omega arith

pub lowered_both : (before counts places free : List ℕ) (spare i place count : ℕ) (free_after : List ℕ) (spare_after : ℕ)
    → length counts ≡ length before → length before ≤ length free → i < length places → place ≡ get_or places i 0 → place < length before
    → 1 ≤ get_or counts place 0 → count ≡ get_or counts place 0 - 1
    → ((count ≡ 0) × (free_after ≡ set free spare (get_or places i 0)) × (spare_after ≡ spare + 1)) ⊎ ((count ≢ 0) × (free_after ≡ free) × (spare_after ≡ spare))
    → Lowered before counts places free spare i → Lowered before (set counts place count) places free_after spare_after (i + 1)
lowered_both before counts places free spare i place count free_after spare_after long room h e inside some is cases r = ⊎_elim
    (λ w. rw (w.1, w.2, ← e) (lowered_free before counts places free spare i place count long room h e inside some is w.0 r))
    (λ w. rw (w.1, w.2) (lowered_kept before counts places free spare i place count long h e inside some is w.0 r))
    cases
