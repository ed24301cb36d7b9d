-- The pulses so far, one more at the end.
use Rattle.std.proofs.Common.{◌≡◌, ℕ, zero, suc, ◌+◌, ◌-◌, ◌≤◌, List, [], ◌∷◌, ◌++◌, length, Bool, true, false, cond, not, refl, sym, ◌∙◌, ap, arith}
use Rattle.std.proofs.lemmas.List.{append-nil}
use Rattle.std.proofs.lemmas.Grind.{flat_map-append}
use Rattle.std.proofs.lemmas.List.FromFn.{length-range_with_len}
use Rattle.std.proofs.lemmas.List.Sums.{sum_by-append, sum_by-cons}
use Rattle.std.specs.List.{count_by, flat_map, range_with_len}
use Rattle.image_text.specs.Image.{Image}
use Rattle.pulse_sweep.specs.Sweep.{different, sweep_end_text, is_same_at, row_at, sweep_text}
use Rattle.pulse_sweep.specs.declared.Pulses.{Pulses}

pub range_more : (a n : ℕ) → range_with_len a (n + 1) ≡ range_with_len a n ++ (a + n) ∷ []
range_more a zero = let e : a ≡ a + 0 = omega arith in ap (λ i. i ∷ []) e
range_more a (suc n) =
    let e : suc n + 1 ≡ suc (n + 1) = omega arith in
    let at : a + 1 + n ≡ a + suc n = omega arith in
    ap (range_with_len a) e ∙ ap (λ (l : List ℕ). a ∷ l) (range_more (a + 1) n ∙ ap (λ i. range_with_len (a + 1) n ++ i ∷ []) at)

pub rows_more : (f : ℕ → List ℕ) (a n : ℕ) → flat_map f (range_with_len a (n + 1)) ≡ flat_map f (range_with_len a n) ++ f (a + n)
rows_more f a n =
    ap (flat_map f) (range_more a n)
    ∙ flat_map-append f (range_with_len a n) ((a + n) ∷ [])
    ∙ ap (λ (l : List ℕ). flat_map f (range_with_len a n) ++ l) (append-nil (f (a + n)))

pub count_more : (p : ℕ → Bool) (a n : ℕ) → count_by p (range_with_len a (n + 1)) ≡ count_by p (range_with_len a n) + cond (p (a + n)) 1 0
count_more p a n = ap (count_by p) (range_more a n) ∙ sum_by-append (λ i. cond (p i) 1 0) (range_with_len a n) ((a + n) ∷ []) ∙ omega arith

-- those that pass and those that do not are all
both_counts : (p : ℕ → Bool) (xs : List ℕ) → count_by p xs + count_by (λ i. not (p i)) xs ≡ length xs
both_counts p [] = refl
both_counts p (x ∷ xs) = by (p x) refl (both_counts p xs)
  where
    by : (b : Bool) → p x ≡ b → count_by p xs + count_by (λ i. not (p i)) xs ≡ length xs → count_by p (x ∷ xs) + count_by (λ i. not (p i)) (x ∷ xs) ≡ length (x ∷ xs)
    by true e rest =
        let yes : ◌≡◌ {A = ℕ} (cond (p x) 1 0) 1 = rw e refl in
        let no : ◌≡◌ {A = ℕ} (cond (not (p x)) 1 0) 0 = rw e refl in
        omega (arith, rest, yes, no, sum_by-cons (λ i. cond (p i) 1 0) x xs, sum_by-cons (λ i. cond (not (p i)) 1 0) x xs)
    by false e rest =
        let yes : ◌≡◌ {A = ℕ} (cond (p x) 1 0) 0 = rw e refl in
        let no : ◌≡◌ {A = ℕ} (cond (not (p x)) 1 0) 1 = rw e refl in
        omega (arith, rest, yes, no, sum_by-cons (λ i. cond (p i) 1 0) x xs, sum_by-cons (λ i. cond (not (p i)) 1 0) x xs)

pub passing_count : (p : ℕ → Bool) (a n : ℕ) → n - count_by (λ i. not (p i)) (range_with_len a n) ≡ count_by p (range_with_len a n)
passing_count p a n = omega (arith, both_counts p (range_with_len a n), length-range_with_len a n)

-- none is counted that does not pass
pub none_counted : (p : ℕ → Bool) → ((i : ℕ) → p i ≡ true) → (xs : List ℕ) → count_by (λ i. not (p i)) xs ≡ 0
none_counted p h [] = refl
none_counted p h (x ∷ xs) = let no : ◌≡◌ {A = ℕ} (cond (not (p x)) 1 0) 0 = rw (h x) refl in omega (arith, none_counted p h xs, no, sum_by-cons (λ i. cond (not (p i)) 1 0) x xs)

-- a pulse more
pub row_added : (f : ℕ → List ℕ) (a n : ℕ) (old new : List ℕ) → old ≡ flat_map f (range_with_len a n) → new ≡ old ++ f (a + n) → new ≡ flat_map f (range_with_len a (n + 1))
row_added f a n old new is more = more ∙ ap (λ (l : List ℕ). l ++ f (a + n)) is ∙ sym (rows_more f a n)

pub count_added : (p : ℕ → Bool) (a n old new : ℕ) → old ≡ count_by p (range_with_len a n) → new ≡ old + cond (p (a + n)) 1 0 → new ≡ count_by p (range_with_len a (n + 1))
count_added p a n old new is more = more ∙ ap (λ k. k + cond (p (a + n)) 1 0) is ∙ sym (count_more p a n)

one_at_most : (b : Bool) → cond b 1 0 ≤ 1
one_at_most true = omega arith
one_at_most false = omega arith

pub few_added : (b : Bool) (n old new : ℕ) → old ≤ n → new ≡ old + cond b 1 0 → new ≤ n + 1
few_added b n old new few more = omega (arith, few, more, one_at_most b)

-- the whole text, of the rows of n pulses and the end line
pub swept_text : (p : Pulses) (a b : Image) (n : ℕ) (text new : List ℕ) (same d : ℕ) → n ≡ p.to + 1 - p.from → text ≡ flat_map (row_at p a b) (range_with_len p.from n)
    → d ≡ count_by (λ c. not (is_same_at p a b c)) (range_with_len p.from n) → same ≡ n - d → new ≡ text ++ sweep_end_text same d → new ≡ sweep_text p a b
swept_text p a b n text new same d all rows counted rest is =
    let passing : same ≡ count_by (is_same_at p a b) (range_with_len p.from n) = rest ∙ ap (λ k. n - k) counted ∙ passing_count (is_same_at p a b) p.from n in
    is
    ∙ ap (λ (l : List ℕ). l ++ sweep_end_text same d) rows
    ∙ ap (λ k. flat_map (row_at p a b) (range_with_len p.from n) ++ sweep_end_text k d) passing
    ∙ ap (λ k. flat_map (row_at p a b) (range_with_len p.from n) ++ sweep_end_text (count_by (is_same_at p a b) (range_with_len p.from n)) k) counted
    ∙ ap (λ k. flat_map (row_at p a b) (range_with_len p.from k) ++ sweep_end_text (count_by (is_same_at p a b) (range_with_len p.from k)) (count_by (λ c. not (is_same_at p a b c)) (range_with_len p.from k))) all

-- and the count
pub swept_count : (p : Pulses) (a b : Image) (n d : ℕ) → n ≡ p.to + 1 - p.from → d ≡ count_by (λ c. not (is_same_at p a b c)) (range_with_len p.from n) → d ≡ different p a b
swept_count p a b n d all counted = counted ∙ ap (λ k. count_by (λ c. not (is_same_at p a b c)) (range_with_len p.from k)) all
