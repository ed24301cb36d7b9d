-- Runs to an address.
use Rattle.std.proofs.Common.{◌≡◌, ℕ, zero, suc, ◌+◌, ◌-◌, ◌<◌, ◌≤◌, ◌⊎◌, inl, inr, Bool, true, false, Option, Some, None, is_some, refl, sym, ◌∙◌, ap, arith}
use Rattle.std.proofs.lemmas.Bool.{false≢true, cases_lt}
use Rattle.pc_access.specs.declared.Stop.{Stop}
use Rattle.written_machine.specs.Cycle.{cycle, after_cycles}
use Rattle.written_machine.specs.Standing.{stands_at, one_more_unless, cycles_until}
use Rattle.written_machine.specs.State.{State}
use Rattle.board.specs.internal.Ran.{StandsNotAt}
use Rattle.board.proofs.Runs.{state_split, stopped_state}

-- a first cycle before others
after_first : (m : ℕ) (s : State) → after_cycles (cycle s).state m ≡ after_cycles s (suc m)
after_first zero s = refl
after_first (suc m) s = ap (λ (t : State). (cycle t).state) (after_first m s)

apart_next : (addr n : ℕ) (s : State) → StandsNotAt addr (suc n) s → StandsNotAt addr n (cycle s).state
apart_next addr n s apart m h = ap (stands_at addr) (after_first m s) ∙ apart (suc m) (omega (arith, h))

here : (addr n : ℕ) (s : State) → StandsNotAt addr (suc n) s → stands_at addr s ≡ false
here addr n s apart = apart 0 (omega arith)

pub until_most : (addr n : ℕ) (s : State) → cycles_until addr s n ≤ n
until_most addr zero s = omega arith
until_most addr (suc n) s = by (stands_at addr s) (until_most addr n (cycle s).state)
  where
    by : (c : Bool) → cycles_until addr (cycle s).state n ≤ n → one_more_unless c (cycles_until addr (cycle s).state n) ≤ suc n
    by true h = omega arith
    by false h = omega (arith, h)

-- it does not end while it is apart
pub apart_within : (addr n most : ℕ) (s : State) → n ≤ most → StandsNotAt addr n s → n ≤ cycles_until addr s most
apart_within addr zero most s h apart = omega arith
apart_within addr (suc n) zero s h apart = absurd (omega (arith, h))
apart_within addr (suc n) (suc most) s h apart =
    let more = apart_within addr n most (cycle s).state (omega (arith, h)) (apart_next addr n s apart) in
    let next : cycles_until addr s (suc most) ≡ cycles_until addr (cycle s).state most + 1 = ap (λ c. one_more_unless c (cycles_until addr (cycle s).state most)) (here addr n s apart) in
    omega (arith, more, next)

-- it ends where it stands there
pub until_there : (addr n most : ℕ) (s : State) → n ≤ most → StandsNotAt addr n s → stands_at addr (after_cycles s n) ≡ true → cycles_until addr s most ≡ n
until_there addr zero zero s h apart there = refl
until_there addr zero (suc most) s h apart there = ap (λ c. one_more_unless c (cycles_until addr (cycle s).state most)) there
until_there addr (suc n) zero s h apart there = absurd (omega (arith, h))
until_there addr (suc n) (suc most) s h apart there =
    let more = until_there addr n most (cycle s).state (omega (arith, h)) (apart_next addr n s apart) (ap (stands_at addr) (after_first n s) ∙ there) in
    let next : cycles_until addr s (suc most) ≡ cycles_until addr (cycle s).state most + 1 = ap (λ c. one_more_unless c (cycles_until addr (cycle s).state most)) (here addr n s apart) in
    omega (arith, more, next)

-- or where all cycles passed
pub until_never : (addr most : ℕ) (s : State) → StandsNotAt addr most s → cycles_until addr s most ≡ most
until_never addr most s apart = omega (arith, until_most addr most s, apart_within addr most most s (omega arith) apart)

-- one cycle more, and more cycles after it
pub apart_then : (addr n k : ℕ) (s t : State) → StandsNotAt addr n s → stands_at addr (after_cycles s n) ≡ false → t ≡ after_cycles s (n + 1) → StandsNotAt addr k t → StandsNotAt addr (n + 1 + k) s
apart_then addr n k s t before now is more m h = by (cases_lt m n) (cases_lt n m)
  where
    by : (m < n) ⊎ (n ≤ m) → (n < m) ⊎ (m ≤ n) → stands_at addr (after_cycles s m) ≡ false
    by (inl low) q = before m low
    by (inr high) (inl past) =
        let e : m ≡ (n + 1) + (m - (n + 1)) = omega (arith, past) in
        ap (λ k. stands_at addr (after_cycles s k)) e
        ∙ ap (stands_at addr) (state_split (n + 1) (m - (n + 1)) s)
        ∙ ap (λ u. stands_at addr (after_cycles u (m - (n + 1)))) (sym is)
        ∙ more (m - (n + 1)) (omega (arith, h, past))
    by (inr high) (inr low) = let e : m ≡ n = omega (arith, high, low) in ap (λ k. stands_at addr (after_cycles s k)) e ∙ now

-- a stopped machine comes to no other place
pub apart_stopped : (addr n most : ℕ) (s t : State) → t ≡ after_cycles s n → is_some t.stop ≡ true → StandsNotAt addr n s → stands_at addr t ≡ false → StandsNotAt addr most s
apart_stopped addr n most s t is stopped before now m h = by t.stop refl stopped (cases_lt m n)
  where
    by : (o : Option Stop) → t.stop ≡ o → is_some o ≡ true → (m < n) ⊎ (n ≤ m) → stands_at addr (after_cycles s m) ≡ false
    by None has some q = absurd (false≢true some)
    by (Some stop) has some (inl low) = before m low
    by (Some stop) has some (inr high) =
        let e : m ≡ n + (m - n) = omega (arith, high) in
        ap (λ k. stands_at addr (after_cycles s k)) e
        ∙ ap (stands_at addr) (state_split n (m - n) s ∙ ap (λ u. after_cycles u (m - n)) (sym is) ∙ stopped_state (m - n) t stop has)
        ∙ now
