-- How long nothing acts.
use Rattle.std.proofs.Common.{ℕ, suc, ◌≡◌, ◌+◌, ◌-◌, ◌≤◌, ◌<◌, ◌∙◌, min, List, [], ◌∷◌, length, get_or, Bool, true, false, cond, ◌&&◌, refl, ap, subst, arith, nat_lt, nat_le}
use Rattle.std.proofs.lemmas.Bool.Decides.{nat_tests}
use Rattle.schedule_file.specs.declared.Entry.{Entry}
use Rattle.devices.specs.Devices.{Devices}
use Rattle.devices.specs.Time.{before_entries}
use Rattle.devices.specs.internal.Bus.{past_count}
use Rattle.devices.proofs.Order.{Rises}
use Rattle.devices.proofs.Acting.{acted_within, happens_if}

pub before_entries-le : (es : List Entry) (k q : ℕ) → before_entries es k q ≤ q
before_entries-le [] k q = omega arith
before_entries-le (e ∷ es) k q = by (nat_le k e.cycle) (λ p. before_entries-le es k p)
  where
    by : (b : Bool) → ((p : ℕ) → before_entries es k p ≤ p) → before_entries es k (cond b (min q (e.cycle - k)) q) ≤ q
    by true rest = let h = rest (min q (e.cycle - k)) in omega (arith, h)
    by false rest = rest q

-- while it is quiet nothing acts
pub within-quiet : (es : List Entry) (n k q : ℕ) (d : Devices) → n ≤ before_entries es k q → acted_within k (k + n) es d ≡ d
within-quiet [] n k q d quiet = refl
within-quiet (e ∷ es) n k q d quiet = by (nat_le k e.cycle) refl quiet (λ p w. within-quiet es n k p d w)
  where
    by : (b : Bool) → nat_le k e.cycle ≡ b → n ≤ before_entries es k (cond b (min q (e.cycle - k)) q) → ((p : ℕ) → n ≤ before_entries es k p → acted_within k (k + n) es d ≡ d)
        → acted_within k (k + n) es (happens_if (b && nat_lt e.cycle (k + n)) e.what d) ≡ d
    by true from quiet rest =
        let most = before_entries-le es k (min q (e.cycle - k)) in
        let off : nat_lt e.cycle (k + n) ≡ false = grind (arith, nat_tests) in
        ap (λ x. acted_within k (k + n) es (happens_if x e.what d)) off ∙ rest (min q (e.cycle - k)) quiet
    by false before quiet rest = rest q quiet

before_entries-ahead : (es : List Entry) (low k q : ℕ) → Rises low es → k ≤ low → q ≤ low - k → before_entries es k q ≡ q
before_entries-ahead [] low k q r from short = refl
before_entries-ahead (e ∷ es) low k q r from short =
    let on : nat_le k e.cycle ≡ true = grind (arith, nat_tests, r.0) in
    let least : min q (e.cycle - k) ≡ q = omega (arith, r.0) in
    ap (λ b. before_entries es k (cond b (min q (e.cycle - k)) q)) on ∙ ap (before_entries es k) least ∙ before_entries-ahead es e.cycle k q r.1 (omega (arith, r.0)) (omega (arith, r.0))

-- an entry that has not acted: its cycle is not past
pub past_count-cycle : (es : List Entry) (k : ℕ) (d : Entry) → past_count k es < length es → k ≤ (get_or es (past_count k es) d).cycle
past_count-cycle [] k d within = absurd (omega (arith, within))
past_count-cycle (e ∷ es) k d within = by (nat_lt e.cycle k) refl within (λ w. past_count-cycle es k d w)
  where
    by : (b : Bool) → nat_lt e.cycle k ≡ b → cond b (1 + past_count k es) 0 < length (e ∷ es) → (past_count k es < length es → k ≤ (get_or es (past_count k es) d).cycle)
        → k ≤ (get_or (e ∷ es) (cond b (1 + past_count k es) 0) d).cycle
    by true before within rest =
        let next : suc (past_count k es) ≡ 1 + past_count k es = omega arith in
        subst (λ m. k ≤ (get_or (e ∷ es) m d).cycle) next (rest (omega (arith, within)))
    by false after within rest = grind (arith, nat_tests)

-- the next entry ends the quiet
pub before_entries-due : (es : List Entry) (low k q : ℕ) (d : Entry) → Rises low es → past_count k es < length es → before_entries es k q ≡ min q ((get_or es (past_count k es) d).cycle - k)
before_entries-due [] low k q d r within = absurd (omega (arith, within))
before_entries-due (e ∷ es) low k q d r within = by (nat_lt e.cycle k) refl within (λ w. before_entries-due es e.cycle k q d r.1 w)
  where
    by : (b : Bool) → nat_lt e.cycle k ≡ b → cond b (1 + past_count k es) 0 < length (e ∷ es) → (past_count k es < length es → before_entries es k q ≡ min q ((get_or es (past_count k es) d).cycle - k))
        → before_entries (e ∷ es) k q ≡ min q ((get_or (e ∷ es) (cond b (1 + past_count k es) 0) d).cycle - k)
    by true before within rest =
        let off : nat_le k e.cycle ≡ false = grind (arith, nat_tests) in
        let next : suc (past_count k es) ≡ 1 + past_count k es = omega arith in
        ap (λ b. before_entries es k (cond b (min q (e.cycle - k)) q)) off
        ∙ subst (λ m. before_entries es k q ≡ min q ((get_or (e ∷ es) m d).cycle - k)) next (rest (omega (arith, within)))
    by false after within rest =
        let on : nat_le k e.cycle ≡ true = grind (arith, nat_tests) in
        let from : k ≤ e.cycle = grind (arith, nat_tests) in
        ap (λ b. before_entries es k (cond b (min q (e.cycle - k)) q)) on ∙ before_entries-ahead es e.cycle k (min q (e.cycle - k)) r.1 from (omega arith)

-- with no entry left there is no end but the timer's
pub before_entries-done : (es : List Entry) (k q : ℕ) → past_count k es ≡ length es → before_entries es k q ≡ q
before_entries-done [] k q all = refl
before_entries-done (e ∷ es) k q all = by (nat_lt e.cycle k) refl all (λ a. before_entries-done es k q a)
  where
    by : (b : Bool) → nat_lt e.cycle k ≡ b → cond b (1 + past_count k es) 0 ≡ length (e ∷ es) → (past_count k es ≡ length es → before_entries es k q ≡ q) → before_entries (e ∷ es) k q ≡ q
    by true before all rest =
        let off : nat_le k e.cycle ≡ false = grind (arith, nat_tests) in
        ap (λ b. before_entries es k (cond b (min q (e.cycle - k)) q)) off ∙ rest (omega (arith, all))
    by false after all rest = absurd (omega (arith, all))
