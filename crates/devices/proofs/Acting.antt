-- What the schedule does over many ticks.
use Rattle.std.proofs.Common.{ℕ, zero, suc, ◌≡◌, ◌+◌, ◌%◌, ◌≤◌, ◌<◌, ◌∙◌, List, [], ◌∷◌, drop, Bool, true, false, cond, ◌&&◌, None, refl, sym, ap, arith, nat_lt, nat_le, nat_eq}
use Rattle.std.proofs.lemmas.Bool.Decides.{nat_tests}
use Rattle.schedule_file.specs.declared.Entry.{Entry}
use Rattle.schedule_file.specs.declared.What.{What}
use Rattle.schedule_file.specs.declared.What.TheVariants.{Serial}
use Rattle.devices.specs.Devices.{Devices, ticked_devices, counts, scheduled, happens}
use Rattle.devices.specs.Time.{ticked_by}
use Rattle.devices.specs.internal.Time.{after_ticks}
use Rattle.devices.specs.internal.Bus.{acted_before, past_count}
use Rattle.devices.proofs.Order.{Rises, Rises-below}

-- a tick of a timer that runs or not, and whose count is the limit or not
abbrev pub counts_by : Bool → Bool → Devices → Devices
counts_by running at_limit d = cond running (cond at_limit (record d { count = 0; flag = true }) (record d { count = (d.count + 1) % 65536 })) d

-- what a device does where an entry acts
abbrev pub happens_if : Bool → What → Devices → Devices
happens_if b w d = cond b (happens w d) d

-- nothing is sent any more
abbrev pub clear : Devices → Devices
clear d = record d { sent = None }

abbrev pub cleared : ℕ → Devices → Devices
cleared zero d = d
cleared (suc n) d = clear d

-- the entries from cycle k on and before cycle h act
abbrev pub acted_within : ℕ → ℕ → List Entry → Devices → Devices
acted_within k h [] d = d
acted_within k h (e ∷ es) d = acted_within k h es (happens_if (nat_le k e.cycle && nat_lt e.cycle h) e.what d)

-- the timer does not see what happens
happens-counts_by : (w : What) (r q : Bool) (d : Devices) → counts_by r q (happens w d) ≡ happens w (counts_by r q d)
happens-counts_by (Serial b) true true d = refl
happens-counts_by _ true true d = refl
happens-counts_by _ _ _ d = refl

happens-counts : (w : What) (d : Devices) → counts (happens w d) ≡ happens w (counts d)
happens-counts (Serial b) d = happens-counts_by (Serial b) d.running (nat_eq d.count d.limit) d
happens-counts w d = happens-counts_by w d.running (nat_eq d.count d.limit) d

happens_if-counts : (b : Bool) (w : What) (d : Devices) → counts (happens_if b w d) ≡ happens_if b w (counts d)
happens_if-counts true w d = happens-counts w d
happens_if-counts false w d = refl

-- what goes past each that happens goes past a schedule
scheduled-past : (f : Devices → Devices) → ((b : Bool) (w : What) (d : Devices) → f (happens_if b w d) ≡ happens_if b w (f d))
    → (es : List Entry) (k : ℕ) (d : Devices) → f (scheduled es k d) ≡ scheduled es k (f d)
scheduled-past f each [] k d = refl
scheduled-past f each (e ∷ es) k d =
    scheduled-past f each es k (happens_if (nat_eq e.cycle k) e.what d) ∙ ap (scheduled es k) (each (nat_eq e.cycle k) e.what d)

pub scheduled-after_ticks : (n : ℕ) (es : List Entry) (k : ℕ) (d : Devices) → after_ticks n (scheduled es k d) ≡ scheduled es k (after_ticks n d)
scheduled-after_ticks zero es k d = refl
scheduled-after_ticks (suc n) es k d = ap (after_ticks n) (scheduled-past counts happens_if-counts es k d) ∙ scheduled-after_ticks n es k (counts d)

-- nothing that happens sends a byte
happens_if-clear : (b : Bool) (w : What) (d : Devices) → clear (happens_if b w d) ≡ happens_if b w (clear d)
happens_if-clear true (Serial b) d = refl
happens_if-clear _ _ d = refl

counts_by-clear : (r q : Bool) (d : Devices) → clear (counts_by r q d) ≡ counts_by r q (clear d)
counts_by-clear true true d = refl
counts_by-clear _ _ d = refl

cleared-counts : (n : ℕ) (es : List Entry) (k : ℕ) (d : Devices) → cleared n (counts (scheduled es k (clear d))) ≡ counts (scheduled es k (clear d))
cleared-counts zero es k d = refl
cleared-counts (suc n) es k d =
    let x : Devices = scheduled es k (clear d) in
    counts_by-clear x.running (nat_eq x.count x.limit) x ∙ ap counts (scheduled-past clear happens_if-clear es k (clear d))

-- nothing changes the schedule
happens_if-schedule : (b : Bool) (w : What) (d : Devices) → (happens_if b w d).schedule ≡ d.schedule
happens_if-schedule true (Serial b) d = refl
happens_if-schedule _ _ d = refl

pub scheduled-schedule : (es : List Entry) (k : ℕ) (d : Devices) → (scheduled es k d).schedule ≡ d.schedule
scheduled-schedule [] k d = refl
scheduled-schedule (e ∷ es) k d = scheduled-schedule es k (happens_if (nat_eq e.cycle k) e.what d) ∙ happens_if-schedule (nat_eq e.cycle k) e.what d

pub counts_by-schedule : (r q : Bool) (d : Devices) → (counts_by r q d).schedule ≡ d.schedule
counts_by-schedule true true d = refl
counts_by-schedule _ _ d = refl

-- before its first entry a schedule does nothing
scheduled-later : (es : List Entry) (low k : ℕ) (d : Devices) → Rises low es → k < low → scheduled es k d ≡ d
scheduled-later [] low k d r later = refl
scheduled-later (e ∷ es) low k d r later =
    let off : nat_eq e.cycle k ≡ false = grind (arith, nat_tests, r.0) in
    ap (λ b. scheduled es k (happens_if b e.what d)) off ∙ scheduled-later es e.cycle k d r.1 (omega (arith, r.0))

-- the entries of cycle k come first among those from it on
within-first : (es : List Entry) (low k h : ℕ) (d : Devices) → Rises low es → k < h → acted_within k h es d ≡ acted_within (k + 1) h es (scheduled es k d)
within-first [] low k h d r more = refl
within-first (e ∷ es) low k h d r more = by (nat_lt e.cycle k) refl (nat_eq e.cycle k) refl (λ x. within-first es e.cycle k h x r.1 more)
  where
    Goal : Type 0
    Goal = acted_within k h es (happens_if (nat_le k e.cycle && nat_lt e.cycle h) e.what d)
        ≡ acted_within (k + 1) h es (happens_if (nat_le (k + 1) e.cycle && nat_lt e.cycle h) e.what (scheduled es k (happens_if (nat_eq e.cycle k) e.what d)))

    by : (b : Bool) → nat_lt e.cycle k ≡ b → (c : Bool) → nat_eq e.cycle k ≡ c → ((x : Devices) → acted_within k h es x ≡ acted_within (k + 1) h es (scheduled es k x)) → Goal
    by true below c same rest =
        let a : nat_le k e.cycle ≡ false = grind (arith, nat_tests) in
        let b : nat_le (k + 1) e.cycle ≡ false = grind (arith, nat_tests) in
        let q : nat_eq e.cycle k ≡ false = grind (arith, nat_tests) in
        rw (a, b, q) (rest d)
    by false above true same rest =
        let a : nat_le k e.cycle ≡ true = grind (arith, nat_tests) in
        let b : nat_le (k + 1) e.cycle ≡ false = grind (arith, nat_tests) in
        let l : nat_lt e.cycle h ≡ true = grind (arith, nat_tests) in
        rw (a, b, l, same) (rest (happens e.what d))
    by false above false other rest =
        let a : nat_le k e.cycle ≡ true = grind (arith, nat_tests) in
        let b : nat_le (k + 1) e.cycle ≡ true = grind (arith, nat_tests) in
        let later : k < e.cycle = grind (arith, nat_tests) in
        let x : Devices = happens_if (nat_lt e.cycle h) e.what d in
        rw (a, b, other, scheduled-later es e.cycle k d r.1 later)
        (rest x ∙ ap (acted_within (k + 1) h es) (scheduled-later es e.cycle k x r.1 later))

within-none : (es : List Entry) (k h : ℕ) (d : Devices) → h ≤ k → acted_within k h es d ≡ d
within-none [] k h d less = refl
within-none (e ∷ es) k h d less =
    let off : (nat_le k e.cycle && nat_lt e.cycle h) ≡ false = grind (arith, nat_tests) in
    ap (λ b. acted_within k h es (happens_if b e.what d)) off ∙ within-none es k h d less

-- n ticks clear what was sent, count n times, and let the entries of their cycles act
pub ticked_by-within : (n k : ℕ) (d : Devices) (es : List Entry) → d.schedule ≡ es → Rises 0 es → ticked_by n k d ≡ acted_within k (k + n) es (after_ticks n (cleared n d))
unfolding ticked_devices
ticked_by-within zero k d es is r = sym (within-none es k (k + 0) d (omega arith))
ticked_by-within (suc n) k d es is r =
    let x : Devices = counts (scheduled es k (clear d)) in
    let kept : x.schedule ≡ es = counts_by-schedule (scheduled es k (clear d)).running (nat_eq (scheduled es k (clear d)).count (scheduled es k (clear d)).limit) (scheduled es k (clear d)) ∙ scheduled-schedule es k (clear d) ∙ is in
    let h : k + 1 + n ≡ k + suc n = omega arith in
    ap (λ s. ticked_by n (k + 1) (counts (scheduled s k (clear d)))) is
    ∙ ticked_by-within n (k + 1) x es kept r
    ∙ ap (λ y. acted_within (k + 1) (k + 1 + n) es (after_ticks n y)) (cleared-counts n es k d)
    ∙ ap (acted_within (k + 1) (k + 1 + n) es) (scheduled-after_ticks (suc n) es k (clear d))
    ∙ sym (within-first es 0 k (k + 1 + n) (after_ticks (suc n) (clear d)) r (omega arith))
    ∙ ap (λ z. acted_within k z es (after_ticks (suc n) (clear d))) h

within-late : (es : List Entry) (low k h : ℕ) (d : Devices) → Rises low es → h ≤ low → acted_within k h es d ≡ d
within-late [] low k h d r late = refl
within-late (e ∷ es) low k h d r late =
    let off : (nat_le k e.cycle && nat_lt e.cycle h) ≡ false = by (nat_le k e.cycle) (grind (arith, nat_tests, r.0)) in
    ap (λ b. acted_within k h es (happens_if b e.what d)) off ∙ within-late es e.cycle k h d r.1 (omega (arith, r.0))
  where
    by : (b : Bool) → nat_lt e.cycle h ≡ false → (b && nat_lt e.cycle h) ≡ false
    by true off = off
    by false off = refl

within-ahead : (es : List Entry) (k h : ℕ) (d : Devices) → Rises k es → acted_within k h es d ≡ acted_before h es d
within-ahead [] k h d r = refl
within-ahead (e ∷ es) k h d r = by (nat_lt e.cycle h) refl (λ x. within-ahead es k h x (Rises-below e.cycle k es r.0 r.1))
  where
    by : (b : Bool) → nat_lt e.cycle h ≡ b → ((x : Devices) → acted_within k h es x ≡ acted_before h es x)
        → acted_within k h es (happens_if (nat_le k e.cycle && nat_lt e.cycle h) e.what d) ≡ cond b (acted_before h es (happens e.what d)) d
    by true before rest =
        let a : nat_le k e.cycle ≡ true = grind (arith, nat_tests, r.0) in
        ap (λ x. acted_within k h es (happens_if (x && nat_lt e.cycle h) e.what d)) a ∙ ap (λ x. acted_within k h es (happens_if x e.what d)) before ∙ rest (happens e.what d)
    by false after rest =
        let a : nat_le k e.cycle ≡ true = grind (arith, nat_tests, r.0) in
        let late : h ≤ e.cycle = grind (arith, nat_tests) in
        ap (λ x. acted_within k h es (happens_if (x && nat_lt e.cycle h) e.what d)) a ∙ ap (λ x. acted_within k h es (happens_if x e.what d)) after ∙ within-late es e.cycle k h d r.1 late

-- those that act are the first of those that have not
pub within-before : (es : List Entry) (low k h : ℕ) (d : Devices) → Rises low es → acted_within k h es d ≡ acted_before h (drop (past_count k es) es) d
within-before [] low k h d r = refl
within-before (e ∷ es) low k h d r = by (nat_lt e.cycle k) refl (within-before es e.cycle k h d r.1)
  where
    by : (b : Bool) → nat_lt e.cycle k ≡ b → acted_within k h es d ≡ acted_before h (drop (past_count k es) es) d
        → acted_within k h (e ∷ es) d ≡ acted_before h (drop (cond b (1 + past_count k es) 0) (e ∷ es)) d
    by true before rest =
        let a : nat_le k e.cycle ≡ false = grind (arith, nat_tests) in
        let next : 1 + past_count k es ≡ suc (past_count k es) = omega arith in
        ap (λ x. acted_within k h es (happens_if (x && nat_lt e.cycle h) e.what d)) a ∙ rest ∙ sym (ap (λ m. acted_before h (drop m (e ∷ es)) d) next)
    by false after rest = within-ahead (e ∷ es) k h d (grind (arith, nat_tests), r.1)
