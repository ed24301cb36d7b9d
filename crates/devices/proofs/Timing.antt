-- A timer over many ticks.
use Rattle.std.proofs.Common.{ℕ, zero, suc, ◌≡◌, ◌≢◌, ◌+◌, ◌-◌, ◌%◌, ◌≤◌, ◌<◌, ◌∙◌, Bool, true, false, not, ◌&&◌, refl, sym, ap, arith, nat_eq, nat_le, ◌⊎◌, inl, inr}
use Rattle.std.proofs.Math.Nat.{mod-eq_of_lt, mod-eq-sub-mod}
use Rattle.std.proofs.lemmas.Bool.Decides.{nat_tests}
use Rattle.std.proofs.lemmas.Bool.{cases_Bool}
use Rattle.devices.specs.Devices.{Devices, ticked_devices, line_of}
use Rattle.devices.specs.Parts.{TimerPart, timer_alone}
use Rattle.devices.specs.Time.{ticked_by}
use Rattle.devices.specs.internal.Time.{after_ticks}
use Rattle.devices.proofs.Acting.{counts_by}

abbrev pub timer_of : Bool → Bool → Bool → ℕ → ℕ → Devices
timer_of r a f c l = timer_alone record { running = r; alarm = a; flag = f; count = c; limit = l }

pub ticked_by-timer : (n k : ℕ) (r a f : Bool) (c l : ℕ) → ticked_by n k (timer_of r a f c l) ≡ after_ticks n (timer_of r a f c l)
unfolding ticked_devices
ticked_by-timer zero k r a f c l = refl
ticked_by-timer (suc n) k false a f c l = ticked_by-timer n (k + 1) false a f c l
ticked_by-timer (suc n) k true a f c l = by (nat_eq c l) (λ g d. ticked_by-timer n (k + 1) true a g d l)
  where
    by : (b : Bool) → ((g : Bool) (d : ℕ) → ticked_by n (k + 1) (timer_of true a g d l) ≡ after_ticks n (timer_of true a g d l))
        → ticked_by n (k + 1) (counts_by true b (timer_of true a f c l)) ≡ after_ticks n (counts_by true b (timer_of true a f c l))
    by true rest = rest true 0
    by false rest = rest f ((c + 1) % 65536)

pub after_ticks-stopped : (n : ℕ) (a f : Bool) (c l : ℕ) → after_ticks n (timer_of false a f c l) ≡ timer_of false a f c l
after_ticks-stopped zero a f c l = refl
after_ticks-stopped (suc n) a f c l = after_ticks-stopped n a f c l

-- the ticks after which a running timer stands at its limit
abbrev pub to_limit : ℕ → ℕ → ℕ
to_limit c l = (l + 65536 - c) % 65536

mod_small : (c : ℕ) → c < 65536 → (c + 0) % 65536 ≡ c
mod_small c h = omega (arith, h)

limit_step : (c l : ℕ) → c < 65536 → l < 65536 → c ≢ l → to_limit ((c + 1) % 65536) l + 1 ≡ to_limit c l
limit_step c l small limit other = omega (arith, small, limit, other)

mod_step : (c n : ℕ) → ((c + 1) % 65536 + n) % 65536 ≡ (c + suc n) % 65536
mod_step c n = omega arith

-- up to its limit it counts
pub after_ticks-below : (n : ℕ) (a f : Bool) (c l : ℕ) → c < 65536 → l < 65536 → n ≤ to_limit c l → after_ticks n (timer_of true a f c l) ≡ timer_of true a f ((c + n) % 65536) l
after_ticks-below zero a f c l small limit within = ap (λ x. timer_of true a f x l) (sym (mod_small c small))
after_ticks-below (suc n) a f c l small limit within = by (nat_eq c l) refl (λ d s w. after_ticks-below n a f d l s limit w)
  where
    by : (b : Bool) → nat_eq c l ≡ b → ((d : ℕ) → d < 65536 → n ≤ to_limit d l → after_ticks n (timer_of true a f d l) ≡ timer_of true a f ((d + n) % 65536) l)
        → after_ticks n (counts_by true b (timer_of true a f c l)) ≡ timer_of true a f ((c + suc n) % 65536) l
    by true is rest = let e : c ≡ l = grind (arith, nat_tests) in absurd (omega (arith, e, within, limit))
    by false is rest =
        let other : c ≢ l = grind (arith, nat_tests) in
        let step : to_limit ((c + 1) % 65536) l + 1 ≡ to_limit c l = limit_step c l small limit other in
        rest ((c + 1) % 65536) (omega arith) (omega (arith, step, within)) ∙ ap (λ x. timer_of true a f x l) (mod_step c n)

round_small : (n l : ℕ) → n ≤ l → l < 65536 → (0 + n) % 65536 ≡ (suc n - 0 - 1) % (l + 1)
round_small n l h limit = let short : n < l + 1 = omega arith in let e : suc n - 0 - 1 ≡ n = omega arith in omega (arith, limit, h) ∙ sym (ap (λ x. x % (l + 1)) e ∙ mod-eq_of_lt short)

round_more : (n l : ℕ) → l < n → (n - l - 1) % (l + 1) ≡ (suc n - 0 - 1) % (l + 1)
round_more n l h = let e : suc n - 0 - 1 ≡ n = omega arith in let d : n - l - 1 ≡ n - (l + 1) = omega arith in let long : l + 1 ≤ n = omega arith in
    ap (λ x. x % (l + 1)) d ∙ sym (ap (λ x. x % (l + 1)) e ∙ mod-eq-sub-mod long)

-- past it, the flag is set and the count goes round
pub after_ticks-past : (n : ℕ) (a f : Bool) (c l : ℕ) → c < 65536 → l < 65536 → to_limit c l < n → after_ticks n (timer_of true a f c l) ≡ timer_of true a true ((n - to_limit c l - 1) % (l + 1)) l
after_ticks-past zero a f c l small limit past = absurd (omega (arith, past))
after_ticks-past (suc n) a f c l small limit past = by (nat_eq c l) refl (λ g d s w. after_ticks-past n a g d l s limit w)
  where
    wrapped : (m : ℕ) → to_limit 0 l ≡ l → to_limit c l ≡ 0 → ((g : Bool) (d : ℕ) → d < 65536 → to_limit d l < m → after_ticks m (timer_of true a g d l) ≡ timer_of true a true ((m - to_limit d l - 1) % (l + 1)) l)
        → (nat_le m l ≡ true) ⊎ (nat_le m l ≡ false)
        → after_ticks m (timer_of true a true 0 l) ≡ timer_of true a true ((suc m - to_limit c l - 1) % (l + 1)) l
    wrapped m whole none rest (inl w) =
        let h : m ≤ l = grind (arith, nat_tests) in
        after_ticks-below m a true 0 l (omega arith) limit (omega (arith, whole, h)) ∙ ap (λ x. timer_of true a true x l) (round_small m l h limit ∙ ap (λ z. (suc m - z - 1) % (l + 1)) (sym none))
    wrapped m whole none rest (inr w) =
        let h : l < m = grind (arith, nat_tests) in
        rest true 0 (omega arith) (omega (arith, whole, h)) ∙ ap (λ x. timer_of true a true x l) (ap (λ z. (m - z - 1) % (l + 1)) whole ∙ round_more m l h ∙ ap (λ z. (suc m - z - 1) % (l + 1)) (sym none))

    by : (b : Bool) → nat_eq c l ≡ b → ((g : Bool) (d : ℕ) → d < 65536 → to_limit d l < n → after_ticks n (timer_of true a g d l) ≡ timer_of true a true ((n - to_limit d l - 1) % (l + 1)) l)
        → after_ticks n (counts_by true b (timer_of true a f c l)) ≡ timer_of true a true ((suc n - to_limit c l - 1) % (l + 1)) l
    by true is rest =
        let e : c ≡ l = grind (arith, nat_tests) in
        wrapped n (omega (arith, limit)) (omega (arith, e, limit)) rest (cases_Bool (nat_le n l))
    by false is rest =
        let other : c ≢ l = grind (arith, nat_tests) in
        let step : to_limit ((c + 1) % 65536) l + 1 ≡ to_limit c l = limit_step c l small limit other in
        let same : n - to_limit ((c + 1) % 65536) l - 1 ≡ suc n - to_limit c l - 1 = omega (arith, step) in
        rest f ((c + 1) % 65536) (omega arith) (omega (arith, step, past)) ∙ ap (λ x. timer_of true a true (x % (l + 1)) l) same

pub ticked_by-stopped : (n : ℕ) (t : TimerPart) → t.running ≡ false → ticked_by n 0 (timer_alone t) ≡ timer_alone t
ticked_by-stopped n t e =
    ticked_by-timer n 0 t.running t.alarm t.flag t.count t.limit ∙ ap (λ r. after_ticks n (timer_of r t.alarm t.flag t.count t.limit)) e
    ∙ after_ticks-stopped n t.alarm t.flag t.count t.limit ∙ ap (λ r. timer_of r t.alarm t.flag t.count t.limit) (sym e)

pub ticked_by-below : (n : ℕ) (t : TimerPart) → t.running ≡ true → t.count < 65536 → t.limit < 65536 → n ≤ to_limit t.count t.limit
    → ticked_by n 0 (timer_alone t) ≡ timer_alone (record t { count = (t.count + n) % 65536 })
ticked_by-below n t e small limit within =
    ticked_by-timer n 0 t.running t.alarm t.flag t.count t.limit ∙ ap (λ r. after_ticks n (timer_of r t.alarm t.flag t.count t.limit)) e
    ∙ after_ticks-below n t.alarm t.flag t.count t.limit small limit within ∙ ap (λ r. timer_of r t.alarm t.flag ((t.count + n) % 65536) t.limit) (sym e)

pub ticked_by-past : (n : ℕ) (t : TimerPart) → t.running ≡ true → t.count < 65536 → t.limit < 65536 → to_limit t.count t.limit < n
    → ticked_by n 0 (timer_alone t) ≡ timer_alone (record t { count = (n - to_limit t.count t.limit - 1) % (t.limit + 1); flag = true })
ticked_by-past n t e small limit past =
    ticked_by-timer n 0 t.running t.alarm t.flag t.count t.limit ∙ ap (λ r. after_ticks n (timer_of r t.alarm t.flag t.count t.limit)) e
    ∙ after_ticks-past n t.alarm t.flag t.count t.limit small limit past ∙ ap (λ r. timer_of r t.alarm true ((n - to_limit t.count t.limit - 1) % (t.limit + 1)) t.limit) (sym e)

-- the vector stays as it is up to the limit, or for ever where the timer cannot raise it
line_of-counted : (n : ℕ) (r a f : Bool) (c l : ℕ) → c < 65536 → l < 65536 → ((r && a && not f) ≡ true → n ≤ to_limit c l)
    → line_of (after_ticks n (timer_of r a f c l)) ≡ line_of (timer_of r a f c l)
unfolding line_of
line_of-counted n false a f c l small limit within = ap line_of (after_ticks-stopped n a f c l)
line_of-counted n true a f c l small limit within = by (cases_Bool (nat_le n (to_limit c l)))
  where
    rung : (b g : Bool) → ((b && not g) ≡ true → n ≤ to_limit c l) → to_limit c l < n → (m d : ℕ) → line_of (timer_of true b true m l) ≡ line_of (timer_of true b g d l)
    rung true false w past m d = absurd (omega (arith, w refl, past))
    rung _ _ w past m d = refl

    kept : (m d : ℕ) → line_of (timer_of true a f m l) ≡ line_of (timer_of true a f d l)
    kept m d = refl

    by : (nat_le n (to_limit c l) ≡ true) ⊎ (nat_le n (to_limit c l) ≡ false) → line_of (after_ticks n (timer_of true a f c l)) ≡ line_of (timer_of true a f c l)
    by (inl w) = let h : n ≤ to_limit c l = grind (arith, nat_tests) in
        ap line_of (after_ticks-below n a f c l small limit h) ∙ kept ((c + n) % 65536) c
    by (inr w) = let h : to_limit c l < n = grind (arith, nat_tests) in
        ap line_of (after_ticks-past n a f c l small limit h) ∙ rung a f within h ((n - to_limit c l - 1) % (l + 1)) c

pub line_of-timer : (n : ℕ) (t : TimerPart) → t.count < 65536 → t.limit < 65536 → ((t.running && t.alarm && not t.flag) ≡ true → n ≤ to_limit t.count t.limit)
    → line_of (ticked_by n 0 (timer_alone t)) ≡ line_of (timer_alone t)
line_of-timer n t small limit within =
    ap line_of (ticked_by-timer n 0 t.running t.alarm t.flag t.count t.limit) ∙ line_of-counted n t.running t.alarm t.flag t.count t.limit small limit within

-- where the timer may raise its vector soon
pub is_ringing : (r a f : Bool) → (r && a && not f) ≡ true → (r ≡ true) × (a ≡ true) × (f ≡ false)
is_ringing true true false h = (refl, refl, refl)
is_ringing _ _ _ h = absurd (cc)
