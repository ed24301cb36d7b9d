-- A bus over many ticks.
use Rattle.std.proofs.Common.{ℕ, zero, suc, ◌≡◌, ◌+◌, ◌-◌, ◌≤◌, ◌<◌, ◌∙◌, List, length, drop, get_or, Bool, true, false, cond, ◌&&◌, Option, Some, None, refl, sym, ap, subst, arith, nat_eq, min}
use Rattle.std.specs.Option.{option_or}
use Rattle.schedule_file.specs.declared.Entry.{Entry}
use Rattle.devices.specs.Devices.{Devices, line_of, highest_line}
use Rattle.devices.specs.declared.registers.TheConstants.{SERIAL_VECTOR, TIMER_VECTOR}
use Rattle.devices.specs.Time.{ticked_by, before_entries, timer_quiet, quiet_of}
use Rattle.devices.specs.internal.Time.{after_ticks}
use Rattle.devices.specs.Parts.{LinesPart, SerialPart, TimerPart, serial_alone, timer_alone}
use Rattle.devices.specs.internal.Parts.{joined_parts, serial_part, timer_part}
use Rattle.devices.specs.internal.Bus.{acted_before, past_count, IsDue}
use Rattle.devices.proofs.Still.{ticked_by-serial}
use Rattle.devices.proofs.Timing.{ticked_by-timer}
use Rattle.devices.proofs.Order.{Rises, Rises-all, past_count-le-length}
use Rattle.devices.proofs.Acting.{cleared, acted_within, ticked_by-within, within-before, counts_by}
use Rattle.devices.proofs.Waiting.{within-quiet, before_entries-le, before_entries-due, before_entries-done, past_count-cycle}
use Rattle.std.proofs.lemmas.List.{get_or-drop, length-drop}

-- the vectors of the timer and of the serial device
abbrev pub timer_line : Devices → Option ℕ
timer_line d = cond (d.alarm && d.flag) (Some TIMER_VECTOR) None

abbrev pub serial_line : Devices → Option ℕ
serial_line d = cond (d.listening && d.got) (Some SERIAL_VECTOR) None

-- the serial device after n ticks
abbrev pub serial_after : ℕ → SerialPart → SerialPart
serial_after zero s = s
serial_after (suc n) s = record s { sent = None }

ticked_by-serial_after : (n k : ℕ) (s : SerialPart) → ticked_by n k (serial_alone s) ≡ serial_alone (serial_after n s)
ticked_by-serial_after zero k s = refl
ticked_by-serial_after (suc n) k s = ticked_by-serial (suc n) k s (omega arith)

cleared-joined_parts : (n : ℕ) (l : LinesPart) (s : SerialPart) (t : TimerPart) (es : List Entry) → cleared n (joined_parts l s t es) ≡ joined_parts l (serial_after n s) t es
cleared-joined_parts zero l s t es = refl
cleared-joined_parts (suc n) l s t es = refl

-- the timer after one tick, and after n
abbrev pub stepped_by : Bool → Bool → TimerPart → TimerPart
stepped_by r q t = timer_part (counts_by r q (timer_alone t))

abbrev pub timer_after : ℕ → TimerPart → TimerPart
timer_after zero t = t
timer_after (suc n) t = timer_after n (stepped_by t.running (nat_eq t.count t.limit) t)

counts_by-joined_parts : (r q : Bool) (l : LinesPart) (s : SerialPart) (t : TimerPart) (es : List Entry) → counts_by r q (joined_parts l s t es) ≡ joined_parts l s (stepped_by r q t) es
counts_by-joined_parts true true l s t es = refl
counts_by-joined_parts _ _ l s t es = refl

after_ticks-joined_parts : (n : ℕ) (l : LinesPart) (s : SerialPart) (t : TimerPart) (es : List Entry) → after_ticks n (joined_parts l s t es) ≡ joined_parts l s (timer_after n t) es
after_ticks-joined_parts zero l s t es = refl
after_ticks-joined_parts (suc n) l s t es =
    ap (after_ticks n) (counts_by-joined_parts t.running (nat_eq t.count t.limit) l s t es) ∙ after_ticks-joined_parts n l s (stepped_by t.running (nat_eq t.count t.limit) t) es

counts_by-alone : (r q : Bool) (t : TimerPart) → counts_by r q (timer_alone t) ≡ timer_alone (stepped_by r q t)
counts_by-alone true true t = refl
counts_by-alone _ _ t = refl

after_ticks-alone : (n : ℕ) (t : TimerPart) → after_ticks n (timer_alone t) ≡ timer_alone (timer_after n t)
after_ticks-alone zero t = refl
after_ticks-alone (suc n) t = ap (after_ticks n) (counts_by-alone t.running (nat_eq t.count t.limit) t) ∙ after_ticks-alone n (stepped_by t.running (nat_eq t.count t.limit) t)

pub ticked_by-timer_after : (n k : ℕ) (t : TimerPart) → ticked_by n k (timer_alone t) ≡ timer_alone (timer_after n t)
ticked_by-timer_after n k t = ticked_by-timer n k t.running t.alarm t.flag t.count t.limit ∙ after_ticks-alone n t

-- the whole of n ticks, from what each device does alone
ticked_by-joined_parts : (n k : ℕ) (l : LinesPart) (s : SerialPart) (t : TimerPart) (es : List Entry) → Rises 0 es
    → ticked_by n k (joined_parts l s t es) ≡ acted_within k (k + n) es (joined_parts l (serial_after n s) (timer_after n t) es)
ticked_by-joined_parts n k l s t es r =
    ticked_by-within n k (joined_parts l s t es) es refl r
    ∙ ap (λ d. acted_within k (k + n) es (after_ticks n d)) (cleared-joined_parts n l s t es)
    ∙ ap (acted_within k (k + n) es) (after_ticks-joined_parts n l (serial_after n s) t es)

pub advanced : (n k acted : ℕ) (l : LinesPart) (s s' : SerialPart) (t t' : TimerPart) (es : List Entry) → IsDue es acted k
    → serial_alone s' ≡ ticked_by n 0 (serial_alone s) → timer_alone t' ≡ ticked_by n 0 (timer_alone t)
    → acted_before (k + n) (drop acted es) (joined_parts l s' t' es) ≡ ticked_by n k (joined_parts l s t es)
advanced n k acted l s s' t t' es due serial timer =
    let is_serial : s' ≡ serial_after n s = ap serial_part (serial ∙ ticked_by-serial_after n 0 s) in
    let is_timer : t' ≡ timer_after n t = ap timer_part (timer ∙ ticked_by-timer_after n 0 t) in
    let r : Rises 0 es = Rises-all es due.falls in
    ap (λ a. acted_before (k + n) (drop a es) (joined_parts l s' t' es)) due.place
    ∙ ap (λ x. acted_before (k + n) (drop (past_count k es) es) (joined_parts l x t' es)) is_serial
    ∙ ap (λ x. acted_before (k + n) (drop (past_count k es) es) (joined_parts l (serial_after n s) x es)) is_timer
    ∙ sym (ticked_by-joined_parts n k l s t es r ∙ within-before es 0 k (k + n) (joined_parts l (serial_after n s) (timer_after n t) es) r)

-- the timer's part of the raised vector, from the timer alone
rings : (b c : Bool) → option_or {T = ℕ} (cond b (Some 8) None) None ≡ option_or {T = ℕ} (cond c (Some 8) None) None → ◌≡◌ {A = Option ℕ} (cond b (Some 8) None) (cond c (Some 8) None)
rings true false h = absurd (cc)
rings false true h = absurd (cc)
rings _ _ h = refl

timer_line-alone : (t u : TimerPart) → line_of (timer_alone u) ≡ line_of (timer_alone t) → timer_line (timer_alone u) ≡ timer_line (timer_alone t)
unfolding line_of
timer_line-alone t u h = rings (u.alarm && u.flag) (t.alarm && t.flag) h

line_of-joined_parts : (n : ℕ) (l : LinesPart) (s : SerialPart) (t u : TimerPart) (es : List Entry) → timer_line (timer_alone u) ≡ timer_line (timer_alone t)
    → line_of (joined_parts l (serial_after n s) u es) ≡ line_of (joined_parts l s t es)
unfolding line_of
line_of-joined_parts zero l s t u es h = ap (λ x. option_or x (option_or (serial_line (joined_parts l s t es)) (highest_line (joined_parts l s t es)))) h
line_of-joined_parts (suc n) l s t u es h = ap (λ x. option_or x (option_or (serial_line (joined_parts l s t es)) (highest_line (joined_parts l s t es)))) h

-- while no entry acts and the timer's vector stays, the raised vector stays
pub line_of-quiet : (n k q : ℕ) (l : LinesPart) (s : SerialPart) (t : TimerPart) (es : List Entry) → Rises 0 es → n ≤ before_entries es k q
    → line_of (ticked_by n 0 (timer_alone t)) ≡ line_of (timer_alone t)
    → line_of (ticked_by n k (joined_parts l s t es)) ≡ line_of (joined_parts l s t es)
line_of-quiet n k q l s t es r quiet timer =
    ap line_of (ticked_by-joined_parts n k l s t es r ∙ within-quiet es n k q (joined_parts l (serial_after n s) (timer_after n t) es) quiet)
    ∙ line_of-joined_parts n l s t (timer_after n t) es (timer_line-alone t (timer_after n t) (sym (ap line_of (ticked_by-timer_after n 0 t)) ∙ timer))

first-due : (es : List Entry) (acted : ℕ) (d : Entry) → get_or (drop acted es) 0 d ≡ get_or es acted d
first-due es acted d = let e : acted + 0 ≡ acted = omega arith in get_or-drop acted es 0 d ∙ ap (λ i. get_or es i d) e

-- the next entry's cycle is not past
pub cycle-due : (es : List Entry) (acted k : ℕ) (d : Entry) → IsDue es acted k → 0 < length (drop acted es) → k ≤ (get_or (drop acted es) 0 d).cycle
cycle-due es acted k d due some =
    let within : past_count k es < length es = omega (arith, due.place, some, length-drop acted es) in
    subst (λ (e : Entry). k ≤ e.cycle) (sym (first-due es acted d ∙ ap (λ i. get_or es i d) due.place)) (past_count-cycle es k d within)

-- the quiet ends before the next entry, or with the timer's
pub quiet_of-due : (k acted : ℕ) (l : LinesPart) (s : SerialPart) (t : TimerPart) (es : List Entry) (d : Entry) → IsDue es acted k → 0 < length (drop acted es)
    → quiet_of (joined_parts l s t es) k ≡ min (quiet_of (timer_alone t) 0) ((get_or (drop acted es) 0 d).cycle - k)
unfolding quiet_of timer_quiet
quiet_of-due k acted l s t es d due some =
    let within : past_count k es < length es = omega (arith, due.place, some, length-drop acted es) in
    before_entries-due es 0 k (timer_quiet (timer_alone t)) d (Rises-all es due.falls) within
    ∙ ap (λ (e : Entry). min (timer_quiet (timer_alone t)) (e.cycle - k)) (sym (first-due es acted d ∙ ap (λ i. get_or es i d) due.place))

pub quiet_of-done : (k acted : ℕ) (l : LinesPart) (s : SerialPart) (t : TimerPart) (es : List Entry) → IsDue es acted k → length (drop acted es) < 1
    → quiet_of (joined_parts l s t es) k ≡ quiet_of (timer_alone t) 0
unfolding quiet_of timer_quiet
quiet_of-done k acted l s t es due none =
    let most = past_count-le-length k es in
    before_entries-done es k (timer_quiet (timer_alone t)) (omega (arith, due.place, none, length-drop acted es, most))

pub quiet_of-stays : (n k acted : ℕ) (l : LinesPart) (s : SerialPart) (t : TimerPart) (es : List Entry) → IsDue es acted k → n ≤ quiet_of (joined_parts l s t es) k
    → ((m : ℕ) → m ≤ quiet_of (timer_alone t) 0 → line_of (ticked_by m 0 (timer_alone t)) ≡ line_of (timer_alone t))
    → line_of (ticked_by n k (joined_parts l s t es)) ≡ line_of (joined_parts l s t es)
unfolding quiet_of timer_quiet
quiet_of-stays n k acted l s t es due quiet timer =
    let most = before_entries-le es k (timer_quiet (timer_alone t)) in
    line_of-quiet n k (timer_quiet (timer_alone t)) l s t es (Rises-all es due.falls) quiet (timer n (omega (arith, quiet, most)))
