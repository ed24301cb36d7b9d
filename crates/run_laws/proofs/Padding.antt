-- A handler begins 12 cycles after its hide.
use Rattle.std.proofs.Common.{◌≡◌, ◌⊎◌, inl, inr, ⊎_elim, ℕ, zero, suc, ◌+◌, ◌-◌, List, [], ◌∷◌, ◌++◌, refl, sym, ap, ◌∙◌, subst, arith, true, false, Option, Some, None}
use Rattle.image_text.specs.Image.{Image}
use Rattle.run_laws.specs.Events.{Hides, Handles}
use Rattle.run_laws.specs.Frames.{rest_of}
use Rattle.pc_access.specs.declared.Stop.{Stop}
use Rattle.reg_backup.specs.declared.backup.After.TheVariants.{Next, Handler}
use Rattle.reg_backup.specs.declared.backup.Phase.TheVariants.{Run, Pad}
use Rattle.schedule_file.specs.declared.Entry.{Entry as Scheduled}
use Rattle.tracer.specs.declared.Event.{Event}
use Rattle.written_machine.proofs.Stops.{cycle_by}
use Rattle.written_machine.specs.Cycle.{Step, Settled, quiet, told, unsettled, pc_of, settle_by, settle_in, settle, ticked, due, padded, turn, sent_event, counted_by, move, cycle, after_cycles}
use Rattle.written_machine.specs.State.{State}
use Rattle.written_machine.specs.View.{at}
use Rattle.run_laws.proofs.Tame.{Calm, is_handler, closing_calm, turned, settle_same, move_later, bare_hides, late_handles, hides_more, hides_front, cycle_number, ticked_stop}
use Rattle.run_laws.proofs.Cases.{turn_at, turn_is}
use Rattle.run_laws.proofs.Ways.{turn_tells, sent_tells, counted_holds, settle_ways, or_unsettled}

-- ---- settling where no handler is due
record Settles (u : Settled) : Type 0 where
  calm : Calm u.state
  none : Handles u.events → ⊥

settle_calm : (s : State) → Calm s → Settles (settle s)
settle_calm s h =
    settle_ways s Settles (record { calm = h; none = λ x. x })
    (λ b fs e. record { calm = (refl, closing_calm b.closing); none = λ x. x }) (λ id x a o. record { calm = (h.0, refl); none = λ x. x })
    (λ e. absurd (let c : true ≡ false = ap is_handler (sym e) ∙ h.1 in cc)) (λ id a. record { calm = h; none = λ x. x })

ticked_calm : (s : State) → Calm s → Calm (ticked s)
unfolding ticked
ticked_calm s h = h

-- ---- padding
settle_pad : (n : ℕ) (s : State) → s.phase ≡ Pad n → settle s ≡ unsettled s
unfolding settle
settle_pad n s e = ap (λ p. or_unsettled (settle_in p s) s) e

turn_pad : (n left : ℕ) (s : State) → s.phase ≡ Pad n → turn left s ≡ quiet (padded (n - 1) s)
turn_pad n left s e = turn_is left s ∙ ap (λ p. turn_at (due s) s.active p left s) e

-- a cycle's end: phase, what is next, and stop
abbrev Ended : State → State → Type 0
Ended s t = (t.phase ≡ s.phase) × (t.after ≡ s.after) × (t.stop ≡ s.stop)

move_pad : (n : ℕ) (s : State) → s.phase ≡ Pad n → Ended (padded (n - 1) (ticked s)) (move s).state
unfolding move ticked
move_pad n s e =
    let t = ticked s in
    let q = quiet (padded (n - 1) t) in
    let go : Settled → Step = λ u. let v = turn u.left u.state in counted_by v.state.stop (told u.events v) in
    let e1 : go (settle t) ≡ counted_by q.state.stop (told [] q) = ap go (settle_pad n t e)
    ∙ ap (λ v. counted_by v.state.stop (told [] v)) (turn_pad n 0 t e) in
    subst (λ u. Ended q.state u.state) (sym e1) (counted_holds (Ended q.state) (λ u k h. h) q.state.stop (told [] q) (refl, refl, refl))

-- ---- a handler begins
handler_settles : (s : State) → s.phase ≡ Run 0 → s.after ≡ Handler → settle s ≡ record { state = record s { after = Next }; events = Event.Handler (pc_of s) ∷ []; left = 0 }
unfolding settle
handler_settles s p a = ap (λ x. or_unsettled (settle_in x s) s) p ∙ ap (λ x. or_unsettled (settle_by x s) s) a

move_handles : (s : State) → s.phase ≡ Run 0 → s.after ≡ Handler → Handles (move s).events
unfolding ticked
move_handles s p a =
    let l = move_later s in
    subst Handles (sym l.is) (subst (λ es. Handles (es ++ l.rest)) (sym (ap (λ x. x.events) (handler_settles (ticked s) p a))) tt)

counted_hides : (o : Option Stop) (es : List Event) (t : Step) → Hides t.events → Hides (counted_by o (told es t)).events
counted_hides (Some stop) es t h = hides_more es t.events h
counted_hides None es t h = hides_front (es ++ t.events) (sent_event t.state.devices.sent) (hides_more es t.events h)

-- from a calm state, settled
abbrev Next_is : Step → Type 0
Next_is t = Calm t.state ⊎ ((t.state.phase ≡ Pad 11) × (t.state.after ≡ Next) × Hides t.events)

turn_next : (left : ℕ) (s : State) → Calm s → Next_is (turn left s)
turn_next left s h =
    ⊎_elim (λ t. inl (t.calm h)) (λ x. ⊎_elim (λ b. inr (b.phase, b.after, b.hides)) (λ p. absurd (let e : Pad p.left ≡ Run (rest_of s.phase) = sym p.was ∙ h.0 in cc)) x) (turned left s)

next_counted : (es : List Event) (t : Step) → Next_is t → Next_is (counted_by t.state.stop (told es t))
next_counted es t h =
    let o = t.state.stop in
    ⊎_elim (λ c. inl (counted_holds Calm (λ u k g. g) o (told es t) c))
    (λ b. let e = counted_holds (Ended t.state) (λ u k g. g) o (told es t) (refl, refl, refl) in inr (e.0 ∙ b.0, e.1 ∙ b.1, counted_hides o es t b.2)) h

move_next : (s : State) → Calm (settle (ticked s)).state → Next_is (move s)
unfolding move
move_next s c =
    let u = settle (ticked s) in
    let t = turn u.left u.state in
    next_counted u.events t (turn_next u.left u.state c)

module _ (a : Image) (schedule : List Scheduled) where
  record Padding (k : ℕ) : Type 0 where
    left : ℕ
    hid : ℕ
    phase : (at a schedule k).phase ≡ Pad (suc left)
    number : k + suc left ≡ hid + 12
    hides : Hides (cycle (at a schedule hid)).events

  record Handing (k : ℕ) : Type 0 where
    hid : ℕ
    phase : (at a schedule k).phase ≡ Run 0
    after : (at a schedule k).after ≡ Handler
    number : k ≡ hid + 12
    hides : Hides (cycle (at a schedule hid)).events

  abbrev History : ℕ → Type 0
  History k = Calm (at a schedule k) ⊎ (Padding k ⊎ Handing k)

  same_move : (k : ℕ) → (at a schedule k).stop ≡ None → cycle (at a schedule k) ≡ move (at a schedule k)
  same_move k e = ap (λ o. cycle_by o (at a schedule k)) e

  calm_history : (k : ℕ) → (at a schedule k).stop ≡ None → Calm (settle (ticked (at a schedule k))).state → History (suc k)
  calm_history k run c =
      let n = subst Next_is (sym (same_move k run)) (move_next (at a schedule k) c) in
      ⊎_elim inl (λ b. inr (inl (record { left = 10; hid = k; phase = b.0; number = omega arith; hides = b.2 }))) n

  pad_history : (k : ℕ) (left hid : ℕ) → (at a schedule k).stop ≡ None → (at a schedule k).phase ≡ Pad (suc left) → k + suc left ≡ hid + 12 → Hides (cycle (at a schedule hid)).events → History (suc k)
  pad_history k zero hid run p num h =
      let e = same_move k run in
      let q = move_pad 1 (at a schedule k) p in
      inr (inr (record { hid = hid; phase = ap (λ t. t.state.phase) e ∙ q.0; after = ap (λ t. t.state.after) e ∙ q.1; number = omega arith; hides = h }))
  pad_history k (suc left) hid run p num h =
      let e = same_move k run in
      let q = move_pad (suc (suc left)) (at a schedule k) p in
      let less : suc (suc left) - 1 ≡ suc left = omega arith in
      inr (inl (record { left = left; hid = hid; phase = ap (λ t. t.state.phase) e ∙ q.0 ∙ ap (λ n. (padded n (ticked (at a schedule k))).phase) less; number = omega arith; hides = h }))

  handler_next_calm : (s : State) → s.phase ≡ Run 0 → s.after ≡ Handler → Calm (settle (ticked s)).state
  unfolding ticked
  handler_next_calm s p f = subst (λ u. Calm u.state) (sym (handler_settles (ticked s) p f)) (p ∙ sym (ap (λ x. Run (rest_of x)) p), refl)

  history : (k : ℕ) → (at a schedule k).stop ≡ None → History k
  history zero run = inl (refl, refl)
  history (suc k) run =
      let s = at a schedule k in
      let before = (cycle_number s.stop s refl run).0 in
      ⊎_elim
      (λ c. calm_history k before (settle_calm (ticked s) (ticked_calm s c)).calm)
      (λ x. ⊎_elim (λ p. pad_history k p.left p.hid before p.phase p.number p.hides) (λ h. calm_history k before (handler_next_calm s h.phase h.after)) x)
      (history k before)

  runs_by : (o : Option Stop) (s : State) → s.stop ≡ o → Handles (cycle_by o s).events → s.stop ≡ None
  runs_by (Some stop) s e h = absurd h
  runs_by None s e h = e

  pad_none : (k : ℕ) (left : ℕ) → (at a schedule k).phase ≡ Pad (suc left) → Handles (settle (ticked (at a schedule k))).events → ⊥
  unfolding ticked
  pad_none k left p h = subst (λ u. Handles u.events) (settle_pad (suc left) (ticked (at a schedule k)) p) h

  -- where a handler begins, a module was hidden 12 cycles before
  pub hidden_before : (k : ℕ) → Handles (cycle (at a schedule k)).events → (hid : ℕ) × (k ≡ hid + 12) × Hides (cycle (at a schedule hid)).events
  hidden_before k h =
      let s = at a schedule k in
      let run = runs_by s.stop s refl h in
      let l = move_later s in
      let told_by = late_handles (settle (ticked s)).events l.rest l.late (subst Handles l.is (subst (λ t. Handles t.events) (same_move k run) h)) in
      ⊎_elim
      (λ c. absurd ((settle_calm (ticked s) (ticked_calm s c)).none told_by))
      (λ x. ⊎_elim (λ p. absurd (pad_none k p.left p.phase told_by)) (λ g. (g.hid, g.number, g.hides)) x)
      (history k run)

-- ---- and after a hide a handler begins
hides_split : (xs ys : List Event) → Hides (xs ++ ys) → Hides xs ⊎ Hides ys
hides_split [] ys h = inr h
hides_split (Event.Hide id v ∷ xs) ys h = inl tt
hides_split (_ ∷ xs) ys h = hides_split xs ys h

-- settling tells of no hide
settle_bare : (s : State) → Hides (settle s).events → ⊥
settle_bare s = settle_ways s (λ u. Hides u.events → ⊥) (λ x. x) (λ b fs e x. x) (λ id x a o h. h) (λ e x. x) (λ id a x. x)

-- where a module was hidden, it pads
abbrev Padded : State → Type 0
Padded t = (t.phase ≡ Pad 11) × (t.stop ≡ None)

turn_hides : (left : ℕ) (s : State) → s.stop ≡ None → Hides (turn left s).events → Padded (turn left s).state
turn_hides left s e h =
    ⊎_elim (λ t. absurd (bare_hides (turn left s).events t.bare h)) (λ x. ⊎_elim (λ b. (b.phase, b.stop ∙ e)) (λ p. absurd (subst (λ u. Hides u.events) p.is h)) x) (turned left s)

move_hides : (s : State) → s.stop ≡ None → Hides (move s).events → Padded (move s).state
unfolding move
move_hides s e h =
    let u = settle (ticked s) in
    let t = turn u.left u.state in
    let p = turn_hides u.left u.state ((settle_same (ticked s)).2 ∙ ticked_stop s ∙ e) (turn_tells Hides hides_split (sent_tells (λ es. Hides es → ⊥) (λ h. h) (λ b h. h)) t.state.stop u.events t (settle_bare (ticked s)) h) in
    counted_holds Padded (λ v k g. g) t.state.stop (told u.events t) p

cycle_hides : (o : Option Stop) (s : State) → s.stop ≡ o → Hides (cycle_by o s).events → Padded (cycle_by o s).state
cycle_hides (Some stop) s e h = absurd h
cycle_hides None s e h = move_hides s e h

-- a cycle of padding
pad_on : (n : ℕ) (s : State) → s.stop ≡ None → s.phase ≡ Pad n → Ended (padded (n - 1) (ticked s)) (cycle s).state
pad_on n s e p = subst (λ t. Ended (padded (n - 1) (ticked s)) t.state) (sym (ap (λ o. cycle_by o s) e)) (move_pad n s p)

pads_on : (i left : ℕ) (s : State) → s.stop ≡ None → s.phase ≡ Pad (i + suc left) → ((after_cycles s i).phase ≡ Pad (suc left)) × ((after_cycles s i).stop ≡ None)
pads_on zero left s e p = (p ∙ ap Pad (let k : 0 + suc left ≡ suc left = omega arith in k), e)
pads_on (suc i) left s e p =
    let h = pads_on i (suc left) s e (p ∙ ap Pad (let k : suc i + suc left ≡ i + suc (suc left) = omega arith in k)) in
    let t = after_cycles s i in
    let q = pad_on (suc (suc left)) t h.1 h.0 in
    let less : suc (suc left) - 1 ≡ suc left = omega arith in
    (q.0 ∙ ap (λ n. (padded n (ticked t)).phase) less, q.2 ∙ ticked_stop t ∙ h.1)

handler_at_last : (s : State) → Padded s → Handles (cycle (after_cycles s 11)).events
handler_at_last s d =
    let h = pads_on 10 0 s d.1 d.0 in
    let t = after_cycles s 10 in
    let q = pad_on 1 t h.1 h.0 in
    let w = (cycle t).state in
    let e : w.stop ≡ None = q.2 ∙ ticked_stop t ∙ h.1 in
    subst (λ u. Handles u.events) (sym (ap (λ o. cycle_by o w) e)) (move_handles w q.0 q.1)

-- 12 cycles after a hide a handler begins
pub handler_after : (a : Image) (schedule : List Scheduled) (k : ℕ) → Hides (cycle (at a schedule k)).events → Handles (cycle (after_cycles (at a schedule (suc k)) 11)).events
handler_after a schedule k h = let s = at a schedule k in handler_at_last (cycle s).state (cycle_hides s.stop s refl h)
