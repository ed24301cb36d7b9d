-- What a cycle does to its number, its phase and what is settled next, and which events tell of it.
use Rattle.std.proofs.Common.{◌≡◌, ◌≢◌, ◌⊎◌, inl, inr, ⊎_elim, ℕ, zero, suc, ◌+◌, ◌-◌, ◌<◌, List, [], ◌∷◌, ◌++◌, refl, sym, ap, ◌∙◌, subst, arith, Bool, true, false, ◌==◌, Option, Some, None, zero-add, cond, filter}
use Rattle.image_text.specs.Image.{Image}
use Rattle.run_laws.specs.Events.{EndsCall, ends_call, Hides, Handles}
use Rattle.run_laws.specs.Frames.{rest_of}
use Rattle.pc_access.specs.Rights.{is_id}
use Rattle.pc_access.specs.declared.Stop.{Stop}
use Rattle.reg_backup.specs.Saved.{closing_after}
use Rattle.reg_backup.specs.declared.backup.After.{After}
use Rattle.reg_backup.specs.declared.backup.After.TheVariants.{Next, Handler}
use Rattle.reg_backup.specs.declared.backup.Phase.TheVariants.{Run, Pad}
use Rattle.schedule_file.specs.declared.Entry.{Entry as Scheduled}
use Rattle.std.proofs.lemmas.Bool.Decides.{nat_tests}
use Rattle.std.proofs.lemmas.List.{append_assoc}
use Rattle.tracer.specs.declared.Event.{Event}
use Rattle.written_machine.proofs.Stops.{cycle_by}
use Rattle.written_machine.specs.Cycle.{Step, quiet, told, settle, ticked, arrive_inside, perform, padded, turn, sent_event, counted_by, move, cycle, after_cycles}
use Rattle.written_machine.specs.State.{State}
use Rattle.written_machine.specs.View.{at, boot}
use Rattle.run_laws.proofs.Each.{Each, each_map, each_append}
use Rattle.run_laws.proofs.Ways.{perform_tells, sent_tells, EachAct, EachTurn, each_turn, Lasting, always, settle_ways}

abbrev pub is_handler : After → Bool
is_handler Handler = true
is_handler _ = false

-- no padding, and no handler begins next
abbrev pub Calm : State → Type 0
Calm s = (s.phase ≡ Run (rest_of s.phase)) × (is_handler s.after ≡ false)

-- not of settling
abbrev IsLate : Event → Type 0
IsLate (Event.Close id) = ⊥
IsLate (Event.Leave id pc) = ⊥
IsLate (Event.Handler pc) = ⊥
IsLate (Event.Resume id) = ⊥
IsLate _ = Unit {0}

-- nor a hide
abbrev IsBare : Event → Type 0
IsBare (Event.Hide id v) = ⊥
IsBare e = IsLate e

abbrev pub Bare : List Event → Type 0
Bare = Each IsBare

abbrev pub Late : List Event → Type 0
Late = Each IsLate

bare_late : (e : Event) → IsBare e → IsLate e
bare_late (Event.Hide id v) h = absurd h
bare_late e h = h

pub bare_hides : (xs : List Event) → Bare xs → Hides xs → ⊥
bare_hides [] h g = g
bare_hides (Event.Hide id v ∷ xs) h g = h.0
bare_hides (_ ∷ xs) h g = bare_hides xs h.1 g

-- events that end in such
late_ends : (m : ℕ) (xs ys : List Event) → Late ys → EndsCall m (xs ++ ys) → EndsCall m xs
late_ends m [] [] h g = g
late_ends m [] (Event.Close id ∷ ys) h g = absurd h.0
late_ends m [] (Event.Leave id pc ∷ ys) h g = absurd h.0
late_ends m (Event.Close id ∷ xs) ys h g = ⊎_elim inl (λ r. inr (late_ends m xs ys h r)) g
late_ends m (Event.Leave id pc ∷ xs) ys h g = ⊎_elim inl (λ r. inr (late_ends m xs ys h r)) g
late_ends m (_ ∷ xs) ys h g = late_ends m xs ys h g
late_ends m [] (_ ∷ ys) h g = late_ends m [] ys h.1 g

ends_front : (m : ℕ) (xs ys : List Event) → EndsCall m xs → EndsCall m (xs ++ ys)
ends_front m [] ys g = absurd g
ends_front m (Event.Close id ∷ xs) ys g = ⊎_elim inl (λ r. inr (ends_front m xs ys r)) g
ends_front m (Event.Leave id pc ∷ xs) ys g = ⊎_elim inl (λ r. inr (ends_front m xs ys r)) g
ends_front m (_ ∷ xs) ys g = ends_front m xs ys g

late_filter : (m : ℕ) (xs ys : List Event) → Late ys → filter (ends_call m) (xs ++ ys) ≡ filter (ends_call m) xs
late_filter m [] [] h = refl
late_filter m [] (Event.Close id ∷ ys) h = absurd h.0
late_filter m [] (Event.Leave id pc ∷ ys) h = absurd h.0
late_filter m [] (_ ∷ ys) h = late_filter m [] ys h.1
late_filter m (x ∷ xs) ys h = ap (λ l. cond (ends_call m x) (x ∷ l) l) (late_filter m xs ys h)

pub late_handles : (xs ys : List Event) → Late ys → Handles (xs ++ ys) → Handles xs
late_handles [] [] h g = g
late_handles [] (Event.Handler pc ∷ ys) h g = absurd h.0
late_handles (Event.Handler pc ∷ xs) ys h g = tt
late_handles (_ ∷ xs) ys h g = late_handles xs ys h g
late_handles [] (_ ∷ ys) h g = late_handles [] ys h.1 g

pub hides_more : (xs ys : List Event) → Hides ys → Hides (xs ++ ys)
hides_more [] ys g = g
hides_more (Event.Hide id v ∷ xs) ys g = tt
hides_more (_ ∷ xs) ys g = hides_more xs ys g

pub hides_front : (xs ys : List Event) → Hides xs → Hides (xs ++ ys)
hides_front [] ys g = absurd g
hides_front (Event.Hide id v ∷ xs) ys g = tt
hides_front (_ ∷ xs) ys g = hides_front xs ys g

-- ---- an instruction
pub record Tame (s : State) (t : Step) : Type 0 where
  pub same : t.state.cycle ≡ s.cycle
  pub bare : Bare t.events
  pub calm : Calm s → Calm t.state

pub closing_calm : (c : Bool) → is_handler (closing_after c) ≡ false
closing_calm true = refl
closing_calm false = refl

acts_tame : EachAct Tame
unfolding perform
acts_tame = record {
  stops = λ rule addr id s. record { same = refl; bare = (tt, tt); calm = λ h. h };
  performs = λ insn s. record { same = refl; bare = perform_tells Bare tt (λ n. (tt, tt)) insn s; calm = λ h. (refl, closing_calm _) };
  returns = λ s q. record { same = q.same; bare = (tt, q.bare); calm = q.calm };
  resumes = λ s e. record { same = refl; bare = tt; calm = λ h. (refl, refl) };
}

-- ---- a turn
-- it is tame, or pads, or begins to pad
pub record Begins (s : State) (t : Step) : Type 0 where
  pub same : t.state.cycle ≡ s.cycle
  pub late : Late t.events
  pub hides : Hides t.events
  pub phase : t.state.phase ≡ Pad 11
  pub after : t.state.after ≡ Next
  pub stop : t.state.stop ≡ s.stop

pub record Pads (s : State) (t : Step) : Type 0 where
  pub left : ℕ
  pub was : s.phase ≡ Pad left
  pub is : t ≡ quiet (padded (left - 1) s)

abbrev pub Turned : State → Step → Type 0
Turned s t = Tame s t ⊎ (Begins s t ⊎ Pads s t)

turns_tame : EachTurn Tame Turned
unfolding arrive_inside
turns_tame = record {
  refuses = λ d s. inl (record { same = refl; bare = (tt, tt); calm = λ h. h });
  acts = λ s t. inl t;
  enters = λ left id s free p a t. inl (record { same = t.same; bare = (tt, t.bare); calm = λ h. t.calm (h.0, refl) });
  pads = λ n s p. inr (inr (record { left = n; was = p; is = refl }));
  waits = λ r s. inl (record { same = refl; bare = tt; calm = λ h. (refl, h.1) });
  sleeps = λ s. inl (record { same = refl; bare = tt; calm = λ h. h });
  inside = λ v id s d a. inr (inl (record { same = refl; late = (tt, tt); hides = tt; phase = refl; after = refl; stop = refl }));
  pushes = λ v s d. inl (record { same = refl; bare = (tt, tt); calm = λ h. (refl, h.1) });
}

pub turned : (left : ℕ) (s : State) → Turned s (turn left s)
turned left s = each_turn Tame acts_tame Turned turns_tame left s

pub turn_same : (left : ℕ) (s : State) → (turn left s).state.cycle ≡ s.cycle
turn_same left s = ⊎_elim (λ t. t.same) (λ x. ⊎_elim (λ b. b.same) (λ p. ap (λ u. u.state.cycle) p.is) x) (turned left s)

pub turn_late : (left : ℕ) (s : State) → Late (turn left s).events
turn_late left s = ⊎_elim (λ t. each_map bare_late (turn left s).events t.bare)
    (λ x. ⊎_elim (λ b. b.late) (λ p. subst (λ u. Late u.events) (sym p.is) tt) x) (turned left s)

-- ---- settling
abbrev Keeping : State → State → Type 0
Keeping s t = (t.cycle ≡ s.cycle) × (t.key ≡ s.key) × (t.stop ≡ s.stop)

pub settle_same : (s : State) → Keeping s (settle s).state
settle_same s =
    settle_ways s (λ u. Keeping s u.state) (refl, refl, refl) (λ b fs e. (refl, refl, refl)) (λ id x a o. (refl, refl, refl)) (λ e. (refl, refl, refl)) (λ id a. (refl, refl, refl))

pub ticked_stop : (s : State) → (ticked s).stop ≡ s.stop
unfolding ticked
ticked_stop s = refl

pub ticked_active : (s : State) → (ticked s).active ≡ s.active
unfolding ticked
ticked_active s = refl

pub settled_key : (s : State) → (settle (ticked s)).state.key ≡ s.key
unfolding ticked
settled_key s = (settle_same (ticked s)).1

-- the key is the image's
key_lasts : (a : Image) → Lasting (λ s. s.key ≡ a.node_key)
unfolding perform arrive_inside
key_lasts a = record {
  rests = λ s d n p o h. h;
  performs = λ insn s h. h;
  returns = λ s h. h;
  resumes = λ s e h. h;
  enters = λ left id s free p x h. h;
  pads = λ n s h. h;
  inside = λ v id s d x h. h;
  pushes = λ v s d h. h;
  settles = λ s h. (settle_same s).1 ∙ h;
}

pub key_at : (a : Image) (schedule : List Scheduled) (k : ℕ) → (at a schedule k).key ≡ a.node_key
key_at a schedule k = always (λ s. s.key ≡ a.node_key) (key_lasts a) a schedule k refl

pub ticked_same : (s : State) → (ticked s).cycle ≡ s.cycle
unfolding ticked
ticked_same s = refl

-- ---- a cycle's number
counted_same : (o : Option Stop) (t : Step) → t.state.stop ≡ o → (counted_by o t).state.stop ≡ None → (counted_by o t).state.cycle ≡ t.state.cycle + 1
counted_same (Some stop) t e h = absurd (let k : Some stop ≡ None = sym e ∙ h in cc)
counted_same None t e h = refl

move_number : (s : State) → (move s).state.stop ≡ None → (move s).state.cycle ≡ s.cycle + 1
unfolding move
move_number s h =
    let u = settle (ticked s) in
    let t = turn u.left u.state in
    counted_same t.state.stop (told u.events t) refl h ∙ ap (λ n. n + 1) (turn_same u.left u.state ∙ (settle_same (ticked s)).0 ∙ ticked_same s)

pub cycle_number : (o : Option Stop) (s : State) → s.stop ≡ o → (cycle_by o s).state.stop ≡ None → (s.stop ≡ None) × ((cycle_by o s).state.cycle ≡ s.cycle + 1)
cycle_number (Some stop) s e h = absurd (let k : Some stop ≡ None = sym e ∙ h in cc)
cycle_number None s e h = (e, move_number s h)

-- a run that is not stopped yet was not stopped before, and has counted each cycle
pub runs_so_far : (s : State) (n : ℕ) → (after_cycles s n).stop ≡ None → ((i : ℕ) → i < suc n → (after_cycles s i).stop ≡ None) × ((after_cycles s n).cycle ≡ s.cycle + n)
runs_so_far s zero h = (λ i lt. let e : i ≡ 0 = omega arith in subst (λ k. (after_cycles s k).stop ≡ None) (sym e) h, omega arith)
runs_so_far s (suc n) h =
    let t = after_cycles s n in
    let p = cycle_number t.stop t refl h in
    let r = runs_so_far s n p.0 in
    (λ i lt. last i (i == suc n) refl lt r.0, p.1 ∙ (let e = r.1 in omega arith))
  where
    last : (i : ℕ) (b : Bool) → (i == suc n) ≡ b → i < suc (suc n) → ((i : ℕ) → i < suc n → (after_cycles s i).stop ≡ None) → (after_cycles s i).stop ≡ None
    last i true e lt r = let k : i ≡ suc n = grind (arith, nat_tests) in subst (λ k. (after_cycles s k).stop ≡ None) (sym k) h
    last i false e lt r = let k : i ≢ suc n = grind (arith, nat_tests) in r i (omega arith)

-- ---- a cycle tells what settling tells, and then what is not of settling
pub record Later (es all : List Event) : Type 0 where
  pub rest : List Event
  pub is : all ≡ es ++ rest
  pub late : Late rest

counted_later : (o : Option Stop) (es : List Event) (t : Step) → Late t.events → Later es (counted_by o (told es t)).events
counted_later (Some stop) es t l = record { rest = t.events; is = refl; late = l }
counted_later None es t l =
    let sent = sent_event t.state.devices.sent in
    record { rest = t.events ++ sent; is = append_assoc es t.events sent; late = each_append IsLate t.events sent l (sent_tells Late tt (λ b. (tt, tt)) t.state.devices.sent) }

pub move_later : (s : State) → Later (settle (ticked s)).events (move s).events
unfolding move
move_later s = let u = settle (ticked s) in let t = turn u.left u.state in counted_later t.state.stop u.events t (turn_late u.left u.state)

-- so ends are told by settling alone, and each of them
pub settled_ends : (m : ℕ) (s : State) → EndsCall m (settle (ticked s)).events → EndsCall m (move s).events
settled_ends m s h = let l = move_later s in subst (EndsCall m) (sym l.is) (ends_front m (settle (ticked s)).events l.rest h)

pub move_filter : (m : ℕ) (s : State) → filter (ends_call m) (move s).events ≡ filter (ends_call m) (settle (ticked s)).events
move_filter m s = let l = move_later s in ap (filter (ends_call m)) l.is ∙ late_filter m (settle (ticked s)).events l.rest l.late

pub cycle_ends : (m : ℕ) (o : Option Stop) (s : State) → s.stop ≡ o → EndsCall m (cycle_by o s).events → (s.stop ≡ None) × EndsCall m (settle (ticked s)).events
cycle_ends m (Some stop) s e h = absurd h
cycle_ends m None s e h = let l = move_later s in (e, late_ends m (settle (ticked s)).events l.rest l.late (subst (EndsCall m) l.is h))

-- the module is active that they end
module _ (m : ℕ) where
  one_end : (id : ℕ) → (id == m) ≡ false → ((id ≡ m) ⊎ ⊥) → ⊥
  one_end id n h = let ne : id ≢ m = grind (arith, nat_tests) in ⊎_elim ne (λ x. x) h

  pub idle_ends : (s : State) → is_id m s.active ≡ false → EndsCall m (settle s).events → ⊥
  idle_ends s n =
      settle_ways s (λ u. EndsCall m u.events → ⊥) (λ h. h) (λ b fs e h. h) (λ id x a o. one_end id (ap (is_id m) (sym a) ∙ n)) (λ e h. h)
      (λ id a. one_end id (ap (is_id m) (sym a) ∙ n))

  pub ends_active : (s : State) → EndsCall m (cycle s).events → is_id m s.active ≡ true
  unfolding ticked
  ends_active s h = by (is_id m s.active) refl
    where
      by : (c : Bool) → is_id m s.active ≡ c → is_id m s.active ≡ true
      by true e = e
      by false e = absurd (idle_ends (ticked s) e (cycle_ends m s.stop s refl h).1)

-- the number of a machine that runs
pub numbered : (a : Image) (schedule : List Scheduled) (k : ℕ) → (at a schedule k).stop ≡ None → (at a schedule k).cycle ≡ k
numbered a schedule k e = (runs_so_far (boot a schedule) k e).1 ∙ zero-add k
