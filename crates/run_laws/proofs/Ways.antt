-- What holds of each way that a step can go holds of the step.
use Rattle.std.proofs.Common.{◌≡◌, ℕ, zero, suc, ◌+◌, ◌-◌, List, [], ◌∷◌, refl, sym, subst, Bool, true, false, cond, Option, Some, None, unwrap_or, drop, ap, ◌⊎◌, ⊎_elim, ◌++◌}
use Rattle.attest.specs.Done.{own_of}
use Rattle.cpu_step.specs.Asked.{asks, table_after}
use Rattle.cpu_step.specs.Fetched.{insn_at}
use Rattle.devices.specs.Devices.{Devices}
use Rattle.image_text.specs.Image.{Image}
use Rattle.insn_decode.specs.Code.{insn_of, length_of}
use Rattle.insn_decode.specs.declared.insn.Insn.{Insn}
use Rattle.insn_decode.specs.declared.insn.Insn.TheVariants.{Reti}
use Rattle.run_laws.specs.Frames.{rest_of}
use Rattle.mod_layout.specs.First.{first_in}
use Rattle.mod_layout.specs.Table.{place_of}
use Rattle.mod_layout.specs.declared.Module.{Module}
use Rattle.mod_layout.specs.declared.Place.{Place}
use Rattle.mod_layout.specs.declared.Place.TheVariants.{Entry}
use Rattle.pc_access.specs.Rights.{right}
use Rattle.pc_access.specs.declared.Denied.{Denied}
use Rattle.pc_access.specs.declared.Rule.{Rule}
use Rattle.pc_access.specs.declared.Rule.TheVariants.{Illegal, Straddle, RetiInside}
use Rattle.pc_access.specs.declared.Stop.{Stop}
use Rattle.reg_backup.specs.Held.{held_ids}
use Rattle.reg_backup.specs.declared.backup.After.{After}
use Rattle.reg_backup.specs.declared.backup.After.TheVariants.{Next, Handler, Resume, Close}
use Rattle.reg_backup.specs.declared.backup.Backup.{Backup}
use Rattle.reg_backup.specs.declared.backup.Phase.{Phase}
use Rattle.reg_backup.specs.declared.backup.Phase.TheVariants.{Run, Pad}
use Rattle.reg_backup.specs.declared.frames.Frame.{Frame}
use Rattle.reg_backup.specs.declared.frames.Frame.TheVariants.{Module as Held}
use Rattle.schedule_file.specs.declared.Entry.{Entry as Scheduled}
use Rattle.sm_words.specs.Words.{word_at}
use Rattle.tracer.specs.declared.Event.{Event}
use Rattle.tracer.specs.declared.Event.TheVariants.{Enter as Entered}
use Rattle.written_machine.proofs.Stops.{cycle_by}
use Rattle.written_machine.specs.Cycle.{Step, Settled, quiet, told, stopped, denied, unsettled, pc_of, byte_of, in_text, resume_from, close_of, leave_if, settle_by, settle_in, settle, ticked, due, arrive_outside, push_both, pushes, who_of, perform, attempt, returned_by, reti_by, act_on, act_home, act_first, act, is_home, enter_at, enter, fetch, begin, padded, turn, sent_event, counted_by, move, unless, arrive_inside}
use Rattle.written_machine.specs.Passing.{asleep}
use Rattle.written_machine.specs.State.{State}
use Rattle.written_machine.specs.View.{at, boot}
use Rattle.irq_padding.specs.declared.TheConstants.{RESUMPTION}
use Rattle.cpu_step.specs.Plan.{past}
use Rattle.run_laws.proofs.Cases.{turn_at, turn_unless, turn_is, interrupted}

module _ (s : State) (P : Step → Type 0) where
  unless_ways : (insn : Insn) (d : Option Denied) → first_in (right s.table s.active (held_ids s.frames)) (asks (who_of s) insn s.core) ≡ d → ((d : Denied) → P (denied d s))
      → (first_in (right s.table s.active (held_ids s.frames)) (asks (who_of s) insn s.core) ≡ None → P (perform insn s)) → P (unless d s (perform insn s))
  unless_ways insn (Some d) e refused done = refused d
  unless_ways insn None e refused done = done e

  -- an instruction that is refused an access, or done
  pub attempt_ways : (insn : Insn) → ((d : Denied) → P (denied d s)) → (first_in (right s.table s.active (held_ids s.frames)) (asks (who_of s) insn s.core) ≡ None → P (perform insn s)) → P (attempt insn s)
  unfolding attempt
  attempt_ways insn refused done = unless_ways insn (first_in (right s.table s.active (held_ids s.frames)) (asks (who_of s) insn s.core)) refl refused done

  -- what is at PC, with what a return gives
  module _ (stops : (rule : Rule) → P (stopped rule (pc_of s) 0 s)) (returns : P (reti_by s.active s.frames s)) (attempts : (insn : Insn) → P (attempt insn s)) where
    by_insn : (insn : Insn) → P (act_on (Some insn) s)
    by_insn Reti = returns
    by_insn insn = attempts insn

    by_found : (o : Option Insn) → P (act_on o s)
    by_found None = stops Illegal
    by_found (Some insn) = by_insn insn

    by_home : (b : Bool) (n : ℕ) → P (act_home b n s)
    by_home false n = stops Straddle
    by_home true n = by_found (insn_at (byte_of s) (pc_of s) n)

    by_first : (o : Option Insn) → P (act_first o s)
    by_first None = stops Illegal
    by_first (Some first) = by_home (is_home s.table s.active (pc_of s) (length_of first)) (length_of first)

    pub act_with : P (act s)
    unfolding act
    act_with = by_first (insn_of (word_at (byte_of s) (pc_of s)) 0 0)

  -- what is at PC: a stop, a return to a module, another return, or another instruction
  module _ (stops : (rule : Rule) → P (stopped rule (pc_of s) 0 s)) (resumes : (b : Backup) (fs : List Frame) → s.active ≡ None → P (reti_by None (Held b ∷ fs) s))
      (returns : P (let t = attempt Reti s in returned_by t.state.stop t)) (attempts : (insn : Insn) → P (attempt insn s)) where
    by_frames : (fs : List Frame) → s.active ≡ None → P (reti_by None fs s)
    by_frames (Held b ∷ fs) e = resumes b fs e
    by_frames _ e = returns

    by_active : (a : Option ℕ) → s.active ≡ a → P (reti_by a s.frames s)
    by_active (Some id) e = stops RetiInside
    by_active None e = by_frames s.frames e

    pub act_ways : P (act s)
    act_ways = act_with stops (by_active s.active refl) attempts

  -- an entry, or none
  pub enter_ways : (left : ℕ) → P (quiet s) → ((id : ℕ) → place_of s.table (pc_of s) ≡ Entry id → s.active ≡ None → P (enter_at (Entry id) None left s)) → P (enter left s)
  unfolding enter
  enter_ways left stays enters = by (place_of s.table (pc_of s)) s.active refl refl
    where
      by : (p : Place) (a : Option ℕ) → place_of s.table (pc_of s) ≡ p → s.active ≡ a → P (enter_at p a left s)
      by (Entry id) None e f = enters id e f
      by _ _ e f = stays

  -- a fetch that is refused, or the instruction
  pub begin_ways : (left : ℕ) → ((d : Denied) → P (denied d s)) → (right s.table s.active (held_ids s.frames) (fetch s) ≡ None → P (told (enter left s).events (act (enter left s).state))) → P (begin left s)
  unfolding begin
  begin_ways left refused begins = by (right s.table s.active (held_ids s.frames) (fetch s)) refl
    where
      by : (d : Option Denied) → right s.table s.active (held_ids s.frames) (fetch s) ≡ d → P (unless d s (let e = enter left s in told e.events (act e.state)))
      by (Some d) e = refused d
      by None e = begins e

  -- pushes that are refused, or done
  pub outside_ways : (v : ℕ) → ((d : Denied) → P (denied d s)) →
      (first_in (right s.table None (held_ids s.frames)) (pushes s) ≡ None → P (push_both v s)) → P (arrive_outside v s)
  unfolding arrive_outside
  outside_ways v refused pushed = by (first_in (right s.table None (held_ids s.frames)) (pushes s)) refl
    where
      by : (d : Option Denied) → first_in (right s.table None (held_ids s.frames)) (pushes s) ≡ d → P (unless d s (push_both v s))
      by (Some d) e = refused d
      by None e = pushed e

  -- a settled cycle
  module _ (left : ℕ) (pads : (n : ℕ) → s.phase ≡ Pad n → P (quiet (padded (n - 1) s))) (waits : (r : ℕ) → P (quiet (record s { phase = Run r }))) (sleeps : P (quiet s)) (begins : P (begin left s))
      (inside : (v id : ℕ) → due s ≡ Some v → s.active ≡ Some id → P (interrupted v id s)) (outside : (v : ℕ) → due s ≡ Some v → P (arrive_outside v s)) where
    by_asleep : (x : Bool) → P (turn_unless x left s)
    by_asleep true = sleeps
    by_asleep false = begins

    by_case : (d o : Option ℕ) (p : Phase) → due s ≡ d → s.active ≡ o → s.phase ≡ p → P (turn_at d o p left s)
    by_case d o (Pad n) e a f = pads n f
    by_case (Some v) (Some id) (Run r) e a f = subst (λ rest. P (arrive_inside v id rest s)) (ap rest_of f) (inside v id e a)
    by_case (Some v) None (Run zero) e a f = outside v e
    by_case None None (Run (suc r)) e a f = waits r
    by_case None None (Run zero) e a f = by_asleep (asleep s)
    by_case None (Some id) (Run zero) e a f = begins
    by_case _ _ (Run (suc r)) e a f = waits r

    pub turn_ways : P (turn left s)
    turn_ways = subst P (sym (turn_is left s)) (by_case (due s) s.active s.phase refl refl refl)

-- what is settled: nothing, a resumption, a closing, a handler, or that a module is left
abbrev pub or_unsettled : Option Settled → State → Settled
or_unsettled u s = unwrap_or u (unsettled s)

module _ (s : State) (P : Settled → Type 0) (stays : P (unsettled s)) (resumes : (b : Backup) (fs : List Frame) → s.frames ≡ Held b ∷ fs → P (or_unsettled (resume_from (Held b ∷ fs) s) s))
    (closes : (id : ℕ) (x : Module) → s.active ≡ Some id → own_of (Some id) s.table ≡ Some x → P (or_unsettled (close_of (Some id) (Some x) s) s))
    (handles : s.after ≡ Handler → P (or_unsettled (settle_by Handler s) s)) (leaves : (id : ℕ) → s.active ≡ Some id → P (or_unsettled (leave_if false (Some id) s) s)) where
  resumed : (fs : List Frame) → s.frames ≡ fs → P (or_unsettled (resume_from fs s) s)
  resumed (Held b ∷ fs) e = resumes b fs e
  resumed _ e = stays

  closed : (a : Option ℕ) (o : Option Module) → s.active ≡ a → own_of a s.table ≡ o → P (or_unsettled (close_of a o s) s)
  closed (Some id) (Some x) e f = closes id x e f
  closed _ _ e f = stays

  left_out : (b : Bool) (a : Option ℕ) → s.active ≡ a → P (or_unsettled (leave_if b a s) s)
  left_out false (Some id) e = leaves id e
  left_out _ _ e = stays

  by_after : (a : After) → s.after ≡ a → P (or_unsettled (settle_by a s) s)
  by_after Resume e = resumed s.frames refl
  by_after Close e = closed s.active (own_of s.active s.table) refl refl
  by_after Handler e = handles e
  by_after Next e = left_out (in_text (own_of s.active s.table) (pc_of s)) s.active refl

  by_phase : (p : Phase) → P (or_unsettled (settle_in p s) s)
  by_phase (Run zero) = by_after s.after refl
  by_phase _ = stays

  pub settle_ways : P (settle s)
  unfolding settle
  settle_ways = by_phase s.phase

-- ---- what holds of each way from any state

-- of an instruction: a stop, its accesses and changes, a return that takes off a frame, and one to a module
pub record EachAct (A : State → Step → Type 0) : Type 0 where
  pub stops : (rule : Rule) (addr id : ℕ) (s : State) → A s (stopped rule addr id s)
  pub performs : (insn : Insn) (s : State) → A s (perform insn s)
  pub returns : (s : State) → A s (perform Reti s) → A s (returned_by None (perform Reti s))
  pub resumes : (s : State) → s.active ≡ None → A s (quiet (record s { core = past Reti s.core; phase = Run RESUMPTION; after = Resume }))

-- what it tells: that a module is protected, or nothing
pub perform_tells : (P : List Event → Type 0) → P [] → ((n : ℕ) → P (Event.Protect n ∷ [])) → (insn : Insn) (s : State) → P (perform insn s).events
unfolding perform
perform_tells P none made insn s = by _ (table_after s.table insn s.core).given
  where
    by : (c : Bool) (n : ℕ) → P (cond c [] (Event.Protect n ∷ []))
    by true n = none
    by false n = made n

-- of the byte sent in a cycle
pub sent_tells : (P : List Event → Type 0) → P [] → ((b : ℕ) → P (Event.Out b ∷ [])) → (o : Option ℕ) → P (sent_event o)
sent_tells P none sent None = none
sent_tells P none sent (Some b) = sent b

-- what neither settling tells nor a sent byte, the turn tells
pub turn_tells : (P : List Event → Type 0) → ((xs ys : List Event) → P (xs ++ ys) → P xs ⊎ P ys) → ((o : Option ℕ) → P (sent_event o) → ⊥) →
    (o : Option Stop) (es : List Event) (t : Step) → (P es → ⊥) → P (counted_by o (told es t)).events → P t.events
turn_tells P split sent (Some stop) es t n h = ⊎_elim (λ x. absurd (n x)) (λ x. x) (split es t.events h)
turn_tells P split sent None es t n h =
    ⊎_elim (λ y. ⊎_elim (λ x. absurd (n x)) (λ x. x) (split es t.events y)) (λ x. absurd (sent t.state.devices.sent x)) (split (es ++ t.events) (sent_event t.state.devices.sent) h)

-- of a turn, by what holds of its instruction: also where it enters a module
pub record EachTurn (A P : State → Step → Type 0) : Type 0 where
  pub refuses : (d : Denied) (s : State) → P s (denied d s)
  pub acts : (s : State) → A s (act s) → P s (act s)
  pub enters : (left id : ℕ) (s : State) → right s.table s.active (held_ids s.frames) (fetch s) ≡ None →
      place_of s.table (pc_of s) ≡ Entry id → s.active ≡ None →
      (let e : State = record s { active = Some id; caller = left; after = Next } in A e (act e) → P s (told (Entered id left ∷ []) (act e)))
  pub pads : (n : ℕ) (s : State) → s.phase ≡ Pad n → P s (quiet (padded (n - 1) s))
  pub waits : (r : ℕ) (s : State) → P s (quiet (record s { phase = Run r }))
  pub sleeps : (s : State) → P s (quiet s)
  pub inside : (v id : ℕ) (s : State) → due s ≡ Some v → s.active ≡ Some id → P s (interrupted v id s)
  pub pushes : (v : ℕ) (s : State) → due s ≡ Some v → P s (push_both v s)

module _ (A : State → Step → Type 0) (each : EachAct A) where
  each_attempt : (insn : Insn) (s : State) → A s (attempt insn s)
  each_attempt insn s = attempt_ways s (A s) insn (λ d. each.stops d.rule d.addr d.module s) (λ e. each.performs insn s)

  each_return : (s : State) → A s (let t = attempt Reti s in returned_by t.state.stop t)
  each_return s = attempt_ways s (λ t. A s (returned_by t.state.stop t)) Reti
      (λ d. each.stops d.rule d.addr d.module s) (λ e. by (perform Reti s).state.stop)
    where
      by : (o : Option Stop) → A s (returned_by o (perform Reti s))
      by (Some stop) = each.performs Reti s
      by None = each.returns s (each.performs Reti s)

  pub each_act : (s : State) → A s (act s)
  each_act s = act_ways s (A s) (λ rule. each.stops rule (pc_of s) 0 s) (λ b fs e. each.resumes s e) (each_return s) (λ insn. each_attempt insn s)

  pub each_turn : (P : State → Step → Type 0) → EachTurn A P → (left : ℕ) (s : State) → P s (turn left s)
  each_turn P turns left s =
      turn_ways s (P s) left (λ n p. turns.pads n s p) (λ r. turns.waits r s) (turns.sleeps s) begins (λ v id d a. turns.inside v id s d a)
      (λ v d. outside_ways s (P s) v (λ r. turns.refuses r s) (λ e. turns.pushes v s d))
    where
      begins : P s (begin left s)
      begins =
          begin_ways s (P s) left (λ d. turns.refuses d s)
          (λ free. enter_ways s (λ e. P s (told e.events (act e.state))) left (turns.acts s (each_act s))
          (λ id p a. turns.enters left id s free p a (each_act _)))

-- of states: what each way keeps, every cycle keeps
pub record Lasting (I : State → Type 0) : Type 0 where
  pub rests : (s : State) (d : Devices) (n : ℕ) (p : Phase) (o : Option Stop) → I s → I (record s { devices = d; cycle = n; phase = p; stop = o })
  pub performs : (insn : Insn) (s : State) → I s → I (perform insn s).state
  pub returns : (s : State) → I s → I (record s { frames = drop 1 s.frames })
  pub resumes : (s : State) → s.active ≡ None → I s → I (record s { core = past Reti s.core; phase = Run RESUMPTION; after = Resume })
  pub enters : (left id : ℕ) (s : State) → right s.table s.active (held_ids s.frames) (fetch s) ≡ None →
      place_of s.table (pc_of s) ≡ Entry id → s.active ≡ None →
      I s → I (record s { active = Some id; caller = left; after = Next })
  pub pads : (n : ℕ) (s : State) → I s → I (padded n s)
  pub inside : (v id : ℕ) (s : State) → due s ≡ Some v → s.active ≡ Some id → I s → I (interrupted v id s).state
  pub pushes : (v : ℕ) (s : State) → due s ≡ Some v → I s → I (push_both v s).state
  pub settles : (s : State) → I s → I (settle s).state

-- a cycle's last step changes the number alone
pub counted_holds : (P : State → Type 0) → ((s : State) (n : ℕ) → P s → P (record s { cycle = n })) →
    (o : Option Stop) (t : Step) → P t.state → P (counted_by o t).state
counted_holds P keep (Some stop) t h = h
counted_holds P keep None t h = keep t.state (t.state.cycle + 1) h

module _ (I : State → Type 0) (l : Lasting I) where
  abbrev Keeps : State → Step → Type 0
  Keeps s t = I s → I t.state

  acts_last : EachAct Keeps
  acts_last = record {
    stops = λ rule addr id s h. l.rests s s.devices s.cycle s.phase _ h;
    performs = l.performs;
    returns = λ s k h. l.returns (perform Reti s).state (k h);
    resumes = l.resumes;
  }

  turns_last : EachTurn Keeps Keeps
  turns_last = record {
    refuses = λ d s h. l.rests s s.devices s.cycle s.phase _ h;
    acts = λ s k. k;
    enters = λ left id s free p a k h. k (l.enters left id s free p a h);
    pads = λ n s p. l.pads (n - 1) s;
    waits = λ r s h. l.rests s s.devices s.cycle (Run r) s.stop h;
    sleeps = λ s h. h;
    inside = l.inside;
    pushes = l.pushes;
  }

  move_lasts : (s : State) → I s → I (move s).state
  unfolding move ticked
  move_lasts s h =
      let u = settle (ticked s) in
      let t = turn u.left u.state in
      counted_holds I (λ s n g. l.rests s s.devices n s.phase s.stop g) t.state.stop (told u.events t)
      (each_turn Keeps acts_last Keeps turns_last u.left u.state (l.settles (ticked s) (l.rests s _ s.cycle s.phase s.stop h)))

  cycle_lasts : (o : Option Stop) (s : State) → I s → I (cycle_by o s).state
  cycle_lasts (Some stop) s h = h
  cycle_lasts None s h = move_lasts s h

  pub always : (a : Image) (schedule : List Scheduled) (k : ℕ) → I (boot a schedule) → I (at a schedule k)
  always a schedule zero h = h
  always a schedule (suc k) h = cycle_lasts (at a schedule k).stop (at a schedule k) (always a schedule k h)
