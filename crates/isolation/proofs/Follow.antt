-- One run alone: whatever interrupts it, a module that is active or held stands where it stands by itself.
use Rattle.std.proofs.Common.{◌≡◌, ◌≢◌, ℕ, ◌+◌, List, [], ◌∷◌, ◌++◌, refl, sym, ap, ◌∙◌, subst, Bool, true, false, ◌&&◌, Option, Some, None, is_none, zero, suc, ◌<◌, arith, cond, nat_lt}
use Rattle.cpu_step.specs.Lone.{Job, Lone, Doing, Closes, Leaves, Breaks, doing, lone_step_by, lone_step, job_of, CallEnd, Exit, Closing, Broken, Running, later, Waits, Does, lone_does, lone_after, in_time, outcome, next_insn, doing_by}
use Rattle.image_text.specs.Image.{Image, IsImage}
use Rattle.insn_decode.specs.declared.insn.Insn.{Insn}
use Rattle.isolation.specs.Calls.{entry_state, entry_job, entry_lone, works, worked, NotBroken, Stands, backup_of, run_by}
use Rattle.run_laws.specs.Events.{NoEnd, Enters}
use Rattle.mod_layout.specs.Table.{place_of, module_of}
use Rattle.mod_layout.specs.declared.Module.{Module}
use Rattle.mod_layout.specs.declared.Place.TheVariants.{Entry}
use Rattle.pc_access.specs.Rights.{is_id, is_held}
use Rattle.pc_access.specs.declared.Stop.{Stop}
use Rattle.reg_backup.specs.Held.{held_ids}
use Rattle.reg_backup.specs.declared.backup.Backup.{Backup}
use Rattle.schedule_file.specs.declared.Entry.{Entry as Scheduled}
use Rattle.sm_words.specs.Sums.{one_if}
use Rattle.sm_words.specs.Words.{IsCore}
use Rattle.tracer.specs.declared.Event.{Event}
use Rattle.written_machine.proofs.Stops.{cycle_by}
use Rattle.written_machine.specs.Cycle.{Step, told, due, ticked, settle, turn, counted_by, move, pc_of, act, cycle, after_cycles}
use Rattle.written_machine.specs.Peers.{section}
use Rattle.written_machine.specs.State.{State}
use Rattle.written_machine.specs.View.{at}
use Rattle.run_laws.proofs.Tame.{settled_key, key_at, move_later}
use Rattle.isolation.proofs.Active.{active_some, moved, moved_run, moved_keeps, turn_moves, arrives_at}
use Rattle.isolation.proofs.Ending.{settled_as, settled_doing}
use Rattle.run_laws.proofs.Fine.{Fine, settled_fine, fine_at}
use Rattle.isolation.proofs.Inside.{Moves}
use Rattle.run_laws.proofs.Rights.{own_id}
use Rattle.isolation.proofs.Relation.{find_held, backup_of, run_by, run_of, lone_of, IsOpen, Keeps, Stays}
use Rattle.isolation.proofs.Settled.{settle_stays, passing_stays, ticked_stays, arrive_inside_stays}
use Rattle.isolation.proofs.Turns.{held_turn, at_entry, entered, entered_keeps, entered_moves, start, start_doing}
use Rattle.run_laws.proofs.Frames.{times_none, entry_free}
use Rattle.run_laws.proofs.Ways.{counted_holds}
use Rattle.cpu_step.proofs.LoneLemmas.{after_step}
use Rattle.isolation.proofs.EvenBy.{cut, outcome_cut}
use Rattle.isolation.proofs.Entering.{Enters_now, cycle_entering}
use Rattle.run_laws.proofs.Tables.{sound_from}
use Rattle.run_laws.proofs.Cases.{interrupted}

pub works_is : (m : ℕ) (o : Option Stop) (s : State) → s.stop ≡ o → works m s ≡ (let u = settle (ticked s) in is_none o && is_id m u.state.active && is_none (due u.state))
works_is m o s e = ap (λ x. is_none x && is_id m (settle (ticked s)).state.active && is_none (due (settle (ticked s)).state)) e

module _ (m : ℕ) (own : Module) (key text : List ℕ) (from : ℕ) where
  abbrev pub job : Job
  job = job_of key own text from

  -- the module's run in the machine is this state of it by itself
  pub record Follows (s : State) (la : Lone) : Type 0 where
    pub keeps : Keeps m own key text s
    pub backup : Backup
    pub run : run_of m s ≡ Some backup
    pub lone : lone_of backup (section own.ram s.memory) ≡ la
    pub caller : backup.caller ≡ from
    pub opened : is_id m s.active ≡ false → IsOpen (doing job la)

  -- once it is settled
  pub record Now (s : State) (la : Lone) : Type 0 where
    pub follows : Follows s la
    pub now : IsOpen (doing job la)

  pub follow_stays : (s t : State) (la : Lone) → Follows s la → Stays m own key text s t → (is_id m t.active ≡ false → IsOpen (doing job la)) → Follows t la
  follow_stays s t la f st o =
      record { keeps = st.keeps; backup = f.backup; run = st.run ∙ f.run; lone = ap (lone_of f.backup) st.bytes ∙ f.lone; caller = f.caller; opened = o }

  pub ticked_follows : (s : State) (la : Lone) → Follows s la → Follows (ticked s) la
  unfolding ticked
  ticked_follows s la f = follow_stays s (ticked s) la f (ticked_stays m own key text s f.keeps) f.opened

  -- what it is while it is active
  active_backup : (s : State) (la : Lone) (f : Follows s la) → is_id m s.active ≡ true → backup_of m s ≡ f.backup
  active_backup s la f act = let e : Some (backup_of m s) ≡ Some f.backup = sym (ap (λ c. run_by c m s) act) ∙ f.run in cc

  active_lone : (s : State) (la : Lone) → Follows s la → is_id m s.active ≡ true → lone_of (backup_of m s) (section own.ram s.memory) ≡ la
  active_lone s la f act = ap (λ r. lone_of r (section own.ram s.memory)) (active_backup s la f act) ∙ f.lone

  active_job : (s : State) (la : Lone) → Follows s la → is_id m s.active ≡ true → job_of key own text s.caller ≡ job
  active_job s la f act = ap (job_of key own text) (ap (λ r. r.caller) (active_backup s la f act) ∙ f.caller)

  pub active_doing : (s : State) (la : Lone) → Follows s la → is_id m s.active ≡ true → doing (job_of key own text s.caller) (lone_of (backup_of m s) (section own.ram s.memory)) ≡ doing job la
  active_doing s la f act = ap (λ j. doing j (lone_of (backup_of m s) (section own.ram s.memory))) (active_job s la f act) ∙ ap (doing job) (active_lone s la f act)

  -- ---- settling
  settled_by : (x : Doing) (s : State) (la : Lone) → Follows s la → doing job la ≡ x → NoEnd m (settled_as m own key text x s).events → Now (settled_as m own key text x s).state la
  settled_by Closes s la f e n = absurd (n.0 refl)
  settled_by Leaves s la f e n = absurd (n.0 refl)
  settled_by _ s la f e n = record { follows = f; now = subst IsOpen (sym e) tt }

  pub settle_follows : (c : Bool) (s : State) (la : Lone) → Follows s la → is_id m s.active ≡ c → NoEnd m (settle s).events → Now (settle s).state la
  settle_follows false s la f e n =
      let st = settle_stays m own key text s f.keeps e in
      let o = f.opened e in record { follows = follow_stays s (settle s).state la f st (λ h. o); now = o }
  settle_follows true s la f e n =
      let d = settled_doing m own key text s f.keeps e in
      let x = doing (job_of key own text s.caller) (lone_of (backup_of m s) (section own.ram s.memory)) in
      let n' = subst (λ u. NoEnd m u.events) d n in
      subst (λ u. Now u.state la) (sym d) (settled_by x s la f (sym (active_doing s la f e)) n')

  -- ---- a turn
  abbrev pub stepped : Bool → Lone → Lone
  stepped b la = cond b (lone_step job la) la

  pub moved_follows : (s : State) (la l' : Lone) (u : Step) → Follows s la → is_id m s.active ≡ true → Moves own s l' u → Follows u.state l'
  moved_follows s la l' u f act v =
      let t = moved s l' v.memory in
      let r : Backup = record { «module» = m; caller = s.caller; core = l'.core; rest = l'.rest; closing = l'.closing } in
      let g : Follows t l' = record {
        keeps = moved_keeps m own key text s l' v.memory f.keeps v.text;
        backup = r;
        run = moved_run m s l' v.memory act;
        lone = ap (λ d. lone_of r d) v.bytes;
        caller = ap (λ q. q.caller) (active_backup s la f act) ∙ f.caller;
        opened = λ h. absurd (let c : true ≡ false = sym act ∙ h in cc);
      } in
      subst (λ w. Follows w.state l') (sym v.is) g

  step_same : (x : Doing) (s : State) (la : Lone) → Follows s la → is_id m s.active ≡ true → doing job la ≡ x → lone_step_by x (job_of key own text s.caller) (lone_of (backup_of m s) (section own.ram s.memory)) ≡ lone_step job la
  step_same x s la f act e =
      ap (λ j. lone_step_by x j (lone_of (backup_of m s) (section own.ram s.memory))) (active_job s la f act) ∙ ap (lone_step_by x job) (active_lone s la f act) ∙ ap (λ d. lone_step_by d job la) (sym e)

  -- its turn, where nothing arrives
  pub own_step : (left : ℕ) (x : Doing) (s : State) (la : Lone) → Now s la → is_id m s.active ≡ true → IsCore s.core → due s ≡ None → doing job la ≡ x → x ≢ Breaks → Moves own s (lone_step job la) (turn left s)
  own_step left Closes s la f act ok d e nb = absurd (subst IsOpen e f.now)
  own_step left Leaves s la f act ok d e nb = absurd (subst IsOpen e f.now)
  own_step left Breaks s la f act ok d e nb = absurd (nb refl)
  own_step left x s la f act ok d e nb =
      subst (λ l. Moves own s l (turn left s)) (step_same x s la f.follows act e)
      (turn_moves m own key text s f.follows.keeps (active_some m s.active act) left x ok d (active_doing s la f.follows act ∙ e) tt).0

  turn_active : (left : ℕ) (d : Option ℕ) (s : State) (la : Lone) → Now s la → is_id m s.active ≡ true → IsCore s.core → due s ≡ d → (is_none d ≡ true → doing job la ≢ Breaks) → Follows (turn left s).state (stepped (is_none d) la)
  turn_active left None s la f act ok e nb = moved_follows s la (lone_step job la) (turn left s) f.follows act (own_step left (doing job la) s la f act ok e refl (nb refl))
  turn_active left (Some v) s la f act ok e nb =
      let a = active_some m s.active act in
      let st = arrive_inside_stays m own key text v m s f.follows.keeps a in
      let o = f.now in
      subst (λ u. Follows u.state la) (sym (arrives_at m v left s a (f.follows.keeps.proper act).0 e)) (follow_stays s (interrupted v m s).state la f.follows st (λ h. o))

  turn_follows : (left : ℕ) (c : Bool) (s : State) (la : Lone) → Now s la → is_id m s.active ≡ c → IsCore s.core → ((c && is_none (due s)) ≡ true → doing job la ≢ Breaks) → Follows (turn left s).state (stepped (c && is_none (due s)) la)
  turn_follows left true s la f e ok nb = turn_active left (due s) s la f e ok refl nb
  turn_follows left false s la f e ok nb =
      let held : find_held m s.frames ≡ Some f.follows.backup = ap (λ c. run_by c m s) (sym e) ∙ f.follows.run in
      let st = (held_turn m own key text s f.follows.keeps e ok f.follows.backup held left).0 in
      let o = f.now in follow_stays s (turn left s).state la f.follows st (λ h. o)

  -- ---- a cycle
  no_end_front : (es fs : List Event) → NoEnd m (es ++ fs) → NoEnd m es
  no_end_front [] fs n = tt
  no_end_front (Event.Leave id pc ∷ es) fs n = (n.0, no_end_front es fs n.1)
  no_end_front (Event.Close id ∷ es) fs n = (n.0, no_end_front es fs n.1)
  no_end_front (_ ∷ es) fs n = no_end_front es fs n

  pub counted_follows : (o : Option Stop) (t : Step) (la : Lone) → Follows t.state la → Follows (counted_by o t).state la
  counted_follows o t la f =
      counted_holds (λ u. Follows u la) (λ s n g. follow_stays s (record s { cycle = n }) la g (passing_stays m own key text s s.devices n g.keeps) g.opened) o t f

  pub settled_no_end : (s : State) → NoEnd m (move s).events → NoEnd m (settle (ticked s)).events
  settled_no_end s n = let l = move_later s in no_end_front (settle (ticked s)).events l.rest (subst (NoEnd m) l.is n)

  move_follows : (s : State) (la : Lone) → Follows s la → Fine s → NoEnd m (move s).events → ((is_id m (settle (ticked s)).state.active && is_none (due (settle (ticked s)).state)) ≡ true → doing job la ≢ Breaks) → Follows (move s).state (stepped (is_id m (settle (ticked s)).state.active && is_none (due (settle (ticked s)).state)) la)
  unfolding move
  move_follows s la f fine n nb =
      let t = ticked s in
      let u = settle t in
      let v = turn u.left u.state in
      let g = ticked_follows s la f in
      let w = settle_follows (is_id m t.active) t la g refl (settled_no_end s n) in
      counted_follows v.state.stop (told u.events v) (stepped (is_id m u.state.active && is_none (due u.state)) la)
      (turn_follows u.left (is_id m u.state.active) u.state la w refl (settled_fine s fine).fine.core_ok nb)

  pub cycle_follows : (o : Option Stop) (s : State) (la : Lone) → s.stop ≡ o → Follows s la → Fine s → NoEnd m (cycle_by o s).events → (works m s ≡ true → doing job la ≢ Breaks) → Follows (cycle_by o s).state (stepped (works m s) la)
  cycle_follows (Some stop) s la e f fine n nb =
      subst (λ c. Follows s (stepped c la)) (sym (works_is m (Some stop) s e)) f
  cycle_follows None s la e f fine n nb =
      let w = works_is m None s e in
      subst (λ c. Follows (move s).state (stepped c la)) (sym w) (move_follows s la f fine n (λ h. nb (w ∙ h)))

module _ (j : Job) where
  not_later : (o : CallEnd) → NotBroken (later o) → NotBroken o
  not_later (Broken d k) h = h
  not_later _ h = tt

  unbroken_if : (b : Bool) (o : CallEnd) → NotBroken o → NotBroken (cond b o Running)
  unbroken_if true o h = h
  unbroken_if false o h = tt

  cut_unbroken : (n : ℕ) (o : CallEnd) → NotBroken o → NotBroken (cut n o)
  cut_unbroken n (Exit c d k) h = unbroken_if (nat_lt k (suc n)) (Exit c d k) h
  cut_unbroken n (Closing c d k) h = unbroken_if (nat_lt k (suc n)) (Closing c d k) h
  cut_unbroken n (Broken d k) h = absurd h
  cut_unbroken n Running h = tt

  -- an outcome that is not broken in time was not broken earlier
  not_sooner : (c : ℕ) (l : Lone) → NotBroken (outcome j (suc c) l) → NotBroken (outcome j c l)
  not_sooner c l h = subst NotBroken (sym (outcome_cut j c (suc c) l (omega arith))) (cut_unbroken c (outcome j (suc c) l) h)

  -- nor is the rest of it
  rest_unbroken : (x : Doing) (c : ℕ) (l : Lone) → NotBroken (in_time x (outcome j c) j l) → NotBroken (outcome j c l) → NotBroken (outcome j c (lone_step_by x j l))
  rest_unbroken (Waits r) c l h g = not_later (outcome j c (record l { rest = r })) h
  rest_unbroken (Does i) c l h g = not_later (outcome j c (lone_does j i l)) h
  rest_unbroken _ c l h g = g

  pub never_breaks : (c : ℕ) (l : Lone) (i : ℕ) → i < c → NotBroken (outcome j c l) → doing j (lone_after j l i) ≢ Breaks
  never_breaks zero l i lt h = absurd (omega arith)
  never_breaks (suc c) l zero lt h = λ b. subst (λ d. NotBroken (in_time d (outcome j c) j l)) b h
  never_breaks (suc c) l (suc i) lt h =
      λ b. never_breaks c (lone_step j l) i (omega arith) (rest_unbroken (doing j l) c l h (not_sooner c l h)) (ap (doing j) (after_step j l i) ∙ b)

module _ (m : ℕ) (own : Module) (key text : List ℕ) (from : ℕ) (s : State) (l0 : Lone) (c0 : ℕ) where
  -- c0 cycles were done before; n more cycles of the machine pass
  pub more_by : (b : Bool) (c k : ℕ) → k ≡ c + cond b 1 0 → NotBroken (outcome (job m own key text from) k l0) → NotBroken (outcome (job m own key text from) c l0)
  more_by false c k e h = subst (λ i. NotBroken (outcome (job m own key text from) i l0)) (let z : k ≡ c = omega arith in z) h
  more_by true c k e h = not_sooner (job m own key text from) c l0 (subst (λ i. NotBroken (outcome (job m own key text from) i l0)) (let z : k ≡ suc c = omega arith in z) h)

  step_by : (b : Bool) (c : ℕ) (t : State) → Follows m own key text from t (cond b (lone_step (job m own key text from) (lone_after (job m own key text from) l0 c)) (lone_after (job m own key text from) l0 c)) → Follows m own key text from t (lone_after (job m own key text from) l0 (c + cond b 1 0))
  step_by false c t f = subst (λ k. Follows m own key text from t (lone_after (job m own key text from) l0 k)) (let e : c ≡ c + 0 = omega arith in e) f
  step_by true c t f = subst (λ k. Follows m own key text from t (lone_after (job m own key text from) l0 k)) (let e : suc c ≡ c + 1 = omega arith in e) f

  pub follows_on : (n : ℕ) → Follows m own key text from s (lone_after (job m own key text from) l0 c0) → ((i : ℕ) → i < n → Fine (after_cycles s i)) → ((i : ℕ) → i < n → NoEnd m (cycle (after_cycles s i)).events) → NotBroken (outcome (job m own key text from) (c0 + worked m s n) l0) →
      Follows m own key text from (after_cycles s n) (lone_after (job m own key text from) l0 (c0 + worked m s n))
  follows_on zero f fine ends h = subst (λ k. Follows m own key text from s (lone_after (job m own key text from) l0 k)) (let e : c0 ≡ c0 + 0 = omega arith in e) f
  follows_on (suc n) f fine ends h =
      let t = after_cycles s n in
      let c = c0 + worked m s n in
      let b = works m t in
      let assoc : c0 + (worked m s n + cond b 1 0) ≡ c + cond b 1 0 = omega arith in
      let h' = subst (λ k. NotBroken (outcome (job m own key text from) k l0)) assoc h in
      let g = follows_on n f (λ i lt. fine i (omega arith)) (λ i lt. ends i (omega arith)) (more_by b c (c + cond b 1 0) refl h') in
      let r = cycle_follows m own key text from t.stop t (lone_after (job m own key text from) l0 c) refl g (fine n (omega arith)) (ends n (omega arith)) (λ e. never_breaks (job m own key text from) (c + cond b 1 0) l0 c (let one : c < c + 1 = omega arith in subst (λ x. c < c + cond x 1 0) (sym e) one) h') in
      subst (λ k. Follows m own key text from (after_cycles s (suc n)) (lone_after (job m own key text from) l0 k)) (sym assoc) (step_by b c (after_cycles s (suc n)) r)

module _ (m : ℕ) (own : Module) (key text : List ℕ) (from : ℕ) where
  begun_follows : (s : State) → Keeps m own key text s → is_held m (held_ids s.frames) ≡ false → Follows m own key text from (entered m own key text from s) (start m own key text from s)
  unfolding entered start
  begun_follows s k free =
      let t = entered m own key text from s in
      record {
        keeps = entered_keeps m own key text from s k free;
        backup = backup_of m t;
        run = ap (λ c. run_by c m t) (own_id m);
        lone = refl;
        caller = refl;
        opened = λ h. absurd (let c : true ≡ false = sym (own_id m) ∙ h in cc);
      }

  is_entered : (s : State) → is_id m (entered m own key text from s).active ≡ true
  unfolding entered
  is_entered s = own_id m

  -- the first instruction of a call
  first_step : (next : Option Insn) (s : State) → Keeps m own key text s → IsCore s.core → place_of s.table (pc_of s) ≡ Entry m → is_held m (held_ids s.frames) ≡ false →
      next_insn (job m own key text from) (start m own key text from s) ≡ next → doing (job m own key text from) (start m own key text from s) ≢ Breaks → Follows m own key text from (act (at_entry m own key text from s)).state (lone_step (job m own key text from) (start m own key text from s)) × (is_id m (act (at_entry m own key text from s)).state.active ≡ true)
  first_step None s k ok here free e nb = absurd (nb (start_doing m own key text from s k ok here ∙ ap (doing_by 0 false true) e))
  first_step (Some i) s k ok here free e nb =
      let j = job m own key text from in
      let l = start m own key text from s in
      let d : doing j l ≡ Does i = start_doing m own key text from s k ok here ∙ ap (doing_by 0 false true) e in
      let v = entered_moves m own key text from s i k ok here e in
      let f = moved_follows m own key text from (entered m own key text from s) l (lone_does j i l) (act (at_entry m own key text from s)) (begun_follows s k free) (is_entered s) v in
      (subst (λ x. Follows m own key text from (act (at_entry m own key text from s)).state (lone_step_by x j l)) (sym d) f, ap (λ x. is_id m x.state.active) v.is ∙ is_entered s)

  move_enters : (s : State) → Keeps m own key text (settle (ticked s)).state → Fine s → Enters_now m from (settle (ticked s)).state (turn (settle (ticked s)).left (settle (ticked s)).state) → doing (job m own key text from) (start m own key text from (settle (ticked s)).state) ≢ Breaks → Follows m own key text from (move s).state (lone_step (job m own key text from) (start m own key text from (settle (ticked s)).state)) × (is_id m (move s).state.active ≡ true)
  unfolding move
  move_enters s k fine en nb =
      let u = settle (ticked s) in
      let t = turn u.left u.state in
      let j = job m own key text from in
      let l = start m own key text from u.state in
      let e = first_step (next_insn j l) u.state k (settled_fine s fine).fine.core_ok en.here (entry_free m u.state en.free en.here) refl nb in (
        counted_follows m own key text from t.state.stop (told u.events t) (lone_step j l) (subst (λ x. Follows m own key text from x.state (lone_step j l)) (sym en.is) e.0),
        counted_holds (λ v. is_id m v.active ≡ true) (λ v n h. h) t.state.stop (told u.events t) (ap (λ x. is_id m x.state.active) en.is ∙ e.1),
      )

pub after_more : (a : Image) (schedule : List Scheduled) (k i : ℕ) → after_cycles (at a schedule k) i ≡ at a schedule (i + k)
after_more a schedule k zero = ap (at a schedule) (let e : k ≡ 0 + k = omega arith in e)
after_more a schedule k (suc i) = ap (λ s. (cycle s).state) (after_more a schedule k i) ∙ ap (at a schedule) (let e : suc (i + k) ≡ suc i + k = omega arith in e)

open_next : (n : Option Insn) → IsOpen (doing_by 0 false true n)
open_next None = tt
open_next (Some i) = tt

-- an entry, with the module as it is then, and where the module stands a cycle later
module _ (a : Image) (m : ℕ) (own : Module) (schedule : List Scheduled) (k from : ℕ) (ok : IsImage a)
    (enters : Enters m from (cycle (at a schedule k)).events) (own_is : module_of m (settle (ticked (at a schedule k))).state.table ≡ Some own) where
  abbrev pub entry_text : List ℕ
  entry_text = section own.text (entry_state a schedule k).memory

  entering : ((at a schedule k).stop ≡ None) × (let u = settle (ticked (at a schedule k)) in Enters_now m from u.state (turn u.left u.state))
  entering = cycle_entering m from (at a schedule k).stop (at a schedule k) enters

  entry_fine : Fine (entry_state a schedule k)
  entry_fine = (settled_fine (at a schedule k) (fine_at a schedule k ok)).fine

  entry_keeps : Keeps m own a.node_key entry_text (entry_state a schedule k)
  entry_keeps =
      let u = (entry_state a schedule k) in
      let p = entering.1 in
      let idle : is_id m u.active ≡ false = ap (is_id m) p.none in
      let none = times_none m u.frames (entry_free m u p.free p.here) in
      record {
        sound = sound_from m own u.table entry_fine.table_ok own_is;
        key_is = settled_key (at a schedule k) ∙ key_at a schedule k;
        text_is = refl;
        once = let e : one_if (is_id m u.active) ≡ 0 = ap one_if idle in omega arith;
        proper = λ h. absurd (let c : true ≡ false = sym h ∙ idle in cc);
      }

  pub entry_open : IsOpen (doing (entry_job a schedule own k from) (entry_lone a schedule own k from))
  unfolding start
  entry_open =
      let u = (entry_state a schedule k) in
      subst IsOpen (sym (start_doing m own a.node_key entry_text from u entry_keeps entry_fine.core_ok entering.1.here)) (open_next (next_insn (job m own a.node_key entry_text from) (start m own a.node_key entry_text from u)))

  pub entry_follows : doing (entry_job a schedule own k from) (entry_lone a schedule own k from) ≢ Breaks → Follows m own a.node_key entry_text from (at a schedule (suc k)) (lone_after (entry_job a schedule own k from) (entry_lone a schedule own k from) 1) × (is_id m (at a schedule (suc k)).active ≡ true)
  unfolding start
  entry_follows nb =
      let s = at a schedule k in
      let same : cycle s ≡ move s = ap (λ o. cycle_by o s) entering.0 in
      let f = move_enters m own a.node_key entry_text from s entry_keeps (fine_at a schedule k ok) entering.1 nb in
      (subst (λ x. Follows m own a.node_key entry_text from x.state (lone_step (entry_job a schedule own k from) (entry_lone a schedule own k from))) (sym same) f.0, ap (λ x. is_id m x.state.active) same ∙ f.1)

  pub fine_from : (i : ℕ) → Fine (after_cycles (at a schedule (suc k)) i)
  fine_from i = subst Fine (sym (after_more a schedule (suc k) i)) (fine_at a schedule (i + suc k) ok)

  -- the module stands in the machine where it stands by itself, whatever comes between
  pub transparent : (n : ℕ) → ((i : ℕ) → i < n → NoEnd m (cycle (after_cycles (at a schedule (suc k)) i)).events) →
      (let c = 1 + worked m (at a schedule (suc k)) n in
      NotBroken (outcome (entry_job a schedule own k from) c (entry_lone a schedule own k from)) → Stands m own (after_cycles (at a schedule (suc k)) n) (lone_after (entry_job a schedule own k from) (entry_lone a schedule own k from) c))
  transparent n ends h =
      let c = 1 + worked m (at a schedule (suc k)) n in
      let nb = never_breaks (entry_job a schedule own k from) c (entry_lone a schedule own k from) 0 (omega arith) h in
      let f = entry_follows nb in
      let r = follows_on m own a.node_key entry_text from (at a schedule (suc k)) (entry_lone a schedule own k from) 1 n f.0 (λ i lt. fine_from i) ends h in
      record { backup = r.backup; run = r.run; same = r.lone; once = r.keeps.once }
