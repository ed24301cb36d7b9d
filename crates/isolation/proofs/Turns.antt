-- A turn in which the module is not active, also one that enters it.
use Rattle.std.proofs.Common.{◌≡◌, ◌≢◌, ℕ, zero, suc, ◌-◌, ◌<◌, List, [], ◌∷◌, refl, sym, ap, ◌∙◌, subst, arith, Bool, true, false, ◌==◌, Option, Some, None}
use Rattle.cpu_step.specs.Lone.{Lone, doing, doing_by, next_insn, lone_does, job_of}
use Rattle.insn_decode.specs.declared.insn.Insn.{Insn}
use Rattle.run_laws.specs.Frames.{rest_of}
use Rattle.run_laws.proofs.Frames.{times_none, check, right_fetch, entry_free}
use Rattle.mod_layout.specs.Table.{place_of, holds}
use Rattle.mod_layout.specs.declared.Module.{Module}
use Rattle.mod_layout.specs.declared.Place.{Place}
use Rattle.mod_layout.specs.declared.Place.TheVariants.{Entry, Data}
use Rattle.pc_access.specs.Rights.{is_id, is_held, right, right_at}
use Rattle.pc_access.specs.declared.Denied.{Denied}
use Rattle.pc_access.specs.declared.Kind.TheVariants.{Fetch}
use Rattle.reg_backup.specs.Held.{held_ids}
use Rattle.reg_backup.specs.declared.backup.After.TheVariants.{Next}
use Rattle.reg_backup.specs.declared.backup.Backup.{Backup}
use Rattle.reg_backup.specs.declared.backup.Phase.{Phase}
use Rattle.reg_backup.specs.declared.backup.Phase.TheVariants.{Run, Pad}
use Rattle.sm_words.specs.Sums.{one_if}
use Rattle.sm_words.specs.Words.{reg, IsCore}
use Rattle.std.proofs.lemmas.Bool.Decides.{nat_tests}
use Rattle.tracer.specs.declared.Event.{Event}
use Rattle.written_machine.specs.Cycle.{Step, quiet, told, denied, pc_of, due, arrive_outside, padded, turn, begin, enter_at, enter, fetch, act, unless, arrive_inside}
use Rattle.written_machine.specs.Passing.{asleep}
use Rattle.written_machine.specs.Peers.{section}
use Rattle.written_machine.specs.State.{State}
use Rattle.isolation.proofs.Active.{arrived_none, does_gie, moves_alike}
use Rattle.isolation.proofs.EvenBy.{begins, AlwaysEvenBy}
use Rattle.isolation.proofs.Evenly.{Evenly, Together, next_together}
use Rattle.isolation.proofs.Hide.{veil, veil_step, veil_core, hide_by, held_ids_veiled}
use Rattle.isolation.proofs.Inside.{Moves, did_act}
use Rattle.isolation.proofs.Outside.{Light, light, outer_by, stays_by, arrived_active, arrive_outside_outer, act_outer, act_active}
use Rattle.isolation.proofs.Relation.{find_held, none_found, run_by, run_of, same_secret, Keeps, Ready, Stays, stays_self, Alike, Outer, outer_alike, seen_veiled, seen_active}
use Rattle.run_laws.proofs.Rights.{own_id, holds_in}
use Rattle.isolation.proofs.Settled.{arrive_inside_stays}
use Rattle.isolation.proofs.Settling.{arrive_hidden, due_hidden, enter_veiled}
use Rattle.run_laws.proofs.Cases.{turn_at, turn_unless, turn_is, turn_as, interrupted}
use Rattle.run_laws.proofs.Ways.{begin_ways, enter_ways, turn_ways}

-- ---- a fetch that is allowed
fetch_data : (m : ℕ) (p : Place) (active : Option ℕ) (held : List ℕ) (a : ℕ) → right_at p active held Fetch a ≡ None → p ≢ Data m
fetch_data m p active held a e d = let e' = subst (λ q. right_at q active held Fetch a ≡ None) d e in cc

pub begin_by : (left : ℕ) (s : State) (d : Option Denied) → check s ≡ d → begin left s ≡ unless d s (let e = enter left s in told e.events (act e.state))
unfolding begin
begin_by left s d e = ap (λ x. unless x s (let e = enter left s in told e.events (act e.state))) e

-- where a module becomes active, it is entered
enters_it : (m left : ℕ) (s : State) → is_id m s.active ≡ false → is_id m (enter left s).state.active ≡ true → (place_of s.table (pc_of s) ≡ Entry m) × (s.active ≡ None)
enters_it m left s n =
    enter_ways s (λ e. is_id m e.state.active ≡ true → (place_of s.table (pc_of s) ≡ Entry m) × (s.active ≡ None)) left
    (λ h. absurd (let c : true ≡ false = sym h ∙ n in cc))
    (λ id p a h. let same : id ≡ m = grind (arith, nat_tests) in (p ∙ ap Entry same, a))

entered_is : (m left : ℕ) (s : State) → place_of s.table (pc_of s) ≡ Entry m → s.active ≡ None → enter left s ≡ record { state = record s { active = Some m; caller = left; after = Next }; events = Event.Enter m left ∷ [] }
unfolding enter
entered_is m left s p o = ap (λ x. enter_at x s.active left s) p ∙ ap (λ x. enter_at (Entry m) x left s) o

module _ (m : ℕ) (own : Module) (key text : List ℕ) where
  -- ---- unary: what one run does
  check_veiled : (s : State) → check (veil m own s) ≡ check s
  check_veiled s = ap (λ ids. right s.table s.active ids (fetch s)) (held_ids_veiled m s.frames)

  -- entering another, or going on
  enter_stays : (left : ℕ) (s : State) → Keeps m own key text s → is_id m s.active ≡ false → is_id m (enter left s).state.active ≡ false → Stays m own key text s (enter left s).state
  enter_stays left s k n =
      enter_ways s (λ e. is_id m e.state.active ≡ false → Stays m own key text s e.state) left (λ o. stays_self m own key text s k)
      (λ id p a o. stays_by m own key text s (record s { active = Some id; caller = left; after = Next }) k n o refl refl refl refl refl k.sound)

  stays_then : (s t u : State) → Stays m own key text s t → Stays m own key text t u → Stays m own key text s u
  stays_then s t u x y = record { bytes = y.bytes ∙ x.bytes; run = y.run ∙ x.run; keeps = y.keeps }

  act_entered : (left : ℕ) (s : State) → Keeps m own key text s → is_id m s.active ≡ false → is_id m (enter left s).state.active ≡ false → IsCore s.core → check s ≡ None → Outer m own key text (enter left s).state (act (enter left s).state) (act (veil m own (enter left s).state))
  act_entered left s k n o ok e =
      let ne = fetch_data m (place_of s.table (pc_of s)) s.active (held_ids s.frames) (pc_of s) (right_fetch s e) in
      enter_ways s (λ e. Keeps m own key text e.state → is_id m e.state.active ≡ false → Outer m own key text e.state (act e.state) (act (veil m own e.state))) left
      (λ k o. act_outer m own key text s k o ok.even_pc ne)
      (λ id p a k o. act_outer m own key text (record s { active = Some id; caller = left; after = Next }) k o ok.even_pc ne)
      (enter_stays left s k n o).keeps o

  -- a turn's instruction, where it enters no module or another
  begin_outer : (left : ℕ) (s : State) → Keeps m own key text s → is_id m s.active ≡ false → is_id m (enter left s).state.active ≡ false → IsCore s.core → check s ≡ None → Outer m own key text s (begin left s) (begin left (veil m own s))
  begin_outer left s k n o ok e =
      let t = enter left s in
      let x = act_entered left s k n o ok e in
      rw (begin_by left s None e, begin_by left (veil m own s) None (check_veiled s ∙ e), enter_veiled m own left s)
      (record { same = ap (λ u. told t.events u) x.same; stays = stays_then s t.state (act t.state).state (enter_stays left s k n o) x.stays })

  -- what changes none of memory, table, key, frames and active module
  light_outer : (f : State → Step) (s : State) (k : Keeps m own key text s) (n : is_id m s.active ≡ false) →
      f (veil m own s) ≡ veil_step m own (f s) → Light m own key text s k n (f s).state → Outer m own key text s (f s) (f (veil m own s))
  light_outer f s k n e l = outer_by m own key text s k n (f s) (f (veil m own s)) l.0 e (light m own key text s k n (f s).state l)

  inside_outer : (v id : ℕ) (s : State) → Keeps m own key text s → s.active ≡ Some id → is_id m s.active ≡ false → Outer m own key text s (interrupted v id s) (interrupted v id (veil m own s))
  inside_outer v id s k e o =
      let ne : (id == m) ≡ false = ap (is_id m) (sym e) ∙ o in
      record {
        same = arrive_hidden m own false s.table k.sound v id s ne ∙ ap (λ c. let u : Step = record (interrupted v id s) { state = hide_by c m own (interrupted v id s).state } in u) (sym (arrived_none m v id s));
        stays = arrive_inside_stays m own key text v id s k e;
      }

  -- ---- entering the module
  unfoldable pub entered : ℕ → State → State
  entered left s = record s { active = Some m; caller = left; phase = Run 0; after = Next }

  abbrev pub at_entry : ℕ → State → State
  at_entry left s = record s { active = Some m; caller = left; after = Next }

  unfoldable pub start : ℕ → State → Lone
  start left s = record { core = s.core; data_bytes = section own.ram s.memory; rest = 0; closing = false }

  pub entered_keeps : (left : ℕ) (s : State) → Keeps m own key text s → is_held m (held_ids s.frames) ≡ false → Keeps m own key text (entered left s)
  unfolding entered
  entered_keeps left s k free =
      let e1 : one_if (m == m) ≡ 1 = ap one_if (own_id m) in
      let e2 = times_none m s.frames free in
      record { sound = k.sound; key_is = k.key_is; text_is = k.text_is; once = omega arith; proper = λ h. (refl, refl) }

  at_start : (s : State) → Keeps m own key text s → IsCore s.core → place_of s.table (pc_of s) ≡ Entry m → pc_of s ≡ own.text.start
  at_start s k ok p = k.sound.entry_only (pc_of s) p ok.even_pc

  in_its_text : (s : State) → Keeps m own key text s → IsCore s.core → place_of s.table (pc_of s) ≡ Entry m → holds own.text (pc_of s) ≡ true
  in_its_text s k ok p =
      let a = at_start s k ok p in
      let o = k.sound.own_ok.text_ok.order in
      holds_in own.text (pc_of s) (omega arith) (omega arith)

  pub entered_moves : (left : ℕ) (s : State) (insn : Insn) → Keeps m own key text s → IsCore s.core → place_of s.table (pc_of s) ≡ Entry m → next_insn (job_of key own text left) (start left s) ≡ Some insn → Moves own (entered left s) (lone_does (job_of key own text left) insn (start left s)) (act (record s { active = Some m; caller = left; after = Next }))
  unfolding entered start
  entered_moves left s insn k ok p e =
      let t : State = record s { active = Some m; caller = left; after = Next } in
      let d = did_act m own s.table k.sound (job_of key own text left) refl t refl refl k.text_is k.key_is refl ok.even_pc (in_its_text s k ok p) (start left s) refl refl insn e in
      record { memory = d.memory; is = d.is; bytes = d.bytes; rest = d.rest; text = d.text }

  pub start_doing : (left : ℕ) (s : State) → Keeps m own key text s → IsCore s.core → place_of s.table (pc_of s) ≡ Entry m → doing (job_of key own text left) (start left s) ≡ doing_by 0 false true (next_insn (job_of key own text left) (start left s))
  unfolding start doing
  start_doing left s k ok p = ap (λ h. doing_by 0 false h (next_insn (job_of key own text left) (start left s))) (in_its_text s k ok p)

  module _ (answers : List ℕ) (a b : State) (ready : Ready m own key text answers a b) (out_a : is_id m a.active ≡ false) (ok_a : IsCore a.core) (ok_b : IsCore b.core) where
    ka : Keeps m own key text a
    ka = ready.twins.keeps_a

    kb : Keeps m own key text b
    kb = ready.twins.keeps_b

    same_active : a.active ≡ b.active
    same_active = seen_active m own key text a b ready.twins.seen

    out_b : is_id m b.active ≡ false
    out_b = ap (is_id m) (sym same_active) ∙ out_a

    veiled : veil m own a ≡ veil m own b
    veiled = seen_veiled m own key text a b ready.twins.seen out_a

    join : (f : State → Step) → Outer m own key text a (f a) (f (veil m own a)) → Outer m own key text b (f b) (f (veil m own b)) → Alike m own key text answers (f a) (f b)
    join f oa ob = outer_alike m own key text answers a b (f a) (f b) (f (veil m own a)) (f (veil m own b)) ready oa ob (ap f veiled)

    -- a step that is light in both
    both_light : (f : State → Step) → ((s : State) → f (veil m own s) ≡ veil_step m own (f s)) →
        ((s : State) (k : Keeps m own key text s) (n : is_id m s.active ≡ false) → Light m own key text s k n (f s).state) → Alike m own key text answers (f a) (f b)
    both_light f e l = join f (light_outer f a ka out_a (e a) (l a ka out_a)) (light_outer f b kb out_b (e b) (l b kb out_b))

    check_same : check a ≡ check b
    check_same = sym (check_veiled a) ∙ ap check veiled ∙ check_veiled b

    -- both calls begin with the same core
    evenly_start : (left : ℕ) → left < 65536 → place_of a.table (pc_of a) ≡ Entry m → find_held m a.frames ≡ None → find_held m b.frames ≡ None → Evenly answers key own text (job_of key own text left) (start left a) (start left b)
    unfolding start
    evenly_start left small p fa fb =
        let ra : run_of m a ≡ None = ap (λ c. run_by c m a) out_a ∙ fa in
        let rb : run_of m b ≡ None = ap (λ c. run_by c m b) out_b ∙ fb in
        let even : AlwaysEvenBy answers key own text (section own.ram a.memory) (section own.ram b.memory) = same_secret m own key text answers (sym ra) (sym rb) refl refl ready.twins.secret in
        let core : a.core ≡ b.core = ap (λ s. s.core) veiled in
        let ev : Evenly answers key own text (job_of key own text left) (start left a) (begins (record { core = a.core; caller = left; within = 0 }) (section own.ram b.memory)) =
        record { always = λ n es h. even (record { core = a.core; caller = left; within = n } ∷ es) (record { core_ok = ok_a; at_start = at_start a ka ok_a p; caller_ok = small }, h) } in
        subst (λ c. Evenly answers key own text (job_of key own text left) (start left a) (record { core = c; data_bytes = section own.ram b.memory; rest = 0; closing = false })) core ev

    first_together : (left : ℕ) (na nb : Option Insn) → next_insn (job_of key own text left) (start left a) ≡ na → next_insn (job_of key own text left) (start left b) ≡ nb → place_of a.table (pc_of a) ≡ Entry m → place_of b.table (pc_of b) ≡ Entry m → is_held m (held_ids a.frames) ≡ false → is_held m (held_ids b.frames) ≡ false → Together answers key own text (job_of key own text left) (doing_by 0 false true na) (doing_by 0 false true nb) (start left a) (start left b) → Alike m own key text answers (act (at_entry left a)) (act (at_entry left b))
    unfolding entered start
    first_together left (Some i) (Some i') ea eb pa pb fa fb t =
        let seen : hide_by true m own (entered left a) ≡ hide_by true m own (entered left b) = ap (λ (v : State). let u : State = record v { core = veil_core v.core; active = Some m; caller = left; phase = Run 0; after = Next } in u) veiled in
        moves_alike m own key text answers (entered left a) (entered left b) (lone_does (job_of key own text left) i (start left a)) (lone_does (job_of key own text left) i' (start left b)) (act (at_entry left a)) (act (at_entry left b))
        (entered_keeps left a ka fa) (entered_keeps left b kb fb) (own_id m) (own_id m) seen (entered_moves left a i ka ok_a pa ea) (entered_moves left b i' kb ok_b pb eb)
        (does_gie (job_of key own text left) (start left a) i ea ok_a.sixteen) (does_gie (job_of key own text left) (start left b) i' eb ok_b.sixteen) t
    first_together left _ _ ea eb pa pb fa fb t = absurd t

    enters : (left : ℕ) → left < 65536 → check a ≡ None → place_of a.table (pc_of a) ≡ Entry m → a.active ≡ None → Alike m own key text answers (begin left a) (begin left b)
    enters left small e p o =
        let eb : check b ≡ None = sym check_same ∙ e in
        let pb : place_of b.table (pc_of b) ≡ Entry m = ap (λ (s : State). place_of s.table (reg s.core 0)) (sym veiled) ∙ p in
        let ob : b.active ≡ None = sym same_active ∙ o in
        let fa = entry_free m a e p in
        let fb = entry_free m b eb pb in
        let ev = evenly_start left small p (none_found m a.frames (times_none m a.frames fa)) (none_found m b.frames (times_none m b.frames fb)) in
        let j = job_of key own text left in
        let t0 = next_together answers key own text j (start left a) (start left b) ev in
        let t1 = subst (λ d. Together answers key own text j d (doing j (start left b)) (start left a) (start left b)) (start_doing left a ka ok_a p) t0 in
        let t2 = subst (λ d. Together answers key own text j (doing_by 0 false true (next_insn j (start left a))) d (start left a) (start left b)) (start_doing left b kb ok_b pb) t1 in
        let r = first_together left (next_insn j (start left a)) (next_insn j (start left b)) refl refl p pb fa fb t2 in
        rw (begin_by left a None e, begin_by left b None eb, entered_is m left a p o, entered_is m left b pb ob)
        (record { events = ap (λ es. Event.Enter m left ∷ es) r.events; related = r.related })

    -- ---- an instruction begins
    enter_same : (left : ℕ) → (enter left a).state.active ≡ (enter left b).state.active
    enter_same left =
        ap (λ u. u.state.active) (sym (enter_veiled m own left a)) ∙ ap (λ s. (enter left s).state.active) veiled ∙ ap (λ u. u.state.active) (enter_veiled m own left b)

    begin_free : (left : ℕ) (c : Bool) → left < 65536 → check a ≡ None → is_id m (enter left a).state.active ≡ c → Alike m own key text answers (begin left a) (begin left b)
    begin_free left true small e h = let p = enters_it m left a out_a h in enters left small e p.0 p.1
    begin_free left false small e h =
        join (begin left) (begin_outer left a ka out_a h ok_a e) (begin_outer left b kb out_b (ap (is_id m) (sym (enter_same left)) ∙ h) ok_b (sym check_same ∙ e))

    begin_checked : (left : ℕ) (d : Option Denied) → left < 65536 → check a ≡ d → Alike m own key text answers (begin left a) (begin left b)
    begin_checked left None small e = begin_free left (is_id m (enter left a).state.active) small e refl
    begin_checked left (Some d) small e =
        let eb : check b ≡ Some d = sym check_same ∙ e in
        rw (begin_by left a (Some d) e, begin_by left b (Some d) eb) (both_light (denied d) (λ s. refl) (λ s k n. (refl, refl, refl, refl, refl)))

    begin_alike : (left : ℕ) → left < 65536 → Alike m own key text answers (begin left a) (begin left b)
    begin_alike left small = begin_checked left (check a) small refl

    unless_alike : (x : Bool) (left : ℕ) → left < 65536 → Alike m own key text answers (turn_unless x left a) (turn_unless x left b)
    unless_alike true left small = both_light quiet (λ s. refl) (λ s k n. (refl, refl, refl, refl, refl))
    unless_alike false left small = begin_alike left small

    -- ---- the cases of a turn
    by_cases : (d o : Option ℕ) (p : Phase) (left : ℕ) → left < 65536 → a.active ≡ o → a.phase ≡ p → b.phase ≡ p → Alike m own key text answers (turn_at d o p left a) (turn_at d o p left b)
    by_cases d o (Pad n) left small e f g = both_light (λ s. quiet (padded (n - 1) s)) (λ s. refl) (λ s k n. (refl, refl, refl, refl, refl))
    by_cases (Some v) (Some id) (Run r) left small e f g =
        subst (λ rest. Alike m own key text answers (arrive_inside v id rest a) (arrive_inside v id r b)) (ap rest_of f)
        (subst (λ rest. Alike m own key text answers (interrupted v id a) (arrive_inside v id rest b)) (ap rest_of g)
        (join (interrupted v id) (inside_outer v id a ka e out_a) (inside_outer v id b kb (sym same_active ∙ e) out_b)))
    by_cases (Some v) None (Run zero) left small e f g = join (arrive_outside v) (arrive_outside_outer m own key text a ka out_a v) (arrive_outside_outer m own key text b kb out_b v)
    by_cases None None (Run (suc r)) left small e f g = both_light (λ s. quiet (record s { phase = Run r })) (λ s. refl) (λ s k n. (refl, refl, refl, refl, refl))
    by_cases None None (Run zero) left small e f g =
        subst (λ x. Alike m own key text answers (turn_unless (asleep a) left a) (turn_unless x left b)) (ap asleep veiled) (unless_alike (asleep a) left small)
    by_cases None (Some id) (Run zero) left small e f g = begin_alike left small
    by_cases _ _ (Run (suc r)) left small e f g = both_light (λ s. quiet (record s { phase = Run r })) (λ s. refl) (λ s k n. (refl, refl, refl, refl, refl))

    pub outside_turn : (left : ℕ) → left < 65536 → Alike m own key text answers (turn left a) (turn left b)
    outside_turn left small =
        let d : due b ≡ due a = sym (due_hidden m own b) ∙ sym (ap due ready.twins.seen) ∙ due_hidden m own a in
        let p : b.phase ≡ a.phase = ap (λ (s : State). s.phase) (sym veiled) in
        rw (turn_is left a, turn_as left b (due a) a.active a.phase d (sym same_active) p) (by_cases (due a) a.active a.phase left small refl refl p)

  -- ---- one run alone: while the module is held, no turn moves it
  module _ (s : State) (k : Keeps m own key text s) (out : is_id m s.active ≡ false) (ok : IsCore s.core) (r : Backup) (held : find_held m s.frames ≡ Some r) where
    -- and it stays held
    abbrev Held_on : Step → Type 0
    Held_on t = Stays m own key text s t.state × (is_id m t.state.active ≡ false)

    begin_held : (left : ℕ) → Held_on (begin left s)
    begin_held left = begin_ways s Held_on left (λ d. ((light_outer (denied d) s k out refl (refl, refl, refl, refl, refl)).stays, out))
        (λ e. by (is_id m (enter left s).state.active) refl e)
      where
        by : (c : Bool) → is_id m (enter left s).state.active ≡ c → check s ≡ None → Held_on (told (enter left s).events (act (enter left s).state))
        by true h e =
            let n = none_found m s.frames (times_none m s.frames (entry_free m s e (enters_it m left s out h).0)) in
            absurd (let f : None ≡ Some r = sym n ∙ held in cc)
        by false h e =
            let t = (enter left s).state in
            let x = enter_stays left s k out h in
            (stays_then s t (act t).state x (act_entered left s k out h ok e).stays, ap (is_id m) (act_active m own key text t x.keeps h) ∙ h)

    pub held_turn : (left : ℕ) → Held_on (turn left s)
    held_turn left =
        turn_ways s Held_on left (λ n p. ((light_outer (λ u. quiet (padded (n - 1) u)) s k out refl (refl, refl, refl, refl, refl)).stays, out))
        (λ x. ((light_outer (λ u. quiet (record u { phase = Run x })) s k out refl (refl, refl, refl, refl, refl)).stays, out))
        (stays_self m own key text s k, out) (begin_held left)
        (λ v id d a. ((inside_outer v id s k a out).stays, arrived_none m v id s))
        (λ v d. ((arrive_outside_outer m own key text s k out v).stays, ap (is_id m) (arrived_active m own key text s k out v) ∙ out))
