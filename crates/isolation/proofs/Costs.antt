-- The cycles of a call are its own, and those between its hides and resumes.
use Rattle.std.proofs.Common.{◌≡◌, ◌≢◌, ℕ, zero, suc, ◌+◌, ◌<◌, ◌≤◌, List, [], ◌∷◌, ◌++◌, refl, sym, ap, ◌∙◌, subst, arith, Bool, true, false, cond, ◌&&◌, ◌==◌, Option, Some, None, is_none}
use Rattle.cpu_step.specs.Lone.{Lone, Doing, Closes, Leaves, Breaks, doing, lone_after, outcome, job_of, Job, CallEnd, Broken, Running, later, Waits, Does, lone_does, lone_step, lone_step_by, in_time, at_once}
use Rattle.image_text.specs.Image.{Image, IsImage}
use Rattle.isolation.specs.Calls.{entry_job, entry_lone, works, worked, NotBroken, Away, back_from, notes, away, backup_of, run_by, lone_of, find_held, Takes}
use Rattle.run_laws.specs.Events.{NoEnd, Enters, EndsCall}
use Rattle.mod_layout.specs.Table.{module_of}
use Rattle.mod_layout.specs.declared.Module.{Module}
use Rattle.pc_access.specs.Rights.{is_id}
use Rattle.pc_access.specs.declared.Stop.{Stop}
use Rattle.schedule_file.specs.declared.Entry.{Entry as Scheduled}
use Rattle.sm_words.specs.Words.{IsCore}
use Rattle.std.proofs.lemmas.Bool.Decides.{nat_tests}
use Rattle.tracer.specs.declared.Event.{Event}
use Rattle.written_machine.proofs.Stops.{cycle_by}
use Rattle.written_machine.specs.Cycle.{Step, told, unsettled, due, ticked, settle, turn, arrive_inside, sent_event, counted_by, move, cycle, after_cycles}
use Rattle.written_machine.specs.Peers.{section}
use Rattle.written_machine.specs.State.{State}
use Rattle.written_machine.specs.View.{at}
use Rattle.run_laws.proofs.Tame.{ticked_active, cycle_number, runs_so_far, cycle_ends, idle_ends}
use Rattle.isolation.proofs.Active.{active_some, arrives_at}
use Rattle.isolation.proofs.Ending.{settled_as, settled_doing}
use Rattle.run_laws.proofs.Fine.{Fine, settled_fine}
use Rattle.isolation.proofs.Follow.{own_step, job, works_is, Follows, Now, ticked_follows, settle_follows, active_doing, settled_no_end, follows_on, more_by, never_breaks, entry_text, entry_open, entry_follows, fine_from}
use Rattle.run_laws.proofs.Rights.{own_id}
use Rattle.isolation.proofs.Relation.{IsOpen, backup_of, lone_of}
use Rattle.isolation.proofs.Still.{Still, still_notes, notes_more, turn_still, Told, settle_told}
use Rattle.isolation.proofs.Turns.{held_turn}
use Rattle.cpu_step.proofs.LoneLemmas.{after_step}
use Rattle.run_laws.proofs.Ways.{sent_tells}
use Rattle.run_laws.proofs.Cases.{interrupted}

-- while it is active all the cycles so far are its own or between a hide and its resume; while it is held, those up to the hide
abbrev pub Balance : Bool → ℕ → Away → ℕ → Type 0
Balance true i w c = (w.since ≡ None) × (w.sum + c ≡ i)
Balance false i w c = (h : ℕ) × (w.since ≡ Some h) × (h ≤ i) × (w.sum + c ≡ h)

arrived : (v id : ℕ) (s : State) → ((interrupted v id s).events ≡ Event.Hide id v ∷ []) × ((interrupted v id s).state.active ≡ None)
unfolding arrive_inside
arrived v id s = (refl, refl)

module _ (m : ℕ) (own : Module) (key text : List ℕ) (from : ℕ) where
  quiet_by : (x : Doing) (s : State) → NoEnd m (settled_as m own key text x s).events → settled_as m own key text x s ≡ unsettled s
  quiet_by Closes s n = absurd (n.0 refl)
  quiet_by Leaves s n = absurd (n.0 refl)
  quiet_by _ s n = refl

  settle_quiet : (s : State) (la : Lone) → Follows m own key text from s la → is_id m s.active ≡ true → NoEnd m (settle s).events → settle s ≡ unsettled s
  settle_quiet s la f act n =
      let d = settled_doing m own key text s f.keeps act in
      d ∙ quiet_by (doing (job_of key own text s.caller) (lone_of (backup_of m s) (section own.ram s.memory))) s (subst (λ u. NoEnd m u.events) d n)

  active_turns : (left : ℕ) (d : Option ℕ) (s : State) (la : Lone) → Now m own key text from s la → is_id m s.active ≡ true → IsCore s.core → due s ≡ d → (is_none d ≡ true → doing (job m own key text from) la ≢ Breaks) → (i : ℕ) (w : Away) (c : ℕ) → Balance true i w c → Balance (is_id m (turn left s).state.active) (i + 1) (notes m i (turn left s).events w) (c + cond (is_none d) 1 0)
  active_turns left None s la f act ok e nb i w c b =
      let v = own_step m own key text from left (doing (job m own key text from) la) s la f act ok e refl (nb refl) in
      let k : Balance true (i + 1) w (c + 1) = (b.0, let q = b.1 in omega arith) in
      subst (λ x. Balance x (i + 1) (notes m i (turn left s).events w) (c + 1)) (sym (ap (λ u. is_id m u.state.active) v.is ∙ act)) (subst (λ es. Balance true (i + 1) (notes m i es w) (c + 1)) (sym (ap (λ u. u.events) v.is)) k)
  active_turns left (Some v) s la f act ok e nb i w c b =
      let a = active_some m s.active act in
      let t = arrives_at m v left s a (f.follows.keeps.proper act).0 e in
      let q = arrived v m s in
      let w' : Away = record { since = Some i; sum = w.sum } in
      let k : Balance false (i + 1) w' (c + 0) = (i, refl, omega arith, let z = b.1 in omega arith) in
      rw (t, q.0, q.1, own_id m) k

  held_turns : (left : ℕ) (s : State) (la : Lone) → Now m own key text from s la → is_id m s.active ≡ false → IsCore s.core → (i : ℕ) (w : Away) (c : ℕ) → Balance false i w c → Balance (is_id m (turn left s).state.active) (i + 1) (notes m i (turn left s).events w) (c + 0)
  held_turns left s la f out ok i w c b =
      let held : find_held m s.frames ≡ Some f.follows.backup = ap (λ x. run_by x m s) (sym out) ∙ f.follows.run in
      let idle = (held_turn m own key text s f.follows.keeps out ok f.follows.backup held left).1 in
      let k : Balance false (i + 1) w (c + 0) = (b.0, b.1, let z = b.2 in omega arith, let z = b.3 in omega arith) in
      rw (still_notes m i (turn left s).events w (turn_still m left s out), idle) k

  turns : (left : ℕ) (x : Bool) (s : State) (la : Lone) → Now m own key text from s la → is_id m s.active ≡ x → IsCore s.core → ((x && is_none (due s)) ≡ true → doing (job m own key text from) la ≢ Breaks) → (i : ℕ) (w : Away) (c : ℕ) → Balance x i w c → Balance (is_id m (turn left s).state.active) (i + 1) (notes m i (turn left s).events w) (c + cond (x && is_none (due s)) 1 0)
  turns left true s la f e ok nb i w c b = active_turns left (due s) s la f e ok refl nb i w c b
  turns left false s la f e ok nb i w c b = held_turns left s la f e ok i w c b

  -- ---- settling
  told_balance : (x : Bool) (es : List Event) (i : ℕ) (w : Away) (c : ℕ) → Told m x es → Balance false i w c → Balance x i (notes m i es w) c
  told_balance false es i w c t b = subst (λ y. Balance false i y c) (sym (still_notes m i es w t)) b
  told_balance true es i w c t b =
      let k : Balance true i (back_from (Some b.0) i w.sum) c = (refl, let z = b.3 in let y = b.2 in omega arith) in
      rw (t, own_id m, b.1) k

  settles : (x : Bool) (s : State) (la : Lone) → Follows m own key text from s la → is_id m s.active ≡ x → NoEnd m (settle s).events → (i : ℕ) (w : Away) (c : ℕ) → Balance x i w c → Balance (is_id m (settle s).state.active) i (notes m i (settle s).events w) c
  settles true s la f e n i w c b =
      let q = settle_quiet s la f e n in
      subst (λ u. Balance (is_id m u.state.active) i (notes m i u.events w) c) (sym q) (subst (λ y. Balance y i w c) (sym e) b)
  settles false s la f e n i w c b = told_balance (is_id m (settle s).state.active) (settle s).events i w c (settle_told m s e) b

  -- ---- a cycle
  counted : (o : Option Stop) (es : List Event) (t : Step) (i : ℕ) (w : Away) (c : ℕ) → Balance (is_id m t.state.active) (i + 1) (notes m i t.events (notes m i es w)) c → Balance (is_id m (counted_by o (told es t)).state.active) (i + 1) (notes m i (counted_by o (told es t)).events w) c
  counted (Some stop) es t i w c b = subst (λ y. Balance (is_id m t.state.active) (i + 1) y c) (sym (notes_more m i es t.events w)) b
  counted None es t i w c b =
      let s = sent_event t.state.devices.sent in
      let e : notes m i (es ++ t.events ++ s) w ≡ notes m i t.events (notes m i es w) =
      notes_more m i (es ++ t.events) s w ∙ still_notes m i s (notes m i (es ++ t.events) w)
      (sent_tells (Still m) tt (λ b. tt) t.state.devices.sent) ∙ notes_more m i es t.events w in
      subst (λ y. Balance (is_id m t.state.active) (i + 1) y c) (sym e) b

  moves_balance : (s : State) (la : Lone) → Follows m own key text from s la → Fine s → NoEnd m (move s).events → (let u = settle (ticked s) in (is_id m u.state.active && is_none (due u.state)) ≡ true → doing (job m own key text from) la ≢ Breaks) → (i : ℕ) (w : Away) (c : ℕ) → Balance (is_id m s.active) i w c → Balance (is_id m (move s).state.active) (i + 1) (notes m i (move s).events w) (c + (let u = settle (ticked s) in cond (is_id m u.state.active && is_none (due u.state)) 1 0))
  unfolding move
  moves_balance s la f fine n nb i w c b =
      let t = ticked s in
      let u = settle t in
      let v = turn u.left u.state in
      let g = ticked_follows m own key text from s la f in
      let ne = settled_no_end m own key text from s n in
      let now = settle_follows m own key text from (is_id m t.active) t la g refl ne in
      let b1 = subst (λ a. Balance (is_id m a) i w c) (sym (ticked_active s)) b in
      let b2 = settles (is_id m t.active) t la g refl ne i w c b1 in
      let b3 = turns u.left (is_id m u.state.active) u.state la now refl (settled_fine s fine).fine.core_ok nb i (notes m i u.events w) c b2 in
      counted v.state.stop u.events v i w (c + cond (is_id m u.state.active && is_none (due u.state)) 1 0) b3

  cycle_balance : (s : State) (la : Lone) → s.stop ≡ None → Follows m own key text from s la → Fine s → NoEnd m (cycle s).events → (works m s ≡ true → doing (job m own key text from) la ≢ Breaks) → (i : ℕ) (w : Away) (c : ℕ) → Balance (is_id m s.active) i w c → Balance (is_id m (cycle s).state.active) (i + 1) (notes m i (cycle s).events w) (c + cond (works m s) 1 0)
  cycle_balance s la e f fine n nb i w c b =
      let same : cycle s ≡ move s = ap (λ o. cycle_by o s) e in
      let n' = subst (λ u. NoEnd m u.events) same n in
      let r = moves_balance s la f fine n' (λ h. nb (works_is m None s e ∙ h)) i w c b in
      let r1 = subst (λ x. Balance (is_id m (move s).state.active) (i + 1) (notes m i (move s).events w) (c + cond x 1 0)) (sym (works_is m None s e)) r in
      subst (λ u. Balance (is_id m u.state.active) (i + 1) (notes m i u.events w) (c + cond (works m s) 1 0)) (sym same) r1

  -- over n cycles from a state where the module has done one cycle of its own and is active
  module _ (s : State) (l0 : Lone) (act : is_id m s.active ≡ true) (f0 : Follows m own key text from s (lone_after (job m own key text from) l0 1)) where
    pub balance : (n : ℕ) → ((i : ℕ) → i < n → Fine (after_cycles s i)) → ((i : ℕ) → i < n → NoEnd m (cycle (after_cycles s i)).events) → ((i : ℕ) → i < n → (after_cycles s i).stop ≡ None) → NotBroken (outcome (job m own key text from) (1 + worked m s n) l0) → Balance (is_id m (after_cycles s n).active) n (away m s n) (worked m s n)
    balance zero fine ends runs h = subst (λ x. Balance x 0 (away m s 0) 0) (sym act) (refl, refl)
    balance (suc n) fine ends runs h =
        let t = after_cycles s n in
        let h' = more_by m own key text from s l0 0 (works m t) (1 + worked m s n) (1 + (worked m s n + cond (works m t) 1 0)) (omega arith) h in
        let g = follows_on m own key text from s l0 1 n f0 (λ i lt. fine i (omega arith)) (λ i lt. ends i (omega arith)) h' in
        let b = balance n (λ i lt. fine i (omega arith)) (λ i lt. ends i (omega arith)) (λ i lt. runs i (omega arith)) h' in
        let r = cycle_balance t (lone_after (job m own key text from) l0 (1 + worked m s n)) (runs n (omega arith)) g (fine n (omega arith)) (ends n (omega arith)) (λ e. never_breaks (job m own key text from) (1 + (worked m s n + cond (works m t) 1 0)) l0 (1 + worked m s n) (let one : 1 + worked m s n < 1 + (worked m s n + 1) = omega arith in subst (λ x. 1 + worked m s n < 1 + (worked m s n + cond x 1 0)) (sym e) one) h) n (away m s n) (worked m s n) b in
        subst (λ k. Balance (is_id m (cycle t).state.active) k (notes m n (cycle t).events (away m s n)) (worked m s n + cond (works m t) 1 0)) (let e : n + 1 ≡ suc n = omega arith in e) r

abbrev pub IsEnd : Doing → Type 0
IsEnd Closes = Unit {0}
IsEnd Leaves = Unit {0}
IsEnd _ = ⊥

-- ---- a module by itself that is open for c cycles and then ends
module _ (j : Job) where
  takes_later : (c : ℕ) (o : CallEnd) → Takes c o → Takes (suc c) (later o)
  takes_later c (Broken d k) h = h
  takes_later c Running h = h
  takes_later c _ h = omega arith

  at_end : (x : Doing) (l : Lone) → IsEnd x → Takes 0 (at_once x l)
  at_end Closes l h = refl
  at_end Leaves l h = refl
  at_end _ l h = absurd h

  pub takes : (c : ℕ) (l : Lone) → ((i : ℕ) → i < c → IsOpen (doing j (lone_after j l i))) → ((i : ℕ) → i < c → doing j (lone_after j l i) ≢ Breaks) → IsEnd (doing j (lone_after j l c)) → Takes c (outcome j c l)
  takes zero l op nb e = at_end (doing j l) l e
  takes (suc c) l op nb e =
      by (doing j l) refl (op 0 (omega arith)) (nb 0 (omega arith))
      (takes c (lone_step j l) (λ i lt. subst (λ x. IsOpen (doing j x)) (sym (after_step j l i)) (op (suc i) (omega arith))) (λ i lt. subst (λ x. doing j x ≢ Breaks) (sym (after_step j l i)) (nb (suc i) (omega arith))) (subst (λ x. IsEnd (doing j x)) (sym (after_step j l c)) e))
    where
      by : (x : Doing) → doing j l ≡ x → IsOpen (doing j l) → doing j l ≢ Breaks → Takes c (outcome j c (lone_step j l)) → Takes (suc c) (in_time x (outcome j c) j l)
      by (Waits r) f o n h = takes_later c (outcome j c (record l { rest = r })) (subst (λ d. Takes c (outcome j c (lone_step_by d j l))) f h)
      by (Does i) f o n h = takes_later c (outcome j c (lone_does j i l)) (subst (λ d. Takes c (outcome j c (lone_step_by d j l))) f h)
      by Breaks f o n h = absurd (n f)
      by _ f o n h = absurd (subst IsOpen f o)

-- ---- where it is told that the module ends
module _ (m : ℕ) (own : Module) (key text : List ℕ) (from : ℕ) where
  as_ends : (x : Doing) (s : State) → EndsCall m (settled_as m own key text x s).events → IsEnd x
  as_ends Closes s h = tt
  as_ends Leaves s h = tt
  as_ends _ s h = h

  settle_ends : (c : Bool) (s : State) (la : Lone) → Follows m own key text from s la → is_id m s.active ≡ c → EndsCall m (settle s).events → (c ≡ true) × IsEnd (doing (job m own key text from) la)
  settle_ends false s la f e h = absurd (idle_ends m s e h)
  settle_ends true s la f e h =
      let d = settled_doing m own key text s f.keeps e in
      let x = doing (job_of key own text s.caller) (lone_of (backup_of m s) (section own.ram s.memory)) in
      (refl, subst IsEnd (active_doing m own key text from s la f e) (as_ends x s (subst (λ u. EndsCall m u.events) d h)))

  -- so it is active, and by itself it has ended
  pub ends_now : (s : State) (la : Lone) → Follows m own key text from s la → EndsCall m (settle (ticked s)).events → (is_id m s.active ≡ true) × IsEnd (doing (job m own key text from) la)
  ends_now s la f h =
      let t = ticked s in
      let same = ticked_active s in
      let g = ticked_follows m own key text from s la f in
      let r = settle_ends (is_id m t.active) t la g refl h in
      (ap (is_id m) (sym same) ∙ r.0, r.1)

  -- before a cycle of its own it has not ended
  move_open : (s : State) (la : Lone) → Follows m own key text from s la → NoEnd m (move s).events → IsOpen (doing (job m own key text from) la)
  move_open s la f n =
      let t = ticked s in
      (settle_follows m own key text from (is_id m t.active) t la (ticked_follows m own key text from s la f) refl (settled_no_end m own key text from s n)).now

  cycle_open : (o : Option Stop) (s : State) (la : Lone) → s.stop ≡ o → Follows m own key text from s la → NoEnd m (cycle_by o s).events → works m s ≡ true → IsOpen (doing (job m own key text from) la)
  cycle_open (Some stop) s la e f n w =
      let w' = works_is m (Some stop) s e in
      absurd (let c : true ≡ false = sym w ∙ w' in cc)
  cycle_open None s la e f n w = move_open s la f n

  module _ (s : State) (l0 : Lone) (first : IsOpen (doing (job m own key text from) l0)) (f0 : Follows m own key text from s (lone_after (job m own key text from) l0 1)) where
    one_more : (b : Bool) (c i : ℕ) → i < 1 + (c + cond b 1 0) → ((i : ℕ) → i < 1 + c → IsOpen (doing (job m own key text from) (lone_after (job m own key text from) l0 i))) → (b ≡ true → IsOpen (doing (job m own key text from) (lone_after (job m own key text from) l0 (1 + c)))) → IsOpen (doing (job m own key text from) (lone_after (job m own key text from) l0 i))
    one_more false c i lt h g = h i (omega arith)
    one_more true c i lt h g = at_last (i == 1 + c) refl
      where
        at_last : (x : Bool) → (i == 1 + c) ≡ x → IsOpen (doing (job m own key text from) (lone_after (job m own key text from) l0 i))
        at_last true e = let k : i ≡ 1 + c = grind (arith, nat_tests) in subst (λ q. IsOpen (doing (job m own key text from) (lone_after (job m own key text from) l0 q))) (sym k) (g refl)
        at_last false e = let k : i ≢ 1 + c = grind (arith, nat_tests) in h i (omega arith)

    pub open_so_far : (n : ℕ) → ((i : ℕ) → i < n → Fine (after_cycles s i)) → ((i : ℕ) → i < n → NoEnd m (cycle (after_cycles s i)).events) → NotBroken (outcome (job m own key text from) (1 + worked m s n) l0) → (i : ℕ) → i < 1 + worked m s n → IsOpen (doing (job m own key text from) (lone_after (job m own key text from) l0 i))
    open_so_far zero fine ends h i lt = let e : i ≡ 0 = omega arith in subst (λ q. IsOpen (doing (job m own key text from) (lone_after (job m own key text from) l0 q))) (sym e) first
    open_so_far (suc n) fine ends h i lt =
        let t = after_cycles s n in
        let h' = more_by m own key text from s l0 0 (works m t) (1 + worked m s n) (1 + (worked m s n + cond (works m t) 1 0)) (omega arith) h in
        let g = follows_on m own key text from s l0 1 n f0 (λ i lt. fine i (omega arith)) (λ i lt. ends i (omega arith)) h' in
        one_more (works m t) (worked m s n) i lt (open_so_far n (λ i lt. fine i (omega arith)) (λ i lt. ends i (omega arith)) h')
        (λ w. cycle_open t.stop t (lone_after (job m own key text from) l0 (1 + worked m s n)) refl g (ends n (omega arith)) w)

-- the cost of a call that was entered in cycle k and ends n + 1 cycles later
module _ (a : Image) (m : ℕ) (own : Module) (schedule : List Scheduled) (k from : ℕ) (ok : IsImage a)
    (enters : Enters m from (cycle (at a schedule k)).events) (own_is : module_of m (settle (ticked (at a schedule k))).state.table ≡ Some own) where
  pub costs : (n : ℕ) → ((i : ℕ) → i < n → NoEnd m (cycle (after_cycles (at a schedule (suc k)) i)).events) → EndsCall m (cycle (after_cycles (at a schedule (suc k)) n)).events →
      (let s = at a schedule (suc k) in
      let j = entry_job a schedule own k from in
      let l = entry_lone a schedule own k from in
      let c = 1 + worked m s n in
      NotBroken (outcome j c l) → Takes c (outcome j c l) × ((away m s n).since ≡ None) × ((after_cycles s n).cycle ≡ (at a schedule k).cycle + (c + (away m s n).sum)))
  costs n ends ending h =
      let s = at a schedule (suc k) in
      let t = after_cycles s n in
      let key = a.node_key in
      let text = entry_text a m own schedule k from ok enters own_is in
      let j = entry_job a schedule own k from in
      let l = entry_lone a schedule own k from in
      let c = 1 + worked m s n in
      let nb = never_breaks j c l 0 (omega arith) h in
      let f = entry_follows a m own schedule k from ok enters own_is nb in
      let fine : (i : ℕ) → i < n → Fine (after_cycles s i) = λ i lt. fine_from a m own schedule k from ok enters own_is i in
      let g = follows_on m own key text from s l 1 n f.0 fine ends h in
      let q = cycle_ends m t.stop t refl ending in
      let now = ends_now m own key text from t (lone_after j l c) g q.1 in
      let runs = runs_so_far s n q.0 in
      let b = balance m own key text from s l f.1 f.0 n fine ends (λ i lt. runs.0 i (omega arith)) h in
      let b' = subst (λ x. Balance x n (away m s n) (worked m s n)) now.0 b in
      let first = cycle_number (at a schedule k).stop (at a schedule k) refl (runs.0 0 (omega arith)) in
      let op = open_so_far m own key text from s l (entry_open a m own schedule k from ok enters own_is) f.0 n fine ends h in
      (takes j c l op (λ i lt. never_breaks j c l i lt h) now.1, b'.0, (let x = runs.1 in let y = first.1 in let z = b'.1 in omega arith))
