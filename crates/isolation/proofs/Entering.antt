-- Where a module is entered, and that it is in the table then.
use Rattle.std.proofs.Common.{◌≡◌, ◌⊎◌, inl, inr, ⊎_elim, ℕ, ◌+◌, List, [], ◌∷◌, ◌++◌, refl, ap, ◌∙◌, Bool, true, false, cond, ◌||◌, ◌==◌, Option, Some, None, is_some, arith}
use Rattle.image_text.specs.Image.{Image}
use Rattle.run_laws.specs.Events.{Enters}
use Rattle.mod_layout.proofs.Found.{place_by, find_module}
use Rattle.mod_layout.specs.Table.{place_in, place_of, module_of, holds}
use Rattle.mod_layout.specs.declared.Module.{Module}
use Rattle.mod_layout.specs.declared.Place.TheVariants.{Entry}
use Rattle.pc_access.specs.Rights.{right}
use Rattle.pc_access.specs.declared.Stop.{Stop}
use Rattle.reg_backup.specs.Held.{held_ids}
use Rattle.reg_backup.specs.declared.backup.After.TheVariants.{Next}
use Rattle.schedule_file.specs.declared.Entry.{Entry as Scheduled}
use Rattle.std.proofs.lemmas.Bool.Decides.{nat_tests}
use Rattle.tracer.specs.declared.Event.{Event}
use Rattle.tracer.specs.declared.Event.TheVariants.{Enter as Entered}
use Rattle.written_machine.proofs.Stops.{cycle_by}
use Rattle.written_machine.specs.Cycle.{Step, told, pc_of, settle, ticked, arrive_inside, act, fetch, turn, move, cycle}
use Rattle.written_machine.specs.State.{State}
use Rattle.written_machine.specs.View.{at}
use Rattle.run_laws.proofs.Ways.{turn_tells, perform_tells, sent_tells, EachAct, EachTurn, each_turn, settle_ways}

-- ---- no event of these enters a module
module _ (m from : ℕ) where
  split : (xs ys : List Event) → Enters m from (xs ++ ys) → Enters m from xs ⊎ Enters m from ys
  split [] ys h = inr h
  split (x ∷ xs) ys h = ⊎_elim (λ e. inl (inl e)) (λ r. ⊎_elim (λ a. inl (inr a)) (λ b. inr b) (split xs ys r)) h

  abbrev Quiet : List Event → Type 0
  Quiet es = Enters m from es → ⊥

  one : (e : Event) → (e ≡ Entered m from → ⊥) → Quiet (e ∷ [])
  one e n h = ⊎_elim n (λ x. x) h

  settle_quiet : (s : State) → Quiet (settle s).events
  settle_quiet s =
      settle_ways s (λ u. Quiet u.events) (λ h. h) (λ b fs f. one (Event.Resume b.module) (λ e. cc)) (λ id x a o. one (Event.Close id) (λ e. cc)) (λ f. one (Event.Handler (pc_of s)) (λ e. cc))
      (λ id a. one (Event.Leave id (pc_of s)) (λ e. cc))

  acts_quiet : EachAct (λ s t. Quiet t.events)
  acts_quiet = record {
    stops = λ rule addr id s. one (Event.Stop _) (λ e. cc);
    performs = λ insn s. perform_tells Quiet (λ h. h) (λ n. one (Event.Protect n) (λ e. cc)) insn s;
    returns = λ s q h. ⊎_elim (λ (e : Event.Reti ≡ Entered m from). cc) q h;
    resumes = λ s e h. h;
  }

  -- ---- so where the module is entered, its entry begins
  pub record Enters_now (s : State) (u : Step) : Type 0 where
    pub is : u ≡ told (Entered m from ∷ []) (act (record s { active = Some m; caller = from; after = Next }))
    pub free : right s.table s.active (held_ids s.frames) (fetch s) ≡ None
    pub here : place_of s.table (pc_of s) ≡ Entry m
    pub none : s.active ≡ None

  -- from a state, what tells of the entry
  abbrev Entering : State → Step → Type 0
  Entering s t = Enters m from t.events → Enters_now s t

  entered_by : (left id : ℕ) (s : State) → right s.table s.active (held_ids s.frames) (fetch s) ≡ None → place_of s.table (pc_of s) ≡ Entry id → s.active ≡ None →
      Entered id left ≡ Entered m from → Enters_now s (told (Entered id left ∷ []) (act (record s { active = Some id; caller = left; after = Next })))
  entered_by left id s free p a e =
      let i : id ≡ m = cc in
      let l : left ≡ from = cc in
      let go : ℕ → ℕ → Step = λ x y. told (Entered x y ∷ []) (act (record s { active = Some x; caller = y; after = Next })) in
      record { is = ap (λ x. go x left) i ∙ ap (go m) l; free = free; here = p ∙ ap Entry i; none = a }

  turns_entering : EachTurn (λ s t. Quiet t.events) Entering
  unfolding arrive_inside
  turns_entering = record {
    refuses = λ d s h. absurd (one (Event.Stop _) (λ e. cc) h);
    acts = λ s q h. absurd (q h);
    enters = λ left id s free p a q h. ⊎_elim (entered_by left id s free p a) (λ x. absurd (q x)) h;
    pads = λ n s p h. absurd h;
    waits = λ r s h. absurd h;
    sleeps = λ s h. absurd h;
    inside = λ v id s d a h. absurd (one (Event.Hide id v) (λ e. cc) h);
    pushes = λ v s d h. absurd (one (Event.Irq v) (λ e. cc) h);
  }

  move_entering : (s : State) → Enters m from (move s).events → (let u = settle (ticked s) in Enters_now u.state (turn u.left u.state))
  unfolding move
  move_entering s h =
      let u = settle (ticked s) in
      let t = turn u.left u.state in
      each_turn (λ s t. Quiet t.events) acts_quiet Entering turns_entering u.left u.state
      (turn_tells (Enters m from) split (sent_tells Quiet (λ h. h) (λ b. one (Event.Out b) (λ e. cc))) t.state.stop u.events t (settle_quiet (ticked s)) h)

  pub cycle_entering : (o : Option Stop) (s : State) → Enters m from (cycle_by o s).events → (o ≡ None) × (let u = settle (ticked s) in Enters_now u.state (turn u.left u.state))
  cycle_entering (Some stop) s h = absurd h
  cycle_entering None s h = (refl, move_entering s h)

-- ---- and it is in the table
found_in : (m a : ℕ) (ms : List Module) → place_in ms a ≡ Entry m → is_some (find_module m ms) ≡ true
found_in m a [] e = cc
found_in m a (x ∷ ms) e = by ((a == x.text.start) || (a == x.text.start + 1)) (holds x.text a) (holds x.ram a) e (λ f. found_in m a ms f)
  where
    kept : (c : Bool) → is_some (find_module m ms) ≡ true → is_some (cond c (Some x) (find_module m ms)) ≡ true
    kept true h = refl
    kept false h = h

    by : (p q r : Bool) → place_by p q r x.id (place_in ms a) ≡ Entry m → (place_in ms a ≡ Entry m → is_some (find_module m ms) ≡ true) → is_some (cond (x.id == m) (Some x) (find_module m ms)) ≡ true
    by true q r f h = let i : x.id ≡ m = cc in let k : (x.id == m) ≡ true = grind (arith, nat_tests) in ap (λ c. is_some (cond c (Some x) (find_module m ms))) k
    by false false false f h = kept (x.id == m) (h f)
    by false _ _ f h = cc

pub entered_known : (a : Image) (m : ℕ) (schedule : List Scheduled) (k from : ℕ) → Enters m from (cycle (at a schedule k)).events → is_some (module_of m (settle (ticked (at a schedule k))).state.table) ≡ true
unfolding place_of
entered_known a m schedule k from h = found_in m _ (settle (ticked (at a schedule k))).state.table.modules (cycle_entering m from (at a schedule k).stop (at a schedule k) h).1.here
