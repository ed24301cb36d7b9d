-- Where a module is held, others' turns tell nothing of its hides and resumes.
use Rattle.std.proofs.Common.{◌≡◌, ℕ, List, [], ◌∷◌, ◌++◌, refl, sym, ap, ◌∙◌, subst, arith, Bool, true, false, ◌==◌, Some}
use Rattle.isolation.specs.Calls.{Away, away_if, back_from, note, notes}
use Rattle.pc_access.specs.Rights.{is_id}
use Rattle.reg_backup.specs.declared.backup.Backup.{Backup}
use Rattle.std.proofs.lemmas.Bool.Decides.{nat_tests}
use Rattle.tracer.specs.declared.Event.{Event}
use Rattle.written_machine.specs.Cycle.{Step, pc_of, settle, arrive_inside, turn}
use Rattle.written_machine.specs.State.{State}
use Rattle.run_laws.proofs.Ways.{perform_tells, EachAct, EachTurn, each_turn, settle_ways}

module _ (m : ℕ) where
  abbrev pub Still : List Event → Type 0
  Still [] = Unit {0}
  Still (Event.Hide id v ∷ es) = ((id == m) ≡ false) × Still es
  Still (Event.Resume id ∷ es) = ((id == m) ≡ false) × Still es
  Still (_ ∷ es) = Still es

  pub still_notes : (k : ℕ) (es : List Event) (w : Away) → Still es → notes m k es w ≡ w
  still_notes k [] w h = refl
  still_notes k (Event.Hide id v ∷ es) w h = ap (λ c. notes m k es (away_if c (record { since = Some k; sum = w.sum }) w)) h.0 ∙ still_notes k es w h.1
  still_notes k (Event.Resume id ∷ es) w h = ap (λ c. notes m k es (away_if c (back_from w.since k w.sum) w)) h.0 ∙ still_notes k es w h.1
  still_notes k (_ ∷ es) w h = still_notes k es w h

  pub notes_more : (k : ℕ) (es fs : List Event) (w : Away) → notes m k (es ++ fs) w ≡ notes m k fs (notes m k es w)
  notes_more k [] fs w = refl
  notes_more k (e ∷ es) fs w = notes_more k es fs (note m k e w)

  acts_still : EachAct (λ s t. Still t.events)
  acts_still = record {
    stops = λ rule addr id s. tt;
    performs = λ insn s. perform_tells Still tt (λ n. tt) insn s;
    returns = λ s h. h;
    resumes = λ s e. tt;
  }

  -- a turn of another
  abbrev Others : State → Step → Type 0
  Others s t = is_id m s.active ≡ false → Still t.events

  turns_still : EachTurn (λ s t. Still t.events) Others
  unfolding arrive_inside
  turns_still = record {
    refuses = λ d s e. tt;
    acts = λ s h e. h;
    enters = λ left id s free p a h e. h;
    pads = λ n s p e. tt;
    waits = λ r s e. tt;
    sleeps = λ s e. tt;
    inside = λ v id s d a e. (subst (λ o. is_id m o ≡ false) a e, tt);
    pushes = λ v s d e. tt;
  }

  pub turn_still : (left : ℕ) (s : State) → is_id m s.active ≡ false → Still (turn left s).events
  turn_still left s e = each_turn (λ s t. Still t.events) acts_still Others turns_still left s e

  -- ---- settling while the module is not active: it is resumed, or nothing is told of it
  abbrev pub Told : Bool → List Event → Type 0
  Told true es = es ≡ Event.Resume m ∷ []
  Told false es = Still es

  resumed_told : (b : Backup) → Told (b.module == m) (Event.Resume b.module ∷ [])
  resumed_told b = by (b.module == m) refl
    where
      by : (c : Bool) → (b.module == m) ≡ c → Told (b.module == m) (Event.Resume b.module ∷ [])
      by true e = subst (λ c. Told c (Event.Resume b.module ∷ [])) (sym e) (let same : b.module ≡ m = grind (arith, nat_tests) in ap (λ i. Event.Resume i ∷ []) same)
      by false e = subst (λ c. Told c (Event.Resume b.module ∷ [])) (sym e) (e, tt)

  pub settle_told : (s : State) → is_id m s.active ≡ false → Told (is_id m (settle s).state.active) (settle s).events
  settle_told s n =
      settle_ways s (λ u. Told (is_id m u.state.active) u.events) (subst (λ c. Told c []) (sym n) tt) (λ b fs e. resumed_told b) (λ id x a o. tt)
      (λ e. subst (λ c. Told c (Event.Handler (pc_of s) ∷ [])) (sym n) tt) (λ id a. tt)
