-- A cycle is stopped by the first of its checks that is refused, and by nothing else.
use Rattle.std.proofs.Common.{◌≡◌, ℕ, zero, suc, List, ◌∷◌, map, refl, sym, ap, ◌∙◌, Bool, true, false, not, Option, Some, None, is_none}
use Rattle.attest.specs.Units.{Doer, UnitName, Unprotect, unit_plan}
use Rattle.cpu_step.specs.Asked.{asks}
use Rattle.cpu_step.specs.Fetched.{insn_at, later_word}
use Rattle.insn_decode.specs.Code.{insn_of, length_of, length_or_one, length_at}
use Rattle.insn_decode.specs.declared.insn.Insn.{Insn}
use Rattle.insn_decode.specs.declared.insn.Insn.TheVariants.{Reti, Unit as UnitOp}
use Rattle.mod_layout.specs.First.{first_in, first_of}
use Rattle.mod_layout.specs.Table.{place_of}
use Rattle.mod_layout.specs.declared.Place.{Place}
use Rattle.mod_layout.specs.declared.Place.TheVariants.{Open, Entry}
use Rattle.pc_access.specs.Rights.{right, refuse_if}
use Rattle.pc_access.specs.declared.Access.{Access}
use Rattle.pc_access.specs.declared.Denied.{Denied}
use Rattle.pc_access.specs.declared.Rule.TheVariants.{RetiInside, Straddle, Illegal}
use Rattle.pc_access.specs.declared.Stop.{Stop}
use Rattle.reg_backup.specs.Held.{held_ids}
use Rattle.reg_backup.specs.declared.backup.After.{After}
use Rattle.reg_backup.specs.declared.backup.Phase.{Phase}
use Rattle.reg_backup.specs.declared.backup.Phase.TheVariants.{Run, Pad}
use Rattle.reg_backup.specs.declared.frames.Frame.{Frame}
use Rattle.reg_backup.specs.declared.frames.Frame.TheVariants.{Module as Held}
use Rattle.written_machine.proofs.Stops.{cycle_by}
use Rattle.written_machine.specs.Cycle.{Step, told, pc_of, byte_of, settle, ticked, due, arrive_inside, arrive_outside, push_both, pushes, who_of, perform, attempt, returned_by, reti_by, act_on, act_home, act_first, act, is_home, enter_at, enter, fetch, begin, turn, move, cycle, unless}
use Rattle.written_machine.specs.Passing.{asleep}
use Rattle.written_machine.specs.State.{State}
use Rattle.std.specs.Option.{option_or}
use Rattle.run_laws.proofs.Tame.{settle_same, ticked_stop}
use Rattle.run_laws.proofs.Ways.{counted_holds, enter_ways}
use Rattle.insn_decode.proofs.Unread.{none_outside, outside_none}
use Rattle.mod_layout.proofs.FirstLemmas.{first_of_map}
use Rattle.written_machine.specs.Checks.{active_at, entered, first_word, insn_at_pc, asked_to_return, asked_by, returns_inside, check_of, later_checks, insn_checks, stop_at, stop_of, refused_in}
use Rattle.run_laws.proofs.Cases.{turn_at, turn_unless, turn_is, checks_at, checks_unless, checks_are}

-- the step leaves the machine stopped by this refusal in this state, and running where there is none
abbrev Stops : Step → Option Denied → State → Type 0
Stops t d s = t.state.stop ≡ stop_at d s

-- ---- an instruction

-- the first refusal among accesses that a state's module asks for
abbrev refusal : List Access → State → Option Denied
refusal xs s = first_in (right s.table s.active (held_ids s.frames)) xs

unless_stops : (d : Option Denied) (t : Step) (s : State) → t.state.stop ≡ None → Stops (unless d s t) d s
unless_stops (Some d) t s h = refl
unless_stops None t s h = h

attempt_stops : (insn : Insn) (s : State) → s.stop ≡ None → Stops (attempt insn s) (refusal (asks (who_of s) insn s.core) s) s
unfolding attempt perform
attempt_stops insn s h = unless_stops (refusal (asks (who_of s) insn s.core) s) (perform insn s) s h

returned_stop : (o : Option Stop) (t : Step) → (returned_by o t).state.stop ≡ t.state.stop
returned_stop (Some stop) t = refl
returned_stop None t = refl

reti_stops : (fs : List Frame) (s : State) → s.stop ≡ None → Stops (reti_by None fs s) (refusal (asked_to_return fs s) s) s
reti_stops (Held b ∷ fs) s h = h
reti_stops _ s h = returned_stop (attempt Reti s).state.stop (attempt Reti s) ∙ attempt_stops Reti s h

-- the refusal of RETI inside a module, or else of an access
abbrev late : Option Insn → Option ℕ → State → Option Denied
late o active s = option_or (refuse_if (returns_inside o active) RetiInside (pc_of s) 0) (refusal (asked_by o s) s)

reti_of_stops : (a : Option ℕ) (s : State) → s.stop ≡ None → Stops (reti_by a s.frames s) (late (Some Reti) a s) s
reti_of_stops (Some id) s h = refl
reti_of_stops None s h = reti_stops s.frames s h

act_by_stops : (insn : Insn) (s : State) → s.stop ≡ None → Stops (act_on (Some insn) s) (late (Some insn) s.active s) s
act_by_stops Reti s h = reti_of_stops s.active s h
act_by_stops insn s h = attempt_stops insn s h

-- words whose first is in the code table mean an instruction, whatever the others are
some_all : (w0 w1 w2 : ℕ) (first : Insn) → insn_of w0 0 0 ≡ Some first → insn_of w0 w1 w2 ≡ None → ⊥
some_all w0 w1 w2 first e n = let z : insn_of w0 0 0 ≡ None = outside_none w0 0 0 (none_outside w0 w1 w2 n) in absurd cc

act_on_stops : (o : Option Insn) (s : State) → s.stop ≡ None → (o ≡ None → ⊥) → Stops (act_on o s) (late o s.active s) s
act_on_stops None s h no_none = absurd (no_none refl)
act_on_stops (Some insn) s h no_none = act_by_stops insn s h

-- the refusal of a place away from home, or else a later one
abbrev middle : Bool → Option Insn → State → Option Denied
middle home o s = option_or (refuse_if (not home) Straddle (pc_of s) 0) (late o s.active s)

act_home_stops : (b : Bool) (n : ℕ) (s : State) → s.stop ≡ None → (insn_at (byte_of s) (pc_of s) n ≡ None → ⊥) → Stops (act_home b n s) (middle b (insn_at (byte_of s) (pc_of s) n) s) s
act_home_stops false n s h some = refl
act_home_stops true n s h some = act_on_stops (insn_at (byte_of s) (pc_of s) n) s h some

-- by what the first word means
abbrev later_by : Option Insn → State → Option Denied
later_by o s =
    let n = length_or_one o in
    option_or (refuse_if (is_none o) Illegal (pc_of s) 0) (middle (is_home s.table s.active (pc_of s) n) (insn_at (byte_of s) (pc_of s) n) s)

act_first_stops : (o : Option Insn) (s : State) → insn_of (first_word s) 0 0 ≡ o → s.stop ≡ None → Stops (act_first o s) (later_by o s) s
act_first_stops None s e h = refl
act_first_stops (Some first) s e h =
    let n = length_of first in
    act_home_stops (is_home s.table s.active (pc_of s) n) n s h (some_all (first_word s) (later_word (byte_of s) (pc_of s) n 1) (later_word (byte_of s) (pc_of s) n 2) first e)

-- the same checks as a list
later_is : (s : State) → first_of (later_checks s) ≡ later_by (insn_of (first_word s) 0 0) s
later_is s =
    let n = length_at (first_word s) in
    let accesses = asked_by (insn_at_pc s) s in
    ap (λ d. option_or (refuse_if (is_none (insn_of (first_word s) 0 0)) Illegal (pc_of s) 0) (option_or (refuse_if (not (is_home s.table s.active (pc_of s) n)) Straddle (pc_of s) 0) (option_or (refuse_if (returns_inside (insn_at_pc s) s.active) RetiInside (pc_of s) 0) d))) (first_of_map (right s.table s.active (held_ids s.frames)) accesses)

act_stops : (s : State) → s.stop ≡ None → Stops (act s) (first_of (later_checks s)) s
unfolding act
act_stops s h = act_first_stops (insn_of (first_word s) 0 0) s refl h ∙ ap (λ d. stop_at d s) (sym (later_is s))

-- ---- an entry

-- no access of an instruction depends on the caller
unit_caller : (u : UnitName) (who : Doer) (caller : ℕ) (core : List ℕ) → unit_plan (record who { caller = caller }) u core ≡ unit_plan who u core
unfolding unit_plan
unit_caller Unprotect who caller core = refl
unit_caller _ who caller core = refl

asks_caller : (insn : Insn) (who : Doer) (caller : ℕ) (core : List ℕ) → asks (record who { caller = caller }) insn core ≡ asks who insn core
unfolding asks
asks_caller (UnitOp n) who caller core = unit_caller n who caller core
asks_caller _ who caller core = refl

-- a state with another caller, and with something else to settle
abbrev called : ℕ → After → State → State
called caller after s = record s { caller = caller; after = after }

return_called : (fs : List Frame) (caller : ℕ) (after : After) (s : State) → asked_to_return fs (called caller after s) ≡ asked_to_return fs s
return_called (Held b ∷ fs) caller after s = refl
return_called _ caller after s = asks_caller Reti (who_of s) caller s.core

asked_called : (o : Option Insn) (caller : ℕ) (after : After) (s : State) → asked_by o (called caller after s) ≡ asked_by o s
asked_called None caller after s = refl
asked_called (Some Reti) caller after s = return_called s.frames caller after s
asked_called (Some insn) caller after s = asks_caller insn (who_of s) caller s.core

later_called : (caller : ℕ) (after : After) (s : State) → later_checks (called caller after s) ≡ later_checks s
later_called caller after s =
    let n = length_at (first_word s) in
    ap (λ xs. refuse_if (is_none (insn_of (first_word s) 0 0)) Illegal (pc_of s) 0 ∷ refuse_if (not (is_home s.table s.active (pc_of s) n)) Straddle (pc_of s) 0 ∷ refuse_if (returns_inside (insn_at_pc s) s.active) RetiInside (pc_of s) 0 ∷ map (check_of s.active s) xs) (asked_called (insn_at_pc s) caller after s)

-- the checks of a state once a module is entered
abbrev once : Option ℕ → State → List (Option Denied)
once active s = later_checks (record s { active = active })

enter_at_checks : (p : Place) (a : Option ℕ) (left : ℕ) (s : State) → s.active ≡ a → later_checks (enter_at p a left s).state ≡ once (active_at a p) s
enter_at_checks (Entry id) None left s e = later_called left After.Next (record s { active = Some id })
enter_at_checks Open (Some x) left s e = ap (λ a. once a s) e
enter_at_checks _ (Some x) left s e = ap (λ a. once a s) e
enter_at_checks _ None left s e = ap (λ a. once a s) e

enter_at_core : (p : Place) (a : Option ℕ) (left : ℕ) (s : State) → (enter_at p a left s).state.core ≡ s.core
enter_at_core (Entry id) None left s = refl
enter_at_core _ _ left s = refl

-- what an entry leaves is checked as the state in which the module is active, at the same PC
enter_checks : (left : ℕ) (s : State) → (later_checks (enter left s).state ≡ later_checks (entered s)) × ((enter left s).state.core ≡ s.core)
unfolding enter
enter_checks left s = (enter_at_checks (place_of s.table (pc_of s)) s.active left s refl, enter_at_core (place_of s.table (pc_of s)) s.active left s)

-- a stop depends on no more than the registers
stop_core : (d : Option Denied) (s t : State) → s.core ≡ t.core → stop_at d s ≡ stop_at d t
stop_core None s t e = refl
stop_core (Some d) s t e = ap (λ c. stop_at (Some d) (record s { core = c })) e

-- ---- a turn
begin_by_stops : (d : Option Denied) (left : ℕ) (s : State) → s.stop ≡ None → Stops (unless d s (let e = enter left s in told e.events (act e.state))) (option_or d (first_of (later_checks (entered s)))) s
begin_by_stops (Some d) left s h = refl
begin_by_stops None left s h =
    let e = (enter left s).state in
    let x = enter_checks left s in
    act_stops e (enter_ways s (λ t. t.state.stop ≡ s.stop) left refl (λ id p a. refl) ∙ h)
    ∙ stop_core (first_of (later_checks e)) e s x.1 ∙ ap (λ cs. stop_at (first_of cs) s) x.0

begin_stops : (left : ℕ) (s : State) → s.stop ≡ None → Stops (begin left s) (first_of (insn_checks s)) s
unfolding begin
begin_stops left s h = begin_by_stops (right s.table s.active (held_ids s.frames) (fetch s)) left s h

asleep_stops : (x : Bool) (left : ℕ) (s : State) → s.stop ≡ None → Stops (turn_unless x left s) (first_of (checks_unless x s)) s
asleep_stops true left s h = h
asleep_stops false left s h = begin_stops left s h

outside_stops : (v : ℕ) (s : State) → s.stop ≡ None → Stops (arrive_outside v s) (first_of (map (check_of None s) (pushes s))) s
unfolding arrive_outside
outside_stops v s h =
    unless_stops (first_in (right s.table None (held_ids s.frames)) (pushes s)) (push_both v s) s h ∙ ap (λ d. stop_at d s) (sym (first_of_map (right s.table None (held_ids s.frames)) (pushes s)))

by_stops : (d a : Option ℕ) (p : Phase) (left : ℕ) (s : State) → s.stop ≡ None → Stops (turn_at d a p left s) (first_of (checks_at d a p s)) s
unfolding arrive_inside
by_stops d a (Pad n) left s h = h
by_stops (Some v) (Some id) (Run r) left s h = h
by_stops (Some v) None (Run zero) left s h = outside_stops v s h
by_stops None None (Run (suc r)) left s h = h
by_stops None None (Run zero) left s h = asleep_stops (asleep s) left s h
by_stops None (Some id) (Run zero) left s h = begin_stops left s h
by_stops _ _ (Run (suc r)) left s h = h

turn_stops : (left : ℕ) (s : State) → s.stop ≡ None → (turn left s).state.stop ≡ stop_of s
turn_stops left s h =
    ap (λ t. t.state.stop) (turn_is left s) ∙ by_stops (due s) s.active s.phase left s h ∙ ap (λ cs. stop_at (first_of cs) s) (sym (checks_are s))

-- ---- a cycle

move_stops : (s : State) → s.stop ≡ None → (move s).state.stop ≡ refused_in s
unfolding move refused_in
move_stops s h =
    let u = settle (ticked s) in
    let t = turn u.left u.state in
    counted_holds (λ v. v.stop ≡ refused_in s) (λ v k g. g) t.state.stop (told u.events t)
    (turn_stops u.left u.state ((settle_same (ticked s)).2 ∙ ticked_stop s ∙ h))

-- a machine that runs is stopped by the first check that is refused, and by nothing else
pub refused_told : (s : State) → s.stop ≡ None → (cycle s).state.stop ≡ refused_in s
refused_told s h = ap (λ o. (cycle_by o s).state.stop) h ∙ move_stops s h
