-- The cases of a cycle, by the vector that is due, the active module and the phase.
use Rattle.std.proofs.Common.{◌≡◌, ℕ, List, refl, ap, ◌∙◌, Bool, Option, None}
use Rattle.run_laws.specs.Frames.{rest_of}
use Rattle.pc_access.specs.declared.Denied.{Denied}
use Rattle.reg_backup.specs.declared.backup.Phase.{Phase}
use Rattle.reg_backup.specs.declared.backup.Phase.TheVariants.{Run}
use Rattle.written_machine.specs.Cycle.{Step, due, turn_by, turn, arrive_inside}
use Rattle.written_machine.specs.Passing.{asleep}
use Rattle.written_machine.specs.State.{State}
use Rattle.irq_padding.specs.Turns.{turn_of}
use Rattle.written_machine.specs.Checks.{checks_by, checks}

abbrev pub turn_at : Option ℕ → Option ℕ → Phase → ℕ → State → Step
turn_at due active phase left s = turn_by (turn_of phase due active (asleep s)) left s

abbrev pub checks_at : Option ℕ → Option ℕ → Phase → State → List (Option Denied)
checks_at due active phase s = checks_by (turn_of phase due active (asleep s)) s

-- a vector arrives while this module is active
abbrev pub interrupted : ℕ → ℕ → State → Step
interrupted v id s = arrive_inside v id (rest_of s.phase) s

-- outside, at the end of an instruction and with no vector due
abbrev pub turn_unless : Bool → ℕ → State → Step
turn_unless off left s = turn_by (turn_of (Run 0) None None off) left s

abbrev pub checks_unless : Bool → State → List (Option Denied)
checks_unless off s = checks_by (turn_of (Run 0) None None off) s

pub turn_is : (left : ℕ) (s : State) → turn left s ≡ turn_at (due s) s.active s.phase left s
unfolding turn
turn_is left s = refl

pub turn_as : (left : ℕ) (s : State) (d o : Option ℕ) (p : Phase) → due s ≡ d → s.active ≡ o → s.phase ≡ p → turn left s ≡ turn_at d o p left s
turn_as left s d o p e f g =
    turn_is left s ∙ ap (λ x. turn_at x s.active s.phase left s) e ∙ ap (λ x. turn_at d x s.phase left s) f ∙ ap (λ x. turn_at d o x left s) g

pub checks_are : (s : State) → checks s ≡ checks_at (due s) s.active s.phase s
checks_are s = refl
