-- What a cycle ends in.
use Rattle.std.specs.Prelude.{ℕ, zero, suc, ◌-◌, Bool, true, Option, Some, None}
use Rattle.reg_backup.specs.declared.backup.Phase.{Phase}
use Rattle.reg_backup.specs.declared.backup.Phase.TheVariants.{Run, Pad as Padding}
use Rattle.irq_padding.specs.declared.turn.Turn.{Turn as Kind}
use Rattle.irq_padding.specs.declared.turn.Turn.TheVariants.{Pad, Inside, Outside, Wait, Sleep, Begin}

-- each with what it needs
pub data Turn : Type 0 where
  -- one cycle of padding, after which so many are left
  Pads : (left : ℕ) → Turn
  -- a vector arrives while this module is active, at any cycle of its instruction, which still needs so many
  InterruptsModule : (vector id rest : ℕ) → Turn
  -- a vector arrives outside, between two instructions
  InterruptsOutside : (vector : ℕ) → Turn
  -- one cycle of an instruction that was begun, after which so many are left
  Continues : (rest : ℕ) → Turn
  -- the processor is off
  Sleeps : Turn
  -- an instruction begins
  Begins : Turn

-- the first that fits, by the vector that is due, the active module, and whether CPUOFF is set
abbrev pub turn_of : Phase → (due active : Option ℕ) → (off : Bool) → Turn
turn_of (Padding left) due active off = Pads (left - 1)
turn_of (Run rest) (Some vector) (Some id) off = InterruptsModule vector id rest
turn_of (Run zero) (Some vector) None off = InterruptsOutside vector
turn_of (Run (suc rest)) due active off = Continues rest
turn_of (Run zero) None None true = Sleeps
turn_of (Run zero) None active off = Begins

-- the kind alone
abbrev pub turn_kind : Turn → Kind
turn_kind (Pads left) = Pad
turn_kind (InterruptsModule vector id rest) = Inside
turn_kind (InterruptsOutside vector) = Outside
turn_kind (Continues rest) = Wait
turn_kind Sleeps = Sleep
turn_kind Begins = Begin
