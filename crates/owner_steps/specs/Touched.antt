-- What an instruction reads and writes, in the order in which it does.
use Rattle.std.specs.Prelude.{ℕ, Bool, true, false, List, [], ◌∷◌, ◌++◌}
use Rattle.sm_words.specs.declared.width.Width.{Width}
use Rattle.insn_decode.specs.declared.insn.Insn.{Insn}
use Rattle.insn_decode.specs.declared.insn.Insn.TheVariants.{Reti, Unit as UnitOp}
use Rattle.reg_backup.specs.declared.frames.Frame.{Frame}
use Rattle.reg_backup.specs.declared.frames.Frame.TheVariants.{Module as Held}
use Rattle.cpu_step.specs.Through.{through}
use Rattle.written_machine.specs.Cycle.{port_of}
use Rattle.written_machine.specs.Ports.{Port, read_width}
use Rattle.written_machine.specs.State.{State}
use Rattle.owner_steps.specs.declared.touching.Touch.{Touch}

-- a read or a write with its value
abbrev pub touch : Bool → Width → ℕ → ℕ → Touch
touch is_write w a v = record { is_write = is_write; addr = a; width = w; value = v }

-- devices and memory, and what was read and written there
pub record Traced : Type 0 where
  pub port : Port
  pub touched : List Touch

abbrev pub traced_answer : Traced → Width → ℕ → ℕ
traced_answer t w a = (read_width w t.port a).value

abbrev pub traced_read : Traced → Width → ℕ → Traced
traced_read t w a = record { port = (read_width w t.port a).port; touched = t.touched ++ (touch false w a (traced_answer t w a) ∷ []) }

-- an instruction reads nothing once it has written, so what it writes need not be there
abbrev pub traced_write : Traced → Width → ℕ → ℕ → Traced
traced_write t w a v = record t { touched = t.touched ++ (touch true w a v ∷ []) }

-- by an instruction, whoever does it
abbrev pub touches_of : Insn → State → List Touch
touches_of insn s = (through traced_answer traced_read traced_write insn s.core false (record { port = port_of s; touched = [] })).state.touched

-- what is shown of it: RETI touches nothing where it resumes a module, and what unit instructions touch is not shown
abbrev pub shown_by : Insn → List Frame → State → List Touch
shown_by (UnitOp n) fs s = []
shown_by Reti (Held b ∷ fs) s = []
shown_by insn fs s = touches_of insn s

abbrev pub shown_touches : Insn → State → List Touch
shown_touches insn s = shown_by insn s.frames s
