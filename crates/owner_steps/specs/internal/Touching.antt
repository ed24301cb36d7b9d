-- What the code's own invariants say of: Touching.
use Rattle.std.specs.Prelude.{ℕ, nat_lt, if◌then◌else◌, true, false, List, [], ◌∷◌, ◌++◌, length}
use Rattle.sm_words.specs.declared.width.Width.{Width}
use Rattle.insn_decode.specs.declared.insn.Insn.{Insn}
use Rattle.insn_decode.specs.declared.insn.Insn.TheVariants.{Reti, Unit as UnitOp}
use Rattle.pc_access.specs.declared.Access.{Access}
use Rattle.reg_backup.specs.declared.frames.Frame.{Frame}
use Rattle.reg_backup.specs.declared.frames.Frame.TheVariants.{Module as Held}
use Rattle.cpu_step.specs.Plan.{plan}
use Rattle.written_machine.specs.Ports.{read_width}
use Rattle.owner_steps.specs.Touched.{Traced, traced_answer, touch}
use Rattle.owner_steps.specs.declared.touching.Touch.{Touch}
use Rattle.owner_steps.specs.declared.touching.Touching.{Touching}

-- what it stands for: the devices have the schedule that a mark of them has not
abbrev pub traced_of : Touching → Traced
traced_of t = record {
  port = record { devices = record t.devices.devices { schedule = t.settled.now.devices.schedule }; memory = t.settled.now.memory };
  touched = t.touched.items;
}

-- three are kept, and no more
abbrev pub kept_touches : List Touch → Touch → List Touch
kept_touches xs x = if nat_lt (length xs) 3 then xs ++ (x ∷ []) else xs

abbrev pub read_kept : Traced → Width → ℕ → Traced
read_kept t w a = record { port = (read_width w t.port a).port; touched = kept_touches t.touched (touch false w a (traced_answer t w a)) }

abbrev pub write_kept : Traced → Width → ℕ → ℕ → Traced
write_kept t w a v = record t { touched = kept_touches t.touched (touch true w a v) }

-- the plan of what is shown
abbrev pub plan_shown : Insn → List Frame → List ℕ → List Access
plan_shown (UnitOp n) fs core = []
plan_shown Reti (Held b ∷ fs) core = []
plan_shown insn fs core = plan insn core
