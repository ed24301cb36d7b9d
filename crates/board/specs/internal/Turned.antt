-- What the machine's parts say of the end of a cycle.
use Rattle.std.specs.Prelude.{ℕ, suc, if◌then◌else◌, Option, None}
use Rattle.sm_words.specs.Status.{is_gie}
use Rattle.devices.specs.Devices.{line_of}
use Rattle.reg_backup.specs.declared.backup.Phase.{Phase}
use Rattle.reg_backup.specs.declared.backup.Phase.TheVariants.{Run, Pad}
use Rattle.written_machine.specs.State.{State}

-- the raised vector, where GIE is set
unfoldable pub raised : State → Option ℕ
raised s = if is_gie s.core then line_of s.devices else None

-- the cycles of padding that are left
abbrev pub padding_left : Phase → ℕ
padding_left (Pad left) = left
padding_left (Run rest) = 0

-- one cycle of the instruction less
abbrev pub waited : Phase → Phase
waited (Run (suc rest)) = Run rest
waited phase = phase
