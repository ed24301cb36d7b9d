-- The entries of a schedule.
use Rattle.std.specs.Prelude.{◌≡◌, ◌<◌, ◌^◌, Bool, true, nat_le, List}
use Rattle.std.specs.List.Sorted.{IsNonDecreasingBy}
use Rattle.schedule_file.specs.declared.Entry.{Entry}
use Rattle.schedule_file.specs.declared.What.{What}
use Rattle.schedule_file.specs.declared.What.TheVariants.{Serial, Up, Down}

-- whether the line that moves, where one does, is one of the lines 0 to 3
abbrev pub has_line : What → Bool
has_line (Serial byte) = true
has_line (Up line) = nat_le line 3
has_line (Down line) = nat_le line 3

abbrev pub HasLine : Entry → Type 0
HasLine e = has_line e.what ≡ true

-- no cycle is below the one before
abbrev pub CyclesNeverFall : List Entry → Type 0
CyclesNeverFall es = IsNonDecreasingBy (λ e. e.cycle) es

-- an entry that a text can write: a cycle of at most eighteen digits, one of the lines 0 to 3, or a byte
abbrev pub IsWhat : What → Type 0
IsWhat (Serial byte) = byte < 256
IsWhat (Up line) = line < 4
IsWhat (Down line) = line < 4

abbrev pub IsScheduleEntry : Entry → Type 0
IsScheduleEntry e = (e.cycle < 10 ^ 18) × IsWhat e.what
