-- What the code's own invariants say of: Line.
use Rattle.std.specs.Prelude.{ℕ, nat_le, if◌then◌else◌, Option, Some, None, Result, Ok, Err}
use Rattle.script_file.specs.declared.line.Operands.{Operands}
use Rattle.script_file.specs.declared.line.LineFault.{LineFault}
use Rattle.script_file.specs.declared.line.LineFault.TheVariants.{Form, Bounds}

-- a number that is at most this
abbrev pub up_to : ℕ → Option ℕ → Result ℕ LineFault
up_to most None = Err Form
up_to most (Some n) = if nat_le n most then Ok n else Err Bounds

abbrev pub up_to_operands : ℕ → Option Operands → Result Operands LineFault
up_to_operands most None = Err Form
up_to_operands most (Some a) = if nat_le a.number most then Ok a else Err Bounds
