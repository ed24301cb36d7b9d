-- What the code's own invariants say of: Statements.
use Rattle.std.specs.Prelude.{ℕ, List}
use Rattle.std.specs.Option.{option_copied}
use Rattle.std.specs.Borrow.{Bor}
use Rattle.asm_line.specs.declared.statement.Field.{Field}
use Rattle.asm_line.specs.declared.statement.Value.{Value}
use Rattle.asm_line.specs.Statements.{OperandValue}
use Rattle.asm_line.specs.Renamed.{renamed_field}

abbrev pub field_with_text : Field (Bor (List ℕ)) → Field (List ℕ)
field_with_text f = renamed_field (λ (name : Bor (List ℕ)). name.now) f

abbrev pub operand_value : Value → OperandValue
operand_value v = record { operand = v.operand; name = option_copied v.name }
