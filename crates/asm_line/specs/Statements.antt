-- What a line says. Names are texts as a line writes them, or the numbers that they have in a source.
use Rattle.std.specs.Prelude.{ℕ, ◌*◌, Bool, true, false, List, Option}
use Rattle.insn_decode.specs.Code.{length_of}
use Rattle.insn_decode.specs.declared.insn.Operand.{Operand}
use Rattle.asm_line.specs.declared.statement.SectionKind.{SectionKind}
use Rattle.asm_line.specs.declared.statement.SectionKind.TheVariants.{Code as CodeKind, Bss as BssKind}
use Rattle.asm_line.specs.declared.statement.Statement.{Statement}
use Rattle.asm_line.specs.declared.statement.Statement.TheVariants.{Word, Space, Jump, Code}

-- ---- other names in the same places

-- an operand whose number a name may stand for
pub record OperandValue : Type 0 where
  pub operand : Operand
  pub name : Option (List ℕ)

-- ---- what a statement is to its section

-- the bytes that it takes
abbrev pub statement_size : Statement ℕ → ℕ
statement_size (Word field) = 2
statement_size (Space size) = size
statement_size (Jump condition target) = 2
statement_size (Code insn first second) = 2 * length_of insn
statement_size _ = 0

-- whether it may stand in a section of this kind
abbrev pub kind_takes : SectionKind → Statement ℕ → Bool
kind_takes BssKind (Word field) = false
kind_takes _ (Word field) = true
kind_takes BssKind (Space size) = true
kind_takes _ (Space size) = false
kind_takes CodeKind (Jump condition target) = true
kind_takes _ (Jump condition target) = false
kind_takes CodeKind (Code insn first second) = true
kind_takes _ (Code insn first second) = false
kind_takes _ _ = true
