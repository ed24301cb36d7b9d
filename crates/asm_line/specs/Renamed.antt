-- A statement with other names in the same places.
use Rattle.std.specs.Prelude.{ℕ, List, option_map}
use Rattle.std.specs.Borrow.{Bor}
use Rattle.asm_line.specs.declared.statement.Field.{Field}
use Rattle.asm_line.specs.declared.statement.Field.TheVariants.{Number, Name}
use Rattle.asm_line.specs.declared.statement.Statement.{Statement}
use Rattle.asm_line.specs.declared.statement.Statement.TheVariants.{Section, Label, Global, Word, Space, Jump, Code}

abbrev pub renamed_field : {A B : Type 0} → (A → B) → Field A → Field B
renamed_field f (Number n) = Number n
renamed_field f (Name a) = Name (f a)

abbrev pub renamed : {A B : Type 0} → (A → B) → Statement A → Statement B
renamed f (Section name kind) = Section (f name) kind
renamed f (Label name) = Label (f name)
renamed f (Global name) = Global (f name)
renamed f (Word field) = Word (renamed_field f field)
renamed f (Space size) = Space size
renamed f (Jump condition target) = Jump condition (f target)
renamed f (Code insn first second) = Code insn (option_map f first) (option_map f second)

-- a statement with the texts of its names
abbrev pub with_texts : Statement (Bor (List ℕ)) → Statement (List ℕ)
with_texts s = renamed (λ (name : Bor (List ℕ)). name.now) s
