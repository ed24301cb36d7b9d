-- Names by number: a name's number is its place among the names of a source by first appearance.
use Rattle.std.specs.Prelude.{ℕ, Bool, true, false, List, [], ◌∷◌, ◌++◌, Option, Some, None, is_some, position}
use Rattle.std.specs.List.{position_or_len}
use Rattle.std.specs.Str.{bytes_eq}
use Rattle.asm_line.specs.declared.statement.Field.TheVariants.{Number, Name}
use Rattle.asm_line.specs.declared.statement.Statement.{Statement}
use Rattle.asm_line.specs.declared.statement.Statement.TheVariants.{Section, Label, Global, Word, Space, Jump, Code}

-- where a name stands in a list of names, and the length of the list where it does not
abbrev pub name_number : List (List ℕ) → List ℕ → ℕ
name_number names name = position_or_len (λ n. bytes_eq n name) names

abbrev pub noted_by : Bool → List (List ℕ) → List ℕ → List (List ℕ)
noted_by true names name = names
noted_by false names name = names ++ name ∷ []

-- the list with this name, which comes last where it was not there
abbrev pub name_added : List (List ℕ) → List ℕ → List (List ℕ)
name_added names name = noted_by (is_some (position (λ n. bytes_eq n name) names)) names name

-- the names of sections, and all other names
pub record Tables : Type 0 where
  pub sections : List (List ℕ)
  pub names : List (List ℕ)

abbrev pub no_tables : Tables
no_tables = record { sections = []; names = [] }

-- ---- the names of a statement in its order

abbrev pub noted_option : List (List ℕ) → Option (List ℕ) → List (List ℕ)
noted_option names None = names
noted_option names (Some name) = name_added names name

abbrev pub number_option : List (List ℕ) → Option (List ℕ) → Option ℕ
number_option names None = None
number_option names (Some name) = Some (name_number names name)

-- the tables with the names of a statement
abbrev pub tables_after : Tables → Statement (List ℕ) → Tables
tables_after t (Section name kind) = record { sections = name_added t.sections name; names = t.names }
tables_after t (Label name) = record { sections = t.sections; names = name_added t.names name }
tables_after t (Global name) = record { sections = t.sections; names = name_added t.names name }
tables_after t (Word (Name name)) = record { sections = t.sections; names = name_added t.names name }
tables_after t (Word (Number n)) = t
tables_after t (Space size) = t
tables_after t (Jump condition target) = record { sections = t.sections; names = name_added t.names target }
tables_after t (Code insn first second) = record { sections = t.sections; names = noted_option (noted_option t.names first) second }

-- a statement that follows those of the tables, with its names by their numbers
abbrev pub numbered : Tables → Statement (List ℕ) → Statement ℕ
numbered t (Section name kind) = Section (name_number t.sections name) kind
numbered t (Label name) = Label (name_number t.names name)
numbered t (Global name) = Global (name_number t.names name)
numbered t (Word (Name name)) = Word (Name (name_number t.names name))
numbered t (Word (Number n)) = Word (Number n)
numbered t (Space size) = Space size
numbered t (Jump condition target) = Jump condition (name_number t.names target)
numbered t (Code insn first second) = Code insn (number_option t.names first) (number_option (noted_option t.names first) second)
