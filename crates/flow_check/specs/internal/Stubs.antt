-- What makes a stub, in the code's parts.
use Rattle.std.specs.Prelude.{◌≡◌, ◌≤◌, ℕ, ◌+◌, ◌*◌, ◌%◌, ◌==◌, nat_le, nat_lt, ◌&&◌, Bool, true, false}
use Rattle.std.specs.Prelude.{List, slice_set, Option, Some, None}
use Rattle.mod_layout.specs.declared.Module.{Module}
use Rattle.mod_layout.specs.Table.{size_of}
use Rattle.flow_rule.specs.declared.Val.{Val}
use Rattle.flow_rule.specs.declared.Val.TheVariants.{Away}
use Rattle.mod_layout.specs.declared.TheConstants.{FIRST_VECTOR}
use Rattle.flow_rule.specs.Stub.{text_word, has_stub, entries_of}
use Rattle.flow_rule.specs.Verdict.{no_secret}

-- the sizes and the stack's end
abbrev pub fits_of : Module → ℕ → ℕ → Bool
fits_of m n p =
    nat_le (76 + 2 * n) (size_of m.text) && nat_le 1 n && nat_le n 64 && nat_le (m.ram.start + 4) p && (p % 2 == 0)
    && nat_le p m.ram.end

-- one address of the table
abbrev pub entry_fine : Module → List ℕ → ℕ → ℕ → Bool
entry_fine m text n k =
    let a = text_word m text (38 + k) in (a % 2 == 0) && nat_le (m.text.start + 76 + 2 * n) a && nat_lt a m.text.end

-- the registers at the start
abbrev pub first_core : Bool → ℕ → List Val
first_core true pc = slice_set (no_secret pc) 7 Away
first_core false pc = no_secret pc

abbrev pub entries_by : Bool → Module → List ℕ → Option ℕ
entries_by true m text = Some (entries_of m text)
entries_by false m text = None

-- the number of the entries of a text with a stub
abbrev pub stub_entries : Module → List ℕ → Option ℕ
stub_entries m text = entries_by (has_stub m text) m text

pub record IsStub (m : Module) (text : List ℕ) (entries : Option ℕ) : Type 0 where
  pub is : entries ≡ stub_entries m text
  pub high : m.text.end ≤ FIRST_VECTOR
  pub even : m.text.start % 2 ≡ 0
