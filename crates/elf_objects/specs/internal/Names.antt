-- The zeros of a string table.
use Rattle.std.specs.Prelude.{◌≡◌, ℕ, List, [], ◌∷◌, ◌+◌, ◌==◌, drop, not, nat_lt, max, if◌then◌else◌, Option, Some, None, unwrap_or}
use Rattle.std.specs.List.{prefix_len}
use Rattle.std.specs.List.Sorted.{IsNonDecreasing}
use Rattle.elf_objects.specs.declared.section.Header.{Header}
use Rattle.elf_objects.specs.declared.names.Names.{Names}
use Rattle.elf_objects.specs.Section.{content}
use Rattle.elf_objects.specs.Names.{name_end}

-- the first of these that is not below
abbrev pub first_from : List ℕ → ℕ → Option ℕ
first_from [] offset = None
first_from (z ∷ zs) offset = if nat_lt z offset then first_from zs offset else Some z

-- the zeros of this string table
pub record AreNameEnds (file : List ℕ) (strings : Header) (names : Names) : Type 0 where
  pub start : names.start ≡ strings.offset
  pub rises : IsNonDecreasing names.zeros.items
  pub ends : (k : ℕ) → first_from names.zeros.items k ≡ name_end file strings k
  pub spans : (k : ℕ) → unwrap_or (first_from names.zeros.items k) (max k names.size) ≡ k + prefix_len (λ b. not (b == 0)) (drop k (content file strings))
