-- The symbols that faults of linking name.
use Rattle.std.proofs.Common.{◌≡◌, ◌==◌, ℕ, ◌<◌, List, [], ◌∷◌, Option, Some, None, Bool, true, false, cond, map, find, refl, sym, ◌∙◌, ap, string_bytes, arith, nat_le, ◌&&◌}
use Rattle.std.specs.Option.{option_map}
use Rattle.layout_file.specs.declared.parts.VectorName.{VectorName}
use Rattle.layout_file.specs.Values.{VectorValue}
use Rattle.layout_file.specs.Views.{vector_of}
use Rattle.cli_files.specs.SymbolNames.{shown_byte}

find_vector : (n : ℕ) (vectors : List VectorName) → find (λ (v : VectorValue). v.vector == n) (map vector_of vectors) ≡ option_map vector_of (find (λ (v : VectorName). v.vector == n) vectors)
find_vector n [] = refl
find_vector n (v ∷ vs) =
    elim (v.vector == n) as (λ b. cond b (Some (vector_of v)) (find (λ (w : VectorValue). w.vector == n) (map vector_of vs)) ≡ option_map vector_of (cond b (Some v) (find (λ (w : VectorName). w.vector == n) vs))) [
      | true ↦ refl
      | false ↦ find_vector n vs
    ]

abbrev vector_name : Option VectorValue → Option (List ℕ)
vector_name vector = option_map (λ v. v.name) vector

abbrev pub name_of_vector : Option VectorName → Option (List ℕ)
name_of_vector vector = option_map (λ v. string_bytes v.name) vector

named : (o : Option VectorName) → vector_name (option_map vector_of o) ≡ name_of_vector o
named (Some v) = refl
named None = refl

-- the name of the vector that was found
pub found_vector : (n : ℕ) (vectors items : List VectorName) (o : Option VectorName) → items ≡ vectors → o ≡ find (λ (v : VectorName). v.vector == n) items
    → name_of_vector o ≡ vector_name (find (λ (v : VectorValue). v.vector == n) (map vector_of vectors))
found_vector n vectors items o same is =
    sym (named o) ∙ ap (λ (x : Option VectorName). vector_name (option_map vector_of x)) (is ∙ ap (find (λ (v : VectorName). v.vector == n)) same) ∙ ap vector_name (sym (find_vector n vectors))

-- a byte that is shown is a character
pub shown_ascii : (b : ℕ) → shown_byte b < 128
shown_ascii b = by (nat_le 0x21 b && nat_le b 0x7E) refl
  where
    by : (t : Bool) → (nat_le 0x21 b && nat_le b 0x7E) ≡ t → cond t b 63 < 128
    by true e = grind (arith, e)
    by false e = omega arith
