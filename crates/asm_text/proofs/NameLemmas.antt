-- Names are ASCII.
use Rattle.std.proofs.Common.{ℕ, ◌≡◌, ◌<◌, Bool, true, false, ◌==◌, nat_le, List, [], length, get_or, Some, refl, ap, subst, ◌∙◌, arith}
use Rattle.std.specs.Prelude.{option_map, slice_get}
use Rattle.std.specs.Str.{IsAscii}
use Rattle.std.specs.List.{AllPass}
use Rattle.std.specs.Borrow.{Bor}
use Rattle.std.proofs.Math.Bool.{and-false}
use Rattle.std.proofs.lemmas.Bool.{and_parts}
use Rattle.std.proofs.lemmas.Bool.Decides.{nat_tests}
use Rattle.std.proofs.lemmas.List.{get_or-map, length-map}
use Rattle.std.proofs.lemmas.List.Sums.{AllPass-from_list_all}
use Rattle.std.proofs.lemmas.Option.{slice_get_within, slice_get-get_or, slice_get-map, get_or_from_slice_get}
use Rattle.std.proofs.lemmas.Str.Ascii.{IsAscii-from_all}
use Rattle.asm_text.specs.internal.Emitted.{AreNames}
use Rattle.asm_text.specs.internal.Maps.{texts_in}
use Rattle.asm_line.specs.Identifiers.{is_name_byte, is_name}

low_byte : (b : ℕ) → is_name_byte b ≡ true → b < 128
unfolding is_name_byte
low_byte b e = by (nat_le b 127) refl
  where
    by : (c : Bool) → nat_le b 127 ≡ c → b < 128
    by true is = grind (arith, nat_tests)
    by false is =
        let a : nat_le b 122 ≡ false = grind (arith, nat_tests) in
        let b1 : nat_le b 90 ≡ false = grind (arith, nat_tests) in
        let c1 : nat_le b 57 ≡ false = grind (arith, nat_tests) in
        let d1 : (b == 95) ≡ false = grind (arith, nat_tests) in
        let e1 : (b == 46) ≡ false = grind (arith, nat_tests) in
        let none : false ≡ true = simp (a, b1, c1, d1, e1, and-false) at e in
        absurd cc

pub name_is_ascii : (name : List ℕ) → is_name name ≡ true → IsAscii name
unfolding is_name
name_is_ascii name e =
    let all : AllPass is_name_byte name = AllPass-from_list_all is_name_byte name (and_parts _ _ e).1 in
    IsAscii-from_all name (λ k d low. low_byte (get_or name k d) (all k d low))

-- one of these names
pub named_at : (names : List (List ℕ)) (k : ℕ) (name : List ℕ) → AreNames names → slice_get names k ≡ Some name → is_name name ≡ true
named_at names k name are is = subst (λ t. is_name t ≡ true) (get_or_from_slice_get names k name name is) (are k name (slice_get_within names k name is))

pub name_is : (names : List (Bor (List ℕ))) (k : ℕ) (d : Bor (List ℕ)) → k < length names → slice_get (texts_in names) k ≡ Some (get_or names k d).now
name_is names k d low = slice_get-map (λ (n : Bor (List ℕ)). n.now) names k ∙ ap (option_map (λ (n : Bor (List ℕ)). n.now)) (slice_get-get_or names k d low)

pub name_at : (names : List (Bor (List ℕ))) (k : ℕ) (d : Bor (List ℕ)) → AreNames (texts_in names) → k < length names → is_name (get_or names k d).now ≡ true
name_at names k d are low =
    let within : k < length (texts_in names) = omega (arith, length-map names (λ (n : Bor (List ℕ)). n.now)) in
    subst (λ (t : List ℕ). is_name t ≡ true) (get_or-map (λ (n : Bor (List ℕ)). n.now) names k d [] low) (are k [] within)
