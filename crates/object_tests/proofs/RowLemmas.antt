-- The worked object is a unit.
use Rattle.std.proofs.Common.{◌≡◌, ◌≢◌, ℕ, ◌<◌, List, [], ◌∷◌, refl, ap, arith, get_or, Some}
use Rattle.std.specs.List.{AllPairs}
use Rattle.std.proofs.lemmas.List.Elements.{All-nil, All-cons}
use Rattle.std.proofs.lemmas.List.Kept.{AllPairs-cons}
use Rattle.asm_text.specs.Parts.{SectionValue, SymbolValue, IsUnit, IsSectionValue, IsSymbolValue, IsAsmRelocation}
use Rattle.asm_line.specs.Identifiers.{is_name, is_name_byte}
use Rattle.object_tests.specs.internal.Rows.{text_value, here_value, main_value}

no_pairs : {X : Type 0} (R : X → X → Type 0) → AllPairs R []
no_pairs R i j d lt within = absurd (omega arith)

first_home : (k : ℕ) → Some 0 ≡ Some k → k < 1
first_home k e = let z : 0 ≡ k = cc in omega arith

-- their first letters differ
apart : here_value.name ≢ main_value.name
apart e = let f : ◌≡◌ {A = ℕ} 104 109 = ap (λ (l : List ℕ). get_or l 0 0) e in absurd (omega arith)

row_is : IsUnit (record { sections = text_value ∷ []; symbols = here_value ∷ (main_value ∷ []); relocations = [] })
unfolding is_name is_name_byte
row_is = record {
  few_sections = omega arith;
  few_symbols = omega arith;
  few_relocations = omega arith;
  sections_kept = All-cons IsSectionValue text_value [] (record { named = refl; small = omega arith; filled = refl }) (All-nil IsSectionValue);
  symbols_kept =
      All-cons (IsSymbolValue 1) here_value (main_value ∷ []) (record { named = refl; local = λ _ e. cc; home = first_home })
      (All-cons (IsSymbolValue 1) main_value [] (record { named = refl; local = λ e _. cc; home = first_home }) (All-nil (IsSymbolValue 1)));
  relocations_kept = All-nil (IsAsmRelocation 1 2);
  sections_differ = AllPairs-cons (λ (a b : SectionValue). a.name ≢ b.name) text_value [] (All-nil (λ b. text_value.name ≢ b.name)) (no_pairs (λ a b. a.name ≢ b.name));
  symbols_differ =
      AllPairs-cons (λ (a b : SymbolValue). a.name ≢ b.name) here_value (main_value ∷ [])
      (All-cons (λ b. here_value.name ≢ b.name) main_value [] apart (All-nil (λ b. here_value.name ≢ b.name)))
      (AllPairs-cons (λ (a b : SymbolValue). a.name ≢ b.name) main_value [] (All-nil (λ b. main_value.name ≢ b.name)) (no_pairs (λ a b. a.name ≢ b.name)));
}
