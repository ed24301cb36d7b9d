-- A statement in the last section.
use Rattle.std.proofs.Common.{ℕ, ◌≡◌, ◌+◌, ◌-◌, ◌<◌, List, ◌++◌, length, map, get_or, set, Some, Ok, Err, ap, sym, ◌∙◌, arith}
use Rattle.std.specs.Prelude.{slice_get}
use Rattle.std.proofs.lemmas.List.{length-map, map-set, get_or-map, get_or_default}
use Rattle.std.proofs.lemmas.Option.{slice_get-get_or}
use Rattle.asm_text.specs.declared.unit.AsmFault.{AsmFault}
use Rattle.asm_text.specs.declared.unit.AsmSection.{AsmSection}
use Rattle.asm_line.specs.declared.statement.Statement.{Statement}
use Rattle.asm_text.specs.Emission.{Meanings, Emitted, statement_bytes, statement_relocations, grown, with_statement, in_last}
use Rattle.asm_text.specs.internal.Emitted.{newest_section}
use Rattle.asm_text.specs.Parts.{SectionValue}
use Rattle.asm_line.specs.Statements.{statement_size}
use Rattle.asm_text.specs.Views.{section_value}

pub last_section : (xs : List AsmSection) (i : ℕ) (x : AsmSection) → i + 1 ≡ length xs → x ≡ get_or xs i x → newest_section (map section_value xs) ≡ Some (section_value x)
last_section xs i x e is =
    let size : length (map section_value xs) - 1 ≡ i = omega (arith, length-map xs section_value) in
    let low : i < length (map section_value xs) = omega (arith, length-map xs section_value) in
    let within : i < length xs = omega arith in
    ap (slice_get (map section_value xs)) size
    ∙ slice_get-get_or (map section_value xs) i (section_value x) low
    ∙ ap Some (get_or-map section_value xs i x (section_value x) within ∙ ap section_value (sym is))

pub sections_set : (xs : List AsmSection) (i : ℕ) (x : AsmSection) (v : SectionValue) → section_value x ≡ v → map section_value (set xs i x) ≡ set (map section_value xs) i v
sections_set xs i x v e = map-set section_value xs i x ∙ ap (set (map section_value xs) i) e

abbrev index_of : Emitted → ℕ
index_of e = length e.sections - 1

pub in_last_ok : (m : Meanings) (n : ℕ) (e e' : Emitted) (i : ℕ) (last : SectionValue) (s : Statement ℕ) (bytes : List ℕ) → newest_section e.sections ≡ Some last → index_of e ≡ i
    → statement_bytes m n i last.size s ≡ Ok bytes → e'.sections ≡ set e.sections i (grown last (statement_size s) bytes) → e'.relocations ≡ e.relocations ++ statement_relocations m i last.size s
    → in_last m n e (newest_section e.sections) s ≡ Ok e'
in_last_ok m n e e' i last s bytes is at gives sections relocations =
    ap (λ o. in_last m n e o s) is
    ∙ ap (λ j. with_statement m e last s (statement_bytes m n j last.size s)) at
    ∙ ap (with_statement m e last s) gives
    ∙ ap (λ j. Ok (record { sections = set e.sections j (grown last (statement_size s) bytes); relocations = e.relocations ++ statement_relocations m j last.size s })) at
    ∙ ap (λ ss. Ok (record { sections = ss; relocations = e.relocations ++ statement_relocations m i last.size s })) (sym sections)
    ∙ ap (λ rs. Ok (record { sections = e'.sections; relocations = rs })) (sym relocations)

pub in_last_err : (m : Meanings) (n : ℕ) (e : Emitted) (i : ℕ) (last : SectionValue) (s : Statement ℕ) (fault : AsmFault) → newest_section e.sections ≡ Some last → index_of e ≡ i
    → statement_bytes m n i last.size s ≡ Err fault → in_last m n e (newest_section e.sections) s ≡ Err fault
in_last_err m n e i last s fault is at gives =
    ap (λ o. in_last m n e o s) is
    ∙ ap (λ j. with_statement m e last s (statement_bytes m n j last.size s)) at
    ∙ ap (with_statement m e last s) gives

-- an element that is read twice
pub same_at : {X : Type 0} (xs ys : List X) (i : ℕ) (x y : X) → ys ≡ xs → i < length xs → x ≡ get_or xs i x → y ≡ get_or ys i y → y ≡ x
same_at xs ys i x y same low a b = b ∙ (ap (λ zs. get_or zs i y) same ∙ (get_or_default xs i y x low ∙ sym a))

pub index_is : (xs : List AsmSection) (i : ℕ) → i + 1 ≡ length xs → length (map section_value xs) - 1 ≡ i
index_is xs i e = omega (arith, length-map xs section_value)
