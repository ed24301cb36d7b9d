-- The line that says how many modules follow.
use Rattle.std.proofs.Common.{◌≡◌, ℕ, ◌++◌, List, length, take, drop, nat_eq, Bool, true, false, cond, Option, Some, None, codes, refl, sym, ap, subst, ◌∙◌, lit<}
use Rattle.std.specs.List.{starts_with}
use Rattle.std.proofs.lemmas.List.{take-append-drop}
use Rattle.std.proofs.lemmas.Slice.Eq.{bytes_eq-Decides}
use Rattle.texts.specs.Decimals.{read_decimal}
use Rattle.texts.specs.Lines.{ended_lines, unended}
use Rattle.texts.proofs.LawLemmas.{decimals_are_read}
use Rattle.mod_layout.specs.Table.{empty_table}
use Rattle.image_text.specs.declared.numbers.TheConstants.{MAX_COUNT}
use Rattle.image_text.specs.ImageText.{line_before, count_line}
use Rattle.image_text.specs.Refusal.{next_spot, announced_count, counted_or_line, count_refusal, modules_refusal}
use Rattle.image_text.specs.internal.Reading.{Unread, ReadLine, PassedCount}
use Rattle.image_text.proofs.StageLemmas.{line_on, next_on}

-- a text that begins so
pub begins : (text front : List ℕ) → starts_with nat_eq text front ≡ true → text ≡ front ++ drop (length front) text
begins text front e =
    let same = (bytes_eq-Decides front (take (length front) text)).0 e in
    sym (take-append-drop (length front) text) ∙ ap (λ t. t ++ drop (length front) text) (sym same)

pub count_line_of : (line : List ℕ) (n : ℕ) → announced_count line ≡ Some n → line ≡ count_line n
count_line_of line n e = by (starts_with nat_eq line (codes "modules ")) refl e
  where
    by : (c : Bool) → starts_with nat_eq line (codes "modules ") ≡ c → cond c (read_decimal MAX_COUNT (drop 8 line)) None ≡ Some n → line ≡ count_line n
    by true is e = begins line (codes "modules ") is ∙ ap (λ t. codes "modules " ++ t) ((decimals_are_read MAX_COUNT (lit< tt) (drop 8 line) n).0 e).1
    by false is e = absurd cc

-- such a line was read
pub passed_count : (room n : ℕ) (old new : Unread) (line : List ℕ) → room ≡ 32 → ReadLine old line new → announced_count line ≡ Some n → PassedCount room (Some n) old new
passed_count room n old new line e read is = subst (λ r. PassedCount r (Some n) old new) (sym e) record {
  kind = refl;
  text = let t = read in t.text ∙ ap (λ (l : List ℕ). line_before l new.rest) (count_line_of line n is);
  refusal = line_on (count_refusal 32) old new line read
      ∙ ap (λ (o : Option ℕ). counted_or_line o old.spot (modules_refusal (empty_table 32) o (next_spot line old.spot) (ended_lines new.rest) (unended new.rest))) is
      ∙ next_on (modules_refusal (empty_table 32) (Some n)) old new line read;
}
