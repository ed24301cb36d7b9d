-- What reading keeps from line to line.
use Rattle.std.proofs.Common.{ℕ, ◌≡◌, ◌+◌, ◌*◌, ◌<◌, ◌≤◌, ◌∙◌, ap, sym, refl, List, [], ◌∷◌, ◌++◌, length, append_assoc, arith, Result, Ok, Err}
use Rattle.std.specs.Prelude.{All}
use Rattle.std.proofs.lemmas.List.Elements.{All-push, All-nil}
use Rattle.std.proofs.lemmas.Bool.Decides.{nat_tests}
use Rattle.texts.specs.Lines.{lines_of}
use Rattle.written_machine.specs.declared.ScriptLine.{ScriptLine}
use Rattle.written_machine.specs.declared.ScriptLine.TheVariants.{Go, Until}
use Rattle.script_file.specs.Bounds.{IsBounded, most_cycles, all_cycles}
use Rattle.script_file.specs.declared.TheConstants.{MAX_CYCLES}
use Rattle.script_file.specs.Line.{form_of, checked}
use Rattle.texts.specs.Rows.{after_these}
use Rattle.script_file.specs.Reading.{from_line, script_from, script_of}
use Rattle.script_file.specs.declared.ScriptFault.{ScriptFault}
use Rattle.script_file.specs.declared.line.LineFault.{LineFault}

pub record IsRead (bytes : List ℕ) (lines : List ScriptLine) (rest : List ℕ) (n : ℕ) : Type 0 where
  pub total : script_of bytes ≡ after_these lines (script_from n (lines_of rest))
  pub bounds : All IsBounded lines
  pub room : n + length rest ≤ length bytes + 1
  pub few : all_cycles lines + MAX_CYCLES * length rest ≤ MAX_CYCLES * length bytes

-- the cycles of one line more
all_more : (lines : List ScriptLine) (line : ScriptLine) → all_cycles (lines ++ line ∷ []) ≡ all_cycles lines + most_cycles line
all_more [] line = omega arith
all_more (l ∷ lines) line = omega (arith, all_more lines line)

most_bounded : (line : ScriptLine) → IsBounded line → most_cycles line ≤ MAX_CYCLES
most_bounded (Go n) b = grind (arith, nat_tests)
most_bounded (Until addr n) b = grind (arith, nat_tests)
most_bounded _ b = omega arith

nothing_before : (r : Result (List ScriptLine) ScriptFault) → r ≡ after_these [] r
nothing_before (Ok lines) = refl
nothing_before (Err fault) = refl

one_more : (lines : List ScriptLine) (line : ScriptLine) (r : Result (List ScriptLine) ScriptFault) → after_these lines (after_these (line ∷ []) r) ≡ after_these (lines ++ line ∷ []) r
one_more lines line (Ok more) = ap Ok (sym (append_assoc lines (line ∷ []) more))
one_more lines line (Err fault) = refl

-- before the first line
pub IsRead-start : (bytes : List ℕ) → IsRead bytes [] bytes 1
unfolding script_of
IsRead-start bytes = record { total = nothing_before (script_from 1 (lines_of bytes)); bounds = All-nil IsBounded; room = omega arith; few = omega arith }

-- at one more line
pub IsRead-line : (bytes : List ℕ) (lines : List ScriptLine) (rest text after : List ℕ) (n : ℕ) (r : Result ScriptLine LineFault) → IsRead bytes lines rest n
    → lines_of rest ≡ text ∷ lines_of after → r ≡ checked (form_of text) → script_of bytes ≡ after_these lines (from_line n r (script_from (n + 1) (lines_of after)))
IsRead-line bytes lines rest text after n r read cut is =
    read.total ∙ ap (λ ls. after_these lines (script_from n ls)) cut ∙ ap (λ x. after_these lines (from_line n x (script_from (n + 1) (lines_of after)))) (sym is)

-- after it, where it is read
pub IsRead-push : (bytes : List ℕ) (lines : List ScriptLine) (rest text after : List ℕ) (n : ℕ) (line : ScriptLine) → IsRead bytes lines rest n
    → lines_of rest ≡ text ∷ lines_of after → length after < length rest → Ok line ≡ checked (form_of text) → IsBounded line → IsRead bytes (lines ++ line ∷ []) after (n + 1)
IsRead-push bytes lines rest text after n line read cut shorter is bounded = record {
  total = IsRead-line bytes lines rest text after n (Ok line) read cut is ∙ one_more lines line (script_from (n + 1) (lines_of after));
  bounds = All-push IsBounded lines line read.bounds bounded;
  room = omega (arith, read.room, shorter);
  few = omega (arith, read.few, shorter, all_more lines line, most_bounded line bounded);
}
