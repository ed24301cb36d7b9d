-- The first form that the words of a line have.
use Rattle.std.proofs.Common.{ℕ, ◌≡◌, ◌<◌, Bool, true, false, cond, List, [], ◌∷◌, length, refl, arith}
use Rattle.std.specs.List.{slice_split, onto_first}
use Rattle.texts.specs.Words.{is_space, words}
use Rattle.vendor_tool.specs.TraceLines.{all_fit}
use Rattle.vendor_tool.specs.declared.trace_line.Word.{Word}

-- a line has a word
pub nothing_fits : (form : List Word) (line : List ℕ) → length form < 1 → all_fit form (words line) ≡ false
unfolding words
nothing_fits (word ∷ form) line none = absurd (omega arith)
nothing_fits [] [] none = refl
nothing_fits [] (b ∷ line) none = by (is_space b) (slice_split is_space line)
  where
    by : (space : Bool) (parts : List (List ℕ)) → all_fit [] (cond space ([] ∷ parts) (onto_first b parts)) ≡ false
    by true parts = refl
    by false [] = refl
    by false (part ∷ parts) = refl
