-- The lines of a map, as bytes: words joined by single blanks, each line with its LF.
use Rattle.std.specs.Prelude.{ℕ, ◌+◌, List, [], ◌∷◌, ◌++◌, nat_lt, if◌then◌else◌, map, codes}
use Rattle.std.specs.Fmt.{digits}
use Rattle.std.specs.Prelude.{false}
use Rattle.cli_files.specs.SymbolNames.{shown_byte}
use Rattle.texts.specs.Hexadecimals.{hex_word}

-- each word after a blank, and the end of the line
abbrev pub after_blanks : List (List ℕ) → List ℕ
after_blanks [] = codes "\n"
after_blanks (word ∷ words) = codes " " ++ (word ++ after_blanks words)

abbrev pub line : List ℕ → List (List ℕ) → List ℕ
line first words = first ++ after_blanks words

-- four hexadecimal digits, more where the address needs them
abbrev pub address_text : ℕ → List ℕ
address_text a = if nat_lt a 65536 then hex_word a else digits 16 false a

-- a name as refusals show it: `?` for each byte that is no visible character
abbrev pub name_shown : List ℕ → List ℕ
name_shown name = map shown_byte name

-- what each element gives, one after another, the elements being numbered from here on
abbrev pub numbered_text : {X : Type 0} → (ℕ → X → List ℕ) → ℕ → List X → List ℕ
numbered_text f i [] = []
numbered_text f i (x ∷ xs) = f i x ++ numbered_text f (i + 1) xs
