-- The line of registers that changed.
use Rattle.std.specs.Prelude.{ℕ, ◌==◌, List, [], ◌∷◌, ◌++◌, Bool, true, false, codes}
use Rattle.std.specs.Fmt.{decimal}
use Rattle.std.specs.List.{flat_map, range_with_len}
use Rattle.texts.specs.Hexadecimals.{hex_word}
use Rattle.sm_words.specs.Words.{reg}

-- ` rN=hhhh`, unless register N is the same
abbrev pub register_unless : Bool → ℕ → ℕ → List ℕ
register_unless true n v = []
register_unless false n v = codes " r" ++ decimal n ++ codes "=" ++ hex_word v

abbrev pub register_text : List ℕ → List ℕ → ℕ → List ℕ
register_text old new n = register_unless (reg old n == reg new n) n (reg new n)

-- the first n registers
abbrev pub changed_registers : List ℕ → List ℕ → ℕ → List ℕ
changed_registers old new n = flat_map (register_text old new) (range_with_len 0 n)

-- a line of a text, where there is one
abbrev pub line_if : List ℕ → List ℕ
line_if [] = []
line_if (byte ∷ text) = codes " " ++ (byte ∷ text) ++ codes "\n"

abbrev pub registers_line : List ℕ → List ℕ → List ℕ
registers_line old new = line_if (changed_registers old new 16)
