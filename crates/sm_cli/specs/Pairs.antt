-- Pairs `rN=HHHH` of a command line: a register, and the value that it begins with.
use Rattle.std.specs.Prelude.{ℕ, ◌+◌, ◌-◌, ◌==◌, ◌&&◌, ◌||◌, not, nat_le, Bool, true, List, [], ◌∷◌, length, take, drop, fold, slice_index, replicate, if◌then◌else◌, Option, Some, None, option_and_then}
use Rattle.std.specs.List.{list_any}
use Rattle.sm_words.specs.Words.{put}
use Rattle.sm_words.specs.declared.registers.TheConstants.{PC, CG}
use Rattle.texts.specs.Decimals.{read_decimal}
use Rattle.texts.specs.Hexadecimals.{read_hex_word}
use Rattle.sm_cli.specs.declared.pairs.Pair.{Pair}
use Rattle.sm_cli.specs.declared.pairs.TheConstants.{LAST_REGISTER, REGISTER_LETTER, EQUALS, VALUE_LENGTH}
use Rattle.cli_calls.specs.Words.{Text}

-- a register that a pair may name: neither PC, which is the entry, nor the constant generator
abbrev pub free : ℕ → Option ℕ
free n = if (n == PC) || (n == CG) then None else Some n

-- `r` and the register's number
abbrev pub register_named : Text → Option ℕ
register_named [] = None
register_named (first ∷ digits) = if first == REGISTER_LETTER then option_and_then free (read_decimal LAST_REGISTER digits) else None

abbrev pub pair_by : Option ℕ → Option ℕ → Option Pair
pair_by (Some number) (Some value) = Some (record { number = number; value = value })
pair_by _ _ = None

-- a register's name, then from this place on `=` and four digits
abbrev pub pair_at : ℕ → Text → Option Pair
pair_at place word = if slice_index word place == EQUALS then pair_by (register_named (take place word)) (read_hex_word (drop (place + 1) word)) else None

abbrev pub read_pair : Text → Option Pair
read_pair word = if nat_le VALUE_LENGTH (length word) then pair_at (length word - VALUE_LENGTH) word else None

abbrev pub with_pair : Option Pair → Option (List Pair) → Option (List Pair)
with_pair (Some pair) (Some more) = Some (pair ∷ more)
with_pair _ _ = None

-- each word is a pair
abbrev pub pairs_of : List Text → Option (List Pair)
pairs_of [] = Some []
pairs_of (word ∷ words) = with_pair (read_pair word) (pairs_of words)

-- one of the pairs names this register
abbrev pub names_register : ℕ → List Pair → Bool
names_register number pairs = list_any (λ pair. pair.number == number) pairs

-- no register is named twice
abbrev pub are_different : List Pair → Bool
are_different [] = true
are_different (pair ∷ pairs) = not (names_register pair.number pairs) && are_different pairs

abbrev pub if_different : List Pair → Option (List Pair)
if_different pairs = if are_different pairs then Some pairs else None

-- each word is a pair, and no register is named twice
abbrev pub pairs_in : List Text → Option (List Pair)
pairs_in words = option_and_then if_different (pairs_of words)

-- a register keeps of a pair's value what it can hold
abbrev pub set : List ℕ → Pair → List ℕ
set core pair = put core pair.number pair.value

-- the registers with these values; all others are 0
abbrev pub core_with : List Pair → List ℕ
core_with pairs = fold set (replicate 16 0) pairs
