-- The lines of a schedule: `CYCLE serial HH`, `CYCLE line N up` and `CYCLE line N down`.
use Rattle.std.specs.Prelude.{ℕ, ◌-◌, ◌==◌, nat_le, not, ◌&&◌, if◌then◌else◌, List, [], ◌∷◌, ◌++◌, drop, Option, Some, None, codes, option_map}
use Rattle.std.specs.Fmt.{decimal}
use Rattle.std.specs.List.{starts_with, before_first, after_first}
use Rattle.std.specs.Str.{bytes_eq}
use Rattle.texts.specs.Decimals.{read_decimal}
use Rattle.texts.specs.Hexadecimals.{hex_byte, read_hex_byte}
use Rattle.texts.specs.Words.{is_space}
use Rattle.schedule_file.specs.declared.Entry.{Entry}
use Rattle.schedule_file.specs.declared.TheConstants.{MAX_CYCLE}
use Rattle.schedule_file.specs.declared.What.{What}
use Rattle.schedule_file.specs.declared.What.TheVariants.{Serial, Up, Down}

-- a line's number with `up` or `down` after a space
abbrev pub move_of : List ℕ → Option What
move_of (number ∷ word) =
    if not (nat_le 48 number && nat_le number 51) then None
    else (if bytes_eq word (codes " up") then Some (Up (number - 48))
    else (if bytes_eq word (codes " down") then Some (Down (number - 48)) else None))
move_of [] = None

-- what happens, from what stands after the cycle and its space
abbrev pub what_of : List ℕ → Option What
what_of text =
    if starts_with (λ a b. a == b) text (codes "serial ") then option_map Serial (read_hex_byte (drop 7 text))
    else (if starts_with (λ a b. a == b) text (codes "line ") then move_of (drop 5 text) else None)

-- an entry of this cycle
abbrev pub entry_at : Option ℕ → Option What → Option Entry
entry_at (Some cycle) (Some what) = Some (record { cycle = cycle; what = what })
entry_at _ _ = None

-- the entry that a line writes, where it is of one of the three forms
unfoldable pub entry_of : List ℕ → Option Entry
entry_of line = entry_at (read_decimal MAX_CYCLE (before_first is_space line)) (what_of (after_first is_space line))

-- ---- the text of an entry

abbrev pub what_text : What → List ℕ
what_text (Serial byte) = codes "serial " ++ hex_byte byte
what_text (Up line) = codes "line " ++ decimal line ++ codes " up"
what_text (Down line) = codes "line " ++ decimal line ++ codes " down"

abbrev pub entry_text : Entry → List ℕ
entry_text entry = decimal entry.cycle ++ codes " " ++ what_text entry.what
