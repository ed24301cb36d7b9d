use Rattle.std.proofs.Common.{ℕ, ◌≡◌, List, [], ◌∷◌, length, Some, option_map, sym, ap, ◌∙◌, w16, arith}
use Rattle.std.specs.Int.{from_be_bytes}
use Rattle.texts.specs.Hexadecimals.{number_of_bytes}
use Rattle.texts.proofs.hexadecimals.read_hex_word.Goals as goal

two : (bytes : List ℕ) → length bytes ≡ 2 → from_be_bytes w16 bytes ≡ number_of_bytes bytes
two (high ∷ low ∷ []) l = omega arith
two _ l = absurd (omega arith)

pub returns-then-decode : goal.returns-then-decode
returns-then-decode c = record { word = ap Some (c.from_be_bytes.ensures ∙ two c.decode.new.bytes (omega arith)) ∙ sym (ap (option_map number_of_bytes) c.if-decode.ensures) }
