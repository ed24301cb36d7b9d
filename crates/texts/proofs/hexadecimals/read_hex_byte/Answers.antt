use Rattle.std.proofs.Common.{ℕ, ◌≡◌, List, [], ◌∷◌, length, slice_index, Some, option_map, sym, ap, ◌∙◌, arith}
use Rattle.texts.specs.Hexadecimals.{number_of_bytes}
use Rattle.texts.proofs.hexadecimals.read_hex_byte.Goals as goal

one : (bytes : List ℕ) → length bytes ≡ 1 → slice_index bytes 0 ≡ number_of_bytes bytes
one (byte ∷ []) l = omega arith
one _ l = absurd (omega arith)

pub returns-then-decode : goal.returns-then-decode
returns-then-decode c = record { byte = ap Some (one c.decode.new.bytes (omega arith)) ∙ sym (ap (option_map number_of_bytes) c.if-decode.ensures) }
