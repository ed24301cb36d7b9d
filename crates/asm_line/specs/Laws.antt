-- The laws of a line. They are what functions of this crate ensure.
use Rattle.std.specs.Prelude.{ℕ, ◌≡◌, ◌<◌, Bool, true, false, ◌&&◌, List, [], ◌∷◌, take, Some, None, IsSomeAnd, All}
use Rattle.insn_decode.specs.declared.insn.Operand.{Operand}
use Rattle.insn_decode.specs.declared.insn.Operand.TheVariants.{Symbolic}
use Rattle.insn_decode.specs.declared.insn.Insn.{Insn}
use Rattle.insn_decode.specs.declared.insn.Insn.TheVariants.{Two, One, Jump}
use Rattle.insn_decode.specs.Code.{insn_of, length_of, IsDecoded}
use Rattle.insn_decode.specs.Text.{insn_text}
use Rattle.asm_line.specs.declared.statement.Statement.TheVariants.{Code}
use Rattle.asm_line.specs.Encoding.{extensions, encoded_words, IsMeant}
use Rattle.asm_line.specs.Lines.{statement_of}

-- The words of an instruction mean it.
abbrev pub WordsAreMeant : Type 0
WordsAreMeant = (insn : Insn) (words : List ℕ) → encoded_words insn ≡ Some words → IsMeant insn words

-- ---- what is shown is read

-- an operand that no address changes
abbrev pub is_placeless_operand : Operand → Bool
is_placeless_operand (Symbolic x) = false
is_placeless_operand _ = true

-- an instruction whose text is the same at each address: no jump, and no operand is Symbolic
abbrev pub is_placeless : Insn → Bool
is_placeless (Two op w s d) = is_placeless_operand s && is_placeless_operand d
is_placeless (One op w a) = is_placeless_operand a
is_placeless (Jump condition offset) = false
is_placeless _ = true

abbrev pub AreWords : List ℕ → Type 0
AreWords words = All (λ word. word < 65536) words

-- The text that `show` writes of such an instruction, at any address, is read as that instruction, which its words mean.
abbrev pub ShownIsRead : Type 0
ShownIsRead = (insn : Insn) (at : ℕ) → IsDecoded insn → is_placeless insn ≡ true → AreWords (extensions insn) →
    (statement_of (insn_text insn at) ≡ Some (Code insn None None)) × IsSomeAnd (encoded_words insn) (IsMeant insn)

-- An instruction that was decoded is written with the very words that it was decoded from.
abbrev pub WordsComeBack : Type 0
WordsComeBack = (w0 w1 w2 : ℕ) (insn : Insn) → insn_of w0 w1 w2 ≡ Some insn → encoded_words insn ≡ Some (take (length_of insn) (w0 ∷ w1 ∷ w2 ∷ []))
