-- The registers of an end line, one more at the end.
use Rattle.std.proofs.Common.{◌≡◌, ℕ, zero, suc, ◌+◌, List, ◌++◌, codes, ap, ◌∙◌, sym, arith, add-zero, add-one, append_assoc}
use Rattle.sm_words.specs.Words.{reg}
use Rattle.texts.specs.Hexadecimals.{hex_word}
use Rattle.tracer.specs.Lines.{registers_from, end_text}
use Rattle.tracer.specs.declared.EndState.{EndState}
use Rattle.tracer.specs.declared.EndState.TheVariants.{Outside}

-- a register after its space
abbrev pub shown : List ℕ → ℕ → List ℕ
shown core n = codes " " ++ hex_word (reg core n)

registers_then : (core : List ℕ) (k n : ℕ) → registers_from core k (suc n) ≡ registers_from core k n ++ shown core (k + n)
registers_then core k zero = ap (shown core) (sym (add-zero k))
registers_then core k (suc n) =
    let place : k + 1 + n ≡ k + suc n = omega arith in
    ap (λ t. shown core k ++ t) (registers_then core (k + 1) n ∙ ap (λ i. registers_from core (k + 1) n ++ shown core i) place)

-- the first n + 1 registers are the first n, and then register n
pub registers_next : (core : List ℕ) (n : ℕ) → registers_from core 0 (n + 1) ≡ registers_from core 0 n ++ shown core n
registers_next core n =
    let place : 0 + n ≡ n = omega arith in
    ap (registers_from core 0) (add-one n) ∙ registers_then core 0 n ∙ ap (λ i. registers_from core 0 n ++ shown core i) place

-- a text with the first n registers, a space and register n has the first n + 1
pub one_more : (core : List ℕ) (n word : ℕ) (start now spaced next : List ℕ) → now ≡ start ++ registers_from core 0 n → spaced ≡ now ++ codes " " → word ≡ reg core n → next ≡ spaced ++ hex_word word → next ≡ start ++ registers_from core 0 (n + 1)
one_more core n word start now spaced next has has_space is_word has_word =
    let before : List ℕ = registers_from core 0 n in
    has_word
    ∙ ap (λ t. t ++ hex_word word) (has_space ∙ ap (λ t. t ++ codes " ") has)
    ∙ ap (λ w. start ++ before ++ codes " " ++ hex_word w) is_word
    ∙ append_assoc (start ++ before) (codes " ") (hex_word (reg core n))
    ∙ append_assoc start before (shown core n)
    ∙ ap (λ t. start ++ t) (sym (registers_next core n))

-- the sixteen registers after the word are what is said of a run that ends outside
pub says_outside : (state : EndState) (core start labelled next : List ℕ) → state ≡ Outside core → labelled ≡ start ++ codes "outside" → next ≡ labelled ++ registers_from core 0 16 → next ≡ start ++ end_text state
says_outside state core start labelled next is_outside has_label has_registers =
    has_registers
    ∙ ap (λ t. t ++ registers_from core 0 16) has_label
    ∙ append_assoc start (codes "outside") (registers_from core 0 16)
    ∙ ap (λ s. start ++ end_text s) (sym is_outside)
