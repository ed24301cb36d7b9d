-- An instruction is written with the words that it was decoded from.
use Rattle.std.proofs.Common.{ℕ, zero, suc, ◌≡◌, ◌≢◌, ◌+◌, ◌*◌, ◌/◌, ◌%◌, ◌<◌, true, not, ◌&&◌, cond, nat_lt, nat_eq, [], ◌∷◌, ◌++◌, take, Some, None, option_map, refl, ap, sym, ◌∙◌, arith, ◌⊎◌, inl, inr}
use Rattle.std.proofs.lemmas.Bool.Decides.{nat_tests}
use Rattle.insn_decode.specs.declared.insn.Operand.{Operand}
use Rattle.insn_decode.specs.declared.insn.Insn.{Insn}
use Rattle.insn_decode.specs.Code.{words_of as words_in, width_of}
use Rattle.insn_decode.specs.Means.{two_code, one_code, condition_code, IsPlain, Source, register, symbolic, absolute, indexed, indirect, increment, immediate, Destination, to_register, to_symbolic, to_absolute, to_indexed, Means, format_one, format_two, jump, return, unit}
use Rattle.insn_decode.proofs.Table.{insn_means}
use Rattle.asm_line.specs.Encoding.{fields, plain_fields, source_fields, dest_fields, byte_flag, leading_word, extension, encoded_words}
use Rattle.asm_line.specs.Laws.{WordsComeBack}
use Rattle.asm_line.proofs.JumpLemmas.{bits_back}

-- ---- operands

abbrev HasWords : Operand → ℕ → Type 0
HasWords o x = ((words_in o ≡ 0) × (extension o ≡ [])) ⊎ ((words_in o ≡ 1) × (extension o ≡ x ∷ []))

plain_back : (m r : ℕ) → IsPlain r → r < 16 → plain_fields m r ≡ fields m r
plain_back m r p low =
    let a : r ≢ 0 = p.not_pc in
    let b : r ≢ 2 = p.not_sr in
    let c : r ≢ 3 = p.not_constants in
    ap (λ t. cond t (fields m r) None) (let all : (nat_lt r 16 && not (nat_eq r 0) && not (nat_eq r 2) && not (nat_eq r 3)) ≡ true = grind (arith, nat_tests) in all)

-- an operand has this mode and register, and this word where it has any
source_back : {m r x : ℕ} {o : Operand} → Source m r x o → r < 16 → (source_fields o ≡ fields m r) × HasWords o x
source_back (register r x ne) low =
    let n : r ≢ 3 = ne in
    (ap (λ t. cond t (fields 0 r) None) (let both : (nat_lt r 16 && not (nat_eq r 3)) ≡ true = grind (arith, nat_tests) in both), inl (refl, refl))
source_back (symbolic x) low = (refl, inr (refl, refl))
source_back (absolute x) low = (refl, inr (refl, refl))
source_back (indexed r x p) low = (plain_back 1 r p low, inr (refl, refl))
source_back (indirect r x p) low = (plain_back 2 r p low, inl (refl, refl))
source_back (increment r x p) low = (plain_back 3 r p low, inl (refl, refl))
source_back (immediate x) low = (refl, inr (refl, refl))
source_back _ low = (refl, inl (refl, refl))

dest_back : {m r x : ℕ} {o : Operand} → Destination m r x o → r < 16 → (dest_fields o ≡ fields m r) × HasWords o x
dest_back (to_register r x) low = (ap (λ t. cond t (fields 0 r) None) (let below : nat_lt r 16 ≡ true = grind (arith, nat_tests) in below), inl (refl, refl))
dest_back (to_symbolic x) low = (refl, inr (refl, refl))
dest_back (to_absolute x) low = (refl, inr (refl, refl))
dest_back (to_indexed r x p) low = (plain_back 1 r p low, inr (refl, refl))

flag_back : (b : ℕ) → b < 2 → byte_flag (width_of b) ≡ b
flag_back zero low = refl
flag_back (suc zero) low = refl
flag_back (suc (suc b)) low = absurd (omega arith)

-- ---- first words

two_word : (w op b : ℕ) → w / 4096 ≡ op → b ≡ (w / 64) % 2 → op * 4096 + (w / 256) % 16 * 256 + (w / 128) % 2 * 128 + b * 64 + (w / 16) % 4 * 16 + w % 16 ≡ w
two_word w op b e0 e1 = omega arith

one_word : (w op b : ℕ) → w / 1024 ≡ 4 → (w / 128) % 8 ≡ op → b ≡ (w / 64) % 2 → 4096 + op * 128 + b * 64 + (w / 16) % 4 * 16 + w % 16 ≡ w
one_word w op b e0 e1 e2 = omega arith

-- ---- all words

-- the words after the first, by how many each operand has
two_extensions : (s d : Operand) (w1 w2 : ℕ) → HasWords s w1 → HasWords d (cond (nat_eq (words_in s) 1) w2 w1) → extension s ++ extension d ≡ take (words_in s + words_in d) (w1 ∷ w2 ∷ [])
two_extensions s d w1 w2 (inl a) (inl b) = rw (a.0, a.1, b.0, b.1) refl
two_extensions s d w1 w2 (inl a) (inr b) = rw (b.0, b.1) (rw (a.0, a.1) refl)
two_extensions s d w1 w2 (inr a) (inl b) = rw (a.0, a.1, b.0, b.1) refl
two_extensions s d w1 w2 (inr a) (inr b) = rw (b.0, b.1) (rw (a.0, a.1) refl)

one_extension : (a : Operand) (w1 w2 : ℕ) → HasWords a w1 → extension a ≡ take (words_in a) (w1 ∷ w2 ∷ [])
one_extension a w1 w2 (inl e) = rw (e.0, e.1) refl
one_extension a w1 w2 (inr e) = rw (e.0, e.1) refl

means_back : {w0 w1 w2 n : ℕ} {insn : Insn} → Means w0 w1 w2 insn n → encoded_words insn ≡ Some (take n (w0 ∷ w1 ∷ w2 ∷ []))
unfolding leading_word
means_back {w0} {w1} {w2} (format_one op s d c source dest) =
    let a = source_back source (omega arith) in
    let b = dest_back dest (omega arith) in
    let first = two_word w0 (two_code op) (byte_flag (width_of ((w0 / 64) % 2))) c (flag_back ((w0 / 64) % 2) (omega arith)) in
    let rest = two_extensions s d w1 w2 a.1 b.1 in
    let size : 1 + words_in s + words_in d ≡ suc (words_in s + words_in d) = omega arith in
    rw (a.0, b.0) (ap Some (ap (λ w. w ∷ extension s ++ extension d) first ∙ (ap (λ ws. w0 ∷ ws) rest ∙ ap (λ n. take n (w0 ∷ w1 ∷ w2 ∷ [])) (sym size))))
means_back {w0} {w1} {w2} (format_two op a c k source fits) =
    let b = source_back source (omega arith) in
    let first = one_word w0 (one_code op) (byte_flag (width_of ((w0 / 64) % 2))) c k (flag_back ((w0 / 64) % 2) (omega arith)) in
    let rest = one_extension a w1 w2 b.1 in
    let size : 1 + words_in a ≡ suc (words_in a) = omega arith in
    rw (b.0, fits) (ap Some (ap (λ w. w ∷ extension a) first ∙ (ap (λ ws. w0 ∷ ws) rest ∙ ap (λ n. take n (w0 ∷ w1 ∷ w2 ∷ [])) (sym size))))
means_back {w0} (jump condition c k) =
    let whole : 0x2000 + condition_code condition * 1024 + w0 % 1024 ≡ w0 = omega arith in
    ap (λ o. option_map (λ w. w ∷ []) (option_map (λ bits. 0x2000 + condition_code condition * 1024 + bits) o)) (bits_back (w0 % 1024) (omega arith)) ∙ ap (λ w. Some (w ∷ [])) whole
means_back {w0} (return c) = ap (λ w. Some (w ∷ [])) (sym c)
means_back (unit name c) = ap (λ w. Some (w ∷ [])) (sym c)

pub words_come_back : WordsComeBack
words_come_back w0 w1 w2 insn e = means_back (insn_means w0 w1 w2 insn e)
