-- Which words an instruction does not look at.
use Rattle.std.proofs.Common.{◌≡◌, ℕ, ◌+◌, ◌/◌, ◌≤◌, ◌%◌, refl, sym, ap, ◌∙◌, subst, arith, Bool, true, false, cond, ◌==◌, Option, Some, None}
use Rattle.std.proofs.lemmas.Bool.Decides.{nat_tests}
use Rattle.sm_words.specs.declared.width.Width.{Width}
use Rattle.sm_words.specs.declared.width.Width.TheVariants.{Byte, Word}
use Rattle.insn_decode.specs.declared.insn.OneOp.{OneOp}
use Rattle.insn_decode.specs.declared.insn.OneOp.TheVariants.{Rrc, Swpb, Rra, Sxt, Call}
use Rattle.insn_decode.specs.declared.insn.Operand.{Operand}
use Rattle.insn_decode.specs.declared.insn.Operand.TheVariants.{Reg, Const, Imm, Indexed, Symbolic, Absolute, Indirect, Increment}
use Rattle.insn_decode.specs.declared.insn.Insn.{Insn}
use Rattle.insn_decode.specs.declared.insn.Insn.TheVariants.{Two, One}
use Rattle.insn_decode.specs.Code.{insn_of, one_fits, words_of, length_of, length_or_one, length_at, width_of}
use Rattle.insn_decode.specs.Means.{Source, register, symbolic, absolute, indexed, indirect, increment, immediate, four, eight, nought, one, two, all_ones, Destination, to_register, to_symbolic, to_absolute, to_indexed, Means, format_one, format_two, jump, return, unit, IsOutside}
use Rattle.insn_decode.proofs.Rows.{apart}
use Rattle.insn_decode.proofs.Table.{insn_means, means_insn}

-- ---- an instruction with other extension words

-- the operand with another extension word, where it has one
abbrev with_word : Operand → ℕ → Operand
with_word (Imm x) v = Imm v
with_word (Indexed r x) v = Indexed r v
with_word (Symbolic x) v = Symbolic v
with_word (Absolute x) v = Absolute v
with_word o v = o

words_same : (o : Operand) (v : ℕ) → words_of (with_word o v) ≡ words_of o
words_same (Imm x) v = refl
words_same _ v = refl

no_word : (o : Operand) (v : ℕ) → words_of o ≡ 0 → with_word o v ≡ o
no_word (Reg r) v h = refl
no_word (Const c) v h = refl
no_word (Indirect r) v h = refl
no_word (Increment r) v h = refl
no_word _ v h = absurd (omega arith)

words_most : (o : Operand) → words_of o ≤ 1
words_most (Imm x) = omega arith
words_most _ = omega arith

fits_same : (op : OneOp) (w : Width) (o : Operand) (v : ℕ) → one_fits op w (with_word o v) ≡ one_fits op w o
fits_same Call Byte o v = refl
fits_same Swpb Word (Imm x) v = refl
fits_same Sxt Word (Imm x) v = refl
fits_same Rrc w (Imm x) v = refl
fits_same Rra w (Imm x) v = refl
fits_same _ _ _ v = refl

other_source : {m r x : ℕ} {o : Operand} (v : ℕ) → Source m r x o → Source m r v (with_word o v)
other_source v (register r x ne) = register r v ne
other_source v (symbolic x) = symbolic v
other_source v (absolute x) = absolute v
other_source v (indexed r x p) = indexed r v p
other_source v (indirect r x p) = indirect r v p
other_source v (increment r x p) = increment r v p
other_source v (immediate x) = immediate v
other_source v (four x) = four v
other_source v (eight x) = eight v
other_source v (nought x) = nought v
other_source v (one x) = one v
other_source v (two x) = two v
other_source v (all_ones x) = all_ones v

own_source : {m r x : ℕ} {o : Operand} → Source m r x o → with_word o x ≡ o
own_source (register r x ne) = refl
own_source _ = refl

other_destination : {m r x : ℕ} {o : Operand} (v : ℕ) → Destination m r x o → Destination m r v (with_word o v)
other_destination v (to_register r x) = to_register r v
other_destination v (to_symbolic x) = to_symbolic v
other_destination v (to_absolute x) = to_absolute v
other_destination v (to_indexed r x p) = to_indexed r v p

own_destination : {m r x : ℕ} {o : Operand} → Destination m r x o → with_word o x ≡ o
own_destination (to_register r x) = refl
own_destination _ = refl

-- the word of a destination, after that of its source
abbrev second : Operand → ℕ → ℕ → ℕ
second s v1 v2 = cond (words_of s == 1) v2 v1

abbrev revised : Insn → ℕ → ℕ → Insn
revised (Two op w s d) v1 v2 = Two op w (with_word s v1) (with_word d (second s v1 v2))
revised (One op w a) v1 v2 = One op w (with_word a v1)
revised insn v1 v2 = insn

other_words : {w0 w1 w2 : ℕ} {insn : Insn} {n : ℕ} (v1 v2 : ℕ) → Means w0 w1 w2 insn n → Means w0 v1 v2 (revised insn v1 v2) n
other_words {w0} {w1} {w2} v1 v2 (format_one op s d c src dst) =
    subst (λ (n : ℕ). Means w0 v1 v2 (revised (Two op (width_of ((w0 / 64) % 2)) s d) v1 v2) n)
    (ap (λ (n : ℕ). 1 + n + words_of (with_word d (second s v1 v2))) (words_same s v1) ∙ ap (λ (n : ℕ). 1 + words_of s + n) (words_same d (second s v1 v2)))
    (format_one op (with_word s v1) (with_word d (second s v1 v2)) c (other_source v1 src)
    (subst (λ (n : ℕ). Destination ((w0 / 128) % 2) (w0 % 16) (cond (n == 1) v2 v1) (with_word d (second s v1 v2))) (sym (words_same s v1)) (other_destination (second s v1 v2) dst)))
other_words {w0} {w1} {w2} v1 v2 (format_two op a h c src fits) =
    subst (λ (n : ℕ). Means w0 v1 v2 (revised (One op (width_of ((w0 / 64) % 2)) a) v1 v2) n)
    (ap (λ (n : ℕ). 1 + n) (words_same a v1))
    (format_two op (with_word a v1) h c (other_source v1 src) (fits_same op (width_of ((w0 / 64) % 2)) a v1 ∙ fits))
other_words v1 v2 (jump condition h k) = jump condition h k
other_words v1 v2 (return h) = return h
other_words v1 v2 (unit name h) = unit name h

-- ---- words past the length

pub length_same : (w0 w1 w2 : ℕ) (insn : Insn) → insn_of w0 w1 w2 ≡ Some insn → length_of insn ≡ length_at w0
length_same w0 w1 w2 insn e =
    let m : (insn_of w0 0 0 ≡ Some (revised insn 0 0)) × (length_of insn ≡ length_of (revised insn 0 0)) = means_insn (other_words 0 0 (insn_means w0 w1 w2 insn e)) in
    m.1 ∙ sym (ap length_or_one m.0)

-- where one choice of extension words gives no instruction, none does
none_same : (w0 w1 w2 v1 v2 : ℕ) → insn_of w0 w1 w2 ≡ None → insn_of w0 v1 v2 ≡ None
none_same w0 w1 w2 v1 v2 e = by (insn_of w0 v1 v2) refl
  where
    by : (o : Option Insn) → insn_of w0 v1 v2 ≡ o → o ≡ None
    by None q = refl
    by (Some insn) q = apart (insn_of w0 w1 w2) (revised insn w1 w2) e (means_insn (other_words w1 w2 (insn_means w0 v1 v2 insn q))).0

revised_short : (insn : Insn) (v1 v2 : ℕ) → length_of insn ≤ 1 → revised insn v1 v2 ≡ insn
revised_short (Two op w s d) v1 v2 h =
    ap (λ (o : Operand). Two op w o (with_word d (second s v1 v2))) (no_word s v1 (omega arith)) ∙ ap (λ (o : Operand). Two op w s o) (no_word d (second s v1 v2) (omega arith))
revised_short (One op w a) v1 v2 h = ap (λ (o : Operand). One op w o) (no_word a v1 (omega arith))
revised_short _ v1 v2 h = refl

revised_long : {w0 w1 w2 : ℕ} {insn : Insn} {n : ℕ} (v2 : ℕ) → n ≤ 2 → Means w0 w1 w2 insn n → revised insn w1 v2 ≡ insn
revised_long {w0} {w1} {w2} v2 h (format_one op s d c src dst) =
    ap (λ (o : Operand). Two op (width_of ((w0 / 64) % 2)) o (with_word d (second s w1 v2))) (own_source src)
    ∙ ap (λ (o : Operand). Two op (width_of ((w0 / 64) % 2)) s o) (by (words_of s == 1) refl)
  where
    by : (b : Bool) → (words_of s == 1) ≡ b → with_word d (cond b v2 w1) ≡ d
    by true q = no_word d v2 (let e : words_of s ≡ 1 = grind (arith, nat_tests) in omega arith)
    by false q = own_destination (subst (λ (b : Bool). Destination ((w0 / 128) % 2) (w0 % 16) (cond b w2 w1) d) q dst)
revised_long {w0} {w1} {w2} v2 h (format_two op a l c src fits) = ap (λ (o : Operand). One op (width_of ((w0 / 64) % 2)) o) (own_source src)
revised_long v2 h (jump condition k c) = refl
revised_long v2 h (return k) = refl
revised_long v2 h (unit name k) = refl

pub unread_both : (w0 w1 w2 v1 v2 : ℕ) → length_at w0 ≤ 1 → insn_of w0 v1 v2 ≡ insn_of w0 w1 w2
unread_both w0 w1 w2 v1 v2 h = by (insn_of w0 w1 w2) refl
  where
    by : (o : Option Insn) → insn_of w0 w1 w2 ≡ o → insn_of w0 v1 v2 ≡ o
    by None q = none_same w0 w1 w2 v1 v2 q
    by (Some insn) q =
        let l : length_of insn ≡ length_at w0 = length_same w0 w1 w2 insn q in
        (means_insn (other_words v1 v2 (insn_means w0 w1 w2 insn q))).0 ∙ ap (λ (i : Insn). Some i) (revised_short insn v1 v2 (subst (λ (n : ℕ). n ≤ 1) (sym l) h))

pub unread_last : (w0 w1 w2 v2 : ℕ) → length_at w0 ≤ 2 → insn_of w0 w1 v2 ≡ insn_of w0 w1 w2
unread_last w0 w1 w2 v2 h = by (insn_of w0 w1 w2) refl
  where
    by : (o : Option Insn) → insn_of w0 w1 w2 ≡ o → insn_of w0 w1 v2 ≡ o
    by None q = none_same w0 w1 w2 w1 v2 q
    by (Some insn) q =
        let l : length_of insn ≡ length_at w0 = length_same w0 w1 w2 insn q in
        let m : Means w0 w1 w2 insn (length_of insn) = insn_means w0 w1 w2 insn q in
        (means_insn (other_words w1 v2 m)).0 ∙ ap (λ (i : Insn). Some i) (revised_long v2 (subst (λ (n : ℕ). n ≤ 2) (sym l) h) m)

-- ---- the words outside the table

pub none_outside : (w0 w1 w2 : ℕ) → insn_of w0 w1 w2 ≡ None → IsOutside w0
none_outside w0 w1 w2 e v1 v2 n insn m = apart (insn_of w0 v1 v2) insn (none_same w0 w1 w2 v1 v2 e) (means_insn m).0

pub outside_none : (w0 w1 w2 : ℕ) → IsOutside w0 → insn_of w0 w1 w2 ≡ None
outside_none w0 w1 w2 out = by (insn_of w0 w1 w2) refl
  where
    by : (o : Option Insn) → insn_of w0 w1 w2 ≡ o → o ≡ None
    by None q = refl
    by (Some insn) q = absurd (out w1 w2 (length_of insn) insn (insn_means w0 w1 w2 insn q))

pub length_range : (w0 : ℕ) → (1 ≤ length_at w0) × (length_at w0 ≤ 3)
length_range w0 = by (insn_of w0 0 0) refl
  where
    at_most : (insn : Insn) → (1 ≤ length_of insn) × (length_of insn ≤ 3)
    at_most (Two op w s d) = let a : words_of s ≤ 1 = words_most s in let b : words_of d ≤ 1 = words_most d in (omega arith, omega arith)
    at_most (One op w a) = let b : words_of a ≤ 1 = words_most a in (omega arith, omega arith)
    at_most _ = (omega arith, omega arith)

    by : (o : Option Insn) → insn_of w0 0 0 ≡ o → (1 ≤ length_or_one o) × (length_or_one o ≤ 3)
    by None q = (omega arith, omega arith)
    by (Some insn) q = at_most insn
