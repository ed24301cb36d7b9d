-- What `show` writes of an instruction is read as that instruction.
use Rattle.std.proofs.Common.{ℕ, zero, suc, ◌≡◌, ◌+◌, ◌-◌, ◌*◌, ◌/◌, ◌%◌, ◌<◌, Bool, true, false, not, cond, ◌&&◌, ◌||◌, List, [], ◌∷◌, ◌++◌, length, take, drop, Some, None, is_some, IsSomeAnd, codes, nat_eq, refl, ap, sym, subst, ◌∙◌, append_assoc, length-append, arith, lit<}
use Rattle.std.specs.Prelude.{option_map}
use Rattle.std.specs.List.{All, list_all}
use Rattle.std.specs.Cmp.Lexicographic.{pointwise}
use Rattle.std.specs.Fmt.{decimal, digits}
use Rattle.std.specs.Str.{bytes_eq}
use Rattle.std.proofs.lemmas.Bool.{not-true, and_parts}
use Rattle.std.proofs.lemmas.Bool.Decides.{nat_tests}
use Rattle.std.proofs.lemmas.List.{take_at, drop_at}
use Rattle.std.proofs.lemmas.List.Elements.{All-cons, All-nil, All-tail}
use Rattle.std.proofs.lemmas.List.Folds.{list_all-append}
use Rattle.std.proofs.lemmas.List.Sums.{AllPass-from_list_all}
use Rattle.std.proofs.lemmas.List.Splits.{slice_split_none, slice_split_at}
use Rattle.texts.specs.Decimals.{read_decimal}
use Rattle.texts.specs.Hexadecimals.{hex_digit, hex_byte, hex_word, read_hex_word}
use Rattle.texts.proofs.LawLemmas.{words_are_read}
use Rattle.sm_words.specs.Words.{add16}
use Rattle.sm_words.specs.declared.width.Width.{Width}
use Rattle.sm_words.specs.declared.width.Width.TheVariants.{Byte, Word}
use Rattle.insn_decode.specs.declared.insn.TwoOp.{TwoOp}
use Rattle.insn_decode.specs.declared.insn.TwoOp.TheVariants.{Mov}
use Rattle.insn_decode.specs.declared.insn.OneOp.{OneOp}
use Rattle.insn_decode.specs.declared.insn.OneOp.TheVariants.{Rrc}
use Rattle.insn_decode.specs.declared.insn.Operand.{Operand}
use Rattle.insn_decode.specs.declared.insn.Operand.TheVariants.{Reg, Const, Imm, Indexed, Symbolic, Absolute, Indirect, Increment}
use Rattle.insn_decode.specs.declared.insn.Insn.{Insn}
use Rattle.insn_decode.specs.declared.insn.Insn.TheVariants.{Two, One, Jump, Reti, Unit as UnitOp}
use Rattle.insn_decode.specs.declared.insn.UnitName.{UnitName}
use Rattle.insn_decode.specs.declared.insn.UnitName.TheVariants.{Unprotect}
use Rattle.insn_decode.specs.Code.{words_of, is_constant, HasParts, HasForm}
use Rattle.insn_decode.specs.Means.{unit_code}
use Rattle.insn_decode.proofs.FormFacts.{decoded_form}
use Rattle.insn_decode.specs.Text.{two_name, one_name, suffix_of, hex_text, operand_text, insn_text}
use Rattle.asm_line.specs.declared.statement.Field.TheVariants.{Number}
use Rattle.asm_line.specs.declared.statement.Statement.TheVariants.{Code}
use Rattle.asm_line.specs.Encoding.{extension, extensions, leading_word, IsMeant}
use Rattle.asm_line.specs.Laws.{ShownIsRead, is_placeless_operand, is_placeless, AreWords}
use Rattle.texts.specs.Words.{is_space, words}
use Rattle.asm_line.specs.Lines.{mnemonic_width, base_of, two_op_of, one_op_of, condition_of, by_words, statement_of}
use Rattle.asm_line.specs.Operands.{without_ending, field_of, of_field, plain, number_by, immediate_of, indirect_of, indexed_at, indexed_of, operand_of}
use Rattle.asm_line.specs.Identifiers.{is_name}
use Rattle.asm_line.proofs.DecodedLemmas.{words_come_back}
use Rattle.asm_line.proofs.MeaningLemmas.{words_are_meant}
use Rattle.asm_line.proofs.WordLemmas.{option_map_some}

-- a fact of each of the sixteen registers, or digits
sixteen : (P : ℕ → Type 0) → P 0 → P 1 → P 2 → P 3 → P 4 → P 5 → P 6 → P 7 → P 8 → P 9 → P 10 → P 11 → P 12 → P 13 → P 14 → P 15 → (r : ℕ) → r < 16 → P r
sixteen P p0 p1 p2 p3 p4 p5 p6 p7 p8 p9 p10 p11 p12 p13 p14 p15 = by
  where
    by : (r : ℕ) → r < 16 → P r
    by zero l = p0
    by (suc zero) l = p1
    by (suc (suc zero)) l = p2
    by (suc (suc (suc zero))) l = p3
    by (suc (suc (suc (suc zero)))) l = p4
    by (suc (suc (suc (suc (suc zero))))) l = p5
    by (suc (suc (suc (suc (suc (suc zero)))))) l = p6
    by (suc (suc (suc (suc (suc (suc (suc zero))))))) l = p7
    by (suc (suc (suc (suc (suc (suc (suc (suc zero)))))))) l = p8
    by (suc (suc (suc (suc (suc (suc (suc (suc (suc zero))))))))) l = p9
    by (suc (suc (suc (suc (suc (suc (suc (suc (suc (suc zero)))))))))) l = p10
    by (suc (suc (suc (suc (suc (suc (suc (suc (suc (suc (suc zero))))))))))) l = p11
    by (suc (suc (suc (suc (suc (suc (suc (suc (suc (suc (suc (suc zero)))))))))))) l = p12
    by (suc (suc (suc (suc (suc (suc (suc (suc (suc (suc (suc (suc (suc zero))))))))))))) l = p13
    by (suc (suc (suc (suc (suc (suc (suc (suc (suc (suc (suc (suc (suc (suc zero)))))))))))))) l = p14
    by (suc (suc (suc (suc (suc (suc (suc (suc (suc (suc (suc (suc (suc (suc (suc zero))))))))))))))) l = p15
    by (suc (suc (suc (suc (suc (suc (suc (suc (suc (suc (suc (suc (suc (suc (suc (suc n)))))))))))))))) l = absurd (omega arith)

-- ---- texts with no space

abbrev IsWhole : List ℕ → Type 0
IsWhole text = list_all (λ b. not (is_space b)) text ≡ true

whole_append : (v w : List ℕ) → IsWhole v → IsWhole w → IsWhole (v ++ w)
whole_append v w p q = list_all-append (λ b. not (is_space b)) v w ∙ (ap (λ c. c && list_all (λ b. not (is_space b)) w) p ∙ q)

each_whole : (text : List ℕ) → IsWhole text → All (λ b. is_space b ≡ false) text
each_whole text h k d l = not-true _ (AllPass-from_list_all (λ b. not (is_space b)) text h k d l)

digit_whole : (d : ℕ) → d < 16 → IsWhole (hex_digit d ∷ [])
digit_whole = sixteen (λ d. IsWhole (hex_digit d ∷ [])) refl refl refl refl refl refl refl refl refl refl refl refl refl refl refl refl

byte_whole : (byte : ℕ) → byte < 256 → IsWhole (hex_byte byte)
byte_whole byte small = whole_append (hex_digit (byte / 16) ∷ []) (hex_digit (byte % 16) ∷ []) (digit_whole (byte / 16) (omega arith)) (digit_whole (byte % 16) (omega arith))

word_whole : (word : ℕ) → word < 65536 → IsWhole (hex_word word)
word_whole word small = whole_append (hex_byte (word / 256)) (hex_byte (word % 256)) (byte_whole (word / 256) (omega arith)) (byte_whole (word % 256) (omega arith))

-- ---- operands

-- what is known of an operand that is shown
abbrev IsShown : Operand → Type 0
IsShown (Reg r) = r < 16
IsShown (Const c) = is_constant c ≡ true
IsShown (Imm x) = x < 65536
IsShown (Indexed r x) = (r < 16) × (x < 65536)
IsShown (Symbolic x) = ⊥
IsShown (Absolute x) = x < 65536
IsShown (Indirect r) = r < 16
IsShown (Increment r) = r < 16

shown : (o : Operand) → HasParts o → is_placeless_operand o ≡ true → AreWords (extension o) → IsShown o
shown (Reg r) p h small = p
shown (Const c) p h small = p
shown (Imm x) p h small = small 0 0 (lit< tt)
shown (Indexed r x) p h small = (p, small 0 0 (lit< tt))
shown (Symbolic x) p h small = absurd cc
shown (Absolute x) p h small = small 0 0 (lit< tt)
shown (Indirect r) p h small = p
shown (Increment r) p h small = p

word_read : (x : ℕ) → x < 65536 → read_hex_word (hex_word x) ≡ Some x
word_read x small = (words_are_read (hex_word x) x).1 (small, refl)

field_read : (x : ℕ) → x < 65536 → field_of (hex_text x) ≡ Some (Number x)
field_read x small = ap (option_map Number) (word_read x small)

-- a fact of each constant
constants : (P : ℕ → Type 0) → P 0 → P 1 → P 2 → P 4 → P 8 → P 65535 → (c : ℕ) → is_constant c ≡ true → P c
constants P p0 p1 p2 p4 p8 p9 c e = by (nat_eq c 0) (nat_eq c 1) (nat_eq c 2) (nat_eq c 4) (nat_eq c 8) (nat_eq c 65535) refl refl refl refl refl refl e
  where
    along : (k : ℕ) → nat_eq c k ≡ true → P k → P c
    along k is p = subst P (let same : k ≡ c = grind (arith, nat_tests) in same) p

    by : (a b d f g h : Bool) → nat_eq c 0 ≡ a → nat_eq c 1 ≡ b → nat_eq c 2 ≡ d → nat_eq c 4 ≡ f → nat_eq c 8 ≡ g → nat_eq c 65535 ≡ h → (a || b || d || f || g || h) ≡ true → P c
    by true b d f g h i0 i1 i2 i4 i8 i9 k = along 0 i0 p0
    by false true d f g h i0 i1 i2 i4 i8 i9 k = along 1 i1 p1
    by false false true f g h i0 i1 i2 i4 i8 i9 k = along 2 i2 p2
    by false false false true g h i0 i1 i2 i4 i8 i9 k = along 4 i4 p4
    by false false false false true h i0 i1 i2 i4 i8 i9 k = along 8 i8 p8
    by false false false false false true i0 i1 i2 i4 i8 i9 k = along 65535 i9 p9
    by false false false false false false i0 i1 i2 i4 i8 i9 k = absurd cc

abbrev IsRead : Operand → ℕ → Type 0
IsRead o at = operand_of (operand_text o at) ≡ Some (plain o)

indexed_read : (x at : ℕ) → x < 65536 → (r : ℕ) → r < 16 → IsRead (Indexed r x) at
unfolding operand_of indexed_of read_decimal digits
indexed_read x at small =
    let at_register : (r : ℕ) → indexed_at (read_hex_word (hex_word x)) (Some r) ≡ Some (plain (Indexed r x)) = λ r. ap (λ w. indexed_at w (Some r)) (word_read x small) in
    sixteen (λ r. IsRead (Indexed r x) at) (at_register 0) (at_register 1) (at_register 2) (at_register 3) (at_register 4) (at_register 5) (at_register 6) (at_register 7)
    (at_register 8) (at_register 9) (at_register 10) (at_register 11) (at_register 12) (at_register 13) (at_register 14) (at_register 15)

operand_read : (o : Operand) (at : ℕ) → IsShown o → IsRead o at
unfolding operand_of immediate_of indirect_of read_decimal is_name digits
operand_read (Reg r) at h = sixteen (λ r. IsRead (Reg r) at) refl refl refl refl refl refl refl refl refl refl refl refl refl refl refl refl r h
operand_read (Const c) at h = constants (λ c. IsRead (Const c) at) refl refl refl refl refl refl c h
operand_read (Imm x) at h = ap (λ f. number_by f (hex_text x)) (field_read x h)
operand_read (Indexed r x) at h = indexed_read x at h.1 r h.0
operand_read (Symbolic x) at h = absurd h
operand_read (Absolute x) at h = ap (option_map (of_field Absolute)) (field_read x h)
operand_read (Indirect r) at h = sixteen (λ r. IsRead (Indirect r) at) refl refl refl refl refl refl refl refl refl refl refl refl refl refl refl refl r h
operand_read (Increment r) at h = sixteen (λ r. IsRead (Increment r) at) refl refl refl refl refl refl refl refl refl refl refl refl refl refl refl refl r h

end_whole : (r : ℕ) → r < 16 → IsWhole (codes "(r" ++ decimal r ++ codes ")")
unfolding digits
end_whole = sixteen (λ r. IsWhole (codes "(r" ++ decimal r ++ codes ")")) refl refl refl refl refl refl refl refl refl refl refl refl refl refl refl refl

operand_whole : (o : Operand) (at : ℕ) → IsShown o → IsWhole (operand_text o at)
unfolding digits
operand_whole (Reg r) at h = sixteen (λ r. IsWhole (operand_text (Reg r) at)) refl refl refl refl refl refl refl refl refl refl refl refl refl refl refl refl r h
operand_whole (Const c) at h = constants (λ c. IsWhole (operand_text (Const c) at)) refl refl refl refl refl refl c h
operand_whole (Imm x) at h = word_whole x h
operand_whole (Indexed r x) at h = whole_append (hex_word x) (codes "(r" ++ decimal r ++ codes ")") (word_whole x h.1) (end_whole r h.0)
operand_whole (Symbolic x) at h = absurd h
operand_whole (Absolute x) at h = word_whole x h
operand_whole (Indirect r) at h = sixteen (λ r. IsWhole (operand_text (Indirect r) at)) refl refl refl refl refl refl refl refl refl refl refl refl refl refl refl refl r h
operand_whole (Increment r) at h = sixteen (λ r. IsWhole (operand_text (Increment r) at)) refl refl refl refl refl refl refl refl refl refl refl refl refl refl refl refl r h

-- ---- mnemonics

record IsTwoName (op : TwoOp) (w : Width) (text : List ℕ) : Type 0 where
  pub whole : IsWhole text
  pub other : bytes_eq text (codes "section") ≡ false
  pub width : mnemonic_width text ≡ w
  pub op_is : two_op_of (base_of text) ≡ Some op

two_named : (w : Width) (op : TwoOp) → IsTwoName op w (two_name op ++ suffix_of w)
two_named Byte Mov = record { whole = refl; other = refl; width = refl; op_is = refl }
two_named Word Mov = record { whole = refl; other = refl; width = refl; op_is = refl }
two_named _ _ = record { whole = refl; other = refl; width = refl; op_is = refl }

record IsOneName (op : OneOp) (w : Width) (text : List ℕ) : Type 0 where
  pub whole : IsWhole text
  pub no_label : bytes_eq text (codes "label") ≡ false
  pub no_global : bytes_eq text (codes "global") ≡ false
  pub no_word : bytes_eq text (codes "word") ≡ false
  pub no_space : bytes_eq text (codes "space") ≡ false
  pub no_unit : bytes_eq text (codes "unit") ≡ false
  pub no_jump : condition_of text ≡ None
  pub width : mnemonic_width text ≡ w
  pub op_is : one_op_of (base_of text) ≡ Some op

one_named : (w : Width) (op : OneOp) → IsOneName op w (one_name op ++ suffix_of w)
one_named Byte Rrc = record { whole = refl; no_label = refl; no_global = refl; no_word = refl; no_space = refl; no_unit = refl; no_jump = refl; width = refl; op_is = refl }
one_named Word Rrc = record { whole = refl; no_label = refl; no_global = refl; no_word = refl; no_space = refl; no_unit = refl; no_jump = refl; width = refl; op_is = refl }
one_named _ _ = record { whole = refl; no_label = refl; no_global = refl; no_word = refl; no_space = refl; no_unit = refl; no_jump = refl; width = refl; op_is = refl }

-- ---- instructions

-- what stands before the comma
comma_read : (text : List ℕ) → without_ending (codes ",") (text ++ codes ",") ≡ Some text
comma_read text =
    let size : length (text ++ codes ",") - 1 ≡ length text = omega (arith, length-append text (codes ",")) in
    let end : drop (length (text ++ codes ",") - 1) (text ++ codes ",") ≡ codes "," = drop_at text (codes ",") (length (text ++ codes ",") - 1) (sym size) in
    let front : take (length (text ++ codes ",") - 1) (text ++ codes ",") ≡ text = take_at text (codes ",") (length (text ++ codes ",") - 1) (sym size) in
    ap (λ xs. cond (pointwise nat_eq (codes ",") xs) (Some (take (length (text ++ codes ",") - 1) (text ++ codes ","))) None) end ∙ ap Some front

two_words : (name first second : List ℕ) → IsWhole name → IsWhole first → IsWhole second → words (name ++ 32 ∷ (first ++ 32 ∷ second)) ≡ name ∷ first ∷ second ∷ []
unfolding words
two_words name first second p q r =
    slice_split_at is_space name 32 (first ++ 32 ∷ second) (each_whole name p) refl
    ∙ ap (λ ws. name ∷ ws) (slice_split_at is_space first 32 second (each_whole first q) refl
    ∙ ap (λ ws. first ∷ ws) (slice_split_none is_space second (each_whole second r)))

one_word : (name text : List ℕ) → IsWhole name → IsWhole text → words (name ++ 32 ∷ text) ≡ name ∷ text ∷ []
unfolding words
one_word name text p q =
    slice_split_at is_space name 32 text (each_whole name p) refl ∙ ap (λ ws. name ∷ ws) (slice_split_none is_space text (each_whole text q))

two_text : (name suffix source dest : List ℕ) → name ++ suffix ++ codes " " ++ source ++ codes ", " ++ dest ≡ (name ++ suffix) ++ 32 ∷ ((source ++ codes ",") ++ 32 ∷ dest)
two_text name suffix source dest = simp append_assoc

one_text : (name suffix text : List ℕ) → name ++ suffix ++ codes " " ++ text ≡ (name ++ suffix) ++ 32 ∷ text
one_text name suffix text = simp append_assoc

two_read : (op : TwoOp) (w : Width) (s d : Operand) (name source dest : List ℕ) → IsTwoName op w name → IsWhole source → IsWhole dest → operand_of source ≡ Some (plain s) → operand_of dest ≡ Some (plain d)
    → is_some (leading_word (Two op w s d)) ≡ true → statement_of (name ++ 32 ∷ ((source ++ codes ",") ++ 32 ∷ dest)) ≡ Some (Code (Two op w s d) None None)
unfolding statement_of
two_read op w s d name source dest n ps pd rs rd is =
    ap by_words (two_words name (source ++ codes ",") dest n.whole (whole_append source (codes ",") ps refl) pd)
    ∙ rw (n.other, comma_read source, n.width, n.op_is, rs, rd, is) refl

one_read : (op : OneOp) (w : Width) (a : Operand) (name text : List ℕ) → IsOneName op w name → IsWhole text → operand_of text ≡ Some (plain a) → is_some (leading_word (One op w a)) ≡ true
    → statement_of (name ++ 32 ∷ text) ≡ Some (Code (One op w a) None None)
unfolding statement_of
one_read op w a name text n p r is =
    ap by_words (one_word name text n.whole p) ∙ rw (n.no_label, n.no_global, n.no_word, n.no_space, n.no_unit, n.no_jump, n.width, n.op_is, r, is) refl

unit_read : (name : UnitName) → statement_of (codes "unit " ++ decimal (unit_code name)) ≡ Some (Code (UnitOp name) None None)
unfolding statement_of words read_decimal digits
unit_read Unprotect = refl
unit_read _ = refl

words_front : (xs ys : List ℕ) → AreWords (xs ++ ys) → AreWords xs × AreWords ys
words_front [] ys h = (All-nil (λ word. word < 65536), h)
words_front (x ∷ xs) ys h =
    let rest = words_front xs ys (All-tail (λ word. word < 65536) x (xs ++ ys) h) in
    (All-cons (λ word. word < 65536) x xs (h 0 0 (omega arith)) rest.0, rest.1)

insn_read : (insn : Insn) (at : ℕ) → HasForm insn → is_some (leading_word insn) ≡ true → is_placeless insn ≡ true → AreWords (extensions insn) → statement_of (insn_text insn at) ≡ Some (Code insn None None)
unfolding statement_of words
insn_read (Two op w s d) at form is h small =
    let fixed = and_parts (is_placeless_operand s) (is_placeless_operand d) h in
    let parts = words_front (extension s) (extension d) small in
    let source = shown s form.0 fixed.0 parts.0 in
    let dest = shown d form.1 fixed.1 parts.1 in
    let here = add16 at 2 in
    let there = add16 at (2 + 2 * words_of s) in
    ap statement_of (two_text (two_name op) (suffix_of w) (operand_text s here) (operand_text d there))
    ∙ two_read op w s d (two_name op ++ suffix_of w) (operand_text s here) (operand_text d there) (two_named w op) (operand_whole s here source) (operand_whole d there dest)
    (operand_read s here source) (operand_read d there dest) is
insn_read (One op w a) at form is h small =
    let source = shown a form.0 h small in
    let here = add16 at 2 in
    ap statement_of (one_text (one_name op) (suffix_of w) (operand_text a here))
    ∙ one_read op w a (one_name op ++ suffix_of w) (operand_text a here) (one_named w op) (operand_whole a here source) (operand_read a here source) is
insn_read (Jump c o) at form is h small = absurd cc
insn_read Reti at form is h small = refl
insn_read (UnitOp name) at form is h small = unit_read name

pub shown_is_read : ShownIsRead
shown_is_read insn at d h small =
    let made = words_come_back d.first d.second d.third insn d.means in
    let there : is_some (leading_word insn) ≡ true = option_map_some (λ word. word ∷ extensions insn) (leading_word insn) _ made (λ word is are. ap is_some is) in
    (insn_read insn at (decoded_form insn d) there h small, subst (λ o. IsSomeAnd o (IsMeant insn)) (sym made) (words_are_meant insn _ made))
