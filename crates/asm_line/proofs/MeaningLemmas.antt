-- The words of an instruction mean it.
use Rattle.std.proofs.Common.{ℕ, ◌≡◌, ◌+◌, ◌*◌, ◌/◌, ◌%◌, ◌<◌, Bool, true, false, not, cond, ◌&&◌, nat_lt, nat_eq, List, [], ◌∷◌, ◌++◌, length, take, drop, Some, None, refl, ap, sym, subst, ◌∙◌, arith, lit<, get_or}
use Rattle.std.proofs.lemmas.Bool.Decides.{nat_tests}
use Rattle.std.proofs.lemmas.Bool.{and_parts}
use Rattle.std.proofs.lemmas.Option.{same_Some, cond_some, option_and_then_some}
use Rattle.sm_words.specs.declared.width.Width.{Width}
use Rattle.sm_words.specs.declared.width.Width.TheVariants.{Byte, Word as WordWidth}
use Rattle.insn_decode.specs.declared.insn.TwoOp.{TwoOp}
use Rattle.insn_decode.specs.declared.insn.OneOp.{OneOp}
use Rattle.insn_decode.specs.declared.insn.OneOp.TheVariants.{Rrc}
use Rattle.insn_decode.specs.declared.insn.Operand.{Operand}
use Rattle.insn_decode.specs.declared.insn.Operand.TheVariants.{Reg, Const, Imm, Indexed, Symbolic, Absolute, Indirect, Increment}
use Rattle.insn_decode.specs.declared.insn.Insn.{Insn}
use Rattle.insn_decode.specs.declared.insn.Insn.TheVariants.{Two, One, Jump, Reti, Unit as UnitOp}
use Rattle.insn_decode.specs.Code.{words_of as words_in, length_of, width_of, one_fits}
use Rattle.insn_decode.specs.Means.{two_code, one_code, Means, IsPlain, Source, register, symbolic, absolute, indexed, indirect, increment, immediate, four, eight, nought, one, two, all_ones, Destination, to_register, to_symbolic, to_absolute, to_indexed, format_one, format_two, return, unit}
use Rattle.asm_line.specs.declared.encoding.OperandFields.{OperandFields}
use Rattle.asm_line.specs.Encoding.{plain_fields, constant_fields, source_fields, dest_fields, byte_flag, leading_word, extension, extensions}
use Rattle.asm_line.specs.Laws.{WordsAreMeant}
use Rattle.asm_line.proofs.JumpLemmas.{jump_means}
use Rattle.asm_line.proofs.WordLemmas.{option_map_some}

-- ---- the fields of a first word

pub record HasFields (w op s a b m d : ℕ) : Type 0 where
  pub op_is : w / 4096 ≡ op
  pub source : (w / 256) % 16 ≡ s
  pub dest_mode_is : (w / 128) % 2 ≡ a
  pub byte : (w / 64) % 2 ≡ b
  pub mode : (w / 16) % 4 ≡ m
  pub register_is : w % 16 ≡ d

has_fields : (op s a b m d : ℕ) → s < 16 → a < 2 → b < 2 → m < 4 → d < 16 → HasFields (op * 4096 + s * 256 + a * 128 + b * 64 + m * 16 + d) op s a b m d
has_fields op s a b m d hs ha hb hm hd = record {
  op_is = omega arith;
  source = omega arith;
  dest_mode_is = omega arith;
  byte = omega arith;
  mode = omega arith;
  register_is = omega arith;
}

pub record HasFewFields (w op b m d : ℕ) : Type 0 where
  pub form : w / 1024 ≡ 4
  pub op_is : (w / 128) % 8 ≡ op
  pub byte : (w / 64) % 2 ≡ b
  pub mode : (w / 16) % 4 ≡ m
  pub register_is : w % 16 ≡ d

has_few_fields : (op b m d : ℕ) → op < 8 → b < 2 → m < 4 → d < 16 → HasFewFields (4096 + op * 128 + b * 64 + m * 16 + d) op b m d
has_few_fields op b m d ho hb hm hd = record {
  form = omega arith;
  op_is = omega arith;
  byte = omega arith;
  mode = omega arith;
  register_is = omega arith;
}

-- ---- operands

pub record IsRegister (r : ℕ) : Type 0 where
  pub low : r < 16
  pub plain : IsPlain r

unlike : (r k : ℕ) → r ≡ k → not (nat_eq r k) ≡ true → ⊥
unlike r k s n = grind (arith, nat_tests)

abbrev at : ℕ → ℕ → OperandFields
at mode r = record { mode = mode; register = r }

is_register : (mode r : ℕ) (f : OperandFields) → plain_fields mode r ≡ Some f → IsRegister r × (at mode r ≡ f)
is_register mode r f e =
    let tests = cond_some (nat_lt r 16 && not (nat_eq r 0) && not (nat_eq r 2) && not (nat_eq r 3)) (at mode r) f e in
    let three = and_parts (nat_lt r 16 && not (nat_eq r 0) && not (nat_eq r 2)) (not (nat_eq r 3)) tests.0 in
    let two' = and_parts (nat_lt r 16 && not (nat_eq r 0)) (not (nat_eq r 2)) three.0 in
    let one' = and_parts (nat_lt r 16) (not (nat_eq r 0)) two'.0 in
    let low = one'.0 in (
      record {
        low = grind (arith, nat_tests);
        plain = record { not_pc = λ s. unlike r 0 s one'.1; not_sr = λ s. unlike r 2 s two'.1; not_constants = λ s. unlike r 3 s three.1 };
      },
      tests.1,
    )

words_low : (o : Operand) → words_in o < 2
words_low (Reg r) = omega arith
words_low _ = omega arith

flag_low : (w : Width) → byte_flag w < 2
flag_low Byte = omega arith
flag_low WordWidth = omega arith

flag_width : (w : Width) → width_of (byte_flag w) ≡ w
flag_width Byte = refl
flag_width WordWidth = refl

-- the word after the first, as an operand's
abbrev ext_of : Operand → ℕ → ℕ
ext_of o other = get_or (extension o ++ other ∷ []) 0 0

-- the fields are small, and mean the operand
record IsSource (o : Operand) (f : OperandFields) : Type 0 where
  pub mode : f.mode < 4
  pub number : f.register < 16
  pub means : (x : ℕ) → Source f.mode f.register (ext_of o x) o

constant_is : (c : ℕ) (f : OperandFields) → constant_fields c ≡ Some f → IsSource (Const c) f
constant_is c f e = by (nat_eq c 0) (nat_eq c 1) (nat_eq c 2) (nat_eq c 4) (nat_eq c 8) (nat_eq c 65535) refl refl refl refl refl refl e
  where
    along : (k m r : ℕ) → nat_eq c k ≡ true → m < 4 → r < 16 → ((x : ℕ) → Source m r x (Const k)) → Some (at m r) ≡ Some f → IsSource (Const c) f
    along k m r is mode number means same =
        subst (λ j. IsSource (Const j) f) (let equal : k ≡ c = grind (arith, nat_tests) in equal)
        (subst (IsSource (Const k)) (same_Some (at m r) f same) (record { mode = mode; number = number; means = means }))

    by : (a b d g h i : Bool) → nat_eq c 0 ≡ a → nat_eq c 1 ≡ b → nat_eq c 2 ≡ d → nat_eq c 4 ≡ g → nat_eq c 8 ≡ h → nat_eq c 65535 ≡ i
        → cond a (Some (at 0 3)) (cond b (Some (at 1 3)) (cond d (Some (at 2 3)) (cond g (Some (at 2 2)) (cond h (Some (at 3 2)) (cond i (Some (at 3 3)) None))))) ≡ Some f → IsSource (Const c) f
    by true b d g h i i0 i1 i2 i4 i8 i9 k = along 0 0 3 i0 (lit< tt) (lit< tt) nought k
    by false true d g h i i0 i1 i2 i4 i8 i9 k = along 1 1 3 i1 (lit< tt) (lit< tt) one k
    by false false true g h i i0 i1 i2 i4 i8 i9 k = along 2 2 3 i2 (lit< tt) (lit< tt) two k
    by false false false true h i i0 i1 i2 i4 i8 i9 k = along 4 2 2 i4 (lit< tt) (lit< tt) four k
    by false false false false true i i0 i1 i2 i4 i8 i9 k = along 8 3 2 i8 (lit< tt) (lit< tt) eight k
    by false false false false false true i0 i1 i2 i4 i8 i9 k = along 65535 3 3 i9 (lit< tt) (lit< tt) all_ones k
    by false false false false false false i0 i1 i2 i4 i8 i9 k = absurd cc

source_is : (o : Operand) (f : OperandFields) → source_fields o ≡ Some f → IsSource o f
source_is (Reg r) f e =
    let tests = cond_some (nat_lt r 16 && not (nat_eq r 3)) (at 0 r) f e in
    let both = and_parts (nat_lt r 16) (not (nat_eq r 3)) tests.0 in
    let low = both.0 in
    subst (IsSource (Reg r)) tests.1 (record { mode = lit< tt; number = grind (arith, nat_tests); means = λ x. register r x (λ s. unlike r 3 s both.1) })
source_is (Const c) f e = constant_is c f e
source_is (Imm x) f e = subst (IsSource (Imm x)) (same_Some (at 3 0) f e) (record { mode = lit< tt; number = lit< tt; means = λ other. immediate x })
source_is (Indexed r x) f e = let p = is_register 1 r f e in subst (IsSource (Indexed r x)) p.1 (record { mode = lit< tt; number = p.0.low; means = λ other. indexed r x p.0.plain })
source_is (Symbolic x) f e = subst (IsSource (Symbolic x)) (same_Some (at 1 0) f e) (record { mode = lit< tt; number = lit< tt; means = λ other. symbolic x })
source_is (Absolute x) f e = subst (IsSource (Absolute x)) (same_Some (at 1 2) f e) (record { mode = lit< tt; number = lit< tt; means = λ other. absolute x })
source_is (Indirect r) f e = let p = is_register 2 r f e in subst (IsSource (Indirect r)) p.1 (record { mode = lit< tt; number = p.0.low; means = λ x. indirect r x p.0.plain })
source_is (Increment r) f e = let p = is_register 3 r f e in subst (IsSource (Increment r)) p.1 (record { mode = lit< tt; number = p.0.low; means = λ x. increment r x p.0.plain })

record IsDest (o : Operand) (f : OperandFields) : Type 0 where
  pub mode : f.mode < 2
  pub number : f.register < 16
  pub means : (x : ℕ) → Destination f.mode f.register (ext_of o x) o

dest_is : (o : Operand) (f : OperandFields) → dest_fields o ≡ Some f → IsDest o f
dest_is (Reg r) f e =
    let test = cond_some (nat_lt r 16) (at 0 r) f e in
    let low = test.0 in
    subst (IsDest (Reg r)) test.1 (record { mode = lit< tt; number = grind (arith, nat_tests); means = to_register r })
dest_is (Indexed r x) f e = let p = is_register 1 r f e in subst (IsDest (Indexed r x)) p.1 (record { mode = lit< tt; number = p.0.low; means = λ other. to_indexed r x p.0.plain })
dest_is (Symbolic x) f e = subst (IsDest (Symbolic x)) (same_Some (at 1 0) f e) (record { mode = lit< tt; number = lit< tt; means = λ other. to_symbolic x })
dest_is (Absolute x) f e = subst (IsDest (Absolute x)) (same_Some (at 1 2) f e) (record { mode = lit< tt; number = lit< tt; means = λ other. to_absolute x })
dest_is _ f e = absurd cc

one_code_low : (op : OneOp) → one_code op < 8
one_code_low Rrc = omega arith
one_code_low _ = omega arith

-- ---- instructions

-- the word of an operand, where it is the first of these
word_of : (o : Operand) (w : ℕ) (more : List ℕ) → extension o ≡ take (length (extension o)) (w ∷ more) → ext_of o w ≡ w
word_of (Imm x) w more e = ap (λ (l : List ℕ). get_or l 0 0) e
word_of (Indexed r x) w more e = ap (λ (l : List ℕ). get_or l 0 0) e
word_of (Symbolic x) w more e = ap (λ (l : List ℕ). get_or l 0 0) e
word_of (Absolute x) w more e = ap (λ (l : List ℕ). get_or l 0 0) e
word_of _ w more e = refl

-- the words of a source and a destination
pair : (s d : Operand) (w1 w2 : ℕ) → extension s ++ extension d ≡ take (length (extension s ++ extension d)) (w1 ∷ w2 ∷ [])
    → (ext_of s w1 ≡ w1) × (ext_of d (cond (nat_eq (words_in s) 1) w2 w1) ≡ cond (nat_eq (words_in s) 1) w2 w1)
pair (Reg r) d w1 w2 e = (refl, word_of d w1 (w2 ∷ []) e)
pair (Const c) d w1 w2 e = (refl, word_of d w1 (w2 ∷ []) e)
pair (Indirect r) d w1 w2 e = (refl, word_of d w1 (w2 ∷ []) e)
pair (Increment r) d w1 w2 e = (refl, word_of d w1 (w2 ∷ []) e)
pair _ d w1 w2 e = (ap (λ (l : List ℕ). get_or l 0 0) e, word_of d w2 [] (ap (drop 1) e))

two_means : (op : TwoOp) (w : Width) (s d : Operand) (f g : OperandFields) (w1 w2 : ℕ) → IsSource s f → IsDest d g → extension s ++ extension d ≡ take (length (extension s ++ extension d)) (w1 ∷ w2 ∷ [])
    → Means (two_code op * 4096 + f.register * 256 + g.mode * 128 + byte_flag w * 64 + f.mode * 16 + g.register) w1 w2 (Two op w s d) (1 + words_in s + words_in d)
two_means op w s d f g w1 w2 hs hd e =
    let w0 = two_code op * 4096 + f.register * 256 + g.mode * 128 + byte_flag w * 64 + f.mode * 16 + g.register in
    let has = has_fields (two_code op) f.register g.mode (byte_flag w) f.mode g.register hs.number hd.mode (flag_low w) hs.mode hd.number in
    let p = pair s d w1 w2 e in
    let next = cond (nat_eq (words_in s) 1) w2 w1 in
    let source : Source ((w0 / 16) % 4) ((w0 / 256) % 16) w1 s =
    subst (λ m. Source m ((w0 / 256) % 16) w1 s) (sym has.mode) (subst (λ r. Source f.mode r w1 s) (sym has.source) (subst (λ x. Source f.mode f.register x s) p.0 (hs.means w1))) in
    let dest : Destination ((w0 / 128) % 2) (w0 % 16) next d =
    subst (λ m. Destination m (w0 % 16) next d) (sym has.dest_mode_is) (subst (λ r. Destination g.mode r next d) (sym has.register_is) (subst (λ x. Destination g.mode g.register x d) p.1 (hd.means next))) in
    let width : width_of ((w0 / 64) % 2) ≡ w = ap width_of has.byte ∙ flag_width w in
    subst (λ (v : Width). Means w0 w1 w2 (Two op v s d) (1 + words_in s + words_in d)) width (format_one op s d has.op_is source dest)

one_means : (op : OneOp) (w : Width) (a : Operand) (f : OperandFields) (w1 w2 : ℕ) → IsSource a f → one_fits op w a ≡ true → extension a ≡ take (length (extension a)) (w1 ∷ w2 ∷ [])
    → Means (4096 + one_code op * 128 + byte_flag w * 64 + f.mode * 16 + f.register) w1 w2 (One op w a) (1 + words_in a)
one_means op w a f w1 w2 ha fits e =
    let w0 = 4096 + one_code op * 128 + byte_flag w * 64 + f.mode * 16 + f.register in
    let has = has_few_fields (one_code op) (byte_flag w) f.mode f.register (one_code_low op) (flag_low w) ha.mode ha.number in
    let source : Source ((w0 / 16) % 4) (w0 % 16) w1 a =
    subst (λ m. Source m (w0 % 16) w1 a) (sym has.mode) (subst (λ r. Source f.mode r w1 a) (sym has.register_is) (subst (λ x. Source f.mode f.register x a) (word_of a w1 (w2 ∷ []) e) (ha.means w1))) in
    let width : width_of ((w0 / 64) % 2) ≡ w = ap width_of has.byte ∙ flag_width w in
    subst (λ (v : Width). Means w0 w1 w2 (One op v a) (1 + words_in a)) width
    (format_two op a has.form has.op_is source (subst (λ (v : Width). one_fits op v a ≡ true) (sym width) fits))

first_means : (insn : Insn) (w0 w1 w2 : ℕ) → leading_word insn ≡ Some w0 → extensions insn ≡ take (length (extensions insn)) (w1 ∷ w2 ∷ []) → Means w0 w1 w2 insn (length_of insn)
unfolding leading_word
first_means (Two op w s d) w0 w1 w2 e h = option_and_then_some _ (source_fields s) w0 e (λ f i k. option_and_then_some _ (dest_fields d) w0 k (λ g j l.
    subst (λ v. Means v w1 w2 (Two op w s d) (1 + words_in s + words_in d)) (same_Some _ w0 l) (two_means op w s d f g w1 w2 (source_is s f i) (dest_is d g j) h)))
first_means (One op w a) w0 w1 w2 e h = option_and_then_some _ (source_fields a) w0 e (λ f i k.
    let fits = cond_some (one_fits op w a) _ w0 k in
    subst (λ v. Means v w1 w2 (One op w a) (1 + words_in a)) fits.1 (one_means op w a f w1 w2 (source_is a f i) fits.0 h))
first_means (Jump c o) w0 w1 w2 e h = jump_means c o w0 w1 w2 e
first_means Reti w0 w1 w2 e h = return (sym (same_Some 0x1300 w0 e))
first_means (UnitOp name) w0 w1 w2 e h = unit name (sym (same_Some _ w0 e))

pub words_are_meant : WordsAreMeant
words_are_meant insn words e w0 w1 w2 h = option_map_some (λ word. word ∷ extensions insn) (leading_word insn) words e (λ word is same.
    let whole : word ∷ extensions insn ≡ w0 ∷ take (length (extensions insn)) (w1 ∷ w2 ∷ []) = subst (λ ws. ws ≡ take (length ws) (w0 ∷ w1 ∷ w2 ∷ [])) (sym same) h in
    first_means insn w0 w1 w2 (is ∙ ap (λ ws. Some (get_or ws 0 0)) whole) (ap (drop 1) whole))
