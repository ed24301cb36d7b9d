use Rattle.arm_balance.specs.Met.{text_byte, met}
-- An increment that was decoded is none of SR.
use Rattle.std.proofs.Common.{◌≡◌, ◌≢◌, ℕ, zero, suc, ◌<◌, ◌-◌, ◌/◌, ◌%◌, List, [], ◌∷◌, refl, subst, arith, Bool, true, false, cond, nat_lt, ◌==◌, ◌&&◌, Option, Some, None}
use Rattle.std.specs.Prelude.{slice_get, option_and_then, option_map}
use Rattle.std.proofs.lemmas.Bool.Decides.{nat_tests}
use Rattle.sm_words.specs.Words.{word_at, nth}
use Rattle.insn_decode.specs.declared.insn.Condition.{Condition}
use Rattle.insn_decode.specs.declared.insn.UnitName.{UnitName}
use Rattle.insn_decode.specs.Code.{source_row, source_of, dest_of, words_of, width_of, two_ops, one_ops, conditions, unit_ops, two_of, one_fits, one_of, jump_of, insn_of, length_of, offset_of}
use Rattle.sm_words.specs.declared.width.Width.{Width}
use Rattle.insn_decode.specs.declared.insn.TwoOp.{TwoOp}
use Rattle.insn_decode.specs.declared.insn.OneOp.{OneOp}
use Rattle.cycle_table.proofs.Least.{one_least, two_least}
use Rattle.cycle_table.specs.Cycles.{cycles_of}
use Rattle.insn_decode.specs.declared.insn.Operand.{Operand}
use Rattle.insn_decode.specs.declared.insn.Operand.TheVariants.{Reg, Const, Imm, Indexed, Symbolic, Absolute, Indirect, Increment}
use Rattle.insn_decode.specs.declared.insn.Insn.{Insn}
use Rattle.insn_decode.specs.declared.insn.Insn.TheVariants.{Two, One, Jump, Reti, Unit as UnitOp}
use Rattle.mod_layout.specs.declared.Module.{Module}
use Rattle.cpu_step.specs.Fetched.{insn_at, word_in, insn_from}
use Rattle.flow_rule.proofs.Effects.{Regular}
use Rattle.flow_laws.proofs.Instruction.{RegularInsn}

abbrev Good : Option Operand → Type 0
Good o = (s : Operand) → o ≡ Some s → Regular s

abbrev Fine : Option Insn → Type 0
Fine o = (i : Insn) → o ≡ Some i → RegularInsn i

good_none : Good None
good_none s e = absurd cc

good_some : (o : Operand) → Regular o → Good (Some o)
good_some o h s e = let f : o ≡ s = cc in subst Regular f h

abbrev AllGood : List (Option Operand) → Type 0
AllGood [] = Unit {0}
AllGood (o ∷ os) = Good o × AllGood os

good_nth : (n : ℕ) (os : List (Option Operand)) → AllGood os → Good (nth n os None)
good_nth n [] h = good_none
good_nth zero (o ∷ os) h = h.0
good_nth (suc n) (o ∷ os) h = good_nth n os h.1

row_good : (r x : ℕ) → AllGood (source_row r x)
row_good r x = by (r == 0) (r == 2) (r == 3) refl
  where
    not_two : (r == 2) ≡ false → r ≢ 2
    not_two f = grind (arith, nat_tests)

    by : (a b c : Bool) → (r == 2) ≡ b → AllGood (cond a (Some (Reg 0) ∷ Some (Symbolic x) ∷ None ∷ Some (Imm x) ∷ [])
        (cond b (Some (Reg 2) ∷ Some (Absolute x) ∷ Some (Const 4) ∷ Some (Const 8) ∷ [])
        (cond c (Some (Const 0) ∷ Some (Const 1) ∷ Some (Const 2) ∷ Some (Const 65535) ∷ [])
        (Some (Reg r) ∷ Some (Indexed r x) ∷ Some (Indirect r) ∷ Some (Increment r) ∷ []))))
    by true b c e = (good_some (Reg 0) tt, (good_some (Symbolic x) tt, (good_none, (good_some (Imm x) tt, tt))))
    by false true c e = (good_some (Reg 2) tt, (good_some (Absolute x) tt, (good_some (Const 4) tt, (good_some (Const 8) tt, tt))))
    by false false true e = (good_some (Const 0) tt, (good_some (Const 1) tt, (good_some (Const 2) tt, (good_some (Const 65535) tt, tt))))
    by false false false e = (good_some (Reg r) tt, (good_some (Indexed r x) tt, (good_some (Indirect r) tt, (good_some (Increment r) (not_two e), tt))))

source_good : (mode r x : ℕ) → Good (source_of mode r x)
source_good mode r x = good_nth mode (source_row r x) (row_good r x)

fine_if : (c : Bool) (a b : Option Insn) → Fine a → Fine b → Fine (cond c a b)
fine_if true a b h k = h
fine_if false a b h k = k

fine_none : Fine None
fine_none i e = absurd cc

fine_some : (o : Insn) → RegularInsn o → Fine (Some o)
fine_some o h i e = let f : o ≡ i = cc in subst RegularInsn f h

two_fine : (op : Option TwoOp) (w0 w1 w2 : ℕ) → Fine (two_of op w0 w1 w2)
two_fine None w0 w1 w2 = fine_none
two_fine (Some op) w0 w1 w2 = by (source_of ((w0 / 16) % 4) ((w0 / 256) % 16) w1) (source_good ((w0 / 16) % 4) ((w0 / 256) % 16) w1) (λ s. dest_of ((w0 / 128) % 2) (w0 % 16) (cond (words_of s == 1) w2 w1))
  where
    and_dest : (s : Operand) → Regular s → (d : Option Operand) → Fine (option_and_then (λ d. Some (Two op (width_of ((w0 / 64) % 2)) s d)) d)
    and_dest s h None = fine_none
    and_dest s h (Some d) = fine_some (Two op (width_of ((w0 / 64) % 2)) s d) h

    by : (o : Option Operand) → Good o → (dest : Operand → Option Operand) → Fine (option_and_then (λ s. option_and_then (λ d. Some (Two op (width_of ((w0 / 64) % 2)) s d)) (dest s)) o)
    by None h dest = fine_none
    by (Some s) h dest = and_dest s (h s refl) (dest s)

-- each instruction of format II takes cycles
one_cycles_some : (op : OneOp) (w : Width) (a : Operand) → 0 < cycles_of (One op w a)
unfolding cycles_of
one_cycles_some op w a = one_least a op

pub two_cycles_some : (op : TwoOp) (w : Width) (s d : Operand) → 0 < cycles_of (Two op w s d)
unfolding cycles_of
two_cycles_some op w s d = two_least s d

one_fine : (op : Option OneOp) (w0 w1 : ℕ) → Fine (one_of op w0 w1)
one_fine None w0 w1 = fine_none
one_fine (Some op) w0 w1 = by (source_of ((w0 / 16) % 4) (w0 % 16) w1) (source_good ((w0 / 16) % 4) (w0 % 16) w1)
  where
    by : (o : Option Operand) → Good o → Fine (option_and_then (λ a. cond (one_fits op (width_of ((w0 / 64) % 2)) a) (Some (One op (width_of ((w0 / 64) % 2)) a)) None) o)
    by None h = fine_none
    by (Some a) h = fits (one_fits op (width_of ((w0 / 64) % 2)) a) refl
      where
        fits : (b : Bool) → one_fits op (width_of ((w0 / 64) % 2)) a ≡ b → Fine (cond b (Some (One op (width_of ((w0 / 64) % 2)) a)) None)
        fits true e = fine_some (One op (width_of ((w0 / 64) % 2)) a) (h a refl, one_cycles_some op (width_of ((w0 / 64) % 2)) a)
        fits false e = fine_none

jump_fine : (condition : Option Condition) (w0 : ℕ) → Fine (jump_of condition w0)
jump_fine None w0 = fine_none
jump_fine (Some condition) w0 = fine_some (Jump condition (offset_of (w0 % 1024))) tt

unit_fine : (name : Option UnitName) → Fine (option_map UnitOp name)
unit_fine None = fine_none
unit_fine (Some name) = fine_some (UnitOp name) tt

pub insn_fine : (w0 w1 w2 : ℕ) → Fine (insn_of w0 w1 w2)
unfolding insn_of
insn_fine w0 w1 w2 =
    fine_if (nat_lt 16383 w0) _ _ (two_fine (slice_get two_ops (w0 / 4096 - 4)) w0 w1 w2)
    (fine_if (w0 / 8192 == 1) _ _ (jump_fine (slice_get conditions ((w0 / 1024) % 8)) w0)
    (fine_if (w0 == 4864) _ _ (fine_some Reti tt)
    (fine_if (nat_lt 4991 w0 && nat_lt w0 4999) _ _ (unit_fine (slice_get unit_ops (w0 - 4992)))
    (fine_if (w0 / 1024 == 4) _ _ (one_fine (slice_get one_ops ((w0 / 128) % 8)) w0 w1) fine_none))))

pub met_regular : (m : Module) (text : List ℕ) (pc : ℕ) (insn : Insn) → met m.text text pc ≡ Some insn → RegularInsn insn
unfolding met
met_regular m text pc insn e = by (insn_of (word_at (text_byte m.text text) pc) 0 0) e
  where
    whole_by : (b : Bool) (o : Option Insn) → Fine o → cond b o None ≡ Some insn → RegularInsn insn
    whole_by true o h e = h insn e
    whole_by false o h e = absurd cc

    by : (f : Option Insn) → insn_from f (text_byte m.text text) m.text pc ≡ Some insn → RegularInsn insn
    by None e = absurd cc
    by (Some first) e =
        whole_by (word_in m.text pc (length_of first) 1 && word_in m.text pc (length_of first) 2) (insn_at (text_byte m.text text) pc (length_of first))
        (insn_fine _ _ _) e
