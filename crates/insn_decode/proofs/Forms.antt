-- Which part of the code table a first word belongs to.
use Rattle.std.proofs.Common.{◌≡◌, ◌≢◌, ℕ, ◌-◌, ◌/◌, ◌<◌, ◌%◌, refl, ap, sym, arith, Option, Some, None}
use Rattle.std.proofs.lemmas.Bool.Decides.{nat_tests}
use Rattle.std.specs.Prelude.{slice_get, option_map}
use Rattle.insn_decode.specs.declared.insn.UnitName.{UnitName}
use Rattle.insn_decode.specs.declared.insn.Insn.{Insn}
use Rattle.insn_decode.specs.declared.insn.Insn.TheVariants.{Reti, Unit as UnitOp}
use Rattle.insn_decode.specs.Code.{insn_of, two_of, one_of, jump_of, two_ops, one_ops, conditions, unit_ops}

pub form_two : (w0 w1 w2 : ℕ) → 16383 < w0 → insn_of w0 w1 w2 ≡ two_of (slice_get two_ops (w0 / 4096 - 4)) w0 w1 w2
unfolding insn_of
form_two w0 w1 w2 h = grind (arith, nat_tests)

pub form_jump : (w0 w1 w2 : ℕ) → 8191 < w0 → w0 < 16384 → insn_of w0 w1 w2 ≡ jump_of (slice_get conditions ((w0 / 1024) % 8)) w0
unfolding insn_of
form_jump w0 w1 w2 h k = grind (arith, nat_tests)

pub form_return : (w1 w2 : ℕ) → insn_of 4864 w1 w2 ≡ Some Reti
unfolding insn_of
form_return w1 w2 = refl

pub form_unit : (w0 w1 w2 : ℕ) → 4991 < w0 → w0 < 4999 → insn_of w0 w1 w2 ≡ option_map UnitOp (slice_get unit_ops (w0 - 4992))
unfolding insn_of
form_unit w0 w1 w2 h k = grind (arith, nat_tests)

pub form_one : (w0 w1 w2 : ℕ) → 4095 < w0 → w0 < 5120 → w0 ≢ 4864 → (4991 < w0 → 4998 < w0) → insn_of w0 w1 w2 ≡ one_of (slice_get one_ops ((w0 / 128) % 8)) w0 w1
unfolding insn_of
form_one w0 w1 w2 h k n u = grind (arith, nat_tests)

pub form_below : (w0 w1 w2 : ℕ) → w0 < 4096 → insn_of w0 w1 w2 ≡ None
unfolding insn_of
form_below w0 w1 w2 h = grind (arith, nat_tests)

pub form_between : (w0 w1 w2 : ℕ) → 5119 < w0 → w0 < 8192 → insn_of w0 w1 w2 ≡ None
unfolding insn_of
form_between w0 w1 w2 h k = grind (arith, nat_tests)

-- a unit instruction of the table
pub unit_is : (o : Option UnitName) (name : UnitName) → o ≡ Some name → ◌≡◌ {A = Option Insn} (Some (UnitOp name)) (option_map UnitOp o)
unit_is o name e = ap (option_map UnitOp) (sym e)

pub ruleset forms = (form_two, form_jump, form_return, form_unit, form_one, form_below, form_between)
