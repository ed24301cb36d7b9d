-- The code table as a function and as a relation are one.
use Rattle.std.proofs.Common.{◌≡◌, ◌≢◌, ⊎_elim, ℕ, ◌+◌, ◌-◌, ◌/◌, ◌<◌, ◌≤◌, ◌%◌, refl, sym, ap, ◌∙◌, subst, arith, Bool, true, false, cond, ◌==◌, Option, Some, None}
use Rattle.std.proofs.lemmas.Bool.{cases_eq, cases_lt}
use Rattle.std.specs.Prelude.{slice_get, option_and_then, option_map}
use Rattle.std.proofs.lemmas.Option.{same_Some}
use Rattle.insn_decode.specs.declared.insn.TwoOp.{TwoOp}
use Rattle.insn_decode.specs.declared.insn.TwoOp.TheVariants.{Mov}
use Rattle.insn_decode.specs.declared.insn.OneOp.{OneOp}
use Rattle.insn_decode.specs.declared.insn.OneOp.TheVariants.{Rrc}
use Rattle.insn_decode.specs.declared.insn.Condition.{Condition}
use Rattle.insn_decode.specs.declared.insn.Condition.TheVariants.{NotZero}
use Rattle.insn_decode.specs.declared.insn.UnitName.{UnitName}
use Rattle.insn_decode.specs.declared.insn.UnitName.TheVariants.{Unprotect}
use Rattle.insn_decode.specs.declared.insn.Operand.{Operand}
use Rattle.insn_decode.specs.declared.insn.Insn.{Insn}
use Rattle.insn_decode.specs.declared.insn.Insn.TheVariants.{Two, One, Jump, Reti, Unit as UnitOp}
use Rattle.insn_decode.specs.Code.{insn_of, two_of, one_of, jump_of, one_fits, two_ops, one_ops, conditions, unit_ops, offset_of, source_of, dest_of, width_of, words_of, length_of}
use Rattle.insn_decode.specs.Means.{two_code, one_code, condition_code, unit_code, Source, Means, format_one, format_two, jump, return, unit}
use Rattle.insn_decode.proofs.Forms.{form_two, form_jump, form_return, form_unit, form_one, form_below, form_between}
use Rattle.insn_decode.proofs.Rows.{apart, source_found, source_read, destination_found, destination_read, two_found, two_read, one_found, one_read, condition_found, condition_read, unit_found, unit_read}

-- ---- what the function gives stands in the relation

two_means : (w0 w1 w2 : ℕ) (insn : Insn) → 16383 < w0 → two_of (slice_get two_ops (w0 / 4096 - 4)) w0 w1 w2 ≡ Some insn → Means w0 w1 w2 insn (length_of insn)
two_means w0 w1 w2 insn h = with_op (slice_get two_ops (w0 / 4096 - 4)) refl
  where
    with_dest : (op : TwoOp) → w0 / 4096 ≡ two_code op → (s : Operand) → Source ((w0 / 16) % 4) ((w0 / 256) % 16) w1 s → (d : Option Operand) → dest_of ((w0 / 128) % 2) (w0 % 16) (cond (words_of s == 1) w2 w1) ≡ d → option_and_then (λ d. Some (Two op (width_of ((w0 / 64) % 2)) s d)) d ≡ Some insn → Means w0 w1 w2 insn (length_of insn)
    with_dest op c s src None q e = absurd cc
    with_dest op c s src (Some d) q e =
        subst (λ (i : Insn). Means w0 w1 w2 i (length_of i)) (same_Some (Two op (width_of ((w0 / 64) % 2)) s d) insn e)
        (format_one op s d c src (destination_read ((w0 / 128) % 2) (w0 % 16) (cond (words_of s == 1) w2 w1) d (omega arith) q))

    with_source : (op : TwoOp) → w0 / 4096 ≡ two_code op → (s : Option Operand) → source_of ((w0 / 16) % 4) ((w0 / 256) % 16) w1 ≡ s → option_and_then (λ s. option_and_then (λ d. Some (Two op (width_of ((w0 / 64) % 2)) s d)) (dest_of ((w0 / 128) % 2) (w0 % 16) (cond (words_of s == 1) w2 w1))) s ≡ Some insn → Means w0 w1 w2 insn (length_of insn)
    with_source op c None q e = absurd cc
    with_source op c (Some s) q e = with_dest op c s (source_read ((w0 / 16) % 4) ((w0 / 256) % 16) w1 s q) (dest_of ((w0 / 128) % 2) (w0 % 16) (cond (words_of s == 1) w2 w1)) refl e

    with_op : (o : Option TwoOp) → slice_get two_ops (w0 / 4096 - 4) ≡ o → two_of o w0 w1 w2 ≡ Some insn → Means w0 w1 w2 insn (length_of insn)
    with_op None q e = absurd cc
    with_op (Some op) q e =
        let c : w0 / 4096 - 4 + 4 ≡ two_code op = two_read (w0 / 4096 - 4) op q in
        with_source op (omega arith) (source_of ((w0 / 16) % 4) ((w0 / 256) % 16) w1) refl e

one_means : (w0 w1 w2 : ℕ) (insn : Insn) → w0 / 1024 ≡ 4 → one_of (slice_get one_ops ((w0 / 128) % 8)) w0 w1 ≡ Some insn → Means w0 w1 w2 insn (length_of insn)
one_means w0 w1 w2 insn h = with_op (slice_get one_ops ((w0 / 128) % 8)) refl
  where
    where_fits : (op : OneOp) → (w0 / 128) % 8 ≡ one_code op → (a : Operand) → Source ((w0 / 16) % 4) (w0 % 16) w1 a → (b : Bool) → one_fits op (width_of ((w0 / 64) % 2)) a ≡ b → cond b (Some (One op (width_of ((w0 / 64) % 2)) a)) None ≡ Some insn → Means w0 w1 w2 insn (length_of insn)
    where_fits op c a src false q e = absurd cc
    where_fits op c a src true q e =
        subst (λ (i : Insn). Means w0 w1 w2 i (length_of i)) (same_Some (One op (width_of ((w0 / 64) % 2)) a) insn e)
        (format_two op a h c src q)

    with_source : (op : OneOp) → (w0 / 128) % 8 ≡ one_code op → (s : Option Operand) → source_of ((w0 / 16) % 4) (w0 % 16) w1 ≡ s → option_and_then (λ a. cond (one_fits op (width_of ((w0 / 64) % 2)) a) (Some (One op (width_of ((w0 / 64) % 2)) a)) None) s ≡ Some insn → Means w0 w1 w2 insn (length_of insn)
    with_source op c None q e = absurd cc
    with_source op c (Some a) q e = where_fits op c a (source_read ((w0 / 16) % 4) (w0 % 16) w1 a q) (one_fits op (width_of ((w0 / 64) % 2)) a) refl e

    with_op : (o : Option OneOp) → slice_get one_ops ((w0 / 128) % 8) ≡ o → one_of o w0 w1 ≡ Some insn → Means w0 w1 w2 insn (length_of insn)
    with_op None q e = absurd cc
    with_op (Some op) q e = with_source op (one_read ((w0 / 128) % 8) op q) (source_of ((w0 / 16) % 4) (w0 % 16) w1) refl e

jump_means : (w0 w1 w2 : ℕ) (insn : Insn) → w0 / 8192 ≡ 1 → (o : Option Condition) → slice_get conditions ((w0 / 1024) % 8) ≡ o → jump_of o w0 ≡ Some insn → Means w0 w1 w2 insn (length_of insn)
jump_means w0 w1 w2 insn h None q e = absurd cc
jump_means w0 w1 w2 insn h (Some c) q e =
    subst (λ (i : Insn). Means w0 w1 w2 i (length_of i)) (same_Some (Jump c (offset_of (w0 % 1024))) insn e) (jump c h (condition_read ((w0 / 1024) % 8) c q))

unit_means : (w0 w1 w2 : ℕ) (insn : Insn) → 4991 < w0 → (o : Option UnitName) → slice_get unit_ops (w0 - 4992) ≡ o → option_map UnitOp o ≡ Some insn → Means w0 w1 w2 insn (length_of insn)
unit_means w0 w1 w2 insn h None q e = absurd cc
unit_means w0 w1 w2 insn h (Some name) q e =
    let c : w0 - 4992 ≡ unit_code name = unit_read (w0 - 4992) name q in
    subst (λ (i : Insn). Means w0 w1 w2 i (length_of i)) (same_Some (UnitOp name) insn e) (unit name (omega arith))

pub insn_means : (w0 w1 w2 : ℕ) (insn : Insn) → insn_of w0 w1 w2 ≡ Some insn → Means w0 w1 w2 insn (length_of insn)
insn_means w0 w1 w2 insn e =
    ⊎_elim (λ (h : w0 < 4096). apart (insn_of w0 w1 w2) insn (form_below w0 w1 w2 h) e)
    (λ (a : 4096 ≤ w0). ⊎_elim (λ (h : w0 < 5120). low a h)
    (λ (b : 5120 ≤ w0). ⊎_elim (λ (h : w0 < 8192). apart (insn_of w0 w1 w2) insn (form_between w0 w1 w2 (omega arith) h) e)
    (λ (c : 8192 ≤ w0). ⊎_elim (λ (h : w0 < 16384).
    jump_means w0 w1 w2 insn (omega arith) (slice_get conditions ((w0 / 1024) % 8)) refl (sym (form_jump w0 w1 w2 (omega arith) h) ∙ e))
    (λ (h : 16384 ≤ w0). two_means w0 w1 w2 insn (omega arith) (sym (form_two w0 w1 w2 (omega arith)) ∙ e))
    (cases_lt w0 16384)) (cases_lt w0 8192)) (cases_lt w0 5120)) (cases_lt w0 4096)
  where
    above : 4096 ≤ w0 → w0 < 5120 → w0 ≢ 4864 → 4991 < w0 → Means w0 w1 w2 insn (length_of insn)
    above a h n u =
        ⊎_elim (λ (k : w0 < 4999).
        unit_means w0 w1 w2 insn u (slice_get unit_ops (w0 - 4992)) refl (sym (form_unit w0 w1 w2 u k) ∙ e))
        (λ (k : 4999 ≤ w0). one_means w0 w1 w2 insn (omega arith) (sym (form_one w0 w1 w2 (omega arith) h n (λ _. omega arith)) ∙ e))
        (cases_lt w0 4999)

    low : 4096 ≤ w0 → w0 < 5120 → Means w0 w1 w2 insn (length_of insn)
    low a h =
        ⊎_elim (λ (k : w0 ≡ 4864).
        subst (λ (i : Insn). Means w0 w1 w2 i (length_of i)) (same_Some Reti insn (sym (form_return w1 w2) ∙ subst (λ (w : ℕ). insn_of w w1 w2 ≡ Some insn) k e)) (return k))
        (λ (n : w0 ≢ 4864).
        ⊎_elim (λ (u : w0 < 4992). one_means w0 w1 w2 insn (omega arith) (sym (form_one w0 w1 w2 (omega arith) h n (λ v. absurd (omega arith))) ∙ e))
        (λ (u : 4992 ≤ w0). above a h n (omega arith))
        (cases_lt w0 4992))
        (cases_eq w0 4864)

-- ---- what stands in the relation is what the function gives

two_code_least : (op : TwoOp) → 4 ≤ two_code op
two_code_least Mov = omega arith
two_code_least _ = omega arith

one_code_most : (op : OneOp) → one_code op < 6
one_code_most Rrc = omega arith
one_code_most _ = omega arith

pub condition_code_most : (c : Condition) → condition_code c < 8
condition_code_most NotZero = omega arith
condition_code_most _ = omega arith

unit_code_most : (name : UnitName) → unit_code name < 7
unit_code_most Unprotect = omega arith
unit_code_most _ = omega arith

pub means_insn : {w0 w1 w2 : ℕ} {insn : Insn} {n : ℕ} → Means w0 w1 w2 insn n → (insn_of w0 w1 w2 ≡ Some insn) × (n ≡ length_of insn)
means_insn {w0} {w1} {w2} (format_one op s d c src dst) =
    let least : 4 ≤ two_code op = two_code_least op in (
      form_two w0 w1 w2 (omega arith)
          ∙ ap (λ (o : Option TwoOp). two_of o w0 w1 w2) (ap (λ (k : ℕ). slice_get two_ops (k - 4)) c ∙ two_found op)
          ∙ ap (λ (o : Option Operand). option_and_then (λ s. option_and_then (λ d. Some (Two op (width_of ((w0 / 64) % 2)) s d)) (dest_of ((w0 / 128) % 2) (w0 % 16) (cond (words_of s == 1) w2 w1))) o) (source_found src)
          ∙ ap (λ (o : Option Operand). option_and_then (λ d. Some (Two op (width_of ((w0 / 64) % 2)) s d)) o) (destination_found dst),
      refl,
    )
means_insn {w0} {w1} {w2} (format_two op a h c src fits) = (
  form_one w0 w1 w2 (omega arith) (omega arith) (not_return op c) (beyond op c)
      ∙ ap (λ (o : Option OneOp). one_of o w0 w1) (ap (slice_get one_ops) c ∙ one_found op)
      ∙ ap (λ (o : Option Operand). option_and_then (λ a. cond (one_fits op (width_of ((w0 / 64) % 2)) a) (Some (One op (width_of ((w0 / 64) % 2)) a)) None) o) (source_found src)
      ∙ ap (λ (b : Bool). cond b (Some (One op (width_of ((w0 / 64) % 2)) a)) None) fits,
  refl,
)
  where
    not_return : (op : OneOp) → (w0 / 128) % 8 ≡ one_code op → w0 ≢ 4864
    not_return op c e = let b : one_code op < 6 = one_code_most op in omega arith

    beyond : (op : OneOp) → (w0 / 128) % 8 ≡ one_code op → 4991 < w0 → 4998 < w0
    beyond op c e = let b : one_code op < 6 = one_code_most op in absurd (omega arith)
means_insn {w0} {w1} {w2} (jump condition h c) = (
  form_jump w0 w1 w2 (omega arith) (omega arith) ∙ ap (λ (o : Option Condition). jump_of o w0) (ap (slice_get conditions) c ∙ condition_found condition),
  refl,
)
means_insn {w0} {w1} {w2} (return h) = (subst (λ (w : ℕ). insn_of w w1 w2 ≡ Some Reti) (sym h) (form_return w1 w2), refl)
means_insn {w0} {w1} {w2} (unit name h) =
    let most : unit_code name < 7 = unit_code_most name in
    let number : w0 - 4992 ≡ unit_code name = omega arith in
    (form_unit w0 w1 w2 (omega arith) (omega arith) ∙ ap (λ (k : ℕ). option_map UnitOp (slice_get unit_ops k)) number ∙ ap (option_map UnitOp) (unit_found name), refl)
