-- The rows of the table's parts, both ways.
use Rattle.std.proofs.Common.{◌≡◌, ◌≢◌, ◌⊎◌, inl, inr, ⊎_elim, ℕ, zero, suc, ◌+◌, ◌-◌, ◌<◌, List, [], ◌∷◌, refl, sym, ap, ◌∙◌, subst, arith, Option, Some, None}
use Rattle.std.proofs.lemmas.Bool.{cases_eq}
use Rattle.std.proofs.lemmas.Bool.Decides.{nat_tests}
use Rattle.std.specs.Prelude.{slice_get}
use Rattle.std.proofs.lemmas.Option.{same_Some}
use Rattle.sm_words.specs.Words.{nth}
use Rattle.insn_decode.specs.declared.insn.TwoOp.{TwoOp}
use Rattle.insn_decode.specs.declared.insn.TwoOp.TheVariants.{Mov, Add, Addc, Subc, Sub, Cmp, Dadd, Bit, Bic, Bis, Xor, And}
use Rattle.insn_decode.specs.declared.insn.OneOp.{OneOp}
use Rattle.insn_decode.specs.declared.insn.OneOp.TheVariants.{Rrc, Swpb, Rra, Sxt, Push, Call}
use Rattle.insn_decode.specs.declared.insn.Condition.{Condition}
use Rattle.insn_decode.specs.declared.insn.Condition.TheVariants.{NotZero, Zero, NoCarry, Carry, Negative, GreaterOrEqual, Less, Always}
use Rattle.insn_decode.specs.declared.insn.UnitName.{UnitName}
use Rattle.insn_decode.specs.declared.insn.UnitName.TheVariants.{Unprotect, Protect, Attest, Tag, IdOf, OwnId, CallerId}
use Rattle.insn_decode.specs.declared.insn.Operand.{Operand}
use Rattle.insn_decode.specs.declared.insn.Operand.TheVariants.{Reg, Const, Imm, Indexed, Symbolic, Absolute, Indirect, Increment}
use Rattle.insn_decode.specs.Code.{source_row, source_of, dest_of, two_ops, one_ops, conditions, unit_ops}
use Rattle.insn_decode.specs.Means.{two_code, one_code, condition_code, unit_code, IsPlain, Source, register, symbolic, absolute, indexed, indirect, increment, immediate, four, eight, nought, one, two, all_ones, Destination, to_register, to_symbolic, to_absolute, to_indexed}

pub apart : {A : Type 0} {P : Type 0} (o : Option A) (x : A) → o ≡ None → o ≡ Some x → P
apart o x e f = cc

-- ---- sources

plain_row : (r x : ℕ) → IsPlain r → source_row r x ≡ (Some (Reg r) ∷ Some (Indexed r x) ∷ Some (Indirect r) ∷ Some (Increment r) ∷ [])
plain_row r x p = let a : r ≢ 0 = p.not_pc in let b : r ≢ 2 = p.not_sr in let c : r ≢ 3 = p.not_constants in grind (arith, nat_tests)

plain_at : (m r x : ℕ) → IsPlain r → source_of m r x ≡ nth m (Some (Reg r) ∷ Some (Indexed r x) ∷ Some (Indirect r) ∷ Some (Increment r) ∷ []) None
plain_at m r x p = ap (λ (row : List (Option Operand)). nth m row None) (plain_row r x p)

-- a register is one of the three with modes of their own, or plain
kind_of : (r : ℕ) → (r ≡ 0) ⊎ ((r ≡ 2) ⊎ ((r ≡ 3) ⊎ IsPlain r))
kind_of r =
    ⊎_elim (λ a. inl a)
    (λ a. inr (⊎_elim (λ b. inl b)
    (λ b. inr (⊎_elim (λ c. inl c) (λ c. inr (record { not_pc = a; not_sr = b; not_constants = c })) (cases_eq r 3)))
    (cases_eq r 2)))
    (cases_eq r 0)

pub source_found : {m r x : ℕ} {o : Operand} → Source m r x o → source_of m r x ≡ Some o
source_found (register r x ne) = found (kind_of r)
  where
    found : (r ≡ 0) ⊎ ((r ≡ 2) ⊎ ((r ≡ 3) ⊎ IsPlain r)) → source_of 0 r x ≡ Some (Reg r)
    found (inl e) = subst (λ (n : ℕ). source_of 0 n x ≡ Some (Reg n)) (sym e) refl
    found (inr (inl e)) = subst (λ (n : ℕ). source_of 0 n x ≡ Some (Reg n)) (sym e) refl
    found (inr (inr (inl e))) = absurd (ne e)
    found (inr (inr (inr p))) = plain_at 0 r x p
source_found (indexed r x p) = plain_at 1 r x p
source_found (indirect r x p) = plain_at 2 r x p
source_found (increment r x p) = plain_at 3 r x p
source_found _ = refl

pc_read : (m x : ℕ) (o : Operand) → source_of m 0 x ≡ Some o → Source m 0 x o
pc_read zero x o e = subst (λ (p : Operand). Source 0 0 x p) (same_Some (Reg 0) o e) (register 0 x (omega arith))
pc_read (suc zero) x o e = subst (λ (p : Operand). Source 1 0 x p) (same_Some (Symbolic x) o e) (symbolic x)
pc_read (suc (suc (suc zero))) x o e = subst (λ (p : Operand). Source 3 0 x p) (same_Some (Imm x) o e) (immediate x)
pc_read (suc (suc _)) x o e = absurd cc

sr_read : (m x : ℕ) (o : Operand) → source_of m 2 x ≡ Some o → Source m 2 x o
sr_read zero x o e = subst (λ (p : Operand). Source 0 2 x p) (same_Some (Reg 2) o e) (register 2 x (omega arith))
sr_read (suc zero) x o e = subst (λ (p : Operand). Source 1 2 x p) (same_Some (Absolute x) o e) (absolute x)
sr_read (suc (suc zero)) x o e = subst (λ (p : Operand). Source 2 2 x p) (same_Some (Const 4) o e) (four x)
sr_read (suc (suc (suc zero))) x o e = subst (λ (p : Operand). Source 3 2 x p) (same_Some (Const 8) o e) (eight x)
sr_read (suc (suc (suc (suc m)))) x o e = absurd cc

constant_read : (m x : ℕ) (o : Operand) → source_of m 3 x ≡ Some o → Source m 3 x o
constant_read zero x o e = subst (λ (p : Operand). Source 0 3 x p) (same_Some (Const 0) o e) (nought x)
constant_read (suc zero) x o e = subst (λ (p : Operand). Source 1 3 x p) (same_Some (Const 1) o e) (one x)
constant_read (suc (suc zero)) x o e = subst (λ (p : Operand). Source 2 3 x p) (same_Some (Const 2) o e) (two x)
constant_read (suc (suc (suc zero))) x o e = subst (λ (p : Operand). Source 3 3 x p) (same_Some (Const 65535) o e) (all_ones x)
constant_read (suc (suc (suc (suc m)))) x o e = absurd cc

plain_read : (m r x : ℕ) (o : Operand) → IsPlain r → nth m (Some (Reg r) ∷ Some (Indexed r x) ∷ Some (Indirect r) ∷ Some (Increment r) ∷ []) None ≡ Some o → Source m r x o
plain_read zero r x o p e = subst (λ (q : Operand). Source 0 r x q) (same_Some (Reg r) o e) (register r x p.not_constants)
plain_read (suc zero) r x o p e = subst (λ (q : Operand). Source 1 r x q) (same_Some (Indexed r x) o e) (indexed r x p)
plain_read (suc (suc zero)) r x o p e = subst (λ (q : Operand). Source 2 r x q) (same_Some (Indirect r) o e) (indirect r x p)
plain_read (suc (suc (suc zero))) r x o p e = subst (λ (q : Operand). Source 3 r x q) (same_Some (Increment r) o e) (increment r x p)
plain_read (suc (suc (suc (suc m)))) r x o p e = absurd cc

pub source_read : (m r x : ℕ) (o : Operand) → source_of m r x ≡ Some o → Source m r x o
source_read m r x o e = read (kind_of r)
  where
    read : (r ≡ 0) ⊎ ((r ≡ 2) ⊎ ((r ≡ 3) ⊎ IsPlain r)) → Source m r x o
    read (inl k) = subst (λ (n : ℕ). Source m n x o) (sym k) (pc_read m x o (subst (λ (n : ℕ). source_of m n x ≡ Some o) k e))
    read (inr (inl k)) = subst (λ (n : ℕ). Source m n x o) (sym k) (sr_read m x o (subst (λ (n : ℕ). source_of m n x ≡ Some o) k e))
    read (inr (inr (inl k))) = subst (λ (n : ℕ). Source m n x o) (sym k) (constant_read m x o (subst (λ (n : ℕ). source_of m n x ≡ Some o) k e))
    read (inr (inr (inr p))) = plain_read m r x o p (sym (plain_at m r x p) ∙ e)

-- ---- destinations, whose mode is 0 or 1

plain_place : (r x : ℕ) → IsPlain r → dest_of 1 r x ≡ Some (Indexed r x)
plain_place r x p = let a : r ≢ 0 = p.not_pc in let b : r ≢ 2 = p.not_sr in let c : r ≢ 3 = p.not_constants in grind (arith, nat_tests)

pub destination_found : {m r x : ℕ} {o : Operand} → Destination m r x o → dest_of m r x ≡ Some o
destination_found (to_indexed r x p) = plain_place r x p
destination_found _ = refl

pub destination_read : (m r x : ℕ) (o : Operand) → m < 2 → dest_of m r x ≡ Some o → Destination m r x o
destination_read zero r x o h e = subst (λ (p : Operand). Destination 0 r x p) (same_Some (Reg r) o e) (to_register r x)
destination_read (suc zero) r x o h e = read (kind_of r)
  where
    read : (r ≡ 0) ⊎ ((r ≡ 2) ⊎ ((r ≡ 3) ⊎ IsPlain r)) → Destination 1 r x o
    read (inl k) =
        let f : dest_of 1 0 x ≡ Some o = subst (λ (n : ℕ). dest_of 1 n x ≡ Some o) k e in
        subst (λ (n : ℕ). Destination 1 n x o) (sym k) (subst (λ (p : Operand). Destination 1 0 x p) (same_Some (Symbolic x) o f) (to_symbolic x))
    read (inr (inl k)) =
        let f : dest_of 1 2 x ≡ Some o = subst (λ (n : ℕ). dest_of 1 n x ≡ Some o) k e in
        subst (λ (n : ℕ). Destination 1 n x o) (sym k) (subst (λ (p : Operand). Destination 1 2 x p) (same_Some (Absolute x) o f) (to_absolute x))
    read (inr (inr (inl k))) =
        apart (dest_of 1 3 x) o refl (subst (λ (n : ℕ). dest_of 1 n x ≡ Some o) k e)
    read (inr (inr (inr p))) = subst (λ (q : Operand). Destination 1 r x q) (same_Some (Indexed r x) o (sym (plain_place r x p) ∙ e)) (to_indexed r x p)
destination_read (suc (suc m)) r x o h e = absurd (omega arith)

-- ---- opcodes

pub two_found : (op : TwoOp) → slice_get two_ops (two_code op - 4) ≡ Some op
two_found Mov = refl
two_found _ = refl

pub two_read : (k : ℕ) (op : TwoOp) → slice_get two_ops k ≡ Some op → k + 4 ≡ two_code op
two_read zero op e = ap two_code (same_Some Mov op e)
two_read (suc zero) op e = ap two_code (same_Some Add op e)
two_read (suc (suc zero)) op e = ap two_code (same_Some Addc op e)
two_read (suc (suc (suc zero))) op e = ap two_code (same_Some Subc op e)
two_read (suc (suc (suc (suc zero)))) op e = ap two_code (same_Some Sub op e)
two_read (suc (suc (suc (suc (suc zero))))) op e = ap two_code (same_Some Cmp op e)
two_read (suc (suc (suc (suc (suc (suc zero)))))) op e = ap two_code (same_Some Dadd op e)
two_read (suc (suc (suc (suc (suc (suc (suc zero))))))) op e = ap two_code (same_Some Bit op e)
two_read (suc (suc (suc (suc (suc (suc (suc (suc zero)))))))) op e = ap two_code (same_Some Bic op e)
two_read (suc (suc (suc (suc (suc (suc (suc (suc (suc zero))))))))) op e = ap two_code (same_Some Bis op e)
two_read (suc (suc (suc (suc (suc (suc (suc (suc (suc (suc zero)))))))))) op e = ap two_code (same_Some Xor op e)
two_read (suc (suc (suc (suc (suc (suc (suc (suc (suc (suc (suc zero))))))))))) op e = ap two_code (same_Some And op e)
two_read (suc (suc (suc (suc (suc (suc (suc (suc (suc (suc (suc (suc k)))))))))))) op e = absurd cc

pub one_found : (op : OneOp) → slice_get one_ops (one_code op) ≡ Some op
one_found Rrc = refl
one_found _ = refl

pub one_read : (k : ℕ) (op : OneOp) → slice_get one_ops k ≡ Some op → k ≡ one_code op
one_read zero op e = ap one_code (same_Some Rrc op e)
one_read (suc zero) op e = ap one_code (same_Some Swpb op e)
one_read (suc (suc zero)) op e = ap one_code (same_Some Rra op e)
one_read (suc (suc (suc zero))) op e = ap one_code (same_Some Sxt op e)
one_read (suc (suc (suc (suc zero)))) op e = ap one_code (same_Some Push op e)
one_read (suc (suc (suc (suc (suc zero))))) op e = ap one_code (same_Some Call op e)
one_read (suc (suc (suc (suc (suc (suc k)))))) op e = absurd cc

pub condition_found : (c : Condition) → slice_get conditions (condition_code c) ≡ Some c
condition_found NotZero = refl
condition_found _ = refl

pub condition_read : (k : ℕ) (c : Condition) → slice_get conditions k ≡ Some c → k ≡ condition_code c
condition_read zero c e = ap condition_code (same_Some NotZero c e)
condition_read (suc zero) c e = ap condition_code (same_Some Zero c e)
condition_read (suc (suc zero)) c e = ap condition_code (same_Some NoCarry c e)
condition_read (suc (suc (suc zero))) c e = ap condition_code (same_Some Carry c e)
condition_read (suc (suc (suc (suc zero)))) c e = ap condition_code (same_Some Negative c e)
condition_read (suc (suc (suc (suc (suc zero))))) c e = ap condition_code (same_Some GreaterOrEqual c e)
condition_read (suc (suc (suc (suc (suc (suc zero)))))) c e = ap condition_code (same_Some Less c e)
condition_read (suc (suc (suc (suc (suc (suc (suc zero))))))) c e = ap condition_code (same_Some Always c e)
condition_read (suc (suc (suc (suc (suc (suc (suc (suc k)))))))) c e = absurd cc

pub unit_found : (name : UnitName) → slice_get unit_ops (unit_code name) ≡ Some name
unit_found Unprotect = refl
unit_found _ = refl

pub unit_read : (k : ℕ) (name : UnitName) → slice_get unit_ops k ≡ Some name → k ≡ unit_code name
unit_read zero name e = ap unit_code (same_Some Unprotect name e)
unit_read (suc zero) name e = ap unit_code (same_Some Protect name e)
unit_read (suc (suc zero)) name e = ap unit_code (same_Some Attest name e)
unit_read (suc (suc (suc zero))) name e = ap unit_code (same_Some Tag name e)
unit_read (suc (suc (suc (suc zero)))) name e = ap unit_code (same_Some IdOf name e)
unit_read (suc (suc (suc (suc (suc zero))))) name e = ap unit_code (same_Some OwnId name e)
unit_read (suc (suc (suc (suc (suc (suc zero)))))) name e = ap unit_code (same_Some CallerId name e)
unit_read (suc (suc (suc (suc (suc (suc (suc k))))))) name e = absurd cc
