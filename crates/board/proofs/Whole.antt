-- An instruction that is decoded at once, from its first word and the two words behind it.
use Rattle.std.proofs.Common.{◌≡◌, ℕ, ◌+◌, ◌*◌, ◌≤◌, ◌<◌, refl, sym, ap, subst, ◌∙◌, arith, Bool, true, Option, Some, None, zero, suc}
use Rattle.std.proofs.lemmas.Bool.Decides.{nat_tests}
use Rattle.std.proofs.lemmas.Bool.{and_parts}
use Rattle.sm_words.specs.Words.{word_at, add16}
use Rattle.insn_decode.specs.Code.{insn_of, length_of, length_at}
use Rattle.insn_decode.specs.declared.insn.Insn.{Insn}
use Rattle.insn_decode.proofs.Unread.{length_same, unread_both, unread_last, none_outside, outside_none, length_range}
use Rattle.pc_access.specs.declared.Rule.TheVariants.{Illegal}
use Rattle.cpu_step.specs.Fetched.{insn_at}
use Rattle.written_machine.specs.State.{State}
use Rattle.mod_layout.specs.Table.{Table}
use Rattle.written_machine.specs.Cycle.{pc_of, byte_of, home_word, is_home, stopped, act_on, act_first, act_home, act}

-- no instruction by any later words
pub act_none : (s : State) (v1 v2 : ℕ) → insn_of (word_at (byte_of s) (pc_of s)) v1 v2 ≡ None → act s ≡ stopped Illegal (pc_of s) 0 s
unfolding act
act_none s v1 v2 e =
    let w0 : ℕ = word_at (byte_of s) (pc_of s) in
    ap (λ (o : Option Insn). act_first o s) (outside_none w0 0 0 (none_outside w0 v1 v2 e))

-- its length is that by any later words
pub act_some : (s : State) (v1 v2 : ℕ) (insn : Insn) → insn_of (word_at (byte_of s) (pc_of s)) v1 v2 ≡ Some insn → act s ≡ act_home (is_home s.table s.active (pc_of s) (length_of insn)) (length_of insn) s
unfolding act
act_some s v1 v2 insn e = by (insn_of w0 0 0) refl
  where
    w0 : ℕ
    w0 = word_at (byte_of s) (pc_of s)

    by : (o : Option Insn) → insn_of w0 0 0 ≡ o → act_first (insn_of w0 0 0) s ≡ act_home (is_home s.table s.active (pc_of s) (length_of insn)) (length_of insn) s
    by None q = let f : insn_of w0 v1 v2 ≡ None = outside_none w0 v1 v2 (none_outside w0 0 0 q) in absurd cc
    by (Some first) q =
        let l : length_of first ≡ length_of insn = length_same w0 0 0 first q ∙ sym (length_same w0 v1 v2 insn e) in
        ap (λ (o : Option Insn). act_first o s) q ∙ ap (λ (n : ℕ). act_home (is_home s.table s.active (pc_of s) n) n s) l

-- it is the instruction of its own words, where those behind the first are they
pub whole : (byte : ℕ → ℕ) (pc v1 v2 : ℕ) (insn : Insn) → insn_of (word_at byte pc) v1 v2 ≡ Some insn → (1 < length_of insn → v1 ≡ word_at byte (pc + 2)) → (2 < length_of insn → v2 ≡ word_at byte (pc + 4)) → insn_at byte pc (length_of insn) ≡ Some insn
whole byte pc v1 v2 insn e one two = by (length_of insn) refl
  where
    w0 : ℕ
    w0 = word_at byte pc

    l : length_of insn ≡ length_at w0
    l = length_same w0 v1 v2 insn e

    by : (n : ℕ) → length_of insn ≡ n → insn_at byte pc n ≡ Some insn
    by zero q = let r : 1 ≤ length_at w0 = (length_range w0).0 in absurd (let z : length_at w0 ≡ 0 = sym l ∙ q in omega arith)
    by (suc zero) q = unread_both w0 v1 v2 0 0 (let z : length_at w0 ≡ 1 = sym l ∙ q in omega arith) ∙ e
    by (suc (suc zero)) q =
        ap (λ (v : ℕ). insn_of w0 v 0) (sym (one (subst (λ (n : ℕ). 1 < n) (sym q) (omega arith))))
        ∙ unread_last w0 v1 v2 0 (let z : length_at w0 ≡ 2 = sym l ∙ q in omega arith) ∙ e
    by (suc (suc (suc n))) q =
        let r : length_at w0 ≤ 3 = (length_range w0).1 in
        let z : length_at w0 ≡ suc (suc (suc n)) = sym l ∙ q in
        let k : n ≡ 0 = omega arith in
        subst (λ (m : ℕ). insn_at byte pc (suc (suc (suc m))) ≡ Some insn) (sym k)
        (ap (λ (v : ℕ). insn_of w0 v (word_at byte (pc + 4))) (sym (one (subst (λ (n : ℕ). 1 < n) (sym q) (omega arith))))
        ∙ ap (λ (v : ℕ). insn_of w0 v1 v) (sym (two (subst (λ (n : ℕ). 2 < n) (sym q) (omega arith)))) ∙ e)

-- a later word that is at home lies below 0x10000
near : (t : Table) (active : Option ℕ) (pc n k : ℕ) → k < n → home_word t active pc n k ≡ true → pc + 2 * k < 65536
near t active pc n k l h = grind (arith, nat_tests)

-- where all its words are at home, it is the instruction at PC
pub home_whole : (s : State) (insn : Insn) → insn_of (word_at (byte_of s) (pc_of s)) (word_at (byte_of s) (add16 (pc_of s) 2)) (word_at (byte_of s) (add16 (pc_of s) 4)) ≡ Some insn → is_home s.table s.active (pc_of s) (length_of insn) ≡ true → insn_at (byte_of s) (pc_of s) (length_of insn) ≡ Some insn
home_whole s insn e h =
    let n : ℕ = length_of insn in
    let one : 1 < n → word_at (byte_of s) (add16 (pc_of s) 2) ≡ word_at (byte_of s) (pc_of s + 2) =
    λ l. let k : pc_of s + 2 * 1 < 65536 = near s.table s.active (pc_of s) n 1 l (and_parts (home_word s.table s.active (pc_of s) n 1) (home_word s.table s.active (pc_of s) n 2) h).0 in
    ap (λ (a : ℕ). word_at (byte_of s) a) (let m : add16 (pc_of s) 2 ≡ pc_of s + 2 = omega arith in m)
    in
    let two : 2 < n → word_at (byte_of s) (add16 (pc_of s) 4) ≡ word_at (byte_of s) (pc_of s + 4) =
    λ l. let k : pc_of s + 2 * 2 < 65536 = near s.table s.active (pc_of s) n 2 l (and_parts (home_word s.table s.active (pc_of s) n 1) (home_word s.table s.active (pc_of s) n 2) h).1 in
    ap (λ (a : ℕ). word_at (byte_of s) a) (let m : add16 (pc_of s) 4 ≡ pc_of s + 4 = omega arith in m)
    in
    whole (byte_of s) (pc_of s) (word_at (byte_of s) (add16 (pc_of s) 2)) (word_at (byte_of s) (add16 (pc_of s) 4)) insn e one two

-- and it is done
pub home_done : (s : State) (insn : Insn) → insn_of (word_at (byte_of s) (pc_of s)) (word_at (byte_of s) (add16 (pc_of s) 2)) (word_at (byte_of s) (add16 (pc_of s) 4)) ≡ Some insn → is_home s.table s.active (pc_of s) (length_of insn) ≡ true → act_home (is_home s.table s.active (pc_of s) (length_of insn)) (length_of insn) s ≡ act_on (Some insn) s
home_done s insn e h = ap (λ (b : Bool). act_home b (length_of insn) s) h ∙ ap (λ (o : Option Insn). act_on o s) (home_whole s insn e h)
