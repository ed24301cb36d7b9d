-- Writing a register keeps the rules of a core.
use Rattle.std.proofs.Common.{◌≡◌, ◌≢◌, ◌⊎◌, inl, inr, ⊎_elim, ℕ, ◌-◌, ◌<◌, ◌≤◌, ◌%◌, List, length, set, refl, sym, ap, ◌∙◌, subst, arith, Bool, true, false, cond, ◌==◌, length-set, get_or-set_same, get_or-set_other}
use Rattle.std.proofs.lemmas.Bool.{cases_lt}
use Rattle.std.proofs.lemmas.Bool.Decides.{nat_tests}
use Rattle.std.proofs.lemmas.List.{set_past}
use Rattle.sm_words.specs.Words.{reg, put, kept, IsCore}

-- a register after a write is as before, or it is the one written
put_at : (core : List ℕ) (n v k : ℕ) → (reg (put core n v) k ≡ reg core k) ⊎ ((k ≡ n) × (reg (put core n v) k ≡ kept n v))
put_at core n v k = by (k == n) refl
  where
    by : (c : Bool) → (k == n) ≡ c → (reg (put core n v) k ≡ reg core k) ⊎ ((k ≡ n) × (reg (put core n v) k ≡ kept n v))
    by false e = inl (let ne : k ≢ n = grind (arith, nat_tests) in get_or-set_other core n k (kept n v) 0 ne)
    by true e =
        let same : k ≡ n = grind (arith, nat_tests) in
        ⊎_elim
        (λ lt. inr (same, ap (λ i. reg (put core n v) i) same ∙ get_or-set_same core n (kept n v) 0 lt))
        (λ ge. inl (ap (λ l. reg l k) (set_past core n (kept n v) ge)))
        (cases_lt n (length core))

cond_small : (c : Bool) (x y n : ℕ) → x < n → y < n → cond c x y < n
cond_small true x y n p q = p
cond_small false x y n p q = q

kept_small : (n v : ℕ) → kept n v < 65536
kept_small n v =
    let w = v % 65536 in
    let s : w < 65536 = omega arith in
    cond_small _ (w - w % 2) (cond (n == 2) (w % 512) (cond (n == 3) 0 w)) 65536 (omega arith)
    (cond_small (n == 2) (w % 512) (cond (n == 3) 0 w) 65536 (omega arith) (cond_small (n == 3) 0 w 65536 (omega arith) s))

-- a write keeps the rules
pub put_core : (core : List ℕ) (n v : ℕ) → IsCore core → IsCore (put core n v)
put_core core n v c =
    record {
      sixteen = length-set core n (kept n v) ∙ c.sixteen;
      words = λ k. ⊎_elim (λ e. subst (λ x. x < 65536) (sym e) (c.words k)) (λ e. subst (λ x. x < 65536) (sym e.1) (kept_small n v)) (put_at core n v k);
      even_pc = ⊎_elim (λ e. ap (λ x. x % 2) e ∙ c.even_pc) (λ e. ap (λ x. x % 2) (e.1 ∙ ap (λ i. kept i v) (sym e.0)) ∙ even v) (put_at core n v 0);
      even_sp = ⊎_elim (λ e. ap (λ x. x % 2) e ∙ c.even_sp) (λ e. ap (λ x. x % 2) (e.1 ∙ ap (λ i. kept i v) (sym e.0)) ∙ even v) (put_at core n v 1);
      nine_bits = ⊎_elim (λ e. subst (λ x. x < 512) (sym e) c.nine_bits) (λ e. subst (λ x. x < 512) (sym (e.1 ∙ ap (λ i. kept i v) (sym e.0))) (bits v)) (put_at core n v 2);
      zero_three = ⊎_elim (λ e. e ∙ c.zero_three) (λ e. e.1 ∙ ap (λ i. kept i v) (sym e.0)) (put_at core n v 3);
    }
  where
    even : (v : ℕ) → (v % 65536 - v % 65536 % 2) % 2 ≡ 0
    even v = omega arith

    bits : (v : ℕ) → v % 65536 % 512 < 512
    bits v = omega arith

-- the same of the word that is stored
pub set_core : (core : List ℕ) (n v k : ℕ) → k ≡ kept n v → IsCore core → IsCore (set core n k)
set_core core n v k e c = subst (λ x. IsCore (set core n x)) (sym e) (put_core core n v c)

-- past the sixteenth there is nothing to write
pub put_past : (core : List ℕ) (n v : ℕ) → IsCore core → 16 ≤ n → put core n v ≡ core
put_past core n v c h = set_past core n (kept n v) (omega arith)
