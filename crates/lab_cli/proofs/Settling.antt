-- Terms that stand, one after another, and when the verdict under them is the last one.
use Rattle.std.proofs.Common.{◌≡◌, ℕ, zero, suc, ◌+◌, ◌-◌, ◌<◌, Bool, true, false, ◌&&◌, cond, nat_lt, MatchBool, List, [], ◌∷◌, ◌++◌, length, get_or, drop, filter, refl, sym, ap, ◌∙◌, subst, append_assoc, arith}
use Rattle.std.proofs.lemmas.Bool.Decides.{nat_tests}
use Rattle.std.proofs.lemmas.List.{drop_more}
use Rattle.std.specs.List.{list_any}
use Rattle.arm_balance.specs.declared.Arm.{Arm}
use Rattle.flow_rule.specs.declared.Verdict.{Verdict}
use Rattle.flow_rule.specs.Arms.{VerdictUnder}
use Rattle.mod_layout.specs.declared.Module.{Module}
use Rattle.terms_file.specs.declared.Term.{Term}
use Rattle.cli_calls.specs.Offers.{terms_by, names, standing_terms, IsOffered}

-- one more term, if it passes the test
one_kept : (b : Bool) (x : Term) (rest : List Term) → cond b (x ∷ []) [] ++ rest ≡ cond b (x ∷ rest) rest
one_kept true x rest = refl
one_kept false x rest = refl

pub kept_more : (test : Term → Bool) (xs : List Term) (i : ℕ) (d : Term) (old new whole : List Term) → i < length xs
    → old ++ filter test (drop i xs) ≡ whole → new ≡ old ++ cond (test (get_or xs i d)) (get_or xs i d ∷ []) []
    → new ++ filter test (drop (i + 1) xs) ≡ whole
kept_more test xs i d old new whole lt e made =
    let x = get_or xs i d in
    let rest = drop (i + 1) xs in
    ap (λ l. l ++ filter test rest) made ∙ append_assoc old (cond (test x) (x ∷ []) []) (filter test rest)
    ∙ ap (λ l. old ++ l) (one_kept (test x) x (filter test rest))
    ∙ ap (λ l. old ++ filter test l) (sym (drop_more xs i d lt)) ∙ e

zero_lt : (n : ℕ) → nat_lt 0 (suc n) ≡ true
zero_lt n = grind (arith, nat_tests)

not_past : (n : ℕ) (b c : Bool) → (nat_lt 0 (suc n) && b) ≡ c → b ≡ c
not_past n b c e = ap (λ t. t && b) (sym (zero_lt n)) ∙ e

module _ (owner : Module) (text : List ℕ) (arms : List Arm) (granted : List Term) where
  abbrev Offers : ℕ → List Verdict → List Term → Verdict → Type 0
  Offers left verdicts terms v = IsOffered owner text arms granted left verdicts terms v

  abbrev Under : List Term → Verdict → Type 0
  Under terms v = VerdictUnder (terms_by terms) owner text arms v

  -- where no verdict is left, or the verdict names no granted term
  pub ends_here : (left : ℕ) (verdicts : List Verdict) (terms : List Term) (v : Verdict)
      → terms ≡ standing_terms granted verdicts → Under terms v
      → (nat_lt 0 left && list_any (names v) granted) ≡ false → Offers left verdicts terms v
  ends_here zero verdicts terms v e u none = (e, u)
  ends_here (suc n) verdicts terms v e u none =
      let last = not_past n (list_any (names v) granted) false none in (
        v,
        subst (λ ts. Under ts v) e u,
        subst (λ b. MatchBool b (Offers n (verdicts ++ (v ∷ [])) terms v)
            ((terms ≡ standing_terms granted verdicts) × (v ≡ v))) (sym last) (e, refl),
      )

  -- where one is left, and names one: what comes of the verdicts with this one comes of those before it
  pub goes_past : (left : ℕ) (verdicts : List Verdict) (now : Verdict) (here terms : List Term) (v : Verdict)
      → here ≡ standing_terms granted verdicts → Under here now
      → (nat_lt 0 left && list_any (names now) granted) ≡ true → Offers (left - 1) (verdicts ++ (now ∷ [])) terms v
      → Offers left verdicts terms v
  goes_past zero verdicts now here terms v e u some h =
      let none : nat_lt 0 0 ≡ false = grind (arith, nat_tests) in
      absurd cc
  goes_past (suc n) verdicts now here terms v e u some h =
      let on = not_past n (list_any (names now) granted) true some in
      let rest : Offers n (verdicts ++ (now ∷ [])) terms v =
      subst (λ k. Offers k (verdicts ++ (now ∷ [])) terms v) (let less : suc n - 1 ≡ n = omega arith in less) h in (
        now,
        subst (λ ts. Under ts now) e u,
        subst (λ b. MatchBool b (Offers n (verdicts ++ (now ∷ [])) terms v)
            ((terms ≡ standing_terms granted verdicts) × (v ≡ now))) (sym on) rest,
      )
