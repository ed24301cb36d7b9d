-- Of granted terms one thing is offered, and what is offered are granted terms with their verdict.
use Rattle.std.proofs.Common.{◌≡◌, ℕ, zero, suc, Bool, true, false, MatchBool, List, [], ◌∷◌, ◌++◌, refl, sym, ◌∙◌, subst}
use Rattle.std.specs.List.{list_any}
use Rattle.arm_balance.specs.declared.Arm.{Arm}
use Rattle.flow_rule.specs.Values.{blurred_flags}
use Rattle.flow_rule.specs.declared.Verdict.{Verdict}
use Rattle.flow_rule.specs.Arms.{VerdictUnder, flow_under}
use Rattle.flow_rule.specs.Terms.{Terms}
use Rattle.flow_rule.specs.Verdict.{start_under}
use Rattle.flow_rule.proofs.Ends.{some_verdict}
use Rattle.flow_rule.proofs.OneVerdict.{one_verdict}
use Rattle.mod_layout.specs.declared.Module.{Module}
use Rattle.terms_file.specs.declared.Term.{Term}
use Rattle.cli_calls.specs.Offers.{terms_by, names, standing_terms, IsOffered}

module _ (owner : Module) (text : List ℕ) (arms : List Arm) (granted : List Term) where
  one_under : (terms : Terms) (v w : Verdict) → VerdictUnder terms owner text arms v
      → VerdictUnder terms owner text arms w → v ≡ w
  one_under terms v w r s = one_verdict (flow_under blurred_flags terms owner text arms) (start_under terms owner text)
      owner.text.start v w r s

  some_under : (terms : Terms) → (v : Verdict) × VerdictUnder terms owner text arms v
  some_under terms = some_verdict (flow_under blurred_flags terms owner text arms) (start_under terms owner text) owner.text.start

  -- where the verdict names a granted term, or none
  abbrev Then : ℕ → List Verdict → Verdict → Bool → List Term → Verdict → Type 0
  Then n verdicts now b terms v = MatchBool b (IsOffered owner text arms granted n (verdicts ++ (now ∷ [])) terms v)
      ((terms ≡ standing_terms granted verdicts) × (v ≡ now))

  one_of : (b : Bool) (n : ℕ) (verdicts : List Verdict) (now : Verdict) (xs ys : List Term) (v w : Verdict)
      → (IsOffered owner text arms granted n (verdicts ++ (now ∷ [])) xs v
      → IsOffered owner text arms granted n (verdicts ++ (now ∷ [])) ys w → (xs ≡ ys) × (v ≡ w))
      → Then n verdicts now b xs v → Then n verdicts now b ys w → (xs ≡ ys) × (v ≡ w)
  one_of true n verdicts now xs ys v w more g h = more g h
  one_of false n verdicts now xs ys v w more g h = (g.0 ∙ sym h.0, g.1 ∙ sym h.1)

  -- one thing is offered
  pub one_offer : (n : ℕ) (verdicts : List Verdict) (xs ys : List Term) (v w : Verdict)
      → IsOffered owner text arms granted n verdicts xs v → IsOffered owner text arms granted n verdicts ys w
      → (xs ≡ ys) × (v ≡ w)
  one_offer zero verdicts xs ys v w r s =
      let same : ys ≡ xs = s.0 ∙ sym r.0 in
      (sym same, one_under (terms_by xs) v w r.1 (subst (λ ts. VerdictUnder (terms_by ts) owner text arms w) same s.1))
  one_offer (suc n) verdicts xs ys v w r s =
      let same : s.0 ≡ r.0 = one_under (terms_by (standing_terms granted verdicts)) s.0 r.0 s.1 r.1 in
      one_of (list_any (names r.0) granted) n verdicts r.0 xs ys v w (one_offer n (verdicts ++ (r.0 ∷ [])) xs ys v w)
      r.2 (subst (λ now. Then n verdicts now (list_any (names now) granted) ys w) same s.2)

  abbrev Offered : ℕ → List Verdict → Type 0
  Offered n verdicts = (terms : List Term) × (v : Verdict) × IsOffered owner text arms granted n verdicts terms v

  some_of : (n : ℕ) (verdicts : List Verdict) (now : Verdict)
      → VerdictUnder (terms_by (standing_terms granted verdicts)) owner text arms now → Offered n (verdicts ++ (now ∷ []))
      → (b : Bool) → list_any (names now) granted ≡ b → Offered (suc n) verdicts
  some_of n verdicts now is more true e = (
    more.0,
    more.1,
    (now, is, subst (λ b. Then n verdicts now b more.0 more.1) (sym e) more.2),
  )
  some_of n verdicts now is more false e = (
    standing_terms granted verdicts,
    now,
    (
      now,
      is,
      subst (λ b. Then n verdicts now b (standing_terms granted verdicts) now)
          (sym e) (refl, refl),
    ),
  )

  -- something is
  pub some_offer : (n : ℕ) (verdicts : List Verdict) → Offered n verdicts
  some_offer zero verdicts =
      let v = some_under (terms_by (standing_terms granted verdicts)) in
      (standing_terms granted verdicts, v.0, (refl, v.1))
  some_offer (suc n) verdicts =
      let now = some_under (terms_by (standing_terms granted verdicts)) in
      some_of n verdicts now.0 now.1 (some_offer n (verdicts ++ (now.0 ∷ []))) (list_any (names now.0) granted) refl

  -- granted terms that stand after some verdicts, with their verdict
  abbrev pub AreStanding : List Term → Verdict → Type 0
  AreStanding terms v = (named : List Verdict) × (terms ≡ standing_terms granted named)
      × VerdictUnder (terms_by terms) owner text arms v

  standing_of : (b : Bool) (n : ℕ) (verdicts : List Verdict) (now : Verdict) (terms : List Term) (v : Verdict)
      → VerdictUnder (terms_by (standing_terms granted verdicts)) owner text arms now
      → (IsOffered owner text arms granted n (verdicts ++ (now ∷ [])) terms v → AreStanding terms v)
      → Then n verdicts now b terms v → AreStanding terms v
  standing_of true n verdicts now terms v is more h = more h
  standing_of false n verdicts now terms v is more h =
      let under = subst (λ w. VerdictUnder (terms_by (standing_terms granted verdicts)) owner text arms w) (sym h.1) is in
      (verdicts, h.0, subst (λ ts. VerdictUnder (terms_by ts) owner text arms v) (sym h.0) under)

  -- what is offered are such terms
  pub is_standing : (n : ℕ) (verdicts : List Verdict) (terms : List Term) (v : Verdict)
      → IsOffered owner text arms granted n verdicts terms v → AreStanding terms v
  is_standing zero verdicts terms v r = (verdicts, r.0, r.1)
  is_standing (suc n) verdicts terms v r =
      standing_of (list_any (names r.0) granted) n verdicts r.0 terms v r.1
      (is_standing n (verdicts ++ (r.0 ∷ [])) terms v) r.2
