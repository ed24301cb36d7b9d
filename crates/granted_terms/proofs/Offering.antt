-- What is offered of granted terms, without certificates.
use Rattle.std.proofs.Common.{◌≡◌, ℕ, zero, suc, ◌≤◌, List, [], ◌∷◌, ◌++◌, length, All, refl, sym, ap, ◌∙◌, subst, arith, Bool, true, false, MatchBool, ◌==◌, ◌||◌}
use Rattle.std.specs.List.{Contains, list_any}
use Rattle.std.proofs.lemmas.Bool.{both_ways, eqb-true, eq-eqb}
use Rattle.std.proofs.lemmas.List.Elements.{All-nil, All-cons}
use Rattle.std.proofs.lemmas.List.Folds.{list_any_at}
use Rattle.mod_layout.specs.declared.Module.{Module}
use Rattle.flow_rule.specs.Arms.{VerdictUnder}
use Rattle.flow_rule.specs.Terms.{Terms}
use Rattle.flow_rule.specs.declared.Reason.TheVariants.{SecretAtExit, DataAtExit}
use Rattle.flow_rule.specs.declared.Verdict.{Verdict}
use Rattle.flow_rule.specs.declared.Verdict.TheVariants.{Yes, No}
use Rattle.flow_laws.proofs.Telling.{on_list}
use Rattle.terms_file.specs.declared.Term.{Term}
use Rattle.terms_file.specs.declared.Term.TheVariants.{Answer, Public}
use Rattle.cli_calls.specs.Offers.{terms_by, named_by, names, standing_terms, IsOffered}
use Rattle.granted_terms.specs.Laws.{AreGranted, GreatestTerms}
use Rattle.granted_terms.proofs.Accepting.{IsForgiven, verdict_forgiven}
use Rattle.granted_terms.proofs.Forgiven.{Within}
use Rattle.granted_terms.proofs.Naming.{told, Granted, Named, none_named, within, named_more, is_granted, unnamed, all_unnamed, fewer_unnamed}

module _ (owner : Module) (text : List ℕ) (granted : List Term) (other : Terms) (g : Granted granted other) (accepted : VerdictUnder other owner text [] Yes) where
  now_forgiven : (verdicts : List Verdict) → Named other verdicts → (v : Verdict) →
      VerdictUnder (told granted verdicts) owner text [] v → IsForgiven (told granted verdicts) other v
  now_forgiven verdicts d v is =
      verdict_forgiven (told granted verdicts) other owner text (within granted other verdicts g d).public accepted v is

  -- a verdict that names no granted term is yes
  ended : (verdicts : List Verdict) → Named other verdicts → (v : Verdict) → IsForgiven (told granted verdicts) other v →
      list_any (names v) granted ≡ false → v ≡ Yes
  ended verdicts d Yes f e = refl
  ended verdicts d (No addr why value) f e =
      absurd (both_ways (list_any (names (No addr why value)) granted) e (is_granted granted other verdicts g d addr why value f))

  abbrev Best : List Term → Verdict → Type 0
  Best terms v = (v ≡ Yes) × Within (terms_by terms) other

  at_end : (verdicts : List Verdict) (terms : List Term) (v : Verdict) → Named other verdicts → IsForgiven (told granted verdicts) other v →
      terms ≡ standing_terms granted verdicts → list_any (names v) granted ≡ false → Best terms v
  at_end verdicts terms v d f e none =
      (ended verdicts d v f none, subst (λ ts. Within (terms_by ts) other) (sym e) (within granted other verdicts g d))

  abbrev More : ℕ → List Verdict → List Term → Verdict → Type 0
  More n verdicts terms v = IsOffered owner text [] granted n verdicts terms v

  best : (n : ℕ) (verdicts : List Verdict) (terms : List Term) (v : Verdict) → Named other verdicts → unnamed verdicts granted ≤ n →
      More n verdicts terms v → Best terms v
  best zero verdicts terms v d few is =
      let under = subst (λ ts. VerdictUnder (terms_by ts) owner text [] v) is.0 is.1 in
      let f = now_forgiven verdicts d v under in
      at_end verdicts terms v d f is.0 (none (list_any (names v) granted) refl f)
    where
      none : (b : Bool) → list_any (names v) granted ≡ b → IsForgiven (told granted verdicts) other v → b ≡ false
      none true e f = let less = fewer_unnamed granted other verdicts g d v f e in absurd (omega (arith, few, less))
      none false e f = refl
  best (suc n) verdicts terms v d few is = by (list_any (names is.0) granted) refl is.2 (best n (verdicts ++ is.0 ∷ []) terms v)
    where
      f : IsForgiven (told granted verdicts) other is.0
      f = now_forgiven verdicts d is.0 is.1

      by : (b : Bool) → list_any (names is.0) granted ≡ b → MatchBool b (More n (verdicts ++ is.0 ∷ []) terms v) ((terms ≡ standing_terms granted verdicts) × (v ≡ is.0)) →
          (Named other (verdicts ++ is.0 ∷ []) → unnamed (verdicts ++ is.0 ∷ []) granted ≤ n → More n (verdicts ++ is.0 ∷ []) terms v → Best terms v) →
          Best terms v
      by true e more go =
          let less = fewer_unnamed granted other verdicts g d is.0 f e in
          go (named_more granted other verdicts g d is.0 f) (omega (arith, less, few)) more
      by false e last go =
          let b = at_end verdicts terms is.0 d f last.0 e in (last.1 ∙ b.0, b.1)

-- ---- lists
on_from_all : (P : ℕ → Type 0) (xs : List ℕ) → All P xs → (k : ℕ) → on_list xs k ≡ true → P k
on_from_all P [] h k e = absurd cc
on_from_all P (x ∷ xs) h k e = by (k == x) refl e (on_from_all P xs (λ i d lt. h (suc i) d (omega (arith, lt))) k)
  where
    by : (b : Bool) → (k == x) ≡ b → (b || on_list xs k) ≡ true → (on_list xs k ≡ true → P k) → P k
    by true f e go = subst P (sym (eqb-true k x f)) (h 0 x (omega arith))
    by false f e go = go e

all_from_on : (P : ℕ → Type 0) (xs : List ℕ) → ((k : ℕ) → on_list xs k ≡ true → P k) → All P xs
all_from_on P [] h = All-nil P
all_from_on P (x ∷ xs) h =
    All-cons P x xs (h x (ap (λ b. b || on_list xs x) (eq-eqb x x refl)))
    (all_from_on P xs (λ k e. h k (more (k == x) (on_list xs k) e)))
  where
    more : (b c : Bool) → c ≡ true → (b || c) ≡ true
    more true c e = refl
    more false c e = e

contained : (xs : List ℕ) (k : ℕ) → on_list xs k ≡ true → Contains xs k
contained [] k e = absurd cc
contained (x ∷ xs) k e = by (k == x) refl e (contained xs k)
  where
    by : (b : Bool) → (k == x) ≡ b → (b || on_list xs k) ≡ true → (on_list xs k ≡ true → Contains xs k) → Contains (x ∷ xs) k
    by true f e go = (0, omega arith, sym (eqb-true k x f))
    by false f e go = let c = go e in let lt = c.1 in (suc c.0, omega (arith, lt), c.2)

found : (test : Term → Bool) (t : Term) (ts : List Term) → test t ≡ true → Contains ts t → list_any test ts ≡ true
found test t ts e c = list_any_at test ts c.0 t c.1 (ap test c.2 ∙ e)

granted_by : (granted : List Term) (other : Terms) → AreGranted granted other → Granted granted other
granted_by granted other h =
    record {
      answers = λ n e. found (named_by SecretAtExit n) (Answer n) granted (eq-eqb n n refl) (on_from_all (λ k. Contains granted (Answer k)) other.answers h.answers n e);
      public = λ a e. found (named_by DataAtExit a) (Public a) granted (eq-eqb a a refl) (on_from_all (λ k. Contains granted (Public k)) other.public h.public a e);
    }

pub greatest_terms : GreatestTerms
greatest_terms owner text granted offered verdict others is are accepted =
    let b = best owner text granted others (granted_by granted others are) accepted (length granted) [] offered verdict (none_named others) (all_unnamed granted) is in (
      b.0,
      record {
        public = all_from_on (Contains (terms_by offered).public) others.public (λ a e. contained (terms_by offered).public a (b.1.public a e));
        answers = all_from_on (Contains others.answers) (terms_by offered).answers (λ n e. contained others.answers n (b.1.answers n e));
      },
    )
