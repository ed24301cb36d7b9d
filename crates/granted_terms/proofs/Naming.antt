-- What a verdict names of granted terms, where it says yes or names what is forgiven.
use Rattle.std.proofs.Common.{◌≡◌, ◌⊎◌, inl, inr, ℕ, suc, ◌<◌, ◌≤◌, List, [], ◌∷◌, ◌++◌, length, filter, refl, sym, ap, ◌∙◌, subst, arith, Bool, true, false, cond, not, ◌==◌, ◌&&◌, ◌||◌}
use Rattle.std.specs.List.{list_any}
use Rattle.std.proofs.lemmas.Bool.{and_parts, and_cases, or_cases, or_from, or_left, not-true, eqb-true, both_ways}
use Rattle.std.proofs.lemmas.Cmp.{nat_eq_equiv}
use Rattle.std.proofs.lemmas.List.Folds.{list_any-append}
use Rattle.flow_rule.specs.Terms.{Terms}
use Rattle.flow_rule.specs.declared.Reason.{Reason}
use Rattle.flow_rule.specs.declared.Reason.TheVariants.{SecretAtExit, DataAtExit}
use Rattle.flow_rule.specs.declared.Verdict.{Verdict}
use Rattle.flow_rule.specs.declared.Verdict.TheVariants.{Yes, No}
use Rattle.flow_laws.proofs.Telling.{on_list}
use Rattle.terms_file.specs.declared.Term.{Term}
use Rattle.terms_file.specs.declared.Term.TheVariants.{Answer, Public}
use Rattle.terms_file.specs.Terms.{registers_in, addresses_in}
use Rattle.cli_calls.specs.Offers.{terms_by, named_by, names, have_named, stands, standing_terms}
use Rattle.granted_terms.proofs.Forgiven.{Within, ByAnswer, ByWord}
use Rattle.granted_terms.proofs.Accepting.{IsForgiven}

-- ---- what is told by the terms that stand
on_answers : (ts : List Term) (n : ℕ) → on_list (registers_in ts) n ≡ list_any (named_by SecretAtExit n) ts
on_answers [] n = refl
on_answers (Answer k ∷ ts) n = ap (λ b. b || on_list (registers_in ts) n) (nat_eq_equiv.symm n k) ∙ ap (λ b. (k == n) || b) (on_answers ts n)
on_answers (Public a ∷ ts) n = on_answers ts n

on_public : (ts : List Term) (a : ℕ) → on_list (addresses_in ts) a ≡ list_any (named_by DataAtExit a) ts
on_public [] a = refl
on_public (Answer n ∷ ts) a = on_public ts a
on_public (Public k ∷ ts) a = ap (λ b. b || on_list (addresses_in ts) a) (nat_eq_equiv.symm a k) ∙ ap (λ b. (k == a) || b) (on_public ts a)

nothing : (b : Bool) → false ≡ (b && false)
nothing true = refl
nothing false = refl

-- of those that pass this test, the filter keeps all or none
any_kept : (test stay : Term → Bool) (b : Bool) → ((t : Term) → test t ≡ true → stay t ≡ b) → (ts : List Term) →
    list_any test (filter stay ts) ≡ (b && list_any test ts)
any_kept test stay b h [] = nothing b
any_kept test stay b h (t ∷ ts) = by (test t) (stay t) refl refl (any_kept test stay b h ts)
  where
    kept : List Term
    kept = filter stay ts

    by : (c d : Bool) → test t ≡ c → stay t ≡ d → list_any test kept ≡ (b && list_any test ts) →
        list_any test (cond d (t ∷ kept) kept) ≡ (b && (c || list_any test ts))
    by true true e f go =
        let is : b ≡ true = sym (h t e) ∙ f in
        ap (λ i. i || list_any test kept) e ∙ sym (ap (λ i. i && true) is)
    by true false e f go =
        let is : b ≡ false = sym (h t e) ∙ f in
        go ∙ ap (λ i. i && list_any test ts) is ∙ sym (ap (λ i. i && true) is)
    by false true e f go = ap (λ i. i || list_any test kept) e ∙ go
    by false false e f go = go

abbrev pub told : List Term → List Verdict → Terms
told granted verdicts = terms_by (standing_terms granted verdicts)

module _ (granted : List Term) (verdicts : List Verdict) where
  answers_told : (n : ℕ) → on_list (told granted verdicts).answers n ≡ (have_named verdicts (Answer n) && list_any (named_by SecretAtExit n) granted)
  answers_told n =
      on_answers (standing_terms granted verdicts) n
      ∙ any_kept (named_by SecretAtExit n) (stands verdicts) (have_named verdicts (Answer n)) by granted
    where
      by : (t : Term) → named_by SecretAtExit n t ≡ true → stands verdicts t ≡ have_named verdicts (Answer n)
      by (Answer k) e = ap (λ i. have_named verdicts (Answer i)) (eqb-true k n e)
      by (Public a) e = absurd cc

  public_told : (a : ℕ) → on_list (told granted verdicts).public a ≡ (not (have_named verdicts (Public a)) && list_any (named_by DataAtExit a) granted)
  public_told a =
      on_public (standing_terms granted verdicts) a
      ∙ any_kept (named_by DataAtExit a) (stands verdicts) (not (have_named verdicts (Public a))) by granted
    where
      by : (t : Term) → named_by DataAtExit a t ≡ true → stands verdicts t ≡ not (have_named verdicts (Public a))
      by (Public k) e = ap (λ i. not (have_named verdicts (Public i))) (eqb-true k a e)
      by (Answer n) e = absurd cc

-- each of these terms is granted
pub record Granted (granted : List Term) (other : Terms) : Type 0 where
  pub answers : (n : ℕ) → on_list other.answers n ≡ true → list_any (named_by SecretAtExit n) granted ≡ true
  pub public : (a : ℕ) → on_list other.public a ≡ true → list_any (named_by DataAtExit a) granted ≡ true

-- the verdicts have named no other answers, and no public words
pub record Named (other : Terms) (verdicts : List Verdict) : Type 0 where
  pub answers : (n : ℕ) → have_named verdicts (Answer n) ≡ true → on_list other.answers n ≡ true
  pub public : (a : ℕ) → on_list other.public a ≡ true → have_named verdicts (Public a) ≡ false

pub none_named : (other : Terms) → Named other []
none_named other = record { answers = λ n e. absurd cc; public = λ a e. refl }

named_then : (verdicts : List Verdict) (v : Verdict) (t : Term) → have_named (verdicts ++ v ∷ []) t ≡ (have_named verdicts t || (names v t || false))
named_then verdicts v t = list_any-append (λ w. names w t) verdicts (v ∷ [])

module _ (granted : List Term) (other : Terms) (verdicts : List Verdict) (g : Granted granted other) (d : Named other verdicts) where
  abbrev now : Terms
  now = told granted verdicts

  pub within : Within now other
  within =
      record {
        answers = λ n e. d.answers n (and_parts (have_named verdicts (Answer n)) (list_any (named_by SecretAtExit n) granted) (sym (answers_told granted verdicts n) ∙ e)).0;
        public = λ a e. public_told granted verdicts a ∙ ap (λ b. not b && list_any (named_by DataAtExit a) granted) (d.public a e) ∙ g.public a e;
      }

  -- ---- an answer that is named is one of the others', and a word is none of theirs
  named_answer : (v : Verdict) → IsForgiven now other v → (n : ℕ) → names v (Answer n) ≡ true → on_list other.answers n ≡ true
  named_answer Yes f n e = absurd cc
  named_answer (No addr why value) (ByAnswer is held bare) n e =
      let same : (n == value) ≡ true = subst (λ w. named_by w value (Answer n) ≡ true) is e in
      subst (λ k. on_list other.answers k ≡ true) (sym (eqb-true n value same)) held
  named_answer (No addr why value) (ByWord is held bare) n e =
      let none : false ≡ true = subst (λ w. named_by w value (Answer n) ≡ true) is e in absurd cc

  named_word : (v : Verdict) → IsForgiven now other v → (a : ℕ) → on_list other.public a ≡ true → names v (Public a) ≡ false
  named_word Yes f a e = refl
  named_word (No addr why value) (ByAnswer is held bare) a e = ap (λ w. named_by w value (Public a)) is
  named_word (No addr why value) (ByWord is held bare) a e = ap (λ w. named_by w value (Public a)) is ∙ by (a == value) refl
    where
      by : (b : Bool) → (a == value) ≡ b → b ≡ false
      by false f = refl
      by true f = absurd (both_ways (on_list other.public value) bare (subst (λ k. on_list other.public k ≡ true) (eqb-true a value f) e))

  pub named_more : (v : Verdict) → IsForgiven now other v → Named other (verdicts ++ v ∷ [])
  named_more v f =
      record {
        answers = λ n e. by n (or_cases (have_named verdicts (Answer n)) (names v (Answer n) || false) (sym (named_then verdicts v (Answer n)) ∙ e));
        public = λ a e. named_then verdicts v (Public a) ∙ or_from (have_named verdicts (Public a)) (names v (Public a) || false) (d.public a e) (or_from (names v (Public a)) false (named_word v f a e) refl);
      }
    where
      last : (n : ℕ) → (names v (Answer n) ≡ true) ⊎ (false ≡ true) → on_list other.answers n ≡ true
      last n (inl e) = named_answer v f n e
      last n (inr e) = absurd cc

      by : (n : ℕ) → (have_named verdicts (Answer n) ≡ true) ⊎ ((names v (Answer n) || false) ≡ true) → on_list other.answers n ≡ true
      by n (inl e) = d.answers n e
      by n (inr e) = last n (or_cases (names v (Answer n)) false e)

  -- ---- what is named is granted, and no verdict named it before
  pub is_granted : (addr : ℕ) (why : Reason) (value : ℕ) → IsForgiven now other (No addr why value) →
      list_any (names (No addr why value)) granted ≡ true
  is_granted addr why value (ByAnswer is held bare) = subst (λ w. list_any (named_by w value) granted ≡ true) (sym is) (g.answers value held)
  is_granted addr why value (ByWord is held bare) =
      let here = and_parts (not (have_named verdicts (Public value))) (list_any (named_by DataAtExit value) granted) (sym (public_told granted verdicts value) ∙ held) in
      subst (λ w. list_any (named_by w value) granted ≡ true) (sym is) here.1

  answer_fresh : (n : ℕ) → on_list other.answers n ≡ true → on_list now.answers n ≡ false → have_named verdicts (Answer n) ≡ false
  answer_fresh n held bare = by (and_cases (have_named verdicts (Answer n)) (list_any (named_by SecretAtExit n) granted) (sym (answers_told granted verdicts n) ∙ bare))
    where
      by : (have_named verdicts (Answer n) ≡ false) ⊎ (list_any (named_by SecretAtExit n) granted ≡ false) → have_named verdicts (Answer n) ≡ false
      by (inl e) = e
      by (inr e) = absurd (both_ways (list_any (named_by SecretAtExit n) granted) e (g.answers n held))

  word_fresh : (a : ℕ) → on_list now.public a ≡ true → have_named verdicts (Public a) ≡ false
  word_fresh a held = not-true (have_named verdicts (Public a)) (and_parts (not (have_named verdicts (Public a))) (list_any (named_by DataAtExit a) granted) (sym (public_told granted verdicts a) ∙ held)).0

  fresh : (v : Verdict) → IsForgiven now other v → (t : Term) → names v t ≡ true → have_named verdicts t ≡ false
  fresh Yes f t e = absurd cc
  fresh (No addr why value) (ByAnswer is held bare) t e = by t (subst (λ w. named_by w value t ≡ true) is e)
    where
      by : (t : Term) → named_by SecretAtExit value t ≡ true → have_named verdicts t ≡ false
      by (Answer n) e = ap (λ k. have_named verdicts (Answer k)) (eqb-true n value e) ∙ answer_fresh value held bare
      by (Public a) e = absurd cc
  fresh (No addr why value) (ByWord is held bare) t e = by t (subst (λ w. named_by w value t ≡ true) is e)
    where
      by : (t : Term) → named_by DataAtExit value t ≡ true → have_named verdicts t ≡ false
      by (Public a) e = ap (λ k. have_named verdicts (Public k)) (eqb-true a value e) ∙ word_fresh value held
      by (Answer n) e = absurd cc

-- ---- how many granted terms no verdict has named
abbrev pub unnamed : List Verdict → List Term → ℕ
unnamed verdicts [] = 0
unnamed verdicts (t ∷ ts) = cond (have_named verdicts t) (unnamed verdicts ts) (suc (unnamed verdicts ts))

pub all_unnamed : (ts : List Term) → unnamed [] ts ≤ length ts
all_unnamed [] = omega arith
all_unnamed (t ∷ ts) = let h = all_unnamed ts in omega (arith, h)

module _ (verdicts : List Verdict) (v : Verdict) where
  abbrev after : List Verdict
  after = verdicts ++ v ∷ []

  no_more : (ts : List Term) → unnamed after ts ≤ unnamed verdicts ts
  no_more [] = omega arith
  no_more (t ∷ ts) = by (have_named verdicts t) (have_named after t) still (no_more ts)
    where
      still : have_named verdicts t ≡ true → have_named after t ≡ true
      still e = named_then verdicts v t ∙ or_left (have_named verdicts t) (names v t || false) e

      by : (b c : Bool) → (b ≡ true → c ≡ true) → unnamed after ts ≤ unnamed verdicts ts →
          cond c (unnamed after ts) (suc (unnamed after ts)) ≤ cond b (unnamed verdicts ts) (suc (unnamed verdicts ts))
      by true true s go = go
      by true false s go = let none : false ≡ true = s refl in absurd cc
      by false true s go = omega (arith, go)
      by false false s go = omega (arith, go)

  fewer : ((t : Term) → names v t ≡ true → have_named verdicts t ≡ false) → (ts : List Term) → list_any (names v) ts ≡ true →
      unnamed after ts < unnamed verdicts ts
  fewer h [] e = absurd cc
  fewer h (t ∷ ts) e = by (names v t) (have_named verdicts t) (have_named after t) (h t) (named_then verdicts v t) e (no_more ts) (fewer h ts)
    where
      by : (a b c : Bool) → (a ≡ true → b ≡ false) → c ≡ (b || (a || false)) → (a || list_any (names v) ts) ≡ true →
          unnamed after ts ≤ unnamed verdicts ts → (list_any (names v) ts ≡ true → unnamed after ts < unnamed verdicts ts) →
          cond c (unnamed after ts) (suc (unnamed after ts)) < cond b (unnamed verdicts ts) (suc (unnamed verdicts ts))
      by true true c h n e few go = let none : true ≡ false = h refl in absurd cc
      by true false true h n e few go = omega (arith, few)
      by true false false h n e few go = absurd cc
      by false true true h n e few go = go e
      by false true false h n e few go = absurd cc
      by false false true h n e few go = absurd cc
      by false false false h n e few go = let less = go e in omega (arith, less)

pub fewer_unnamed : (granted : List Term) (other : Terms) (verdicts : List Verdict) → Granted granted other → Named other verdicts →
    (v : Verdict) → IsForgiven (told granted verdicts) other v → list_any (names v) granted ≡ true →
    unnamed (verdicts ++ v ∷ []) granted < unnamed verdicts granted
fewer_unnamed granted other verdicts g d v f e = fewer verdicts v (fresh granted other verdicts g d v f) granted e
