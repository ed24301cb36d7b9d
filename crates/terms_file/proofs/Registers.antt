-- The registers that a text of terms names may be answers.
use Rattle.std.proofs.Common.{◌≡◌, ℕ, ◌+◌, ◌%◌, List, [], ◌∷◌, drop, Bool, true, false, ◌&&◌, ◌==◌, nat_lt, cond, Option, Some, None, Result, Ok, Err, refl, ap, ◌∙◌, subst}
use Rattle.std.specs.List.{list_all, flat_map}
use Rattle.texts.specs.Decimals.{read_decimal}
use Rattle.texts.specs.Hexadecimals.{read_hex_word}
use Rattle.texts.specs.Rows.{after_these, from_row, rows_from}
use Rattle.cpu_step.specs.Lone.{is_answer}
use Rattle.texts.specs.Lines.{lines_of}
use Rattle.terms_file.specs.declared.Term.{Term}
use Rattle.terms_file.specs.declared.Term.TheVariants.{Answer, Public}
use Rattle.terms_file.specs.declared.TermsFault.{TermsFault}
use Rattle.terms_file.specs.declared.TermsFault.TheVariants.{TooMany, NotRising}
use Rattle.terms_file.specs.Terms.{answer_of, public_of, term_of, term_place, term_rows, terms_of, answer_in}
use Rattle.terms_file.specs.Laws.{AnswersMayBe}

-- a term's register may be an answer
abbrev MayBe : Term → Type 0
MayBe (Answer n) = is_answer n ≡ true
MayBe (Public a) = Unit {0}

abbrev AllMayBe : List Term → Type 0
AllMayBe terms = list_all is_answer (flat_map answer_in terms) ≡ true

more_may_be : (t : Term) (ts : List Term) → MayBe t → AllMayBe ts → AllMayBe (t ∷ ts)
more_may_be (Answer n) ts h g = ap (λ b. b && list_all is_answer (flat_map answer_in ts)) h ∙ g
more_may_be (Public a) ts h g = g

answer_may_be : (o : Option ℕ) (t : Term) → answer_of o ≡ Some t → MayBe t
answer_may_be None t e = absurd cc
answer_may_be (Some n) t e = by (is_answer n) refl e
  where
    by : (b : Bool) → is_answer n ≡ b → cond b (Some (Answer n)) None ≡ Some t → MayBe t
    by true f e = let same : Answer n ≡ t = cc in subst MayBe same f
    by false f e = absurd cc

public_may_be : (o : Option ℕ) (t : Term) → public_of o ≡ Some t → MayBe t
public_may_be None t e = absurd cc
public_may_be (Some a) t e = by (a % 2 == 0) e
  where
    by : (b : Bool) → cond b (Some (Public a)) None ≡ Some t → MayBe t
    by true e = let same : Public a ≡ t = cc in subst MayBe same tt
    by false e = absurd cc

term_may_be : (line : List ℕ) (t : Term) → term_of line ≡ Some t → MayBe t
unfolding term_of
term_may_be line t e = by _ _ e
  where
    by : (a b : Bool) → cond a (answer_of (read_decimal 15 (drop 8 line))) (cond b (public_of (read_hex_word (drop 7 line))) None) ≡ Some t → MayBe t
    by true b e = answer_may_be (read_decimal 15 (drop 8 line)) t e
    by false true e = public_may_be (read_hex_word (drop 7 line)) t e
    by false false e = absurd cc

-- a line, where what the lines behind it give is so
module _ (rest : ℕ → Result (List Term) TermsFault) (behind : (next : ℕ) (more : List Term) → rest next ≡ Ok more → AllMayBe more) (n low : ℕ) (ts : List Term) where
  with_rest : (r : Result (List Term) TermsFault) (t : Term) → rest (term_place t + 1) ≡ r → MayBe t → after_these (t ∷ []) r ≡ Ok ts → AllMayBe ts
  with_rest (Err fault) t g h e = absurd cc
  with_rest (Ok more) t g h e = let same : t ∷ more ≡ ts = cc in subst AllMayBe same (more_may_be t more h (behind (term_place t + 1) more g))

  in_place : (b : Bool) (t : Term) → MayBe t → cond b (Err (NotRising n)) (after_these (t ∷ []) (rest (term_place t + 1))) ≡ Ok ts → AllMayBe ts
  in_place true t h e = absurd cc
  in_place false t h e = with_rest (rest (term_place t + 1)) t refl h e

  row_may_be : (line : List ℕ) (o : Option Term) (last : Bool) → term_of line ≡ o → cond last (Err TooMany) (from_row term_rows n low o rest) ≡ Ok ts → AllMayBe ts
  row_may_be line o true f e = absurd cc
  row_may_be line None false f e = absurd cc
  row_may_be line (Some t) false f e = in_place (nat_lt (term_place t) low) t (term_may_be line t f) e

each_may_be : (lines : List (List ℕ)) (n low : ℕ) (ts : List Term) → rows_from term_rows n low lines ≡ Ok ts → AllMayBe ts
each_may_be [] n low ts e = let same : [] ≡ ts = cc in subst AllMayBe same refl
each_may_be (line ∷ lines) n low ts e =
    row_may_be (λ next. rows_from term_rows (n + 1) next lines) (λ next more g. each_may_be lines (n + 1) next more g) n low ts line (term_of line) (n == 271) refl e

pub answers_may_be : AnswersMayBe
unfolding terms_of
answers_may_be text ts e = each_may_be (lines_of text) 1 0 ts e
