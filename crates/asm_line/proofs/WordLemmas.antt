-- The words of a line.
use Rattle.std.proofs.Common.{ℕ, ◌≡◌, Bool, true, false, cond, List, [], ◌∷◌, Option, Some, None, is_some, refl, ap, ◌∙◌}
use Rattle.std.specs.Prelude.{IfSome, option_map}
use Rattle.std.proofs.lemmas.Option.{same_Some}
use Rattle.std.specs.List.{slice_split, onto_first}
use Rattle.texts.specs.Words.{is_space, words}
use Rattle.asm_line.specs.Lines.{by_words, statement_of}

-- a line of four words or more is no statement
more_words : (word first second line : List ℕ) → by_words (word ∷ first ∷ second ∷ words line) ≡ None
unfolding words
more_words word first second [] = refl
more_words word first second (b ∷ line) = by (is_space b) (slice_split is_space line)
  where
    by : (space : Bool) (parts : List (List ℕ)) → by_words (word ∷ first ∷ second ∷ cond space ([] ∷ parts) (onto_first b parts)) ≡ None
    by true parts = refl
    by false [] = refl
    by false (part ∷ parts) = refl

pub too_many_words : (line word rest first more second last : List ℕ) → words line ≡ word ∷ words rest → words rest ≡ first ∷ words more → words more ≡ second ∷ words last → statement_of line ≡ None
unfolding statement_of
too_many_words line word rest first more second last a b c =
    ap by_words (a ∙ ap (λ ws. word ∷ ws) (b ∙ ap (λ ws. first ∷ ws) c)) ∙ more_words word first second last

-- what is told of an option that is some
pub record SomeOf {A : Type 0} (P : A → Type 0) (o : Option A) : Type 0 where
  pub value : A
  pub is : o ≡ Some value
  pub holds : P value

pub some_of : {A : Type 0} (P : A → Type 0) (o : Option A) → is_some o ≡ true → IfSome o P → SomeOf P o
some_of P (Some a) e h = record { value = a; is = refl; holds = h }
some_of P None e h = absurd cc

pub option_map_some : {A B P : Type 0} (f : A → B) (o : Option A) (y : B) → option_map f o ≡ Some y → ((x : A) → o ≡ Some x → f x ≡ y → P) → P
option_map_some f None y e k = absurd cc
option_map_some f (Some x) y e k = k x refl (same_Some (f x) y e)
