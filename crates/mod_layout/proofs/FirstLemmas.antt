-- The first answer of several: of two, of two lists, and of a mapped list.
use Rattle.std.proofs.Common.{◌≡◌, List, [], ◌∷◌, ◌++◌, map, Option, Some, None, refl, ap, sym, ◌∙◌}
use Rattle.std.specs.Option.{option_or}
use Rattle.mod_layout.specs.First.{first_in, first_of}

pub or_else_assoc : {A : Type 0} (a b c : Option A) → option_or (option_or a b) c ≡ option_or a (option_or b c)
or_else_assoc (Some x) b c = refl
or_else_assoc None b c = refl

pub or_else_none : {A : Type 0} (a : Option A) → option_or a None ≡ a
or_else_none (Some x) = refl
or_else_none None = refl

pub both_none : {A : Type 0} (a b : Option A) → option_or a b ≡ None → (a ≡ None) × (b ≡ None)
both_none None b e = (refl, e)
both_none (Some x) b e = cc

pub first_in_append : {X A : Type 0} (f : X → Option A) (xs ys : List X) → first_in f (xs ++ ys) ≡ option_or (first_in f xs) (first_in f ys)
first_in_append f [] ys = refl
first_in_append f (x ∷ xs) ys = ap (option_or (f x)) (first_in_append f xs ys) ∙ sym (or_else_assoc (f x) (first_in f xs) (first_in f ys))

pub first_of_map : {X A : Type 0} (f : X → Option A) (xs : List X) → first_of (map f xs) ≡ first_in f xs
first_of_map f [] = refl
first_of_map f (x ∷ xs) = ap (option_or (f x)) (first_of_map f xs)
