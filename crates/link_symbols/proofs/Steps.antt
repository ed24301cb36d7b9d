-- One element more: passes over lists with numbers.
use Rattle.std.proofs.Common.{◌≡◌, ℕ, ◌+◌, ◌<◌, ◌≤◌, List, [], ◌∷◌, ◌++◌, drop, take, length, get_or, Option, Some, None, refl, ap, sym, ◌∙◌, add-one, arith, map, subst, suc, fold}
use Rattle.std.proofs.lemmas.List.{drop-map, map-append, take_more}
use Rattle.std.proofs.Math.Seq.{drop-cons}
use Rattle.std.proofs.Math.ListN.{drop_of_length-le}
use Rattle.elf_objects.specs.Object.{ObjectValue}
use Rattle.mod_layout.specs.First.{first_in}
use Rattle.link_symbols.specs.Passes.{fold_at, first_at, map_at, NumberedObject, numbered_objects_from}

-- a pass that found nothing so far
pub first_at_step : {X A : Type 0} (f : ℕ → X → Option A) (xs : List X) (i : ℕ) (x : X) → i < length xs → x ≡ get_or xs i x → f i x ≡ None →
    first_at f i (drop i xs) ≡ first_at f (i + 1) (drop (i + 1) xs)
first_at_step f xs i x h is e = rw (drop-cons xs i x h, ← is) (rw (e, add-one) refl)

pub first_at_hit : {X A : Type 0} (f : ℕ → X → Option A) (xs : List X) (i : ℕ) (x : X) (a : A) → i < length xs → x ≡ get_or xs i x → f i x ≡ Some a →
    first_at f i (drop i xs) ≡ Some a
first_at_hit f xs i x a h is e = rw (drop-cons xs i x h, ← is) (rw e refl)

pub first_at_end : {X A : Type 0} (f : ℕ → X → Option A) (xs : List X) (i j : ℕ) → length xs ≤ i → first_at f j (drop i xs) ≡ None
first_at_end f xs i j h = rw (drop_of_length-le xs h) refl

pub numbered_step : (os : List ObjectValue) (i first : ℕ) (o : ObjectValue) → i < length os → o ≡ get_or os i o →
    numbered_objects_from i first (drop i os) ≡ record { number = i; first = first; object = o } ∷ numbered_objects_from (i + 1) (first + length o.sections) (drop (i + 1) os)
numbered_step os i first o h is = rw (drop-cons os i o h, ← is) (rw add-one refl)

pub first_in_step : {A : Type 0} (f : NumberedObject → Option A) (os : List ObjectValue) (i first : ℕ) (o : ObjectValue) → i < length os → o ≡ get_or os i o →
    f (record { number = i; first = first; object = o }) ≡ None →
    first_in f (numbered_objects_from i first (drop i os)) ≡ first_in f (numbered_objects_from (i + 1) (first + length o.sections) (drop (i + 1) os))
first_in_step f os i first o h is e = rw (numbered_step os i first o h is) (rw e refl)

pub first_in_hit : {A : Type 0} (f : NumberedObject → Option A) (os : List ObjectValue) (i first : ℕ) (o : ObjectValue) (a : A) → i < length os → o ≡ get_or os i o →
    f (record { number = i; first = first; object = o }) ≡ Some a →
    first_in f (numbered_objects_from i first (drop i os)) ≡ Some a
first_in_hit f os i first o a h is e = rw (numbered_step os i first o h is) (rw e refl)

pub first_in_end : {A : Type 0} (f : NumberedObject → Option A) (os : List ObjectValue) (i j first : ℕ) → length os ≤ i → first_in f (numbered_objects_from j first (drop i os)) ≡ None
first_in_end f os i j first h = rw (drop_of_length-le os h) refl

-- the same passes over what a function makes of the elements
pub first_at_map_step : {X Y A : Type 0} (f : ℕ → Y → Option A) (g : X → Y) (xs : List X) (i : ℕ) (x : X) → i < length xs → x ≡ get_or xs i x → f i (g x) ≡ None →
    first_at f i (drop i (map g xs)) ≡ first_at f (i + 1) (drop (i + 1) (map g xs))
first_at_map_step f g xs i x h is e = rw (drop-map g i xs, drop-map g (i + 1) xs, drop-cons xs i x h, ← is) (rw (e, add-one) refl)

pub first_at_map_hit : {X Y A : Type 0} (f : ℕ → Y → Option A) (g : X → Y) (xs : List X) (i : ℕ) (x : X) (a : A) → i < length xs → x ≡ get_or xs i x → f i (g x) ≡ Some a →
    first_at f i (drop i (map g xs)) ≡ Some a
first_at_map_hit f g xs i x a h is e = rw (drop-map g i xs, drop-cons xs i x h, ← is) (rw e refl)

pub first_at_map_end : {X Y A : Type 0} (f : ℕ → Y → Option A) (g : X → Y) (xs : List X) (i j : ℕ) → length xs ≤ i → first_at f j (drop i (map g xs)) ≡ None
first_at_map_end f g xs i j h = rw (drop-map g i xs, drop_of_length-le xs h) refl

-- the same where the list is read through another that equals it
pub map_at_at : {X A : Type 0} (f : ℕ → X → A) (xs ys : List X) (i : ℕ) (d : X) → ys ≡ xs → i < length ys →
    map_at f i (drop i xs) ≡ f i (get_or ys i d) ∷ map_at f (i + 1) (drop (i + 1) xs)
map_at_at {X = X} f xs ys i d e h = let P : List X → Type 0 = λ zs. map_at f i (drop i zs) ≡ f i (get_or ys i d) ∷ map_at f (i + 1) (drop (i + 1) zs) in
    subst P e (rw (drop-cons ys i d h) (rw add-one refl))

pub map_at_over : {X A : Type 0} (f : ℕ → X → A) (xs ys : List X) (i j : ℕ) → ys ≡ xs → length ys ≤ i → map_at f j (drop i xs) ≡ []
map_at_over {X = X} f xs ys i j e h = let P : List X → Type 0 = λ zs. map_at f j (drop i zs) ≡ [] in subst P e (rw (drop_of_length-le ys h) refl)

pub numbered_over : (os : List ObjectValue) (i j first : ℕ) → length os ≤ i → numbered_objects_from j first (drop i os) ≡ []
numbered_over os i j first h = rw (drop_of_length-le os h) refl

pub first_in_map_step : {X Y A : Type 0} (f : Y → Option A) (g : X → Y) (xs : List X) (i : ℕ) (x : X) → i < length xs → x ≡ get_or xs i x → f (g x) ≡ None →
    first_in f (drop i (map g xs)) ≡ first_in f (drop (i + 1) (map g xs))
first_in_map_step f g xs i x h is e = rw (drop-map g i xs, drop-map g (i + 1) xs, drop-cons xs i x h, ← is) (rw (e, add-one) refl)

pub first_in_map_hit : {X Y A : Type 0} (f : Y → Option A) (g : X → Y) (xs : List X) (i : ℕ) (x : X) (a : A) → i < length xs → x ≡ get_or xs i x → f (g x) ≡ Some a →
    first_in f (drop i (map g xs)) ≡ Some a
first_in_map_hit f g xs i x a h is e = rw (drop-map g i xs, drop-cons xs i x h, ← is) (rw e refl)

pub first_in_map_end : {X Y A : Type 0} (f : Y → Option A) (g : X → Y) (xs : List X) (i : ℕ) → length xs ≤ i → first_in f (drop i (map g xs)) ≡ None
first_in_map_end f g xs i h = rw (drop-map g i xs, drop_of_length-le xs h) refl

drop_here : {X : Type 0} (xs : List X) (i : ℕ) (x : X) → i < length xs → x ≡ get_or xs i x → drop i xs ≡ x ∷ drop (i + 1) xs
drop_here xs i x h is = let e : suc i ≡ i + 1 = omega arith in
    drop-cons xs i x h ∙ (ap (λ y. y ∷ drop (suc i) xs) (sym is) ∙ ap (λ (n : ℕ). x ∷ drop n xs) e)

pub fold_at_step : {X A : Type 0} (f : A → ℕ → X → A) (a : A) (xs : List X) (i : ℕ) (x : X) → i < length xs → x ≡ get_or xs i x →
    fold_at f a i (drop i xs) ≡ fold_at f (f a i x) (i + 1) (drop (i + 1) xs)
fold_at_step f a xs i x h is = ap (fold_at f a i) (drop_here xs i x h is)

map_here : {X Y : Type 0} (g : X → Y) (xs : List X) (i : ℕ) (x : X) → i < length xs → x ≡ get_or xs i x → drop i (map g xs) ≡ g x ∷ drop (i + 1) (map g xs)
map_here g xs i x h is = drop-map g i xs ∙ (ap (map g) (drop_here xs i x h is) ∙ ap (λ l. g x ∷ l) (sym (drop-map g (i + 1) xs)))

pub fold_at_map_step : {X Y A : Type 0} (f : A → ℕ → Y → A) (g : X → Y) (a : A) (xs : List X) (i : ℕ) (x : X) → i < length xs → x ≡ get_or xs i x →
    fold_at f a i (drop i (map g xs)) ≡ fold_at f (f a i (g x)) (i + 1) (drop (i + 1) (map g xs))
fold_at_map_step f g a xs i x h is = ap (fold_at f a i) (map_here g xs i x h is)

map_over : {X Y : Type 0} (g : X → Y) (xs : List X) (i : ℕ) → length xs ≤ i → drop i (map g xs) ≡ []
map_over g xs i h = drop-map g i xs ∙ ap (map g) (drop_of_length-le xs h)

pub fold_at_map_end : {X Y A : Type 0} (f : A → ℕ → Y → A) (g : X → Y) (a : A) (xs : List X) (i j : ℕ) → length xs ≤ i → fold_at f a j (drop i (map g xs)) ≡ a
fold_at_map_end f g a xs i j h = ap (fold_at f a j) (map_over g xs i h)

pub fold_map_step : {X Y A : Type 0} (f : A → Y → A) (g : X → Y) (a : A) (xs : List X) (i : ℕ) (x : X) → i < length xs → x ≡ get_or xs i x →
    fold f a (drop i (map g xs)) ≡ fold f (f a (g x)) (drop (i + 1) (map g xs))
fold_map_step f g a xs i x h is = ap (fold f a) (map_here g xs i x h is)

pub fold_map_end : {X Y A : Type 0} (f : A → Y → A) (g : X → Y) (a : A) (xs : List X) (i : ℕ) → length xs ≤ i → fold f a (drop i (map g xs)) ≡ a
fold_map_end f g a xs i h = ap (fold f a) (map_over g xs i h)

pub fold_numbered_step : {A : Type 0} (f : A → NumberedObject → A) (a : A) (os : List ObjectValue) (i first : ℕ) (o : ObjectValue) → i < length os → o ≡ get_or os i o →
    fold f a (numbered_objects_from i first (drop i os)) ≡ fold f (f a (record { number = i; first = first; object = o })) (numbered_objects_from (i + 1) (first + length o.sections) (drop (i + 1) os))
fold_numbered_step f a os i first o h is = ap (fold f a) (numbered_step os i first o h is)

pub fold_numbered_end : {A : Type 0} (f : A → NumberedObject → A) (a : A) (os : List ObjectValue) (i j first : ℕ) → length os ≤ i → fold f a (numbered_objects_from j first (drop i os)) ≡ a
fold_numbered_end f a os i j first h = ap (fold f a) (numbered_over os i j first h)

pub fold_at_end : {X A : Type 0} (f : A → ℕ → X → A) (a : A) (xs : List X) (i j : ℕ) → length xs ≤ i → fold_at f a j (drop i xs) ≡ a
fold_at_end f a xs i j h = rw (drop_of_length-le xs h) refl

pub first_of_end : {X A : Type 0} (f : X → Option A) (xs : List X) (i : ℕ) → length xs ≤ i → first_in f (drop i xs) ≡ None
first_of_end f xs i h = rw (drop_of_length-le xs h) refl

pub map_map_push : {X Y Z : Type 0} (w : Y → Z) (g : X → Y) (xs : List X) (i : ℕ) (x : X) → i < length xs → x ≡ get_or xs i x →
    map w (map g (take (i + 1) xs)) ≡ map w (map g (take i xs)) ++ w (g x) ∷ []
map_map_push w g xs i x h is =
    ap (λ l. map w (map g l)) (take_more xs i x h ∙ ap (λ y. take i xs ++ y ∷ []) (sym is))
    ∙ (ap (map w) (map-append g (take i xs) (x ∷ [])) ∙ map-append w (map g (take i xs)) (g x ∷ []))

-- one object more, where the number of its sections was read
pub fold_numbered_more : {A : Type 0} (f : A → NumberedObject → A) (old a b : A) (os : List ObjectValue) (i first n : ℕ) (o : ObjectValue) → i < length os → o ≡ get_or os i o →
    fold f old (numbered_objects_from 0 0 os) ≡ fold f a (numbered_objects_from i first (drop i os)) → b ≡ f a (record { number = i; first = first; object = o }) → n ≡ length o.sections →
    fold f old (numbered_objects_from 0 0 os) ≡ fold f b (numbered_objects_from (i + 1) (first + n) (drop (i + 1) os))
fold_numbered_more f old a b os i first n o h is inv made same =
    inv ∙ (fold_numbered_step f a os i first o h is
    ∙ (ap (λ c. fold f c (numbered_objects_from (i + 1) (first + length o.sections) (drop (i + 1) os))) (sym made)
    ∙ ap (λ k. fold f b (numbered_objects_from (i + 1) (first + k) (drop (i + 1) os))) (sym same)))

pub first_numbered_more : {A : Type 0} (f : NumberedObject → Option A) (os : List ObjectValue) (i first n : ℕ) (o : ObjectValue) (all : Option A) → i < length os → o ≡ get_or os i o →
    all ≡ first_in f (numbered_objects_from i first (drop i os)) → f (record { number = i; first = first; object = o }) ≡ None → n ≡ length o.sections →
    all ≡ first_in f (numbered_objects_from (i + 1) (first + n) (drop (i + 1) os))
first_numbered_more f os i first n o all h is inv none same =
    inv ∙ (first_in_step f os i first o h is none ∙ ap (λ k. first_in f (numbered_objects_from (i + 1) (first + k) (drop (i + 1) os))) (sym same))
