-- No strong definition is a second one exactly where no two are of one name.
use Rattle.std.proofs.Common.{◌≡◌, ◌≢◌, ◌⊎◌, inl, inr, ℕ, ◌+◌, ◌<◌, ◌≤◌, List, [], ◌∷◌, ◌++◌, length, get_or, length-append, append_assoc, Option, Some, None, Bool, true, false, ◌||◌, ◌==◌, refl, ap, sym, ◌∙◌, subst, arith}
use Rattle.std.specs.Prelude.{All, if◌then◌else◌, bytes_eq, option_map}
use Rattle.std.proofs.Math.ListN.{get_or-append}
use Rattle.std.proofs.lemmas.Bool.{cases_lt}
use Rattle.std.proofs.lemmas.Bool.Decides.{nat_tests}
use Rattle.std.proofs.lemmas.List.{get_or-append-add}
use Rattle.std.proofs.lemmas.Slice.Eq.{bytes_eq-Decides}
use Rattle.elf_objects.specs.declared.object.Binding.{Binding}
use Rattle.elf_objects.specs.declared.object.Binding.TheVariants as binding
use Rattle.link_symbols.specs.declared.names.Definition.{Definition}
use Rattle.link_symbols.specs.declared.symbol.Meaning.{Meaning}
use Rattle.link_symbols.specs.declared.symbol.What.{What}
use Rattle.link_symbols.specs.declared.symbol.What.TheVariants as what
use Rattle.link_symbols.specs.Passes.{some_if}
use Rattle.link_symbols.specs.Symbols.{NamedValue}
use Rattle.link_symbols.specs.Definitions.{is_global, is_local, meaning_in, definition, definition_of, strong_by, strong_of, if_named}
use Rattle.link_symbols.specs.Refusals.{duplicate, duplicate_by, duplicate_of}
use Rattle.mod_layout.proofs.FirstLemmas.{both_none}
use Rattle.linker_laws.specs.Conditions.{IsStrong, OneStrongEach}
use Rattle.linker_laws.proofs.Searches.{or_none, in_none, none_in}

-- ---- one symbol

abbrev strong_in : NamedValue → Binding → List ℕ → What → Option Definition
strong_in s b name w = some_if (is_global b) (option_map (definition s) (if (length name == 0) || is_local b then None else meaning_in w))

strong_if_by : (s : NamedValue) (b : Binding) (name : List ℕ) (w : What) → s.binding ≡ b → s.name ≡ name →
    s.what ≡ w → strong_in s b name w ≢ None → IsStrong s
strong_if_by s binding.Local name w p q r h = absurd (h refl)
strong_if_by s binding.Weak name w p q r h = absurd (h refl)
strong_if_by s binding.Global [] w p q r h = absurd (h refl)
strong_if_by s binding.Global (c ∷ cs) (what.Common size align) p q r h = absurd (h (none_by (length (c ∷ cs) == 0)))
  where
    none_by : (b : Bool) → option_map (definition s) (if b || false then None else None) ≡ None
    none_by true = refl
    none_by false = refl
strong_if_by s binding.Global (c ∷ cs) what.Nothing p q r h = absurd (h (none_by (length (c ∷ cs) == 0)))
  where
    none_by : (b : Bool) → option_map (definition s) (if b || false then None else None) ≡ None
    none_by true = refl
    none_by false = refl
strong_if_by s binding.Global (c ∷ cs) (what.Defined m) p q r h = record { global = p; named = λ e. let f : c ∷ cs ≡ [] = sym q ∙ e in cc; value = m; defined = r }

strong_if : (s : NamedValue) → strong_by s ≢ None → IsStrong s
unfolding strong_by definition_of
strong_if s h = strong_if_by s s.binding s.name s.what refl refl refl h

strong_by_if : (s : NamedValue) (b : Binding) (name : List ℕ) (w : What) (m : Meaning) → b ≡ binding.Global →
    name ≢ [] → w ≡ what.Defined m → strong_in s b name w ≢ None
strong_by_if s b [] w m p q r = absurd (q refl)
strong_by_if s b (c ∷ cs) w m p q r =
    let z : (length (c ∷ cs) == 0) ≡ false = grind (arith, nat_tests) in
    let e : strong_in s b (c ∷ cs) w ≡ Some (definition s m) = rw (p, r, z) refl in
    λ n. let f : None ≡ Some (definition s m) = sym n ∙ e in cc

is_strong : (s : NamedValue) → IsStrong s → strong_by s ≢ None
unfolding strong_by definition_of
is_strong s h = strong_by_if s s.binding s.name s.what h.value h.global h.named h.defined

-- ---- a symbol and those before it

abbrev Differ : NamedValue → NamedValue → Type 0
Differ s t = IsStrong s → IsStrong t → s.name ≢ t.name

same_name : (a b : List ℕ) → bytes_eq a b ≡ true → a ≡ b
same_name a b e = (bytes_eq-Decides a b).0 e

eq_itself : (a b : List ℕ) → a ≡ b → bytes_eq a b ≡ true
eq_itself a b e = (bytes_eq-Decides a b).1 e

named_none : (t : NamedValue) (name : List ℕ) → t.name ≡ name → if_named name t (strong_by t) ≡ None →
    strong_by t ≡ None
named_none t name e h = ap (λ (b : Bool). some_if b (strong_by t)) (sym (eq_itself t.name name e)) ∙ h

first_none : (xs : List NamedValue) (name : List ℕ) → strong_of xs name ≡ None →
    All (λ t. if_named name t (strong_by t) ≡ None) xs
unfolding strong_of
first_none xs name f = in_none (λ t. if_named name t (strong_by t)) xs f

before_none : (before : List NamedValue) (s : NamedValue) → duplicate_of before s ≡ None → All (λ t. Differ t s) before
before_none before s e k d l a b q = by (strong_by s) (strong_of before s.name) refl refl e
  where
    by : (x y : Option Definition) → strong_by s ≡ x → strong_of before s.name ≡ y → duplicate_by s x y ≡ None → ⊥
    by (Some x) (Some y) p r f = cc
    by None y p r f = is_strong s b p
    by (Some x) None p r f = is_strong (get_or before k d) a (named_none (get_or before k d) s.name q (first_none before s.name r k d l))

none_if_named : (t : NamedValue) (name : List ℕ) (b : Bool) → bytes_eq t.name name ≡ b →
    (t.name ≡ name → strong_by t ≡ None) → some_if b (strong_by t) ≡ None
none_if_named t name false q h = refl
none_if_named t name true q h = h (same_name t.name name q)

not_strong : (t : NamedValue) (o : Option Definition) → strong_by t ≡ o → (IsStrong t → ⊥) → o ≡ None
not_strong t None e h = refl
not_strong t (Some d) e h = absurd (h (strong_if t (λ n. let f : None ≡ Some d = sym n ∙ e in cc)))

none_of : (xs : List NamedValue) (name : List ℕ) → All (λ t. if_named name t (strong_by t) ≡ None) xs →
    strong_of xs name ≡ None
unfolding strong_of
none_of xs name h = none_in (λ t. if_named name t (strong_by t)) xs h

none_before : (before : List NamedValue) (s : NamedValue) → All (λ t. Differ t s) before → duplicate_of before s ≡ None
none_before before s h = by (strong_by s) refl
  where
    by : (x : Option Definition) → strong_by s ≡ x → duplicate_by s x (strong_of before s.name) ≡ None
    by None p = refl
    by (Some d) p =
        let strong = strong_if s (λ n. let f : None ≡ Some d = sym n ∙ p in cc) in
        let none = none_of before s.name (λ k d l. let t = get_or before k d in none_if_named t s.name (bytes_eq t.name s.name) refl (λ same. not_strong t (strong_by t) refl (λ a. h k d l a strong same))) in
        ap (duplicate_by s (Some d)) none

-- ---- all pairs

-- each pair whose later one is not among so many at the front
abbrev PairsFrom : ℕ → List NamedValue → Type 0
PairsFrom n xs = (i j : ℕ) (d : NamedValue) → i < j → n ≤ j → j < length xs → Differ (get_or xs i d) (get_or xs j d)

here_is : (before ss : List NamedValue) (s d : NamedValue) (j : ℕ) → j ≡ length before →
    get_or (before ++ s ∷ ss) j d ≡ s
here_is before ss s d j e = let z : j ≡ length before + 0 = omega (arith, e) in ap (λ (n : ℕ). get_or (before ++ s ∷ ss) n d) z ∙ get_or-append-add before (s ∷ ss) 0 d

one_more : (before ss : List NamedValue) (s : NamedValue) → (before ++ s ∷ []) ++ ss ≡ before ++ s ∷ ss
one_more before ss s = append_assoc before (s ∷ []) ss

pairs_by : (before ss : List NamedValue) (s : NamedValue) → duplicate_of before s ≡ None →
    PairsFrom (length (before ++ s ∷ [])) ((before ++ s ∷ []) ++ ss) → (i j : ℕ) (d : NamedValue) → i < j →
    j < length (before ++ s ∷ ss) →
    (length before < j) ⊎ (j ≤ length before) → length before ≤ j → Differ (get_or (before ++ s ∷ ss) i d) (get_or (before ++ s ∷ ss) j d)
pairs_by before ss s e more i j d lt l (inl h) le =
    let n = length-append before (s ∷ []) in
    subst (λ (xs : List NamedValue). Differ (get_or xs i d) (get_or xs j d)) (one_more before ss s)
    (more i j d lt (omega (arith, n, h)) (let m = ap length (one_more before ss s) in omega (arith, m, l)))
pairs_by before ss s e more i j d lt l (inr h) le =
    let at : j ≡ length before = omega arith in
    subst (λ (t : NamedValue). Differ (get_or (before ++ s ∷ ss) i d) t) (sym (here_is before ss s d j at))
    (subst (λ (t : NamedValue). Differ t s) (sym (get_or-append before (s ∷ ss) d i (omega (arith, at, lt)))) (before_none before s e i d (omega (arith, at, lt))))

pairs : (before ss : List NamedValue) → duplicate before ss ≡ None → PairsFrom (length before) (before ++ ss)
unfolding duplicate
pairs before [] e i j d lt le l = absurd (let n = length-append before (let none : List NamedValue = [] in none) in omega (arith, n))
pairs before (s ∷ ss) e i j d lt le l =
    let parts = both_none (duplicate_of before s) (duplicate (before ++ s ∷ []) ss) e in
    pairs_by before ss s parts.0 (pairs (before ++ s ∷ []) ss parts.1) i j d lt l (cases_lt (length before) j) le

pub no_duplicates : (xs : List NamedValue) → duplicate [] xs ≡ None → OneStrongEach xs
no_duplicates xs e i j d lt l = pairs [] xs e i j d lt (omega arith) l

no_pairs : (before ss : List NamedValue) → PairsFrom (length before) (before ++ ss) → duplicate before ss ≡ None
unfolding duplicate
no_pairs before [] h = refl
no_pairs before (s ∷ ss) h = or_none _ _
    (none_before before s (λ k d l.
    let n = length-append before (s ∷ ss) in
    subst (λ (t : NamedValue). Differ (get_or before k d) t) (here_is before ss s d (length before) refl)
    (subst (λ (t : NamedValue). Differ t (get_or (before ++ s ∷ ss) (length before) d)) (get_or-append before (s ∷ ss) d k l) (h k (length before) d l (omega arith) (omega (arith, n))))))
    (no_pairs (before ++ s ∷ []) ss (λ i j d lt le l.
    let n = length-append before (s ∷ []) in
    let m = ap length (one_more before ss s) in
    subst (λ (xs : List NamedValue). Differ (get_or xs i d) (get_or xs j d)) (sym (one_more before ss s)) (h i j d lt (omega (arith, n, le)) (omega (arith, m, l)))))

pub duplicates : (xs : List NamedValue) → OneStrongEach xs → duplicate [] xs ≡ None
duplicates xs h = no_pairs [] xs (λ i j d lt le l. h i j d lt l)
