-- A symbol that defines its name strongly is what its name stands for, where no name has two such symbols.
use Rattle.std.proofs.Common.{◌≡◌, ℕ, zero, suc, ◌+◌, ◌<◌, List, [], ◌∷◌, ◌++◌, drop, length, get_or, Option, Some, None, true, refl, ap, sym, subst, ◌∙◌, arith, append_assoc}
use Rattle.std.specs.Prelude.{bytes_eq}
use Rattle.std.specs.List.{flat_map}
use Rattle.std.proofs.lemmas.Slice.Eq.{bytes_eq-Decides}
use Rattle.elf_objects.specs.Object.{ObjectValue}
use Rattle.link_symbols.specs.declared.names.Definition.{Definition}
use Rattle.link_symbols.specs.declared.names.Names.{Names}
use Rattle.link_symbols.specs.declared.symbol.Meaning.{Meaning}
use Rattle.link_symbols.specs.Passes.{some_if, map_at, NumberedObject, numbered_objects, numbered_objects_from}
use Rattle.std.specs.Option.{option_or}
use Rattle.link_symbols.specs.Symbols.{NamedValue, named_symbol, named_symbols_in, named_symbols}
use Rattle.link_symbols.specs.Definitions.{definition, strong_by, strong_of, weak_of, if_named}
use Rattle.link_symbols.specs.Commons.{commons_of, common_at}
use Rattle.link_symbols.specs.Refusals.{duplicate, duplicate_by, duplicate_of}
use Rattle.link_symbols.specs.Names.{stands_by, stands_for, count_sections}
use Rattle.link_symbols.specs.internal.Meanings.{OwnMeaning, OwnMeanings, AllOwnMeanings}
use Rattle.link_symbols.specs.internal.Maps.{meaning_of_name}
use Rattle.link_symbols.proofs.Steps.{numbered_step}
use Rattle.mod_layout.proofs.FirstLemmas.{both_none, first_in_append}
use Rattle.link_symbols.proofs.OrderLemmas.{ext}
use Rattle.link_symbols.proofs.NameLemmas.{duplicate_append, strong_some}

-- ---- one symbol

-- a definition that is no second one has no earlier one
no_earlier : (s : NamedValue) (d : Definition) (found : Option Definition) → duplicate_by s (Some d) found ≡ None → found ≡ None
no_earlier s d None e = refl
no_earlier s d (Some f) e = cc

strong_append : (before after : List NamedValue) (q : List ℕ) → strong_of (before ++ after) q ≡ option_or (strong_of before q) (strong_of after q)
unfolding strong_of
strong_append before after q = first_in_append (λ s. if_named q s (strong_by s)) before after

strong_first : (s : NamedValue) (after : List NamedValue) (q : List ℕ) → strong_of (s ∷ after) q ≡ option_or (some_if (bytes_eq s.name q) (strong_by s)) (strong_of after q)
unfolding strong_of
strong_first s after q = refl

duplicate_first : (before : List NamedValue) (s : NamedValue) (after : List NamedValue) → duplicate before (s ∷ after) ≡ None → duplicate_of before s ≡ None
unfolding duplicate
duplicate_first before s after e = (both_none _ _ e).0

strong_here : (before : List NamedValue) (s : NamedValue) (after : List NamedValue) (d : Definition) → duplicate [] (before ++ (s ∷ after)) ≡ None → strong_by s ≡ Some d →
    strong_of (before ++ (s ∷ after)) s.name ≡ Some d
strong_here before s after d e is =
    let both = both_none _ _ (sym (duplicate_append [] before (s ∷ after)) ∙ e) in
    let here : duplicate_by s (Some d) (strong_of before s.name) ≡ None = subst (λ (o : Option Definition). duplicate_by s o (strong_of before s.name) ≡ None) is (duplicate_first before s after both.1) in
    let none = no_earlier s d (strong_of before s.name) here in
    let same : bytes_eq s.name s.name ≡ true = (bytes_eq-Decides s.name s.name).1 refl in
    strong_append before (s ∷ after) s.name
    ∙ (ap (λ o. option_or o (strong_of (s ∷ after) s.name)) none
    ∙ (strong_first s after s.name
    ∙ (ap (λ b. option_or (some_if b (strong_by s)) (strong_of after s.name)) same
    ∙ ap (λ o. option_or o (strong_of after s.name)) is)))

own_here : (os : List ObjectValue) (before : List NamedValue) (s : NamedValue) (after : List NamedValue) → named_symbols os ≡ before ++ (s ∷ after) → duplicate [] (named_symbols os) ≡ None → OwnMeaning (stands_for os) s
unfolding stands_for
own_here os before s after e none = λ m global defined.
    let d = definition s m in
    let h : strong_of (named_symbols os) s.name ≡ Some d = subst (λ (l : List NamedValue). strong_of l s.name ≡ Some d) (sym e)
    (strong_here before s after d (subst (λ (l : List NamedValue). duplicate [] l ≡ None) e none) (strong_some s m defined global)) in
    ap (λ o. stands_by o (common_at (count_sections os) (commons_of (named_symbols os)) s.name) (weak_of (named_symbols os) s.name)) h

-- ---- the symbols of an object

-- a list of numbered elements around one of them
record Around {X A : Type 0} (f : ℕ → X → A) (xs : List X) (i k : ℕ) (d : X) : Type 0 where
  pub front : List A
  pub later : List A
  pub whole : map_at f i xs ≡ front ++ (f (i + k) (get_or xs k d) ∷ later)

around : {X A : Type 0} (f : ℕ → X → A) (xs : List X) (i k : ℕ) (d : X) → k < length xs → Around f xs i k d
around f [] i k d h = absurd (omega arith)
around f (x ∷ xs) i zero d h =
    let e : i ≡ i + zero = omega arith in
    record { front = []; later = map_at f (i + 1) xs; whole = ap (λ (n : ℕ). f n x ∷ map_at f (i + 1) xs) e }
around f (x ∷ xs) i (suc k) d h =
    let r = around f xs (i + 1) k d (omega arith) in
    let e : i + 1 + k ≡ i + suc k = omega arith in
    record {
      front = f i x ∷ r.front;
      later = r.later;
      whole = ap (λ l. f i x ∷ l) r.whole ∙ ap (λ (n : ℕ). f i x ∷ (r.front ++ (f n (get_or xs k d) ∷ r.later))) e;
    }

own_in : (os : List ObjectValue) (before : List NamedValue) (x : NumberedObject) (after : List NamedValue) → named_symbols os ≡ before ++ (named_symbols_in x ++ after) → duplicate [] (named_symbols os) ≡ None → OwnMeanings (stands_for os) x
own_in os before x after e none = λ k d h.
    let r = around (named_symbol x) x.object.symbols 0 k d h in
    let s = named_symbol x k (get_or x.object.symbols k d) in
    let z : 0 + k ≡ k = omega arith in
    let whole : named_symbols_in x ≡ r.front ++ (s ∷ r.later) = r.whole ∙ ap (λ (n : ℕ). r.front ++ (named_symbol x n (get_or x.object.symbols k d) ∷ r.later)) z in
    own_here os (before ++ r.front) s (r.later ++ after)
    (e ∙ (ap (λ l. before ++ (l ++ after)) whole ∙ (ap (λ l. before ++ l) (append_assoc r.front (s ∷ r.later) after) ∙ sym (append_assoc before r.front (s ∷ (r.later ++ after)))))) none

-- ---- all objects

own_all_by : (os : List ObjectValue) (before : List NamedValue) (xs : List NumberedObject) → named_symbols os ≡ before ++ flat_map named_symbols_in xs → duplicate [] (named_symbols os) ≡ None → AllOwnMeanings (stands_for os) xs
own_all_by os before [] e none = tt
own_all_by os before (x ∷ xs) e none =
    (own_in os before x (flat_map named_symbols_in xs) e none, own_all_by os (before ++ named_symbols_in x) xs (e ∙ sym (append_assoc before (named_symbols_in x) (flat_map named_symbols_in xs))) none)

pub own_all : (names : Names) (os : List ObjectValue) → duplicate [] (named_symbols os) ≡ None → ((q : List ℕ) → meaning_of_name names q ≡ stands_for os q) → AllOwnMeanings (meaning_of_name names) (numbered_objects os)
own_all names os none known =
    subst (λ (f : List ℕ → Option Meaning). AllOwnMeanings f (numbered_objects os)) (sym (ext (meaning_of_name names) (stands_for os) known)) (own_all_by os [] (numbered_objects os) refl none)

-- ---- one object of all

own_both : (names : List ℕ → Option Meaning) (os : List ObjectValue) (i first : ℕ) (o : ObjectValue) → i < length os → o ≡ get_or os i o → AllOwnMeanings names (numbered_objects_from i first (drop i os)) →
    OwnMeanings names (record { number = i; first = first; object = o }) × AllOwnMeanings names (numbered_objects_from (i + 1) (first + length o.sections) (drop (i + 1) os))
own_both names os i first o h is all = subst (λ (xs : List NumberedObject). AllOwnMeanings names xs) (numbered_step os i first o h is) all

pub own_one : (names : List ℕ → Option Meaning) (os : List ObjectValue) (i first : ℕ) (o : ObjectValue) → i < length os → o ≡ get_or os i o → AllOwnMeanings names (numbered_objects_from i first (drop i os)) →
    OwnMeanings names (record { number = i; first = first; object = o })
own_one names os i first o h is all = (own_both names os i first o h is all).0

pub own_next : (names : List ℕ → Option Meaning) (os : List ObjectValue) (i first n : ℕ) (o : ObjectValue) → i < length os → o ≡ get_or os i o → n ≡ length o.sections → AllOwnMeanings names (numbered_objects_from i first (drop i os)) →
    AllOwnMeanings names (numbered_objects_from (i + 1) (first + n) (drop (i + 1) os))
own_next names os i first n o h is same all = subst (λ (m : ℕ). AllOwnMeanings names (numbered_objects_from (i + 1) (first + m) (drop (i + 1) os))) (sym same) (own_both names os i first o h is all).1
