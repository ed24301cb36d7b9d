-- Names noted one after another.
use Rattle.std.proofs.Common.{◌≡◌, ℕ, List, [], ◌∷◌, ◌++◌, Option, Some, None, Bool, true, false, not, cond, refl, ap, sym, ◌∙◌, subst, append_assoc, append-nil}
use Rattle.std.specs.Prelude.{bytes_eq, option_map}
use Rattle.std.proofs.lemmas.Slice.Eq.{bytes_eq-Decides}
use Rattle.link_symbols.specs.declared.names.Definition.{Definition}
use Rattle.link_symbols.specs.declared.symbol.Meaning.{Meaning}
use Rattle.link_symbols.specs.declared.names.Names.{Names}
use Rattle.link_symbols.specs.declared.fault.LinkFault.{LinkFault}
use Rattle.mod_layout.specs.First.{first_in}
use Rattle.link_symbols.specs.Passes.{some_if, IsLinkFaultOf}
use Rattle.std.specs.Option.{option_or}
use Rattle.link_symbols.specs.Refusals.{duplicate, duplicate_of}
use Rattle.link_symbols.specs.Symbols.{NamedValue}
use Rattle.link_symbols.specs.Definitions.{definition, definition_of, strong_by, weak_by, strong_of, weak_of, if_named, is_global}
use Rattle.link_symbols.specs.internal.Maps.{name_entry, HoldsNames, IsFirst, AreFirsts}
use Rattle.mod_layout.proofs.FirstLemmas.{or_else_none, or_else_assoc, first_in_append}

-- a name that is not there is noted
pub note_new : {A : Type 0} (old : List ℕ → Option A) (name q : List ℕ) (a : A) (b : Bool) → bytes_eq name q ≡ b → old name ≡ None →
    cond b (Some a) (old q) ≡ option_or (old q) (some_if b (Some a))
note_new old name q a true e none =
    let same : name ≡ q = (bytes_eq-Decides name q).0 e in
    let o : old q ≡ None = ap old (sym same) ∙ none in
    rw o refl
note_new old name q a false e none = sym (or_else_none (old q))

kept_none : {A : Type 0} (b : Bool) → some_if {A = A} b None ≡ None
kept_none true = refl
kept_none false = refl

pub strong_more : (before : List NamedValue) (s : NamedValue) (q : List ℕ) → strong_of (before ++ s ∷ []) q ≡ option_or (strong_of before q) (some_if (bytes_eq s.name q) (strong_by s))
unfolding strong_of
strong_more before s q = first_in_append (λ t. if_named q t (strong_by t)) before (s ∷ []) ∙ ap (option_or (first_in (λ t. if_named q t (strong_by t)) before)) (or_else_none (some_if (bytes_eq s.name q) (strong_by s)))

pub weak_more : (before : List NamedValue) (s : NamedValue) (q : List ℕ) → weak_of (before ++ s ∷ []) q ≡ option_or (weak_of before q) (some_if (bytes_eq s.name q) (weak_by s))
unfolding weak_of
weak_more before s q = first_in_append (λ t. if_named q t (weak_by t)) before (s ∷ []) ∙ ap (option_or (first_in (λ t. if_named q t (weak_by t)) before)) (or_else_none (some_if (bytes_eq s.name q) (weak_by s)))

-- ---- symbols one after another

pub strong_none : (s : NamedValue) → definition_of s ≡ None → strong_by s ≡ None
unfolding strong_by
strong_none s e = ap (λ o. some_if (is_global s.binding) (option_map (definition s) o)) e ∙ kept_none (is_global s.binding)

pub weak_none : (s : NamedValue) → definition_of s ≡ None → weak_by s ≡ None
unfolding weak_by
weak_none s e = ap (λ o. some_if (not (is_global s.binding)) o) e ∙ kept_none (not (is_global s.binding))

pub strong_some : (s : NamedValue) (m : Meaning) → definition_of s ≡ Some m → is_global s.binding ≡ true → strong_by s ≡ Some (definition s m)
unfolding strong_by
strong_some s m e g = rw (e, g) refl

pub weak_some : (s : NamedValue) (m : Meaning) → definition_of s ≡ Some m → is_global s.binding ≡ false → weak_by s ≡ Some m
unfolding weak_by
weak_some s m e g = rw (e, g) refl

pub strong_weak : (s : NamedValue) → is_global s.binding ≡ false → strong_by s ≡ None
unfolding strong_by
strong_weak s g = rw g refl

pub weak_strong : (s : NamedValue) → is_global s.binding ≡ true → weak_by s ≡ None
unfolding weak_by
weak_strong s g = rw g refl

-- ---- first weak definitions

-- what stays in a map stays the first one
pub firsts_stay : (old new : List ℕ → Option Meaning) (ss : List NamedValue) (os : List (Option Meaning)) → ((q : List ℕ) (m : Meaning) → old q ≡ Some m → new q ≡ Some m) →
    AreFirsts old ss os → AreFirsts new ss os
firsts_stay old new [] [] keep f = tt
firsts_stay old new [] (o ∷ os) keep f = absurd f
firsts_stay old new (s ∷ ss) [] keep f = absurd f
firsts_stay old new (s ∷ ss) (o ∷ os) keep f = ((λ m e. keep s.name m (f.0 m e)), firsts_stay old new ss os keep f.1)

pub firsts_more : (weak : List ℕ → Option Meaning) (ss : List NamedValue) (s : NamedValue) (os : List (Option Meaning)) (o : Option Meaning) → IsFirst weak s o →
    AreFirsts weak ss os → AreFirsts weak (ss ++ s ∷ []) (os ++ o ∷ [])
firsts_more weak [] s [] o is f = (is, tt)
firsts_more weak [] s (p ∷ os) o is f = absurd f
firsts_more weak (t ∷ ss) s [] o is f = absurd f
firsts_more weak (t ∷ ss) s (p ∷ os) o is f = (f.0, firsts_more weak ss s os o is f.1)

pub kept_some : {A : Type 0} (old new more : Option A) (a : A) → new ≡ option_or old more → old ≡ Some a → new ≡ Some a
kept_some old new more a e is = e ∙ ap (λ o. option_or o more) is

pub none_first : (weak : List ℕ → Option Meaning) (s : NamedValue) → IsFirst weak s None
none_first weak s = λ m e. cc

pub some_first : (weak : List ℕ → Option Meaning) (s : NamedValue) (a : Meaning) → weak s.name ≡ Some a → IsFirst weak s (Some a)
some_first weak s a is = λ m e. is ∙ e

-- what the maps have after a symbol more
pub holds_more : (old new : Names) (before : List NamedValue) (s : NamedValue) (d : Option Definition) (w : Option Meaning) →
    strong_by s ≡ d → weak_by s ≡ w →
    ((q : List ℕ) → name_entry new.strong q ≡ option_or (name_entry old.strong q) (some_if (bytes_eq s.name q) d)) →
    ((q : List ℕ) → name_entry new.weak q ≡ option_or (name_entry old.weak q) (some_if (bytes_eq s.name q) w)) →
    (o : Option Meaning) → IsFirst (name_entry new.weak) s o → new.firsts.items ≡ old.firsts.items ++ o ∷ [] →
    HoldsNames old before → HoldsNames new (before ++ s ∷ [])
holds_more old new before s d w ds ws strong weak o is pushed h = record {
  strong = λ q. strong q ∙ (ap (λ o. option_or o (some_if (bytes_eq s.name q) d)) (h.strong q) ∙ (ap (λ o. option_or (strong_of before q) (some_if (bytes_eq s.name q) o)) (sym ds) ∙ sym (strong_more before s q)));
  weak = λ q. weak q ∙ (ap (λ o. option_or o (some_if (bytes_eq s.name q) w)) (h.weak q) ∙ (ap (λ o. option_or (weak_of before q) (some_if (bytes_eq s.name q) o)) (sym ws) ∙ sym (weak_more before s q)));
  firsts = subst (λ (os : List (Option Meaning)). AreFirsts (name_entry new.weak) (before ++ s ∷ []) os) (sym pushed)
      (firsts_more (name_entry new.weak) before s old.firsts.items o is
      (firsts_stay (name_entry old.weak) (name_entry new.weak) before old.firsts.items (λ q m e. kept_some (name_entry old.weak q) (name_entry new.weak q) (some_if (bytes_eq s.name q) w) m (weak q) e) h.firsts));
}

pub stays : {A : Type 0} (o : Option A) (b : Bool) → o ≡ option_or o (some_if b None)
stays o b = sym (ap (option_or o) (kept_none b) ∙ or_else_none o)

pub duplicate_append : (before xs ys : List NamedValue) → duplicate before (xs ++ ys) ≡ option_or (duplicate before xs) (duplicate (before ++ xs) ys)
unfolding duplicate
duplicate_append before [] ys = ap (λ b. duplicate b ys) (sym (append-nil before))
duplicate_append before (x ∷ xs) ys =
    ap (option_or (duplicate_of before x)) (duplicate_append (before ++ x ∷ []) xs ys ∙ ap (λ b. option_or (duplicate (before ++ x ∷ []) xs) (duplicate b ys)) (append_assoc before (x ∷ []) xs))
    ∙ sym (or_else_assoc (duplicate_of before x) (duplicate (before ++ x ∷ []) xs) (duplicate (before ++ (x ∷ xs)) ys))

pub duplicate_one : (before : List NamedValue) (s : NamedValue) → duplicate before (s ∷ []) ≡ duplicate_of before s
unfolding duplicate
duplicate_one before s = or_else_none (duplicate_of before s)

-- some of these symbols are noted, and the others are still to come
pub record Reached (names : Names) (before symbols rest : List NamedValue) : Type 0 where
  pub now : List NamedValue
  pub holds : HoldsNames names now
  pub whole : now ++ rest ≡ before ++ symbols
  pub same : duplicate before symbols ≡ duplicate now rest

pub reached_more : (old new : Names) (before symbols xs rest : List NamedValue) → Reached old before symbols (xs ++ rest) →
    ((now : List NamedValue) → HoldsNames old now → HoldsNames new (now ++ xs)) → ((now : List NamedValue) → HoldsNames old now → duplicate now xs ≡ None) →
    Reached new before symbols rest
reached_more old new before symbols xs rest r noted sound = record {
  now = r.now ++ xs;
  holds = noted r.now r.holds;
  whole = append_assoc r.now xs rest ∙ r.whole;
  same = r.same ∙ (duplicate_append r.now xs rest ∙ ap (λ o. option_or o (duplicate (r.now ++ xs) rest)) (sound r.now r.holds));
}

pub reached_hit : (names : Names) (before symbols xs rest : List NamedValue) (f : LinkFault) → Reached names before symbols (xs ++ rest) →
    ((now : List NamedValue) → HoldsNames names now → IsLinkFaultOf (duplicate now xs) f) → IsLinkFaultOf (duplicate before symbols) f
reached_hit names before symbols xs rest f r hit = λ ne.
    r.same ∙ (duplicate_append r.now xs rest ∙ ap (λ o. option_or o (duplicate (r.now ++ xs) rest)) (hit r.now r.holds ne))

pub reached_end : (names : Names) (before symbols : List NamedValue) → Reached names before symbols [] → HoldsNames names (before ++ symbols) × (duplicate before symbols ≡ None)
unfolding duplicate
reached_end names before symbols r =
    (subst (λ l. HoldsNames names l) (sym (append-nil r.now) ∙ r.whole) r.holds, r.same)

pub reached_one : (old new : Names) (before symbols rest : List NamedValue) (s t : NamedValue) → s ≡ t → Reached old before symbols (t ∷ rest) →
    ((now : List NamedValue) → HoldsNames old now → HoldsNames new (now ++ s ∷ [])) → ((now : List NamedValue) → HoldsNames old now → duplicate_of now s ≡ None) →
    Reached new before symbols rest
reached_one old new before symbols rest s t e r noted sound =
    reached_more old new before symbols (s ∷ []) rest (subst (λ x. Reached old before symbols (x ∷ rest)) (sym e) r) noted (λ now h. duplicate_one now s ∙ sound now h)

pub reached_one_hit : (names : Names) (before symbols rest : List NamedValue) (s t : NamedValue) (f : LinkFault) → s ≡ t → Reached names before symbols (t ∷ rest) →
    ((now : List NamedValue) → HoldsNames names now → IsLinkFaultOf (duplicate_of now s) f) → IsLinkFaultOf (duplicate before symbols) f
reached_one_hit names before symbols rest s t f e r hit =
    reached_hit names before symbols (s ∷ []) rest f (subst (λ x. Reached names before symbols (x ∷ rest)) (sym e) r) (λ now h ne. duplicate_one now s ∙ hit now h ne)
