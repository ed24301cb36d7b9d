-- The names of commons, found among the symbols.
use Rattle.std.proofs.Common.{◌≡◌, ℕ, ◌+◌, ◌<◌, ◌==◌, List, [], ◌∷◌, ◌++◌, map, length, Option, Some, None, Bool, true, false, refl, ap, sym, ◌∙◌, arith, subst}
use Rattle.std.specs.Prelude.{bytes_eq, fold}
use Rattle.std.proofs.lemmas.Bool.Decides.{nat_tests}
use Rattle.std.proofs.lemmas.List.{length-map, map-append}
use Rattle.std.proofs.lemmas.Slice.Eq.{bytes_eq-Decides}
use Rattle.link_symbols.specs.declared.names.Definition.{Definition}
use Rattle.link_symbols.specs.declared.names.Names.{Names}
use Rattle.link_symbols.specs.declared.symbol.What.{What}
use Rattle.link_symbols.specs.declared.symbol.What.TheVariants as what
use Rattle.elf_objects.specs.Object.{ObjectValue}
use Rattle.link_symbols.specs.Commons.{Common, commons_of, commons_with, commons_with_if, common_at, with_common, with_symbol}
use Rattle.link_symbols.specs.Definitions.{strong_of}
use Rattle.link_symbols.specs.CommonNames.{common_name}
use Rattle.link_symbols.specs.Passes.{some_if}
use Rattle.std.specs.Option.{option_or}
use Rattle.link_symbols.specs.Symbols.{NamedValue, named_symbols}
use Rattle.link_symbols.specs.internal.Founds.{is_common, is_common_by, with_name, FoundSoFar}
use Rattle.link_symbols.specs.internal.Maps.{name_entry}
use Rattle.link_symbols.proofs.CommonLemmas.{joined_new, common_at_append}
use Rattle.link_symbols.proofs.OrderLemmas.{ext}

some_none : {A B : Type 0} (a : A) → Some a ≡ None → B
some_none a e = cc

-- a common of a known name changes no name
known_by : (d : Common) (ds : List Common) (c : Common) (b : Bool) → bytes_eq d.name c.name ≡ b →
    (b ≡ false → map common_name (commons_with ds c) ≡ map common_name ds) → map common_name (commons_with (d ∷ ds) c) ≡ map common_name (d ∷ ds)
unfolding commons_with
known_by d ds c true q ih = rw q refl
known_by d ds c false q ih = rw q (ap (λ l. d.name ∷ l) (ih refl))

pub known_names : (n k : ℕ) (cs : List Common) (c : Common) → common_at n cs c.name ≡ Some k → map common_name (commons_with cs c) ≡ map common_name cs
known_names n k [] c e = some_none k (sym e)
known_names n k (d ∷ ds) c e = known_by d ds c (bytes_eq d.name c.name) refl
    (λ q. known_names (n + 1) k ds c (subst (λ b. option_or (some_if b (Some n)) (common_at (n + 1) ds c.name) ≡ Some k) q e))

-- nor any number
same_by : (n : ℕ) (d : Common) (ds : List Common) (c : Common) (q : List ℕ) (b : Bool) → bytes_eq d.name c.name ≡ b →
    (b ≡ false → common_at (n + 1) (commons_with ds c) q ≡ common_at (n + 1) ds q) → common_at n (commons_with (d ∷ ds) c) q ≡ common_at n (d ∷ ds) q
unfolding commons_with
same_by n d ds c q true e ih = rw e refl
same_by n d ds c q false e ih = rw e (ap (option_or (some_if (bytes_eq d.name q) (Some n))) (ih refl))

pub same_numbers : (n k : ℕ) (cs : List Common) (c : Common) (q : List ℕ) → common_at n cs c.name ≡ Some k → common_at n (commons_with cs c) q ≡ common_at n cs q
same_numbers n k [] c q e = some_none k (sym e)
same_numbers n k (d ∷ ds) c q e = same_by n d ds c q (bytes_eq d.name c.name) refl
    (λ f. same_numbers (n + 1) k ds c q (subst (λ b. option_or (some_if b (Some n)) (common_at (n + 1) ds c.name) ≡ Some k) f e))

-- a name that has a number keeps it
keeps_with : (n k : ℕ) (cs : List Common) (c : Common) (q : List ℕ) (o : Option ℕ) → common_at n cs c.name ≡ o → common_at n cs q ≡ Some k → common_at n (commons_with cs c) q ≡ Some k
keeps_with n k cs c q (Some j) e h = same_numbers n j cs c q e ∙ h
keeps_with n k cs c q None e h =
    ap (λ l. common_at n l q) (joined_new n cs c e) ∙ (common_at_append n cs c q ∙ ap (λ o. option_or o (some_if (bytes_eq c.name q) (Some (n + length cs)))) h)

keeps_if : (n k : ℕ) (d : Option Definition) (cs : List Common) (c : Common) (q : List ℕ) → common_at n cs q ≡ Some k → common_at n (commons_with_if d cs c) q ≡ Some k
keeps_if n k None cs c q h = keeps_with n k cs c q (common_at n cs c.name) refl h
keeps_if n k (Some d) cs c q h = h

keeps_symbol : (n k : ℕ) (strong : List ℕ → Option Definition) (cs : List Common) (s : NamedValue) (w : What) (q : List ℕ) → common_at n cs q ≡ Some k → common_at n (with_common strong cs s w) q ≡ Some k
keeps_symbol n k strong cs s (what.Common size align) q h = keeps_if n k (strong s.name) cs (record { name = s.name; size = size; align = align }) q h
keeps_symbol n k strong cs s _ q h = h

pub keeps : (n k : ℕ) (strong : List ℕ → Option Definition) (cs : List Common) (rest : List NamedValue) (q : List ℕ) → common_at n cs q ≡ Some k → common_at n (fold (with_symbol strong) cs rest) q ≡ Some k
keeps n k strong cs [] q h = h
keeps n k strong cs (s ∷ rest) q h = keeps n k strong (with_symbol strong cs s) rest q (keeps_symbol n k strong cs s s.what q h)

-- a number is one of those from the first on
below_by : (n k m : ℕ) (b : Bool) (o : Option ℕ) → option_or (some_if b (Some n)) o ≡ Some k → 0 < m → (o ≡ Some k → k < n + m) → k < n + m
below_by n k m true o e p ih = let same : n ≡ k = cc in omega arith
below_by n k m false o e p ih = ih e

pub below : (n k : ℕ) (cs : List Common) (q : List ℕ) → common_at n cs q ≡ Some k → k < n + length cs
below n k [] q e = some_none k (sym e)
below n k (d ∷ ds) q e = below_by n k (length (d ∷ ds)) (bytes_eq d.name q) (common_at (n + 1) ds q) e (omega arith)
    (λ f. let h = below (n + 1) k ds q f in omega arith)

-- ---- one symbol more

other_number : (k n : ℕ) → k < n → k == n ≡ false
other_number k n h = grind (arith, nat_tests)

own_number : (n : ℕ) → n == n ≡ true
own_number n = grind (arith, nat_tests)

module _ (names : Names) (first : ℕ) (all : List Common) (numbers : (q : List ℕ) → name_entry names.commons q ≡ common_at first all q) (rest : List NamedValue) where
  abbrev pub strong : List ℕ → Option Definition
  strong = name_entry names.strong

  -- whether a common's name is a new one, as its number tells
  by_number : (now : List Common) (c : Common) (found : List (List ℕ)) (o : Option ℕ) → found ≡ map common_name now → common_at first now c.name ≡ o → all ≡ fold (with_symbol strong) (commons_with now c) rest →
      with_name (is_common_by (what.Common c.size c.align) None (name_entry names.commons c.name) (first + length found)) found c.name ≡ map common_name (commons_with now c)
  by_number now c found (Some k) named e same =
      let kept : common_at first all c.name ≡ Some k = ap (λ l. common_at first l c.name) same ∙ keeps first k strong (commons_with now c) rest c.name (same_numbers first k now c c.name e ∙ e) in
      let n : length found ≡ length now = ap length named ∙ length-map now common_name in
      let low : k < first + length now = below first k now c.name e in
      let b : k == (first + length found) ≡ false = other_number k (first + length found) (omega arith) in
      ap (λ o. with_name (is_common_by (what.Common c.size c.align) None o (first + length found)) found c.name) (numbers c.name ∙ kept)
      ∙ (ap (λ t. with_name t found c.name) b ∙ (named ∙ sym (known_names first k now c e)))
  by_number now c found None named e same =
      let made : commons_with now c ≡ now ++ c ∷ [] = joined_new first now c e in
      let number : common_at first (commons_with now c) c.name ≡ Some (first + length now) =
      ap (λ l. common_at first l c.name) made ∙ (common_at_append first now c c.name
      ∙ (ap (λ o. option_or o (some_if (bytes_eq c.name c.name) (Some (first + length now)))) e
      ∙ ap (λ t. some_if t (Some (first + length now))) ((bytes_eq-Decides c.name c.name).1 refl))) in
      let kept : common_at first all c.name ≡ Some (first + length now) = ap (λ l. common_at first l c.name) same ∙ keeps first (first + length now) strong (commons_with now c) rest c.name number in
      let n : length found ≡ length now = ap length named ∙ length-map now common_name in
      let b : (first + length now) == (first + length found) ≡ true = ap (λ k. (first + length now) == (first + k)) n ∙ own_number (first + length now) in
      ap (λ o. with_name (is_common_by (what.Common c.size c.align) None o (first + length found)) found c.name) (numbers c.name ∙ kept)
      ∙ (ap (λ t. with_name t found c.name) b
      ∙ (ap (λ l. l ++ c.name ∷ []) named ∙ (sym (map-append common_name now (c ∷ [])) ∙ ap (map common_name) (sym made))))

  by_strong : (now : List Common) (c : Common) (found : List (List ℕ)) (d : Option Definition) → found ≡ map common_name now → all ≡ fold (with_symbol strong) (commons_with_if d now c) rest →
      with_name (is_common_by (what.Common c.size c.align) d (name_entry names.commons c.name) (first + length found)) found c.name ≡ map common_name (commons_with_if d now c)
  by_strong now c found None named same = by_number now c found (common_at first now c.name) named refl same
  by_strong now c found (Some d) named same = named

  by_what : (now : List Common) (s : NamedValue) (found : List (List ℕ)) (w : What) → found ≡ map common_name now → all ≡ fold (with_symbol strong) (with_common strong now s w) rest →
      with_name (is_common_by w (strong s.name) (name_entry names.commons s.name) (first + length found)) found s.name ≡ map common_name (with_common strong now s w)
  by_what now s found (what.Common size align) named same = by_strong now (record { name = s.name; size = size; align = align }) found (strong s.name) named same
  by_what now s found _ named same = named

  pub found_more : (found : List (List ℕ)) (s : NamedValue) → FoundSoFar names first all found (s ∷ rest) →
      FoundSoFar names first all (with_name (is_common names s (first + length found)) found s.name) rest
  found_more found s f = record { now = with_symbol strong f.now s; named = by_what f.now s found s.what f.named f.same; same = f.same }

pub found_none : (names : Names) (first : ℕ) (os : List ObjectValue) → ((q : List ℕ) → name_entry names.strong q ≡ strong_of (named_symbols os) q) → FoundSoFar names first (commons_of (named_symbols os)) [] (named_symbols os)
found_none names first os h = record {
  now = [];
  named = refl;
  same = ap (λ (f : List ℕ → Option Definition). fold (with_symbol f) [] (named_symbols os)) (sym (ext (name_entry names.strong) (strong_of (named_symbols os)) h));
}

pub found_all : (names : Names) (first : ℕ) (all : List Common) (found : List (List ℕ)) (rest : List NamedValue) → rest ≡ [] → FoundSoFar names first all found rest → found ≡ map common_name all
found_all names first all found rest e f = f.named ∙ ap (map common_name) (sym (f.same ∙ ap (fold (with_symbol (name_entry names.strong)) f.now) e))

pub found_next : (names : Names) (first : ℕ) (all : List Common) → ((q : List ℕ) → name_entry names.commons q ≡ common_at first all q) → (rest : List NamedValue) (found new : List (List ℕ)) (s t : NamedValue) → s ≡ t →
    new ≡ with_name (is_common names s (first + length found)) found s.name → FoundSoFar names first all found (t ∷ rest) → FoundSoFar names first all new rest
found_next names first all numbers rest found new s t e made f =
    subst (λ l. FoundSoFar names first all l rest) (sym made) (found_more names first all numbers rest found s (subst (λ x. FoundSoFar names first all found (x ∷ rest)) (sym e) f))
