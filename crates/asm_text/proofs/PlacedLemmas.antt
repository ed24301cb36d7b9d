-- What placing keeps from line to line.
use Rattle.std.proofs.Common.{ℕ, ◌≡◌, ◌≢◌, ◌+◌, ◌-◌, ◌<◌, ◌≤◌, Bool, true, false, cond, List, [], ◌∷◌, ◌++◌, length, get_or, set, Option, Some, None, is_some, Ok, Err, nat_lt, nat_eq, refl, ap, sym, subst, ◌∙◌, length-append, arith, ◌⊎◌, inl, inr}
use Rattle.std.specs.List.{AllPairs}
use Rattle.std.proofs.lemmas.Bool.Decides.{nat_tests}
use Rattle.std.proofs.lemmas.List.{length-set, length-map, map-append, get_or-set_other, get_or-set_same, get_or-map}
use Rattle.std.proofs.lemmas.List.Elements.{All-push, All-set}
use Rattle.std.proofs.lemmas.List.Folds.{list_any_at}
use Rattle.std.proofs.lemmas.List.Quantifiers.{all_pairs_push}
use Rattle.std.proofs.lemmas.Option.{slice_get_within, get_or_from_slice_get}
use Rattle.std.proofs.Math.Seq.{map-set_same}
use Rattle.asm_text.specs.declared.TheConstants.{MAX_SECTIONS, MAX_LABELS}
use Rattle.asm_line.specs.declared.TheConstants.{MAX_SIZE}
use Rattle.asm_text.specs.declared.placing.Head.{Head}
use Rattle.asm_text.specs.declared.placing.Spot.{Spot}
use Rattle.asm_text.specs.declared.unit.AsmFault.TheVariants.{Place, Twice, TooMany, Large}
use Rattle.asm_line.specs.declared.statement.SectionKind.{SectionKind}
use Rattle.asm_line.specs.declared.statement.Statement.{Statement}
use Rattle.asm_line.specs.declared.statement.Statement.TheVariants.{Section, Label, Global, Word, Space, Jump, Code}
use Rattle.asm_text.specs.internal.Known.{IsKnown}
use Rattle.asm_text.specs.internal.Placed.{IsPlaced, names_in}
use Rattle.asm_text.specs.Placing.{Placed, has_section, placed_section, spot_of, with_label, with_bytes, within, in_section, last_head, placed}
use Rattle.asm_line.specs.Statements.{statement_size, kind_takes}

-- ---- the last section

pub record IsLast (heads : List Head) (h : Head) : Type 0 where
  pub some : length heads - 1 < length heads
  pub is : (d : Head) → get_or heads (length heads - 1) d ≡ h

pub is_last : (heads : List Head) (h : Head) → last_head heads ≡ Some h → IsLast heads h
is_last heads h e = record { some = slice_get_within heads (length heads - 1) h e; is = λ d. get_or_from_slice_get heads (length heads - 1) h d e }

-- ---- a section

not_any : (heads : List Head) (name : ℕ) → has_section heads name ≡ false → (k d : ℕ) → k < length (names_in heads) → get_or (names_in heads) k d ≢ name
not_any heads name none k d low same =
    let some : Head = record { name = d; kind = kind_there heads k low; size = 0 } in
    let within : k < length heads = omega (arith, length-map heads (λ (h : Head). h.name)) in
    let at : get_or (names_in heads) k d ≡ (get_or heads k some).name = get_or-map (λ (h : Head). h.name) heads k some d within in
    let is : (get_or heads k some).name ≡ name = sym at ∙ same in
    let hit : nat_eq (get_or heads k some).name name ≡ true = grind (arith, nat_tests) in
    let any : has_section heads name ≡ true = list_any_at (λ (h : Head). nat_eq h.name name) heads k some within hit in
    absurd cc
  where
    kind_there : (heads : List Head) (k : ℕ) → k < length (names_in heads) → SectionKind
    kind_there [] k low = absurd (omega arith)
    kind_there (h ∷ heads) k low = h.kind

abbrev pub new_head : ℕ → SectionKind → Head
new_head name kind = record { name = name; kind = kind; size = 0 }

abbrev pub more_heads : Placed → Head → Placed
more_heads p head = record { heads = p.heads ++ head ∷ []; labels = p.labels; spots = p.spots }

with_section_kept : (names n : ℕ) (p q : Placed) (name : ℕ) (kind : SectionKind) → IsPlaced names p → placed_section n p name kind ≡ Ok q → IsPlaced names q
with_section_kept names n p q name kind i e = by (has_section p.heads name) (nat_eq (length p.heads) MAX_SECTIONS) refl refl e
  where
    kept : has_section p.heads name ≡ false → nat_eq (length p.heads) MAX_SECTIONS ≡ false → IsPlaced names (more_heads p (new_head name kind))
    kept none full =
        let head : Head = new_head name kind in
        let size : length (p.heads ++ head ∷ []) ≡ length p.heads + 1 = length-append p.heads (head ∷ []) in
        let few = i.few in
        record {
          few = grind (arith, nat_tests);
          small = All-push (λ (h : Head). h.size ≤ MAX_SIZE) p.heads head i.small (omega arith);
          differ = subst (λ (ns : List ℕ). AllPairs (λ a b. a ≢ b) ns) (sym (map-append (λ (h : Head). h.name) p.heads (head ∷ []))) (all_pairs_push (λ (a b : ℕ). a ≢ b) (names_in p.heads) name i.differ (not_any p.heads name none));
          labels = i.labels;
          known = i.known;
          spots = i.spots;
          within = λ k spot is. let old : spot.section < length p.heads = i.within k spot is in omega arith;
        }

    by : (c d : Bool) → has_section p.heads name ≡ c → nat_eq (length p.heads) MAX_SECTIONS ≡ d → cond c (Err (Twice n)) (cond d (Err (TooMany n)) (Ok (more_heads p (new_head name kind)))) ≡ Ok q → IsPlaced names q
    by true d none full e = absurd cc
    by false true none full e = absurd cc
    by false false none full e = let same : more_heads p (new_head name kind) ≡ q = cc in subst (IsPlaced names) same (kept none full)

-- ---- a label

abbrev pub spot_here : Placed → Head → Spot
spot_here p h = record { section = length p.heads - 1; offset = h.size }

abbrev pub more_labels : Placed → Head → ℕ → Placed
more_labels p h name = record { heads = p.heads; labels = p.labels ++ name ∷ []; spots = set p.spots name (Some (spot_here p h)) }

pub or_not : (a b : ℕ) → (a ≡ b) ⊎ (a ≢ b)
or_not a b = by_eq (nat_eq a b) refl
  where
    by_eq : (c : Bool) → nat_eq a b ≡ c → (a ≡ b) ⊎ (a ≢ b)
    by_eq true y = inl (grind (arith, nat_tests))
    by_eq false y = inr (grind (arith, nat_tests))

with_label_kept : (names n : ℕ) (p q : Placed) (h : Head) (name : ℕ) → IsPlaced names p → name < names → last_head p.heads ≡ Some h → with_label n p h name ≡ Ok q → IsPlaced names q
with_label_kept names n p q h name i known last e = by (is_some (spot_of p.spots name)) (nat_eq (length p.labels) MAX_LABELS) refl e
  where
    at : (k : ℕ) (spot : Spot) → (k ≡ name) ⊎ (k ≢ name) → spot_of (set p.spots name (Some (spot_here p h))) k ≡ Some spot → spot.section < length p.heads
    at k spot (inl same) is =
        let low : name < length p.spots = let s = i.spots in omega arith in
        let there : spot_of (set p.spots name (Some (spot_here p h))) name ≡ Some (spot_here p h) = get_or-set_same p.spots name (Some (spot_here p h)) None low in
        let one : Some (spot_here p h) ≡ Some spot = sym there ∙ (ap (spot_of (set p.spots name (Some (spot_here p h)))) (sym same) ∙ is) in
        let two : spot_here p h ≡ spot = cc in
        let l = is_last p.heads h last in
        subst (λ (s : Spot). s.section < length p.heads) two l.some
    at k spot (inr other) is = i.within k spot (sym (get_or-set_other p.spots name k (Some (spot_here p h)) None other) ∙ is)

    kept : nat_eq (length p.labels) MAX_LABELS ≡ false → IsPlaced names (more_labels p h name)
    kept full = record {
      few = i.few;
      small = i.small;
      differ = i.differ;
      labels = let most = i.labels in let more = length-append p.labels (name ∷ []) in grind (arith, nat_tests);
      known = All-push (λ k. k < names) p.labels name i.known known;
      spots = length-set p.spots name (Some (spot_here p h)) ∙ i.spots;
      within = λ k spot is. at k spot (or_not k name) is;
    }

    by : (c d : Bool) → nat_eq (length p.labels) MAX_LABELS ≡ d → cond c (Err (Twice n)) (cond d (Err (TooMany n)) (Ok (more_labels p h name))) ≡ Ok q → IsPlaced names q
    by true d full e = absurd cc
    by false true full e = absurd cc
    by false false full e = let same : more_labels p h name ≡ q = cc in subst (IsPlaced names) same (kept full)

-- ---- bytes

abbrev pub grown_head : Head → ℕ → Head
grown_head h size = record { name = h.name; kind = h.kind; size = h.size + size }

abbrev pub more_bytes : Placed → Head → ℕ → Placed
more_bytes p h size = record { heads = set p.heads (length p.heads - 1) (grown_head h size); labels = p.labels; spots = p.spots }

with_bytes_kept : (names n : ℕ) (p q : Placed) (h : Head) (size : ℕ) → IsPlaced names p → last_head p.heads ≡ Some h → with_bytes n p h size ≡ Ok q → IsPlaced names q
with_bytes_kept names n p q h size i last e = by (nat_lt MAX_SIZE (h.size + size)) refl e
  where
    kept : nat_lt MAX_SIZE (h.size + size) ≡ false → IsPlaced names (more_bytes p h size)
    kept small =
        let head : Head = grown_head h size in
        let l = is_last p.heads h last in
        let same : length (set p.heads (length p.heads - 1) head) ≡ length p.heads = length-set p.heads (length p.heads - 1) head in
        let few = i.few in
        record {
          few = omega arith;
          small = All-set (λ (x : Head). x.size ≤ MAX_SIZE) p.heads (length p.heads - 1) head (grind (arith, nat_tests)) i.small;
          differ = subst (λ (ns : List ℕ). AllPairs (λ a b. a ≢ b) ns) (sym (map-set_same (λ (x : Head). x.name) p.heads (length p.heads - 1) head h (ap (λ (x : Head). x.name) (sym (l.is h))))) i.differ;
          labels = i.labels;
          known = i.known;
          spots = i.spots;
          within = λ k spot is. let old : spot.section < length p.heads = i.within k spot is in omega arith;
        }

    by : (c : Bool) → nat_lt MAX_SIZE (h.size + size) ≡ c → cond c (Err (Large n)) (Ok (more_bytes p h size)) ≡ Ok q → IsPlaced names q
    by true small e = absurd cc
    by false small e = let same : more_bytes p h size ≡ q = cc in subst (IsPlaced names) same (kept small)

-- ---- a line

within_kept : (names n : ℕ) (p q : Placed) (h : Head) (s : Statement ℕ) → IsPlaced names p → IsKnown names s → last_head p.heads ≡ Some h → within n p h s ≡ Ok q → IsPlaced names q
within_kept names n p q h (Label name) i k last e = with_label_kept names n p q h name i k last e
within_kept names n p q h (Section name kind) i k last e = with_bytes_kept names n p q h 0 i last e
within_kept names n p q h (Global name) i k last e = with_bytes_kept names n p q h 0 i last e
within_kept names n p q h (Word field) i k last e = with_bytes_kept names n p q h 2 i last e
within_kept names n p q h (Space size) i k last e = with_bytes_kept names n p q h size i last e
within_kept names n p q h (Jump c t) i k last e = with_bytes_kept names n p q h 2 i last e
within_kept names n p q h (Code insn a b) i k last e = with_bytes_kept names n p q h (statement_size (Code insn a b)) i last e

in_section_kept : (names n : ℕ) (p q : Placed) (s : Statement ℕ) → IsPlaced names p → IsKnown names s → in_section n p (last_head p.heads) s ≡ Ok q → IsPlaced names q
in_section_kept names n p q s i k e = by (last_head p.heads) refl e
  where
    by_kind : (h : Head) (c : Bool) → last_head p.heads ≡ Some h → cond c (within n p h s) (Err (Place n)) ≡ Ok q → IsPlaced names q
    by_kind h true last e = within_kept names n p q h s i k last e
    by_kind h false last e = absurd cc

    by : (o : Option Head) → last_head p.heads ≡ o → in_section n p o s ≡ Ok q → IsPlaced names q
    by None last e = absurd cc
    by (Some h) last e = by_kind h (kind_takes h.kind s) last e

pub placed_kept : (names n : ℕ) (p q : Placed) (s : Statement ℕ) → IsPlaced names p → IsKnown names s → placed n p s ≡ Ok q → IsPlaced names q
placed_kept names n p q (Section name kind) i k e = with_section_kept names n p q name kind i e
placed_kept names n p q (Global name) i k e = let same : p ≡ q = cc in subst (IsPlaced names) same i
placed_kept names n p q (Label name) i k e = in_section_kept names n p q (Label name) i k e
placed_kept names n p q (Word field) i k e = in_section_kept names n p q (Word field) i k e
placed_kept names n p q (Space size) i k e = in_section_kept names n p q (Space size) i k e
placed_kept names n p q (Jump c t) i k e = in_section_kept names n p q (Jump c t) i k e
placed_kept names n p q (Code insn a b) i k e = in_section_kept names n p q (Code insn a b) i k e
