-- What the statements of a source keep; its labels stand at even offsets.
use Rattle.std.proofs.Common.{ℕ, suc, ◌≡◌, ◌≢◌, ◌+◌, ◌-◌, ◌%◌, ◌<◌, ◌≤◌, Bool, true, false, cond, List, [], ◌∷◌, length, set, Option, Some, None, is_some, Ok, Err, nat_lt, nat_eq, refl, ap, sym, subst, ◌∙◌, arith, ◌⊎◌, inl, inr}
use Rattle.std.specs.List.{All}
use Rattle.std.proofs.lemmas.Bool.{cases_lt}
use Rattle.std.proofs.lemmas.List.{get_or-set_other, get_or-set_same, set_past}
use Rattle.std.proofs.lemmas.List.Elements.{All-push, All-set}
use Rattle.asm_text.specs.declared.TheConstants.{MAX_SECTIONS, MAX_LABELS}
use Rattle.asm_line.specs.declared.TheConstants.{MAX_SIZE}
use Rattle.asm_text.specs.declared.placing.Head.{Head}
use Rattle.asm_text.specs.declared.placing.Spot.{Spot}
use Rattle.asm_text.specs.declared.unit.AsmFault.TheVariants.{Place, Twice, TooMany, Large}
use Rattle.asm_line.specs.declared.statement.SectionKind.{SectionKind}
use Rattle.asm_line.specs.declared.statement.Field.TheVariants.{Name}
use Rattle.asm_line.specs.declared.statement.Statement.{Statement}
use Rattle.asm_line.specs.declared.statement.Statement.TheVariants.{Section, Label, Global, Word, Space, Jump, Code}
use Rattle.asm_line.specs.Lines.{statement_of}
use Rattle.asm_text.specs.Names.{Tables, no_tables, tables_after, numbered}
use Rattle.asm_text.specs.Placing.{Placed, nowhere, has_section, placed_section, spot_of, with_label, with_bytes, within, in_section, last_head, placed, placed_from}
use Rattle.asm_text.specs.Source.{more, source_by, source_from, source_read}
use Rattle.asm_line.specs.Statements.{statement_size, kind_takes}
use Rattle.asm_text.proofs.EmittingLemmas.{next_place}
use Rattle.asm_text.proofs.LockLemmas.{ok_is}
use Rattle.asm_text.proofs.PlacedLemmas.{is_last, or_not, new_head, more_heads, spot_here, more_labels, grown_head, more_bytes}
use Rattle.asm_text.proofs.PlacingLemmas.{no_spot}
use Rattle.asm_line.proofs.WrittenLemmas.{IsWritten, statement_some}
use Rattle.texts.specs.Lines.{ended_lines, unended}

-- ---- statements

abbrev pub IsEven : Statement ℕ → Type 0
IsEven s = statement_size s % 2 ≡ 0

abbrev pub AreEven : List (Statement ℕ) → Type 0
AreEven statements = All IsEven statements

even_statement : (t : Tables) (s : Statement (List ℕ)) → IsWritten s → IsEven (numbered t s)
even_statement t (Word (Name name)) h = refl
even_statement t (Space size) h = h.1
even_statement t (Code insn a b) h = omega arith
even_statement t _ h = refl

-- what each line's statement keeps, all statements of a source do
all_from : (P : Statement ℕ → Type 0) → ((t : Tables) (s : Statement (List ℕ)) → IsWritten s → P (numbered t s)) → (n : ℕ) (t : Tables) (statements : List (Statement ℕ)) (lines : List (List ℕ)) (tail : List ℕ) → All P statements
    → All P (source_from n t statements lines tail).statements
all_from P each n t statements [] [] are = are
all_from P each n t statements [] (b ∷ tail) are = are
all_from P each n t statements (line ∷ lines) tail are = by (λ u ss are'. all_from P each (n + 1) u ss lines tail are') (statement_of line) refl
  where
    by : ((u : Tables) (ss : List (Statement ℕ)) → All P ss → All P (source_from (n + 1) u ss lines tail).statements)
        → (o : Option (Statement (List ℕ))) → statement_of line ≡ o → All P (source_by n t statements o (λ u ss. source_from (n + 1) u ss lines tail)).statements
    by again None is = are
    by again (Some s) is = again (tables_after t s) (more t statements s) (All-push P statements (numbered t s) are (each t s (statement_some line s is)))

pub source_even : (text : List ℕ) → AreEven (source_read text).statements
unfolding source_read
source_even text = all_from IsEven even_statement 1 no_tables [] (ended_lines text) (unended text) (λ k d h. absurd (omega (arith, h)))

-- ---- places

pub record IsEvenPlaced (p : Placed) : Type 0 where
  pub sizes : All (λ (h : Head). h.size % 2 ≡ 0) p.heads
  pub spots : (k : ℕ) (spot : Spot) → spot_of p.spots k ≡ Some spot → spot.offset % 2 ≡ 0

pub nowhere_even : (names : ℕ) → IsEvenPlaced (nowhere names)
nowhere_even names = record { sizes = λ k d h. absurd (omega (arith, h)); spots = λ k spot is. absurd (no_spot names k spot is) }

pub even_head : (p : Placed) (h : Head) → IsEvenPlaced p → last_head p.heads ≡ Some h → h.size % 2 ≡ 0
even_head p h i last = let l = is_last p.heads h last in subst (λ (x : Head). x.size % 2 ≡ 0) (l.is h) (i.sizes (length p.heads - 1) h l.some)

section_even : (n : ℕ) (p q : Placed) (name : ℕ) (kind : SectionKind) → IsEvenPlaced p → placed_section n p name kind ≡ Ok q → IsEvenPlaced q
section_even n p q name kind i e = by (has_section p.heads name) (nat_eq (length p.heads) MAX_SECTIONS) e
  where
    by : (c d : Bool) → cond c (Err (Twice n)) (cond d (Err (TooMany n)) (Ok (more_heads p (new_head name kind)))) ≡ Ok q → IsEvenPlaced q
    by true d e = absurd cc
    by false true e = absurd cc
    by false false e = subst IsEvenPlaced (ok_is _ q e) (record { sizes = All-push (λ (h : Head). h.size % 2 ≡ 0) p.heads (new_head name kind) i.sizes refl; spots = i.spots })

label_even : (n : ℕ) (p q : Placed) (h : Head) (name : ℕ) → IsEvenPlaced p → last_head p.heads ≡ Some h → with_label n p h name ≡ Ok q → IsEvenPlaced q
label_even n p q h name i last e = by (is_some (spot_of p.spots name)) (nat_eq (length p.labels) MAX_LABELS) e
  where
    same_at : (k : ℕ) (spot : Spot) → k ≡ name → (name < length p.spots) ⊎ (length p.spots ≤ name) → spot_of (set p.spots name (Some (spot_here p h))) k ≡ Some spot → spot.offset % 2 ≡ 0
    same_at k spot same (inl low) is =
        let there : spot_of (set p.spots name (Some (spot_here p h))) name ≡ Some (spot_here p h) = get_or-set_same p.spots name (Some (spot_here p h)) None low in
        let one : Some (spot_here p h) ≡ Some spot = sym there ∙ (ap (spot_of (set p.spots name (Some (spot_here p h)))) (sym same) ∙ is) in
        let two : spot_here p h ≡ spot = cc in
        subst (λ (s : Spot). s.offset % 2 ≡ 0) two (even_head p h i last)
    same_at k spot same (inr past) is = i.spots k spot (ap (λ xs. spot_of xs k) (sym (set_past p.spots name (Some (spot_here p h)) past)) ∙ is)

    at : (k : ℕ) (spot : Spot) → (k ≡ name) ⊎ (k ≢ name) → spot_of (set p.spots name (Some (spot_here p h))) k ≡ Some spot → spot.offset % 2 ≡ 0
    at k spot (inl same) is = same_at k spot same (cases_lt name (length p.spots)) is
    at k spot (inr other) is = i.spots k spot (sym (get_or-set_other p.spots name k (Some (spot_here p h)) None other) ∙ is)

    by : (c d : Bool) → cond c (Err (Twice n)) (cond d (Err (TooMany n)) (Ok (more_labels p h name))) ≡ Ok q → IsEvenPlaced q
    by true d e = absurd cc
    by false true e = absurd cc
    by false false e = subst IsEvenPlaced (ok_is _ q e) (record { sizes = i.sizes; spots = λ k spot is. at k spot (or_not k name) is })

bytes_even : (n : ℕ) (p q : Placed) (h : Head) (size : ℕ) → IsEvenPlaced p → size % 2 ≡ 0 → last_head p.heads ≡ Some h → with_bytes n p h size ≡ Ok q → IsEvenPlaced q
bytes_even n p q h size i even last e = by (nat_lt MAX_SIZE (h.size + size)) e
  where
    by : (c : Bool) → cond c (Err (Large n)) (Ok (more_bytes p h size)) ≡ Ok q → IsEvenPlaced q
    by true e = absurd cc
    by false e =
        let old : h.size % 2 ≡ 0 = even_head p h i last in
        subst IsEvenPlaced (ok_is _ q e) (record { sizes = All-set (λ (x : Head). x.size % 2 ≡ 0) p.heads (length p.heads - 1) (grown_head h size) (omega arith) i.sizes; spots = i.spots })

within_even : (n : ℕ) (p q : Placed) (h : Head) (s : Statement ℕ) → IsEvenPlaced p → IsEven s → last_head p.heads ≡ Some h → within n p h s ≡ Ok q → IsEvenPlaced q
within_even n p q h (Label name) i k last e = label_even n p q h name i last e
within_even n p q h (Section name kind) i k last e = bytes_even n p q h 0 i refl last e
within_even n p q h (Global name) i k last e = bytes_even n p q h 0 i refl last e
within_even n p q h (Word field) i k last e = bytes_even n p q h 2 i refl last e
within_even n p q h (Space size) i k last e = bytes_even n p q h size i k last e
within_even n p q h (Jump c t) i k last e = bytes_even n p q h 2 i refl last e
within_even n p q h (Code insn a b) i k last e = bytes_even n p q h (statement_size (Code insn a b)) i k last e

in_section_even : (n : ℕ) (p q : Placed) (s : Statement ℕ) → IsEvenPlaced p → IsEven s → in_section n p (last_head p.heads) s ≡ Ok q → IsEvenPlaced q
in_section_even n p q s i k e = by (last_head p.heads) refl e
  where
    by_kind : (h : Head) (c : Bool) → last_head p.heads ≡ Some h → cond c (within n p h s) (Err (Place n)) ≡ Ok q → IsEvenPlaced q
    by_kind h true last e = within_even n p q h s i k last e
    by_kind h false last e = absurd cc

    by : (o : Option Head) → last_head p.heads ≡ o → in_section n p o s ≡ Ok q → IsEvenPlaced q
    by None last e = absurd cc
    by (Some h) last e = by_kind h (kind_takes h.kind s) last e

pub placed_even : (n : ℕ) (p q : Placed) (s : Statement ℕ) → IsEvenPlaced p → IsEven s → placed n p s ≡ Ok q → IsEvenPlaced q
placed_even n p q (Section name kind) i k e = section_even n p q name kind i e
placed_even n p q (Global name) i k e = subst IsEvenPlaced (ok_is p q e) i
placed_even n p q (Label name) i k e = in_section_even n p q (Label name) i k e
placed_even n p q (Word field) i k e = in_section_even n p q (Word field) i k e
placed_even n p q (Space size) i k e = in_section_even n p q (Space size) i k e
placed_even n p q (Jump c t) i k e = in_section_even n p q (Jump c t) i k e
placed_even n p q (Code insn a b) i k e = in_section_even n p q (Code insn a b) i k e

pub all_even : (n : ℕ) (p q : Placed) (statements : List (Statement ℕ)) → IsEvenPlaced p → AreEven statements → placed_from n p statements ≡ Ok q → IsEvenPlaced q
all_even n p q [] i are e = subst IsEvenPlaced (ok_is p q e) i
all_even n p q (s ∷ rest) i are e =
    let x = next_place n p s rest q e in
    all_even (n + 1) x.after q rest (placed_even n p x.after s i (are 0 s (omega arith)) x.is) (λ k d h. are (suc k) d (omega arith)) x.goes
