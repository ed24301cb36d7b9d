-- What the lines of an accepted source write, and where its jumps lead.
use Rattle.std.proofs.Common.{ℕ, zero, suc, ◌≡◌, ◌≢◌, ◌+◌, ◌-◌, ◌%◌, ◌<◌, Bool, true, false, cond, is_some, List, [], ◌∷◌, ◌++◌, length, get_or, set, take, drop, Option, Some, None, Result, Ok, Err, nat_eq, refl, ap, sym, subst, ◌∙◌, append_assoc, arith, ◌⊎◌, inl, inr}
use Rattle.std.specs.List.{All, Contains}
use Rattle.std.specs.Prelude.{fold, flat_map, option_map, slice_get, IsSomeAnd}
use Rattle.std.proofs.lemmas.Bool.Decides.{nat_tests}
use Rattle.std.proofs.lemmas.List.Elements.{Contains-append_left, Contains-push}
use Rattle.std.proofs.lemmas.List.Quantifiers.{position-Some}
use Rattle.std.proofs.lemmas.List.{append-nil, length-set, get_or-set_same, get_or-set_other, take_at, drop_at}
use Rattle.std.proofs.lemmas.Option.{slice_get_within, get_or_from_slice_get, slice_get-get_or}
use Rattle.insn_decode.specs.declared.insn.Condition.{Condition}
use Rattle.insn_decode.specs.declared.insn.Insn.{Insn}
use Rattle.insn_decode.specs.declared.insn.Insn.TheVariants.{Jump as JumpInsn}
use Rattle.asm_text.specs.declared.placing.Head.{Head}
use Rattle.asm_text.specs.declared.placing.Spot.{Spot}
use Rattle.asm_line.specs.declared.statement.Field.{Field}
use Rattle.asm_line.specs.declared.statement.Statement.TheVariants.{Section, Label, Global, Word, Space, Jump, Code}
use Rattle.asm_line.specs.declared.statement.Statement.{Statement}
use Rattle.asm_text.specs.declared.unit.AsmFault.TheVariants.{Line as LineFault, NoLabel, Far}
use Rattle.asm_text.specs.declared.unit.AsmFault.{AsmFault}
use Rattle.asm_line.specs.declared.statement.SectionKind.TheVariants.{Code as CodeKind, Data as DataKind, Bss as BssKind}
use Rattle.asm_line.specs.declared.statement.SectionKind.{SectionKind}
use Rattle.asm_text.specs.Assembly.{name_count, symbol_order, meanings, unit_for, with_emitted, with_stop, with_placed, assembled_source, assembled}
use Rattle.asm_text.specs.Emission.{Meanings, Emitted, nothing, emitted, emitted_from, statement_bytes, field_number, with_statement, in_last, grown, reach, jump_over, jump_bytes}
use Rattle.asm_text.specs.internal.Emitted.{newest_section}
use Rattle.sm_words.specs.Bytes.{word_bytes}
use Rattle.asm_line.specs.Encoding.{leading_word, encoded_words, code_bytes, IsMeant}
use Rattle.asm_text.specs.Jumps.{LeadsToLabel, JumpsReachLabels, LabelsAreEven}
use Rattle.asm_text.specs.internal.Kept.{IsSource}
use Rattle.asm_text.specs.internal.Known.{IsKnown}
use Rattle.asm_text.specs.Parts.{SectionValue, SymbolValue, UnitValue, kept_size}
use Rattle.asm_text.specs.Places.{StandsAt, Writes, CodeIsWritten, WordsAreWritten}
use Rattle.asm_text.specs.Placing.{Placed, nowhere, spot_of, last_head, placed, unrefused, placed_from}
use Rattle.asm_text.specs.Source.{SourceRead, source_read}
use Rattle.asm_line.specs.Statements.{statement_size, kind_takes}
use Rattle.asm_text.specs.Symbols.{is_global_name, local_labels, once, once_by, below, order_of, symbol_number, symbol_by}
use Rattle.asm_text.proofs.EmittingLemmas.{next_place}
use Rattle.asm_text.proofs.EvenLemmas.{AreEven, IsEvenPlaced, source_even, nowhere_even, even_head, placed_even, all_even}
use Rattle.asm_line.proofs.JumpLemmas.{jump_means}
use Rattle.asm_text.proofs.JumpLemmas.{jumps_lead}
use Rattle.asm_text.proofs.KeptLemmas.{source_kept}
use Rattle.asm_text.proofs.LockLemmas.{Agree, Shape, SomeLast, same_number, last_there, ok_is, ok_or_is, IsTaken, taken, is_opened, agree_more}
use Rattle.asm_line.proofs.MeaningLemmas.{words_are_meant}
use Rattle.asm_line.proofs.WordLemmas.{option_map_some}
use Rattle.asm_text.proofs.OrderLemmas.{length_below, below_at}
use Rattle.asm_text.proofs.PlacedLemmas.{or_not}
use Rattle.asm_text.proofs.SymbolLemmas.{each_symbol, symbol_has}

-- ---- bytes that were written stay

-- a section that this one's bytes begin
pub record IsMore (sections : List SectionValue) (k : ℕ) (s : SectionValue) : Type 0 where
  pub found : SectionValue
  pub more : List ℕ
  pub at : slice_get sections k ≡ Some found
  pub bytes : found.bytes ≡ s.bytes ++ more

abbrev Keeps : List SectionValue → List SectionValue → Type 0
Keeps xs ys = (k : ℕ) (s : SectionValue) → slice_get xs k ≡ Some s → IsMore ys k s

keeps_same : (xs : List SectionValue) → Keeps xs xs
keeps_same xs k s is = record { found = s; more = []; at = is; bytes = sym (append-nil s.bytes) }

keeps_all : (xs ys zs : List SectionValue) → Keeps xs ys → Keeps ys zs → Keeps xs zs
keeps_all xs ys zs f g k s is =
    let one = f k s is in
    let two = g k one.found one.at in
    record { found = two.found; more = one.more ++ two.more; at = two.at; bytes = two.bytes ∙ (ap (λ bs. bs ++ two.more) one.bytes ∙ append_assoc s.bytes one.more two.more) }

get_front : (xs : List SectionValue) (y s : SectionValue) (k : ℕ) → slice_get xs k ≡ Some s → slice_get (xs ++ y ∷ []) k ≡ Some s
get_front [] y s k is = absurd cc
get_front (x ∷ xs) y s zero is = is
get_front (x ∷ xs) y s (suc k) is = get_front xs y s k is

keeps_push : (xs : List SectionValue) (y : SectionValue) → Keeps xs (xs ++ y ∷ [])
keeps_push xs y k s is = record { found = s; more = []; at = get_front xs y s k is; bytes = sym (append-nil s.bytes) }

keeps_set : (xs : List SectionValue) (i size : ℕ) (last : SectionValue) (bytes : List ℕ) → slice_get xs i ≡ Some last → Keeps xs (set xs i (grown last size bytes))
keeps_set xs i size last bytes there k s is = by (or_not k i) (subst (λ n. k < n) (sym length_is) low)
  where
    low : k < length xs
    low = slice_get_within xs k s is

    length_is : length (set xs i (grown last size bytes)) ≡ length xs
    length_is = length-set xs i (grown last size bytes)

    by : (k ≡ i) ⊎ (k ≢ i) → k < length (set xs i (grown last size bytes)) → IsMore (set xs i (grown last size bytes)) k s
    by (inl same) low' =
        let low_i : i < length xs = slice_get_within xs i last there in
        let both : Some last ≡ Some s = sym there ∙ (ap (slice_get xs) (sym same) ∙ is) in
        let one : last ≡ s = cc in
        record {
          found = grown last size bytes;
          more = bytes;
          at = slice_get-get_or (set xs i (grown last size bytes)) k last low' ∙ ap Some (ap (λ j. get_or (set xs i (grown last size bytes)) j last) same ∙ get_or-set_same xs i (grown last size bytes) last low_i);
          bytes = ap (λ (x : SectionValue). x.bytes ++ bytes) one;
        }
    by (inr other) low' = record {
      found = s;
      more = [];
      at = slice_get-get_or (set xs i (grown last size bytes)) k s low' ∙ ap Some (get_or-set_other xs i k (grown last size bytes) s other ∙ get_or_from_slice_get xs k s s is);
      bytes = sym (append-nil s.bytes);
    }

last_keeps : (m : Meanings) (n : ℕ) (e f : Emitted) (s : Statement ℕ) → in_last m n e (newest_section e.sections) s ≡ Ok f → Keeps e.sections f.sections
last_keeps m n e f s k = by (newest_section e.sections) refl k
  where
    by_bytes : (last : SectionValue) (r : Result (List ℕ) AsmFault) → newest_section e.sections ≡ Some last → with_statement m e last s r ≡ Ok f → Keeps e.sections f.sections
    by_bytes last (Err fault) is j = absurd cc
    by_bytes last (Ok bytes) is j = subst (λ (x : Emitted). Keeps e.sections x.sections) (ok_is _ f j) (keeps_set e.sections (length e.sections - 1) (statement_size s) last bytes is)

    by : (o : Option SectionValue) → newest_section e.sections ≡ o → in_last m n e o s ≡ Ok f → Keeps e.sections f.sections
    by None is j = absurd cc
    by (Some last) is j = by_bytes last (statement_bytes m n (length e.sections - 1) last.size s) is j

line_keeps : (m : Meanings) (n : ℕ) (e f : Emitted) (s : Statement ℕ) → emitted m n e s ≡ Ok f → Keeps e.sections f.sections
line_keeps m n e f (Section name kind) k =
    let o = is_opened m n e f name kind k in
    subst (λ (x : Emitted). Keeps e.sections x.sections) o.is (keeps_push e.sections (record { name = o.name; kind = kind; size = 0; bytes = [] }))
line_keeps m n e f (Label name) k = subst (λ (x : Emitted). Keeps e.sections x.sections) (ok_is e f k) (keeps_same e.sections)
line_keeps m n e f (Global name) k = subst (λ (x : Emitted). Keeps e.sections x.sections) (ok_is e f k) (keeps_same e.sections)
line_keeps m n e f (Word field) k = last_keeps m n e f (Word field) k
line_keeps m n e f (Space size) k = last_keeps m n e f (Space size) k
line_keeps m n e f (Jump c t) k = last_keeps m n e f (Jump c t) k
line_keeps m n e f (Code insn x y) k = last_keeps m n e f (Code insn x y) k

-- a line that is written, and the lines after it
pub record IsNextLine (m : Meanings) (n : ℕ) (e : Emitted) (s : Statement ℕ) (rest : List (Statement ℕ)) (end : Emitted) : Type 0 where
  pub after : Emitted
  pub is : emitted m n e s ≡ Ok after
  pub goes : emitted_from m (n + 1) after rest ≡ Ok end

pub next_line : (m : Meanings) (n : ℕ) (e : Emitted) (s : Statement ℕ) (rest : List (Statement ℕ)) (end : Emitted) → emitted_from m n e (s ∷ rest) ≡ Ok end → IsNextLine m n e s rest end
next_line m n e s rest end k = by (emitted m n e s) refl k
  where
    by : (r : Result Emitted AsmFault) → emitted m n e s ≡ r → unrefused r (λ f. emitted_from m (n + 1) f rest) ≡ Ok end → IsNextLine m n e s rest end
    by (Ok f) is j = record { after = f; is = is; goes = j }
    by (Err fault) is j = absurd cc

lines_keep : (m : Meanings) (n : ℕ) (e f : Emitted) (statements : List (Statement ℕ)) → emitted_from m n e statements ≡ Ok f → Keeps e.sections f.sections
lines_keep m n e f [] k = subst (λ (x : Emitted). Keeps e.sections x.sections) (ok_is e f k) (keeps_same e.sections)
lines_keep m n e f (s ∷ rest) k =
    let x = next_line m n e s rest f k in
    keeps_all e.sections x.after.sections f.sections (line_keeps m n e x.after s x.is) (lines_keep m (n + 1) x.after f rest x.goes)

-- ---- a line in its source

pub record IsLine (m : Meanings) (n number : ℕ) (p : Placed) (f : Emitted) (statements : List (Statement ℕ)) (s : Statement ℕ) : Type 0 where
  pub line : ℕ
  pub before : Placed
  pub after : Placed
  pub written : Emitted
  pub next : Emitted
  pub goes : placed_from n p (take number statements) ≡ Ok before
  pub even : IsEvenPlaced before
  pub places : placed line before s ≡ Ok after
  pub agree : Agree m written before
  pub emits : emitted m line written s ≡ Ok next
  pub keeps : Keeps next.sections f.sections

at_line : (m : Meanings) (n number : ℕ) (e f : Emitted) (p q : Placed) (statements : List (Statement ℕ)) (s : Statement ℕ) → Agree m e p → IsEvenPlaced p → AreEven statements
    → placed_from n p statements ≡ Ok q → emitted_from m n e statements ≡ Ok f → slice_get statements number ≡ Some s → IsLine m n number p f statements s
at_line m n number e f p q [] s a even are j k is = absurd cc
at_line m n zero e f p q (x ∷ rest) s a even are j k is =
    let same : x ≡ s = cc in
    let place = next_place n p x rest q j in
    let line = next_line m n e x rest f k in
    subst (IsLine m n zero p f (x ∷ rest)) same (record {
      line = n;
      before = p;
      after = place.after;
      written = e;
      next = line.after;
      goes = refl;
      even = even;
      places = place.is;
      agree = a;
      emits = line.is;
      keeps = lines_keep m (n + 1) line.after f rest line.goes;
    })
at_line m n (suc number) e f p q (x ∷ rest) s a even are j k is =
    let place = next_place n p x rest q j in
    let line = next_line m n e x rest f k in
    let r = at_line m (n + 1) number line.after f place.after q rest s (agree_more m n e line.after p place.after x a place.is line.is) (placed_even n p place.after x even (are 0 x (omega arith)) place.is)
    (λ i d h. are (suc i) d (omega arith)) place.goes line.goes is in
    record {
      line = r.line;
      before = r.before;
      after = r.after;
      written = r.written;
      next = r.next;
      goes = ap (λ y. unrefused y (λ z. placed_from (n + 1) z (take number rest))) place.is ∙ r.goes;
      even = r.even;
      places = r.places;
      agree = r.agree;
      emits = r.emits;
      keeps = r.keeps;
    }

-- ---- a jump

-- a jump whose word is written
pub record IsJump (m : Meanings) (section here : ℕ) (cn : Condition) (target : ℕ) (bytes : List ℕ) : Type 0 where
  pub offset : ℕ
  pub spot : spot_of m.spots target ≡ Some (record { section = section; offset = offset })
  pub word : ℕ
  pub first : leading_word (JumpInsn cn (reach here offset)) ≡ Some word
  pub are : bytes ≡ word_bytes word

is_jump : (m : Meanings) (n section here : ℕ) (cn : Condition) (target : ℕ) (bytes : List ℕ) → jump_bytes n section here cn (spot_of m.spots target) ≡ Ok bytes → IsJump m section here cn target bytes
is_jump m n section here cn target bytes k = by (spot_of m.spots target) refl k
  where
    by_words : (spot : Spot) → spot_of m.spots target ≡ Some spot → spot.section ≡ section → code_bytes (JumpInsn cn (reach here spot.offset)) ≡ Some bytes → IsJump m section here cn target bytes
    by_words spot is same j = option_map_some (flat_map word_bytes) (encoded_words (JumpInsn cn (reach here spot.offset))) bytes j (λ words made puts.
        option_map_some (λ w. w ∷ []) (leading_word (JumpInsn cn (reach here spot.offset))) words made (λ word first are. record {
          offset = spot.offset;
          spot = is ∙ ap Some (λ i. record { section = same i; offset = spot.offset });
          word = word;
          first = first;
          are = sym puts ∙ ap (flat_map word_bytes) (sym are);
        }))

    by_section : (spot : Spot) (c : Bool) → spot_of m.spots target ≡ Some spot → nat_eq spot.section section ≡ c
        → cond c (jump_over n cn (reach here spot.offset)) (Err (NoLabel n)) ≡ Ok bytes → IsJump m section here cn target bytes
    by_section spot true is same j = by_words spot is (grind (arith, nat_tests)) (ok_or_is (code_bytes (JumpInsn cn (reach here spot.offset))) (Far n (reach here spot.offset)) bytes j)
    by_section spot false is same j = absurd cc

    by : (o : Option Spot) → spot_of m.spots target ≡ o → jump_bytes n section here cn o ≡ Ok bytes → IsJump m section here cn target bytes
    by None is j = absurd cc
    by (Some spot) is j = by_section spot (nat_eq spot.section section) is refl j

-- ---- bytes that a line writes

-- a statement that no section of zeros takes
abbrev IsFull : Statement ℕ → Type 0
IsFull s = (kind : SectionKind) → kind_takes kind s ≡ true → (size : ℕ) → kept_size kind size ≡ size

word_full : (field : Field ℕ) → IsFull (Word field)
word_full field CodeKind e size = refl
word_full field DataKind e size = refl
word_full field BssKind e size = absurd cc

jump_full : (c : Condition) (target : ℕ) → IsFull (Jump c target)
jump_full c target CodeKind e size = refl
jump_full c target DataKind e size = absurd cc
jump_full c target BssKind e size = absurd cc

code_full : (insn : Insn) (a b : Option ℕ) → IsFull (Code insn a b)
code_full insn a b CodeKind e size = refl
code_full insn a b DataKind e size = absurd cc
code_full insn a b BssKind e size = absurd cc

-- a section in which the bytes of a statement were written
pub record HasBytes (m : Meanings) (n : ℕ) (p : Placed) (f : Emitted) (s : Statement ℕ) : Type 0 where
  pub head : Head
  pub last : last_head p.heads ≡ Some head
  pub bytes : List ℕ
  pub made : statement_bytes m n (length p.heads - 1) head.size s ≡ Ok bytes
  pub home : SectionValue
  pub front : List ℕ
  pub back : List ℕ
  pub given : slice_get f.sections (length p.heads - 1) ≡ Some home
  pub whole : home.bytes ≡ (front ++ bytes) ++ back
  pub size : length front ≡ head.size

has_bytes : (m : Meanings) (n : ℕ) (e next f : Emitted) (p q : Placed) (s : Statement ℕ) → IsFull s → Agree m e p → IsTaken p q s → in_last m n e (newest_section e.sections) s ≡ Ok next → Keeps next.sections f.sections → HasBytes m n p f s
has_bytes m n e next f p q s full a t emits keeps =
    let there = last_there m e p t.head a t.is in
    by there (statement_bytes m n (length e.sections - 1) there.last.size s) refl (ap (λ o. in_last m n e o s) (sym there.lasts.last_is) ∙ emits)
  where
    by : (there : SomeLast m e p t.head) (r : Result (List ℕ) AsmFault) → statement_bytes m n (length e.sections - 1) there.last.size s ≡ r → with_statement m e there.last s r ≡ Ok next → HasBytes m n p f s
    by there (Err fault) is k = absurd cc
    by there (Ok bytes) is k =
        let number = same_number m e p a in
        let at : length e.sections - 1 ≡ length p.heads - 1 = omega arith in
        let sizes : there.last.size ≡ t.head.size = ap (λ (x : Shape). x.size) there.lasts.same in
        let kinds : there.last.kind ≡ t.head.kind = ap (λ (x : Shape). x.kind) there.lasts.same in
        let filled : length there.last.bytes ≡ there.last.size = there.lasts.filled ∙ (ap (λ kind. kept_size kind there.last.size) kinds ∙ full t.head.kind t.takes_it there.last.size) in
        let sections : set e.sections (length e.sections - 1) (grown there.last (statement_size s) bytes) ≡ next.sections = ap (λ (x : Emitted). x.sections) (ok_is _ next k) in
        let new : slice_get next.sections (length p.heads - 1) ≡ Some (grown there.last (statement_size s) bytes) =
        ap (slice_get next.sections) (sym at) ∙ (ap (λ xs. slice_get xs (length e.sections - 1)) (sym sections) ∙ set_there e.sections (length e.sections - 1) (grown there.last (statement_size s) bytes) there.lasts.low) in
        let kept = keeps (length p.heads - 1) (grown there.last (statement_size s) bytes) new in
        record {
          head = t.head;
          last = t.is;
          bytes = bytes;
          made = ap (λ k. statement_bytes m n k t.head.size s) (sym at) ∙ (ap (λ k. statement_bytes m n (length e.sections - 1) k s) (sym sizes) ∙ is);
          home = kept.found;
          front = there.last.bytes;
          back = kept.more;
          given = kept.at;
          whole = kept.bytes;
          size = filled ∙ sizes;
        }
      where
        set_there : (xs : List SectionValue) (i : ℕ) (y : SectionValue) → i < length xs → slice_get (set xs i y) i ≡ Some y
        set_there xs i y low = slice_get-get_or (set xs i y) i y (let size : length (set xs i y) ≡ length xs = length-set xs i y in omega arith) ∙ ap Some (get_or-set_same xs i y y low)

-- ---- symbols

once_keeps : (order : List ℕ) (j k : ℕ) → Contains order j → Contains (once order k) j
once_keeps order j k has = by (symbol_number order k)
  where
    by : (o : Option ℕ) → Contains (once_by (is_some o) order k) j
    by None = Contains-append_left order (k ∷ []) j has
    by (Some i) = has

once_has : (order : List ℕ) (k : ℕ) → Contains (once order k) k
once_has order k = by (symbol_number order k) refl
  where
    by : (o : Option ℕ) → symbol_number order k ≡ o → Contains (once_by (is_some o) order k) k
    by None is = Contains-push order k
    by (Some i) is = let p = position-Some (λ j. nat_eq j k) order i k is in let hit = p.1 in (i, p.0, grind (arith, nat_tests))

fold_keeps : (order ks : List ℕ) (j : ℕ) → Contains order j → Contains (fold once order ks) j
fold_keeps order [] j has = has
fold_keeps order (k ∷ ks) j has = fold_keeps (once order k) ks j (once_keeps order j k has)

fold_has : (order ks : List ℕ) (i k : ℕ) → i < length ks → get_or ks i k ≡ k → Contains (fold once order ks) k
fold_has order [] i k low is = absurd (omega arith)
fold_has order (x ∷ ks) zero k low is = fold_keeps (once order x) ks k (subst (λ y. Contains (once order y) k) (sym is) (once_has order k))
fold_has order (x ∷ ks) (suc i) k low is = fold_has (once order x) ks i k (omega arith) is

order_has : (statements : List (Statement ℕ)) (p : Placed) (names k : ℕ) → k < names → Contains (order_of statements p names) k
unfolding order_of
order_has statements p names k low =
    fold_has (fold once [] (local_labels statements p.labels)) (below names) k k (let size = length_below names in omega arith) (below_at names k k low)

-- ---- an accepted source

pub record IsAccepted (s : SourceRead) (u : UnitValue) : Type 0 where
  pub places : Placed
  pub goes : placed_from 1 (nowhere (name_count s)) s.statements ≡ Ok places
  pub end : Emitted
  pub is : emitted_from (meanings s places) 1 nothing s.statements ≡ Ok end
  pub unit : unit_for s places end ≡ u

pub accepted : (s : SourceRead) (u : UnitValue) → assembled_source s ≡ Ok u → IsAccepted s u
accepted s u k = by (placed_from 1 (nowhere (name_count s)) s.statements) refl k
  where
    by_end : (p : Placed) (r : Result Emitted AsmFault) → placed_from 1 (nowhere (name_count s)) s.statements ≡ Ok p → emitted_from (meanings s p) 1 nothing s.statements ≡ r → with_emitted s p r ≡ Ok u → IsAccepted s u
    by_end p (Ok e) goes is j = record { places = p; goes = goes; end = e; is = is; unit = ok_is _ u j }
    by_end p (Err fault) goes is j = absurd cc

    by_stop : (p : Placed) (o : Option ℕ) → placed_from 1 (nowhere (name_count s)) s.statements ≡ Ok p → with_stop s p o ≡ Ok u → IsAccepted s u
    by_stop p None goes j = by_end p (emitted_from (meanings s p) 1 nothing s.statements) goes refl j
    by_stop p (Some n) goes j = absurd cc

    by : (r : Result Placed AsmFault) → placed_from 1 (nowhere (name_count s)) s.statements ≡ r → with_placed s r ≡ Ok u → IsAccepted s u
    by (Ok p) goes j = by_stop p s.stopped goes j
    by (Err fault) goes j = absurd cc

even_symbol : (global : Bool) (name : List ℕ) (spot : Option Spot) → ((s : Spot) → spot ≡ Some s → s.offset % 2 ≡ 0) → (symbol_by global name spot).value % 2 ≡ 0
even_symbol global name None even = refl
even_symbol global name (Some s) even = even s refl

pub labels_are_even : LabelsAreEven
unfolding assembled
labels_are_even text u k =
    let s : SourceRead = source_read text in
    let a = accepted s u k in
    let even = all_even 1 (nowhere (name_count s)) a.places s.statements (nowhere_even (name_count s)) (source_even text) a.goes in
    subst (λ (v : UnitValue). All (λ s. s.value % 2 ≡ 0) v.symbols) a.unit
    (each_symbol (λ s. s.value % 2 ≡ 0) (is_global_name s.statements) s.tables.names a.places.spots (symbol_order s a.places)
    (λ k name named. even_symbol (is_global_name s.statements k) name (spot_of a.places.spots k) (even.spots k)))

-- bytes in the midst of others
bytes_there : (all front bytes back : List ℕ) (here : ℕ) → all ≡ (front ++ bytes) ++ back → length front ≡ here → take (length bytes) (drop here all) ≡ bytes
bytes_there all front bytes back here whole size =
    ap (λ bs. take (length bytes) (drop here bs)) (whole ∙ append_assoc front bytes back)
    ∙ (ap (take (length bytes)) (drop_at front (bytes ++ back) here size) ∙ take_at bytes back (length bytes) refl)

-- the places of the statements of an accepted source
line_of : (s : SourceRead) (u : UnitValue) (a : IsAccepted s u) (number : ℕ) (x : Statement ℕ) → AreEven s.statements → slice_get s.statements number ≡ Some x → IsLine (meanings s a.places) 1 number (nowhere (name_count s)) a.end s.statements x
line_of s u a number x are is =
    let none : Agree (meanings s a.places) nothing (nowhere (name_count s)) = record { shapes = refl; filled = λ k d h. absurd (omega (arith, h)) } in
    at_line (meanings s a.places) 1 number nothing a.end (nowhere (name_count s)) a.places s.statements x none (nowhere_even (name_count s)) are a.goes a.is is

stands_at : (s : SourceRead) (u : UnitValue) (a : IsAccepted s u) (number : ℕ) (x : Statement ℕ) (line : IsLine (meanings s a.places) 1 number (nowhere (name_count s)) a.end s.statements x)
    (j : HasBytes (meanings s a.places) line.line line.before a.end x) → StandsAt s number (length line.before.heads - 1) j.head.size
stands_at s u a number x line j =
    let within : length line.before.heads - 1 < length line.before.heads = slice_get_within line.before.heads (length line.before.heads - 1) j.head j.last in
    record { before = line.before; placed = line.goes; last = omega arith; size = ap (option_map (λ (h : Head). h.size)) j.last }

reached_by : (s : SourceRead) (u : UnitValue) (number : ℕ) (c : Condition) (name : ℕ) (a : IsAccepted s u) → name < name_count s → IsEvenPlaced a.places → (line : IsLine (meanings s a.places) 1 number (nowhere (name_count s)) a.end s.statements (Jump c name))
    (b : HasBytes (meanings s a.places) line.line line.before a.end (Jump c name)) → IsJump (meanings s a.places) (length line.before.heads - 1) b.head.size c name b.bytes → LeadsToLabel s u number c name
reached_by s u number c name a known even line b j =
    let there : ℕ = j.offset in
    let here : ℕ = b.head.size in
    let section : ℕ = length line.before.heads - 1 in
    let spot : Spot = record { section = section; offset = there } in
    let global : Bool = is_global_name s.statements name in
    let text : List ℕ = get_or s.tables.names name [] in
    let label : SymbolValue = symbol_by global text (Some spot) in
    let named : slice_get s.tables.names name ≡ Some text = slice_get-get_or s.tables.names name [] known in
    let is = ap (option_map (λ t. symbol_by global t (spot_of a.places.spots name))) named ∙ ap (λ o. Some (symbol_by global text o)) j.spot in
    let has = order_has s.statements a.places (name_count s) name known in
    record {
      section = section;
      here = here;
      word = j.word;
      offset = reach here there;
      home = b.home;
      label = label;
      stands = stands_at s u a number (Jump c name) line b;
      given = ap (λ (v : UnitValue). slice_get v.sections section) (sym a.unit) ∙ b.given;
      holds = bytes_there b.home.bytes b.front (word_bytes j.word) b.back here (b.whole ∙ ap (λ bs. (b.front ++ bs) ++ b.back) j.are) b.size;
      means = λ w1 w2. jump_means c (reach here there) j.word w1 w2 j.first;
      symbol = subst (λ (v : UnitValue). Contains v.symbols label) a.unit (symbol_has (is_global_name s.statements) s.tables.names a.places.spots (symbol_order s a.places) has.0 name label is has.1 has.2);
      named = named;
      beside = refl;
      reached = sym (jumps_lead here there (even_head line.before b.head line.even b.last) (even.spots name spot j.spot));
    }

leads : (s : SourceRead) (u : UnitValue) (number : ℕ) (c : Condition) (name : ℕ) → IsSource s → AreEven s.statements → IsAccepted s u → slice_get s.statements number ≡ Some (Jump c name) → LeadsToLabel s u number c name
leads s u number c name kept are a is =
    let m : Meanings = meanings s a.places in
    let line = line_of s u a number (Jump c name) are is in
    let b = has_bytes m line.line line.written line.next a.end line.before line.after (Jump c name) (jump_full c name) line.agree (taken line.line line.before line.after (Jump c name) (λ h. refl) line.places) line.emits line.keeps in
    let j = is_jump m line.line (length line.before.heads - 1) b.head.size c name b.bytes b.made in
    let even = all_even 1 (nowhere (name_count s)) a.places s.statements (nowhere_even (name_count s)) are a.goes in
    let low : number < length s.statements = slice_get_within s.statements number (Jump c name) is in
    let same : get_or s.statements number (Jump c name) ≡ Jump c name = get_or_from_slice_get s.statements number (Jump c name) (Jump c name) is in
    let known : IsKnown (name_count s) (Jump c name) = subst (IsKnown (name_count s)) same (kept.known number (Jump c name) low) in
    reached_by s u number c name a known even line b j

-- what is written of a statement whose bytes no meaning changes
written : (s : SourceRead) (u : UnitValue) (a : IsAccepted s u) (number : ℕ) (x : Statement ℕ) (wanted : List ℕ) (line : IsLine (meanings s a.places) 1 number (nowhere (name_count s)) a.end s.statements x)
    (b : HasBytes (meanings s a.places) line.line line.before a.end x) → b.bytes ≡ wanted → Writes s u number wanted
written s u a number x wanted line b same =
    let section : ℕ = length line.before.heads - 1 in
    record {
      section = section;
      here = b.head.size;
      home = b.home;
      stands = stands_at s u a number x line b;
      given = ap (λ (v : UnitValue). slice_get v.sections section) (sym a.unit) ∙ b.given;
      holds = bytes_there b.home.bytes b.front wanted b.back b.head.size (b.whole ∙ ap (λ bs. (b.front ++ bs) ++ b.back) same) b.size;
    }

pub code_is_written : CodeIsWritten
unfolding assembled
code_is_written text u k number insn first second is =
    let s : SourceRead = source_read text in
    let x : Statement ℕ = Code insn first second in
    let a = accepted s u k in
    let line = line_of s u a number x (source_even text) is in
    let b = has_bytes (meanings s a.places) line.line line.written line.next a.end line.before line.after x (code_full insn first second) line.agree (taken line.line line.before line.after x (λ h. refl) line.places) line.emits line.keeps in
    option_map_some (flat_map word_bytes) (encoded_words insn) b.bytes (ok_or_is (code_bytes insn) (LineFault line.line) b.bytes b.made) (λ words made puts.
    subst (λ o. IsSomeAnd o (λ words. Writes s u number (flat_map word_bytes words) × IsMeant insn words)) (sym made)
    (written s u a number x (flat_map word_bytes words) line b (sym puts), words_are_meant insn words made))

pub words_are_written : WordsAreWritten
unfolding assembled
words_are_written text u k number field is =
    let s : SourceRead = source_read text in
    let x : Statement ℕ = Word field in
    let a = accepted s u k in
    let line = line_of s u a number x (source_even text) is in
    let b = has_bytes (meanings s a.places) line.line line.written line.next a.end line.before line.after x (word_full field) line.agree (taken line.line line.before line.after x (λ h. refl) line.places) line.emits line.keeps in
    written s u a number x (word_bytes (field_number field)) line b (sym (ok_is _ b.bytes b.made))

pub jumps_reach_labels : JumpsReachLabels
unfolding assembled
jumps_reach_labels text u most k number c name is = leads (source_read text) u number c name (source_kept text most) (source_even text) (accepted (source_read text) u k) is
