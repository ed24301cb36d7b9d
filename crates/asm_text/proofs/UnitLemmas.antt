-- What a source gives keeps what a unit keeps.
use Rattle.std.proofs.Common.{ℕ, ◌≡◌, ◌≢◌, ◌+◌, ◌-◌, ◌*◌, ◌<◌, ◌≤◌, Bool, true, false, cond, not, is_some, List, [], ◌∷◌, ◌++◌, length, map, get_or, set, Option, Some, None, Result, Ok, Err, nat_eq, refl, ap, sym, subst, ◌∙◌, length-append, arith, ◌⊎◌, inl, inr}
use Rattle.std.specs.Prelude.{fold, filter, slice_get, IsTrue}
use Rattle.std.specs.List.{All, AllPairs, slice_index_or}
use Rattle.std.proofs.lemmas.Bool.{cases_lt}
use Rattle.std.proofs.lemmas.List.{length-map, length-set, get_or-map, get_or_past}
use Rattle.std.proofs.lemmas.List.Elements.{All-append, All-cons}
use Rattle.std.proofs.lemmas.List.Quantifiers.{position-Some}
use Rattle.std.proofs.lemmas.Option.{slice_get_within, slice_get-get_or, get_or_from_slice_get}
use Rattle.insn_decode.specs.declared.insn.Insn.TheVariants.{Two, One}
use Rattle.asm_text.specs.declared.placing.Head.{Head}
use Rattle.asm_text.specs.declared.placing.Spot.{Spot}
use Rattle.asm_text.specs.declared.unit.AsmFault.{AsmFault}
use Rattle.asm_text.specs.declared.unit.AsmRelocation.{AsmRelocation}
use Rattle.asm_line.specs.declared.statement.Field.TheVariants.{Name}
use Rattle.asm_line.specs.declared.statement.Statement.{Statement}
use Rattle.asm_line.specs.declared.statement.Statement.TheVariants.{Section, Label, Global, Word, Space, Jump, Code}
use Rattle.asm_text.specs.Assembly.{name_count, symbol_order, meanings, unit_for}
use Rattle.asm_text.specs.Emission.{Meanings, Emitted, nothing, emitted, emitted_from, statement_bytes, relocation_at, relocation_if, statement_relocations, second_word, with_statement, in_last, grown}
use Rattle.asm_text.specs.internal.Emitted.{newest_section, AreNames}
use Rattle.asm_text.specs.internal.Kept.{IsSource}
use Rattle.asm_text.specs.Parts.{SectionValue, SymbolValue, IsSectionValue, IsSymbolValue, IsAsmRelocation, IsUnit}
use Rattle.asm_line.specs.Identifiers.{is_name}
use Rattle.asm_text.specs.internal.Placed.{IsPlaced, names_in}
use Rattle.asm_text.specs.Placing.{Placed, nowhere, spot_of, placed_from, unrefused}
use Rattle.asm_text.specs.Source.{SourceRead}
use Rattle.asm_line.specs.Statements.{statement_size}
use Rattle.asm_text.specs.Symbols.{is_global_name, local_labels, once, once_by, below, order_of, symbol_by, symbol_number, symbol_numbers}
use Rattle.asm_text.proofs.EmittingLemmas.{all_agree, small_sections, some_head}
use Rattle.asm_text.proofs.LockLemmas.{Agree, Shape, shape_of, head_shape, same_number, ok_is, is_opened}
use Rattle.asm_text.proofs.NameLemmas.{named_at}
use Rattle.asm_text.proofs.OrderLemmas.{length_below}
use Rattle.asm_text.proofs.OrderedLemmas.{IsOrder, order_kept}
use Rattle.asm_text.proofs.SymbolLemmas.{symbol_at, symbols_at, each_symbol}

-- ---- distinct things

-- equal elements of a list without equal ones stand at one place
distinct_place : {X : Type 0} (xs : List X) (a b : ℕ) (x : X) → AllPairs (λ x y. x ≢ y) xs → slice_get xs a ≡ Some x → slice_get xs b ≡ Some x → a ≡ b
distinct_place xs a b x differ at_a at_b = by (cases_lt a b)
  where
    same : get_or xs a x ≡ get_or xs b x
    same = get_or_from_slice_get xs a x x at_a ∙ sym (get_or_from_slice_get xs b x x at_b)

    by_more : (b < a) ⊎ (a ≤ b) → b ≤ a → a ≡ b
    by_more (inl less) most = absurd (differ b a x less (slice_get_within xs a x at_a) (sym same))
    by_more (inr least) most = omega arith

    by : (a < b) ⊎ (b ≤ a) → a ≡ b
    by (inl less) = absurd (differ a b x less (slice_get_within xs b x at_b) same)
    by (inr most) = by_more (cases_lt b a) most

-- ---- sections

-- what a section has of its head
section_shape : (m : Meanings) (e : Emitted) (p : Placed) → Agree m e p → (k : ℕ) (d : SectionValue) → k < length e.sections → shape_of (get_or e.sections k d) ≡ head_shape m (get_or p.heads k some_head)
section_shape m e p a k d low =
    let n = same_number m e p a in
    let within : k < length p.heads = omega arith in
    let one : get_or (map shape_of e.sections) k (shape_of d) ≡ shape_of (get_or e.sections k d) = get_or-map shape_of e.sections k d (shape_of d) low in
    let two : get_or (map (head_shape m) p.heads) k (shape_of d) ≡ head_shape m (get_or p.heads k some_head) = get_or-map (head_shape m) p.heads k some_head (shape_of d) within in
    sym one ∙ (ap (λ ss. get_or ss k (shape_of d)) a.shapes ∙ two)

section_name : (m : Meanings) (e : Emitted) (p : Placed) → Agree m e p → (k : ℕ) (d : SectionValue) → k < length e.sections → Some (get_or e.sections k d).name ≡ slice_get m.sections (get_or p.heads k some_head).name
section_name m e p a k d low = ap (λ (x : Shape). x.name) (section_shape m e p a k d low)

sections_are : (m : Meanings) (e : Emitted) (p : Placed) (names : ℕ) → Agree m e p → IsPlaced names p → AreNames m.sections → All IsSectionValue e.sections
sections_are m e p names a sound are k d low =
    record {
      named = true_is _ (named_at m.sections (get_or p.heads k some_head).name _ are (sym (section_name m e p a k d low)));
      small = small_sections m e p a sound.small k d low;
      filled = a.filled k d low;
    }
  where
    true_is : (b : Bool) → b ≡ true → IsTrue b
    true_is b e = e

sections_apart : (m : Meanings) (e : Emitted) (p : Placed) (names : ℕ) → Agree m e p → IsPlaced names p → AllPairs (λ x y. x ≢ y) m.sections
    → AllPairs (λ (x y : SectionValue). x.name ≢ y.name) e.sections
sections_apart m e p names a sound differ i j d less low same =
    let n = same_number m e p a in
    let low_i : i < length e.sections = omega arith in
    let within_i : i < length p.heads = omega arith in
    let within_j : j < length p.heads = omega arith in
    let name : List ℕ = (get_or e.sections j d).name in
    let name_i : slice_get m.sections (get_or p.heads i some_head).name ≡ Some name = sym (section_name m e p a i d low_i) ∙ ap Some same in
    let name_j : slice_get m.sections (get_or p.heads j some_head).name ≡ Some name = sym (section_name m e p a j d low) in
    let numbers : (get_or p.heads i some_head).name ≡ (get_or p.heads j some_head).name = distinct_place m.sections (get_or p.heads i some_head).name (get_or p.heads j some_head).name name differ name_i name_j in
    let at_i : get_or (names_in p.heads) i 0 ≡ (get_or p.heads i some_head).name = get_or-map (λ (h : Head). h.name) p.heads i some_head 0 within_i in
    let at_j : get_or (names_in p.heads) j 0 ≡ (get_or p.heads j some_head).name = get_or-map (λ (h : Head). h.name) p.heads j some_head 0 within_j in
    sound.differ i j 0 less (omega (arith, length-map p.heads (λ (h : Head). h.name))) (at_i ∙ (numbers ∙ sym at_j))

-- ---- symbols

symbol_is : (sections : ℕ) (global : Bool) (name : List ℕ) (spot : Option Spot) → is_name name ≡ true → ((s : Spot) → spot ≡ Some s → s.section < sections) → IsSymbolValue sections (symbol_by global name spot)
symbol_is sections global name None named low = record { named = named; local = λ e. absurd cc; home = λ k e. absurd cc }
symbol_is sections global name (Some s) named low = record { named = named; local = λ e f. cc; home = λ k e. let same : s.section ≡ k = cc in let less = low s refl in omega arith }

symbol_text : (global : Bool) (name : List ℕ) (spot : Option Spot) → (symbol_by global name spot).name ≡ name
symbol_text global name None = refl
symbol_text global name (Some s) = refl

symbols_apart : (f : ℕ → Bool) (names : List (List ℕ)) (spots : List (Option Spot)) (order : List ℕ) → IsOrder (length names) order → AllPairs (λ x y. x ≢ y) names
    → AllPairs (λ (x y : SymbolValue). x.name ≢ y.name) (map (symbol_at f names spots) order)
symbols_apart f names spots order o differ i j d less low same =
    let size = length-map order (symbol_at f names spots) in
    let low_i : i < length order = omega arith in
    let low_j : j < length order = omega arith in
    let text : (k : ℕ) → k < length order → (get_or (map (symbol_at f names spots) order) k d).name ≡ get_or names (get_or order k 0) [] = λ k h.
    ap (λ (s : SymbolValue). s.name) (get_or-map (symbol_at f names spots) order k 0 d h) ∙ symbol_text (f (get_or order k 0)) (get_or names (get_or order k 0) []) (spot_of spots (get_or order k 0)) in
    let texts = sym (text i low_i) ∙ (same ∙ text j low_j) in
    let name_i = slice_get-get_or names (get_or order i 0) [] (o.low i 0 low_i) ∙ ap Some texts in
    let numbers : get_or order i 0 ≡ get_or order j 0 = distinct_place names (get_or order i 0) (get_or order j 0) _ differ name_i (slice_get-get_or names (get_or order j 0) [] (o.low j 0 low_j)) in
    o.differ i j 0 less low_j numbers

-- ---- how many symbols

once_size : (order : List ℕ) (k : ℕ) → length (once order k) ≤ length order + 1
once_size order k = by (symbol_number order k)
  where
    by : (o : Option ℕ) → length (once_by (is_some o) order k) ≤ length order + 1
    by None = omega (arith, length-append order (k ∷ []))
    by (Some i) = omega arith

fold_size : (order ks : List ℕ) → length (fold once order ks) ≤ length order + length ks
fold_size order [] = omega arith
fold_size order (k ∷ ks) = let rest = fold_size (once order k) ks in let one = once_size order k in omega arith

filter_size : (f : ℕ → Bool) (ks : List ℕ) → length (filter f ks) ≤ length ks
filter_size f [] = omega arith
filter_size f (k ∷ ks) = by (f k) (filter_size f ks)
  where
    by : (c : Bool) → length (filter f ks) ≤ length ks → length (cond c (k ∷ filter f ks) (filter f ks)) ≤ length (k ∷ ks)
    by true h = omega arith
    by false h = omega arith

order_size : (statements : List (Statement ℕ)) (p : Placed) (names : ℕ) → length (order_of statements p names) ≤ length p.labels + names
unfolding order_of
order_size statements p names =
    let one = fold_size (fold once [] (local_labels statements p.labels)) (below names) in
    let two = fold_size [] (local_labels statements p.labels) in
    let three = filter_size (λ k. not (is_global_name statements k)) p.labels in
    let four = length_below names in
    omega arith

-- ---- relocations

abbrev HasSymbols : Meanings → ℕ → Type 0
HasSymbols m symbols = (k x : ℕ) → slice_index_or m.symbols k None ≡ Some x → x < symbols

more_sections : (a b symbols : ℕ) (rs : List AsmRelocation) → a ≤ b → All (IsAsmRelocation a symbols) rs → All (IsAsmRelocation b symbols) rs
more_sections a b symbols rs most are k d low = let r = are k d low in record { section = let s = r.section in omega arith; symbol = r.symbol }

tied_if : (m : Meanings) (symbols sections section offset : ℕ) (name : Option ℕ) → HasSymbols m symbols → section < sections → All (IsAsmRelocation sections symbols) (relocation_if m section offset name)
tied_if m symbols sections section offset None has low = λ k d h. absurd (omega (arith, h))
tied_if m symbols sections section offset (Some name) has low = by (slice_index_or m.symbols name None) refl
  where
    by : (o : Option ℕ) → slice_index_or m.symbols name None ≡ o → All (IsAsmRelocation sections symbols) (relocation_at section offset o)
    by None is = λ k d h. absurd (omega (arith, h))
    by (Some x) is = All-cons (IsAsmRelocation sections symbols) (record { section = section; offset = offset; symbol = x }) [] (record { section = low; symbol = has name x is }) (λ k d h. absurd (omega (arith, h)))

tied_of : (m : Meanings) (symbols sections section here : ℕ) (s : Statement ℕ) → HasSymbols m symbols → section < sections → All (IsAsmRelocation sections symbols) (statement_relocations m section here s)
tied_of m symbols sections section here (Word (Name name)) has low = tied_if m symbols sections section here (Some name) has low
tied_of m symbols sections section here (Code (Two op w s d) x y) has low =
    All-append (IsAsmRelocation sections symbols) (relocation_if m section (here + 2) x) (relocation_if m section (here + second_word s) y)
    (tied_if m symbols sections section (here + 2) x has low) (tied_if m symbols sections section (here + second_word s) y has low)
tied_of m symbols sections section here (Code (One op w a) x y) has low = tied_if m symbols sections section (here + 2) x has low
tied_of m symbols sections section here _ has low = λ k d h. absurd (omega (arith, h))

count_if : (m : Meanings) (section offset : ℕ) (name : Option ℕ) → length (relocation_if m section offset name) ≤ 1
count_if m section offset None = omega arith
count_if m section offset (Some name) = by (slice_index_or m.symbols name None)
  where
    by : (o : Option ℕ) → length (relocation_at section offset o) ≤ 1
    by None = omega arith
    by (Some x) = omega arith

count_of : (m : Meanings) (section here : ℕ) (s : Statement ℕ) → length (statement_relocations m section here s) ≤ 2
count_of m section here (Word (Name name)) = let one = count_if m section here (Some name) in omega arith
count_of m section here (Code (Two op w s d) x y) =
    let one = count_if m section (here + 2) x in
    let two = count_if m section (here + second_word s) y in
    omega (arith, length-append (relocation_if m section (here + 2) x) (relocation_if m section (here + second_word s) y))
count_of m section here (Code (One op w a) x y) = let one = count_if m section (here + 2) x in omega arith
count_of m section here _ = omega arith

-- relocations from line to line
pub record IsTied (symbols : ℕ) (lines : ℕ) (e : Emitted) : Type 0 where
  pub tied : All (IsAsmRelocation (length e.sections) symbols) e.relocations
  pub few : length e.relocations ≤ 2 * lines

tied_last : (m : Meanings) (symbols lines n : ℕ) (e f : Emitted) (s : Statement ℕ) → HasSymbols m symbols → IsTied symbols lines e → in_last m n e (newest_section e.sections) s ≡ Ok f → IsTied symbols (lines + 1) f
tied_last m symbols lines n e f s has t goes = by (newest_section e.sections) refl goes
  where
    by_bytes : (last : SectionValue) (r : Result (List ℕ) AsmFault) → newest_section e.sections ≡ Some last → with_statement m e last s r ≡ Ok f → IsTied symbols (lines + 1) f
    by_bytes last (Err fault) is k = absurd cc
    by_bytes last (Ok bytes) is k =
        let low : length e.sections - 1 < length e.sections = slice_get_within e.sections (length e.sections - 1) last is in
        let size : length (set e.sections (length e.sections - 1) (grown last (statement_size s) bytes)) ≡ length e.sections = length-set e.sections (length e.sections - 1) (grown last (statement_size s) bytes) in
        let few = t.few in
        let two = count_of m (length e.sections - 1) last.size s in
        subst (IsTied symbols (lines + 1)) (ok_is _ f k) (record {
          tied = subst (λ n. All (IsAsmRelocation n symbols) (e.relocations ++ statement_relocations m (length e.sections - 1) last.size s)) (sym size)
              (All-append (IsAsmRelocation (length e.sections) symbols) e.relocations (statement_relocations m (length e.sections - 1) last.size s) t.tied (tied_of m symbols (length e.sections) (length e.sections - 1) last.size s has low));
          few = omega (arith, length-append e.relocations (statement_relocations m (length e.sections - 1) last.size s));
        })

    by : (o : Option SectionValue) → newest_section e.sections ≡ o → in_last m n e o s ≡ Ok f → IsTied symbols (lines + 1) f
    by None is k = absurd cc
    by (Some last) is k = by_bytes last (statement_bytes m n (length e.sections - 1) last.size s) is k

tied_more : (m : Meanings) (symbols lines n : ℕ) (e f : Emitted) (s : Statement ℕ) → HasSymbols m symbols → IsTied symbols lines e → emitted m n e s ≡ Ok f → IsTied symbols (lines + 1) f
tied_more m symbols lines n e f (Section name kind) has t k =
    let o = is_opened m n e f name kind k in
    let size = length-append e.sections ((record { name = o.name; kind = kind; size = 0; bytes = [] }) ∷ []) in
    let few = t.few in
    subst (IsTied symbols (lines + 1)) o.is (record {
      tied = more_sections (length e.sections) _ symbols e.relocations (omega arith) t.tied;
      few = omega arith;
    })
tied_more m symbols lines n e f (Label name) has t k = subst (IsTied symbols (lines + 1)) (ok_is e f k) (record { tied = t.tied; few = let few = t.few in omega arith })
tied_more m symbols lines n e f (Global name) has t k = subst (IsTied symbols (lines + 1)) (ok_is e f k) (record { tied = t.tied; few = let few = t.few in omega arith })
tied_more m symbols lines n e f (Word field) has t k = tied_last m symbols lines n e f (Word field) has t k
tied_more m symbols lines n e f (Space size) has t k = tied_last m symbols lines n e f (Space size) has t k
tied_more m symbols lines n e f (Jump c x) has t k = tied_last m symbols lines n e f (Jump c x) has t k
tied_more m symbols lines n e f (Code insn x y) has t k = tied_last m symbols lines n e f (Code insn x y) has t k

all_tied : (m : Meanings) (symbols lines n : ℕ) (e f : Emitted) (statements : List (Statement ℕ)) → HasSymbols m symbols → IsTied symbols lines e → emitted_from m n e statements ≡ Ok f → IsTied symbols (lines + length statements) f
all_tied m symbols lines n e f [] has t k =
    let same : lines ≡ lines + 0 = omega arith in
    subst (λ l. IsTied symbols l f) same (subst (IsTied symbols lines) (ok_is e f k) t)
all_tied m symbols lines n e f (s ∷ rest) has t k =
    by (λ z t' k'. all_tied m symbols (lines + 1) (n + 1) z f rest has t' k') (emitted m n e s) refl k
  where
    by : ((z : Emitted) → IsTied symbols (lines + 1) z → emitted_from m (n + 1) z rest ≡ Ok f → IsTied symbols (lines + 1 + length rest) f)
        → (r : Result Emitted AsmFault) → emitted m n e s ≡ r → unrefused r (λ z. emitted_from m (n + 1) z rest) ≡ Ok f → IsTied symbols (lines + length (s ∷ rest)) f
    by again (Ok z) was k' =
        let same : lines + 1 + length rest ≡ lines + length (s ∷ rest) = omega arith in
        subst (λ l. IsTied symbols l f) same (again z (tied_more m symbols lines n e z s has t was) k')
    by again (Err fault) was k' = absurd cc

has_symbols : (s : SourceRead) (p : Placed) → HasSymbols (meanings s p) (length (symbol_order s p))
has_symbols s p k x is = by (cases_lt k (name_count s))
  where
    by : (k < name_count s) ⊎ (name_count s ≤ k) → x < length (symbol_order s p)
    by (inl low) =
        let within : k < length (below (name_count s)) = let e = length_below (name_count s) in omega arith in
        let at : slice_index_or (symbol_numbers (symbol_order s p) (name_count s)) k None ≡ symbol_number (symbol_order s p) (get_or (below (name_count s)) k 0) = get_or-map (symbol_number (symbol_order s p)) (below (name_count s)) k 0 None within in
        (position-Some (λ j. nat_eq j (get_or (below (name_count s)) k 0)) (symbol_order s p) x 0 (sym at ∙ is)).0
    by (inr past) =
        let size : length (symbol_numbers (symbol_order s p) (name_count s)) ≤ k = let e = length_below (name_count s) in omega (arith, length-map (below (name_count s)) (symbol_number (symbol_order s p))) in
        let none : slice_index_or (symbol_numbers (symbol_order s p) (name_count s)) k None ≡ None = get_or_past (symbol_numbers (symbol_order s p) (name_count s)) k None size in
        absurd cc

-- ---- the unit

pub unit_kept : (s : SourceRead) (p : Placed) (e : Emitted) → IsSource s → IsPlaced (name_count s) p → placed_from 1 (nowhere (name_count s)) s.statements ≡ Ok p → emitted_from (meanings s p) 1 nothing s.statements ≡ Ok e
    → IsUnit (unit_for s p e)
unit_kept s p e kept sound goes is =
    let m = meanings s p in
    let none : Agree (meanings s p) nothing (nowhere (name_count s)) = record { shapes = refl; filled = λ k d h. absurd (omega (arith, h)) } in
    let agree : Agree (meanings s p) e p = all_agree m 1 nothing e (nowhere (name_count s)) p s.statements none goes is in
    let order : IsOrder (name_count s) (symbol_order s p) = order_kept s.statements p (name_count s) sound.known in
    let tied : IsTied (length (symbol_order s p)) (0 + length s.statements) e = all_tied m (length (symbol_order s p)) 0 1 nothing e s.statements (has_symbols s p) (record { tied = λ k d h. absurd (omega (arith, h)); few = omega arith }) is in
    let number = same_number m e p agree in
    let few = sound.few in
    let are = symbols_at (is_global_name s.statements) s.tables.names p.spots (symbol_order s p) order.low in
    let symbols = ap length are ∙ length-map (symbol_order s p) (symbol_at (is_global_name s.statements) s.tables.names p.spots) in
    let size = order_size s.statements p (name_count s) in
    record {
      few_sections = omega arith;
      few_symbols = let a = sound.labels in let b = kept.few_names in omega arith;
      few_relocations = let a = tied.few in let b = kept.few_statements in omega arith;
      sections_kept = sections_are m e p (name_count s) agree sound kept.sections;
      symbols_kept = each_symbol (IsSymbolValue (length e.sections)) (is_global_name s.statements) s.tables.names p.spots (symbol_order s p)
          (λ k name named. symbol_is (length e.sections) (is_global_name s.statements k) name (spot_of p.spots k) (named_at s.tables.names k name kept.names named)
          (λ spot at. let low : spot.section < length p.heads = sound.within k spot at in omega arith));
      relocations_kept = subst (λ n. All (IsAsmRelocation (length e.sections) n) e.relocations) (sym symbols) tied.tied;
      sections_differ = sections_apart m e p (name_count s) agree sound kept.sections_differ;
      symbols_differ = subst (AllPairs (λ (x y : SymbolValue). x.name ≢ y.name)) (sym are) (symbols_apart (is_global_name s.statements) s.tables.names p.spots (symbol_order s p) order kept.names_differ);
    }
