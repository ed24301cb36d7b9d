-- The sections that are written have the sizes of those that were placed.
use Rattle.std.proofs.Common.{ℕ, ◌≡◌, ◌+◌, ◌-◌, ◌*◌, ◌<◌, ◌≤◌, Bool, true, false, cond, List, [], ◌∷◌, ◌++◌, length, map, get_or, set, Option, Some, None, is_some, Result, Ok, Err, nat_lt, nat_eq, refl, ap, sym, subst, ◌∙◌, length-append, arith}
use Rattle.std.specs.Prelude.{flat_map, option_map, ok_or, slice_get, ℤ}
use Rattle.std.specs.List.{All}
use Rattle.std.proofs.lemmas.Bool.Decides.{nat_tests}
use Rattle.std.proofs.lemmas.List.{length-map, map-append, map-set, get_or-map}
use Rattle.std.proofs.lemmas.List.Elements.{All-push, All-set}
use Rattle.std.proofs.lemmas.Option.{slice_get_within, get_or_from_slice_get, slice_get-get_or}
use Rattle.insn_decode.specs.declared.insn.Condition.{Condition}
use Rattle.insn_decode.specs.declared.insn.Insn.{Insn}
use Rattle.insn_decode.specs.declared.insn.Insn.TheVariants.{Two, One, Jump as JumpInsn}
use Rattle.insn_decode.specs.declared.insn.Operand.{Operand}
use Rattle.insn_decode.specs.declared.insn.Operand.TheVariants.{Reg}
use Rattle.insn_decode.specs.Code.{words_of as words_in, length_of}
use Rattle.asm_text.specs.declared.TheConstants.{MAX_SECTIONS, MAX_LABELS}
use Rattle.asm_line.specs.declared.TheConstants.{MAX_SIZE}
use Rattle.asm_text.specs.declared.placing.Head.{Head}
use Rattle.asm_text.specs.declared.placing.Spot.{Spot}
use Rattle.asm_text.specs.declared.unit.AsmFault.{AsmFault}
use Rattle.asm_text.specs.declared.unit.AsmFault.TheVariants.{Line, Place, Twice, TooMany, Large, NoLabel, Far}
use Rattle.asm_line.specs.declared.statement.SectionKind.{SectionKind}
use Rattle.asm_line.specs.declared.statement.SectionKind.TheVariants.{Code as CodeKind, Data as DataKind, Bss as BssKind}
use Rattle.asm_line.specs.declared.statement.Statement.{Statement}
use Rattle.asm_line.specs.declared.statement.Statement.TheVariants.{Section, Label, Global, Word, Space, Jump, Code}
use Rattle.asm_text.specs.Emission.{Meanings, Emitted, statement_bytes, grown, with_statement, in_last, opened, emitted, field_number, jump_bytes, jump_over, reach}
use Rattle.asm_text.specs.internal.Emitted.{newest_section}
use Rattle.sm_words.specs.Bytes.{word_bytes}
use Rattle.asm_line.specs.Encoding.{extension, extensions, leading_word, encoded_words, code_bytes}
use Rattle.asm_text.specs.Parts.{SectionValue, kept_size}
use Rattle.asm_text.specs.Placing.{Placed, placed_section, with_bytes, with_label, within, in_section, last_head, placed, has_section, spot_of}
use Rattle.asm_line.specs.Statements.{statement_size, kind_takes}
use Rattle.asm_line.proofs.WordLemmas.{option_map_some}

-- what a section and its head share
pub record Shape : Type 0 where
  pub name : Option (List ℕ)
  pub kind : SectionKind
  pub size : ℕ

abbrev pub shape_of : SectionValue → Shape
shape_of s = record { name = Some s.name; kind = s.kind; size = s.size }

abbrev pub head_shape : Meanings → Head → Shape
head_shape m h = record { name = slice_get m.sections h.name; kind = h.kind; size = h.size }

abbrev pub IsFilled : SectionValue → Type 0
IsFilled s = length s.bytes ≡ kept_size s.kind s.size

pub record Agree (m : Meanings) (e : Emitted) (p : Placed) : Type 0 where
  pub shapes : map shape_of e.sections ≡ map (head_shape m) p.heads
  pub filled : All IsFilled e.sections

pub same_number : (m : Meanings) (e : Emitted) (p : Placed) → Agree m e p → length e.sections ≡ length p.heads
same_number m e p a = sym (length-map e.sections shape_of) ∙ (ap length a.shapes ∙ length-map p.heads (head_shape m))

-- ---- the last section

pub record Lasts (m : Meanings) (e : Emitted) (p : Placed) (last : SectionValue) (h : Head) : Type 0 where
  pub last_is : newest_section e.sections ≡ Some last
  pub same : shape_of last ≡ head_shape m h
  pub filled : IsFilled last
  pub low : length e.sections - 1 < length e.sections

-- where there is a head there is a section
pub record SomeLast (m : Meanings) (e : Emitted) (p : Placed) (h : Head) : Type 0 where
  pub last : SectionValue
  pub lasts : Lasts m e p last h

some_section : SectionValue
some_section = record { name = []; kind = CodeKind; size = 0; bytes = [] }

pub last_there : (m : Meanings) (e : Emitted) (p : Placed) (h : Head) → Agree m e p → last_head p.heads ≡ Some h → SomeLast m e p h
last_there m e p h a is =
    let n = same_number m e p a in
    let within : length p.heads - 1 < length p.heads = slice_get_within p.heads (length p.heads - 1) h is in
    let low : length e.sections - 1 < length e.sections = omega arith in
    let at : length e.sections - 1 ≡ length p.heads - 1 = omega arith in
    let last = get_or e.sections (length e.sections - 1) some_section in
    let one : get_or (map shape_of e.sections) (length e.sections - 1) (head_shape m h) ≡ shape_of last = get_or-map shape_of e.sections (length e.sections - 1) some_section (head_shape m h) low in
    let two : get_or (map (head_shape m) p.heads) (length p.heads - 1) (head_shape m h) ≡ head_shape m (get_or p.heads (length p.heads - 1) h) = get_or-map (head_shape m) p.heads (length p.heads - 1) h (head_shape m h) within in
    let three : get_or p.heads (length p.heads - 1) h ≡ h = get_or_from_slice_get p.heads (length p.heads - 1) h h is in
    record {
      last = last;
      lasts = record {
        last_is = slice_get-get_or e.sections (length e.sections - 1) some_section low;
        same = sym one ∙ (ap (λ ss. get_or ss (length e.sections - 1) (head_shape m h)) a.shapes ∙ (ap (λ i. get_or (map (head_shape m) p.heads) i (head_shape m h)) at ∙ (two ∙ ap (head_shape m) three)));
        filled = a.filled (length e.sections - 1) some_section low;
        low = low;
      };
    }

-- ---- how many bytes a statement has

extension_size : (o : Operand) → length (flat_map word_bytes (extension o)) ≡ 2 * words_in o
extension_size (Reg r) = refl
extension_size _ = refl

flat_append : (xs ys : List ℕ) → length (flat_map word_bytes (xs ++ ys)) ≡ length (flat_map word_bytes xs) + length (flat_map word_bytes ys)
flat_append [] ys = omega arith
flat_append (x ∷ xs) ys = let more = flat_append xs ys in
    let front : length (word_bytes x) ≡ 2 = refl in
    omega (arith, length-append (word_bytes x) (flat_map word_bytes (xs ++ ys)), length-append (word_bytes x) (flat_map word_bytes xs))

words_size : (word : ℕ) (insn : Insn) → length (flat_map word_bytes (word ∷ extensions insn)) ≡ 2 * length_of insn
words_size word (Two op w s d) =
    let one = extension_size s in
    let two = extension_size d in
    let both = flat_append (extension s) (extension d) in
    omega (arith, length-append (word_bytes word) (flat_map word_bytes (extension s ++ extension d)))
words_size word (One op w a) =
    let one = extension_size a in
    omega (arith, length-append (word_bytes word) (flat_map word_bytes (extension a)))
words_size word _ = refl

code_size : (insn : Insn) (bytes : List ℕ) → code_bytes insn ≡ Some bytes → length bytes ≡ 2 * length_of insn
code_size insn bytes e = option_map_some (flat_map word_bytes) (encoded_words insn) bytes e (λ words is same.
    option_map_some (λ w. w ∷ extensions insn) (leading_word insn) words is (λ word first are.
    ap length (sym same) ∙ (ap (λ ws. length (flat_map word_bytes ws)) (sym are) ∙ words_size word insn)))

pub ok_is : {A : Type 0} (a b : A) → ◌≡◌ {A = Result A AsmFault} (Ok a) (Ok b) → a ≡ b
ok_is a b k = cc

pub ok_or_is : {A : Type 0} (o : Option A) (fault : AsmFault) (a : A) → ok_or o fault ≡ Ok a → o ≡ Some a
ok_or_is (Some b) fault a k = ap Some (ok_is b a k)
ok_or_is None fault a k = absurd cc

pub jump_size : (n section here : ℕ) (cn : Condition) (spot : Option Spot) (bytes : List ℕ) → jump_bytes n section here cn spot ≡ Ok bytes → length bytes ≡ 2
jump_size n section here cn None bytes e = absurd cc
jump_size n section here cn (Some spot) bytes e = by (nat_eq spot.section section) e
  where
    offset : ℤ
    offset = reach here spot.offset

    by : (c : Bool) → cond c (jump_over n cn offset) (Err (NoLabel n)) ≡ Ok bytes → length bytes ≡ 2
    by true e = code_size (JumpInsn cn offset) bytes (ok_or_is (code_bytes (JumpInsn cn offset)) (Far n offset) bytes e)
    by false e = absurd cc

pub bytes_size : (m : Meanings) (n section here : ℕ) (kind : SectionKind) (s : Statement ℕ) (bytes : List ℕ) → kind_takes kind s ≡ true → statement_bytes m n section here s ≡ Ok bytes → length bytes ≡ kept_size kind (statement_size s)
bytes_size m n section here CodeKind (Word field) bytes t e = let same : word_bytes (field_number field) ≡ bytes = cc in ap length (sym same)
bytes_size m n section here CodeKind (Space size) bytes t e = absurd cc
bytes_size m n section here CodeKind (Jump c target) bytes t e = jump_size n section here c (spot_of m.spots target) bytes e
bytes_size m n section here CodeKind (Code insn a b) bytes t e = code_size insn bytes (ok_or_is (code_bytes insn) (Line n) bytes e)
bytes_size m n section here DataKind (Word field) bytes t e = let same : word_bytes (field_number field) ≡ bytes = cc in ap length (sym same)
bytes_size m n section here DataKind (Space size) bytes t e = absurd cc
bytes_size m n section here DataKind (Jump c target) bytes t e = absurd cc
bytes_size m n section here DataKind (Code insn a b) bytes t e = absurd cc
bytes_size m n section here BssKind (Word field) bytes t e = absurd cc
bytes_size m n section here BssKind (Jump c target) bytes t e = absurd cc
bytes_size m n section here BssKind (Code insn a b) bytes t e = absurd cc
bytes_size m n section here kind s bytes t e = let same : [] ≡ bytes = cc in ap length (sym same)

kept_more : (kind : SectionKind) (a b : ℕ) → kept_size kind a + kept_size kind b ≡ kept_size kind (a + b)
kept_more CodeKind a b = refl
kept_more _ a b = refl

-- ---- bytes more

pub record IsGrown (p q : Placed) (h : Head) (size : ℕ) : Type 0 where
  pub heads : q.heads ≡ set p.heads (length p.heads - 1) (record { name = h.name; kind = h.kind; size = h.size + size })
  pub room : h.size + size ≤ MAX_SIZE

pub is_grown : (n : ℕ) (p q : Placed) (h : Head) (size : ℕ) → with_bytes n p h size ≡ Ok q → IsGrown p q h size
is_grown n p q h size e = by (nat_lt MAX_SIZE (h.size + size)) refl e
  where
    by : (c : Bool) → nat_lt MAX_SIZE (h.size + size) ≡ c → cond c (Err (Large n)) (Ok (record { heads = set p.heads (length p.heads - 1) (record { name = h.name; kind = h.kind; size = h.size + size }); labels = p.labels; spots = p.spots })) ≡ Ok q → IsGrown p q h size
    by true is e = absurd cc
    by false is e = record { heads = ap (λ (r : Placed). r.heads) (sym (ok_is _ q e)); room = grind (arith, nat_tests) }

-- a statement that stands in a section
pub record IsTaken (p q : Placed) (s : Statement ℕ) : Type 0 where
  pub head : Head
  pub is : last_head p.heads ≡ Some head
  pub takes_it : kind_takes head.kind s ≡ true
  pub grown_by : IsGrown p q head (statement_size s)

pub taken : (n : ℕ) (p q : Placed) (s : Statement ℕ) → ((h : Head) → within n p h s ≡ with_bytes n p h (statement_size s)) → in_section n p (last_head p.heads) s ≡ Ok q → IsTaken p q s
taken n p q s plain e = by (last_head p.heads) refl e
  where
    by_kind : (h : Head) (c : Bool) → last_head p.heads ≡ Some h → kind_takes h.kind s ≡ c → cond c (within n p h s) (Err (Place n)) ≡ Ok q → IsTaken p q s
    by_kind h true last t e = record { head = h; is = last; takes_it = t; grown_by = is_grown n p q h (statement_size s) (sym (plain h) ∙ e) }
    by_kind h false last t e = absurd cc

    by : (o : Option Head) → last_head p.heads ≡ o → in_section n p o s ≡ Ok q → IsTaken p q s
    by None last e = absurd cc
    by (Some h) last e = by_kind h (kind_takes h.kind s) last refl e

-- a section more that is written as it is placed
taken_agree : (m : Meanings) (n : ℕ) (e f : Emitted) (p q : Placed) (s : Statement ℕ) → Agree m e p → IsTaken p q s → in_last m n e (newest_section e.sections) s ≡ Ok f → Agree m f q
taken_agree m n e f p q s a t goes =
    let there = last_there m e p t.head a t.is in
    let l = there.lasts in
    with_bytes_of there.last l (statement_bytes m n (length e.sections - 1) there.last.size s) refl (sym (ap (λ o. in_last m n e o s) l.last_is) ∙ goes)
  where
    with_bytes_of : (last : SectionValue) → Lasts m e p last t.head → (r : Result (List ℕ) AsmFault) → statement_bytes m n (length e.sections - 1) last.size s ≡ r → with_statement m e last s r ≡ Ok f → Agree m f q
    with_bytes_of last l (Err fault) is g = absurd cc
    with_bytes_of last l (Ok bytes) is g =
        let same = ok_is _ f g in
        let sections : set e.sections (length e.sections - 1) (grown last (statement_size s) bytes) ≡ f.sections = ap (λ (x : Emitted). x.sections) same in
        let kinds : last.kind ≡ t.head.kind = ap (λ (x : Shape). x.kind) l.same in
        let sizes : last.size ≡ t.head.size = ap (λ (x : Shape). x.size) l.same in
        let names : Some last.name ≡ slice_get m.sections t.head.name = ap (λ (x : Shape). x.name) l.same in
        let n' = same_number m e p a in
        let at : length e.sections - 1 ≡ length p.heads - 1 = omega arith in
        let bytes_are : length bytes ≡ kept_size last.kind (statement_size s) = bytes_size m n (length e.sections - 1) last.size last.kind s bytes (ap (λ k. kind_takes k s) kinds ∙ t.takes_it) is in
        let full : IsFilled (grown last (statement_size s) bytes) = length-append last.bytes bytes ∙ (ap (λ k. k + length bytes) l.filled ∙ (ap (λ k. kept_size last.kind last.size + k) bytes_are ∙ kept_more last.kind last.size (statement_size s))) in
        let shape : shape_of (grown last (statement_size s) bytes) ≡ head_shape m (record { name = t.head.name; kind = t.head.kind; size = t.head.size + statement_size s }) = shape_more last names kinds sizes in
        record {
          shapes = ap (map shape_of) (sym sections)
              ∙ (map-set shape_of e.sections (length e.sections - 1) (grown last (statement_size s) bytes)
              ∙ (ap (λ x. set (map shape_of e.sections) (length e.sections - 1) x) shape
              ∙ (ap (λ xs. set xs (length e.sections - 1) (head_shape m (record { name = t.head.name; kind = t.head.kind; size = t.head.size + statement_size s }))) a.shapes
              ∙ (ap (λ i. set (map (head_shape m) p.heads) i (head_shape m (record { name = t.head.name; kind = t.head.kind; size = t.head.size + statement_size s }))) at
              ∙ (sym (map-set (head_shape m) p.heads (length p.heads - 1) (record { name = t.head.name; kind = t.head.kind; size = t.head.size + statement_size s }))
              ∙ ap (map (head_shape m)) (sym t.grown_by.heads))))));
          filled = subst (All IsFilled) sections (All-set IsFilled e.sections (length e.sections - 1) (grown last (statement_size s) bytes) full a.filled);
        }
      where
        shape_more : (last : SectionValue) → Some last.name ≡ slice_get m.sections t.head.name → last.kind ≡ t.head.kind → last.size ≡ t.head.size
            → shape_of (grown last (statement_size s) bytes) ≡ head_shape m (record { name = t.head.name; kind = t.head.kind; size = t.head.size + statement_size s })
        shape_more last names kinds sizes = λ i. record { name = names i; kind = kinds i; size = sizes i + statement_size s }

-- ---- a line

-- a section that is opened
pub record IsOpened (m : Meanings) (e f : Emitted) (number : ℕ) (kind : SectionKind) : Type 0 where
  pub name : List ℕ
  pub named : slice_get m.sections number ≡ Some name
  pub is : opened e kind name ≡ f

pub is_opened : (m : Meanings) (n : ℕ) (e f : Emitted) (number : ℕ) (kind : SectionKind) → emitted m n e (Section number kind) ≡ Ok f → IsOpened m e f number kind
is_opened m n e f number kind k = by (slice_get m.sections number) refl k
  where
    by : (o : Option (List ℕ)) → slice_get m.sections number ≡ o → ok_or (option_map (opened e kind) o) (Place n) ≡ Ok f → IsOpened m e f number kind
    by None named j = absurd cc
    by (Some name) named j = record { name = name; named = named; is = ok_is _ f j }

section_agree : (m : Meanings) (n : ℕ) (e f : Emitted) (p q : Placed) (name : ℕ) (kind : SectionKind) → Agree m e p → placed_section n p name kind ≡ Ok q → emitted m n e (Section name kind) ≡ Ok f → Agree m f q
section_agree m n e f p q name kind a placed_ok emitted_ok = by (has_section p.heads name) (nat_eq (length p.heads) MAX_SECTIONS) placed_ok
  where
    new : Head
    new = record { name = name; kind = kind; size = 0 }

    by : (c d : Bool) → cond c (Err (Twice n)) (cond d (Err (TooMany n)) (Ok (record { heads = p.heads ++ (record { name = name; kind = kind; size = 0 }) ∷ []; labels = p.labels; spots = p.spots }))) ≡ Ok q → Agree m f q
    by true d k = absurd cc
    by false true k = absurd cc
    by false false k =
        let heads : p.heads ++ (record { name = name; kind = kind; size = 0 }) ∷ [] ≡ q.heads = ap (λ (r : Placed). r.heads) (ok_is _ q k) in
        let o = is_opened m n e f name kind emitted_ok in
        let section : SectionValue = record { name = o.name; kind = kind; size = 0; bytes = [] } in
        let sections : e.sections ++ section ∷ [] ≡ f.sections = ap (λ (r : Emitted). r.sections) o.is in
        record {
          shapes = ap (map shape_of) (sym sections)
              ∙ (map-append shape_of e.sections (section ∷ [])
              ∙ (ap (λ xs. xs ++ shape_of section ∷ []) a.shapes
              ∙ (ap (λ t. map (head_shape m) p.heads ++ (record { name = t; kind = kind; size = 0 }) ∷ []) (sym o.named)
              ∙ (sym (map-append (head_shape m) p.heads ((record { name = name; kind = kind; size = 0 }) ∷ []))
              ∙ ap (map (head_shape m)) heads))));
          filled = subst (All IsFilled) sections (All-push IsFilled e.sections section a.filled (empty kind));
        }
      where
        empty : (kind : SectionKind) → 0 ≡ kept_size kind 0
        empty CodeKind = refl
        empty _ = refl

label_heads : (n : ℕ) (p q : Placed) (name : ℕ) → in_section n p (last_head p.heads) (Label name) ≡ Ok q → p.heads ≡ q.heads
label_heads n p q name e = by (last_head p.heads) e
  where
    by_label : (h : Head) (c d : Bool) → cond c (Err (Twice n)) (cond d (Err (TooMany n)) (Ok (record { heads = p.heads; labels = p.labels ++ name ∷ []; spots = set p.spots name (Some (record { section = length p.heads - 1; offset = h.size })) }))) ≡ Ok q → p.heads ≡ q.heads
    by_label h true d k = absurd cc
    by_label h false true k = absurd cc
    by_label h false false k = ap (λ (r : Placed). r.heads) (ok_is _ q k)

    by_kind : (h : Head) (kind : SectionKind) → cond (kind_takes kind (Label name)) (with_label n p h name) (Err (Place n)) ≡ Ok q → p.heads ≡ q.heads
    by_kind h CodeKind k = by_label h (is_some (spot_of p.spots name)) (nat_eq (length p.labels) MAX_LABELS) k
    by_kind h _ k = by_label h (is_some (spot_of p.spots name)) (nat_eq (length p.labels) MAX_LABELS) k

    by : (o : Option Head) → in_section n p o (Label name) ≡ Ok q → p.heads ≡ q.heads
    by None k = absurd cc
    by (Some h) k = by_kind h h.kind k

same_heads : (m : Meanings) (e f : Emitted) (p q : Placed) → Agree m e p → e ≡ f → p.heads ≡ q.heads → Agree m f q
same_heads m e f p q a same heads = subst (λ (x : Emitted). Agree m x q) same (record { shapes = a.shapes ∙ ap (map (head_shape m)) heads; filled = a.filled })

pub agree_more : (m : Meanings) (n : ℕ) (e f : Emitted) (p q : Placed) (s : Statement ℕ) → Agree m e p → placed n p s ≡ Ok q → emitted m n e s ≡ Ok f → Agree m f q
agree_more m n e f p q (Section name kind) a j k = section_agree m n e f p q name kind a j k
agree_more m n e f p q (Global name) a j k = same_heads m e f p q a (ok_is e f k) (ap (λ (r : Placed). r.heads) (ok_is p q j))
agree_more m n e f p q (Label name) a j k = same_heads m e f p q a (ok_is e f k) (label_heads n p q name j)
agree_more m n e f p q (Word field) a j k = taken_agree m n e f p q (Word field) a (taken n p q (Word field) (λ h. refl) j) k
agree_more m n e f p q (Space size) a j k = taken_agree m n e f p q (Space size) a (taken n p q (Space size) (λ h. refl) j) k
agree_more m n e f p q (Jump c t) a j k = taken_agree m n e f p q (Jump c t) a (taken n p q (Jump c t) (λ h. refl) j) k
agree_more m n e f p q (Code insn x y) a j k = taken_agree m n e f p q (Code insn x y) a (taken n p q (Code insn x y) (λ h. refl) j) k
