-- The sections of an accepted source hold the bytes of their lines in order.
use Rattle.std.proofs.Common.{ℕ, suc, ◌≡◌, ◌+◌, ◌-◌, List, [], ◌∷◌, ◌++◌, length, map, set, Some, false, Result, Ok, Err, refl, ap, sym, subst, ◌∙◌, append_assoc, arith, cond}
use Rattle.std.specs.Prelude.{slice_get, All}
use Rattle.std.proofs.lemmas.List.{append-nil, map-append}
use Rattle.std.proofs.lemmas.List.Elements.{All-cons, All-nil}
use Rattle.asm_line.specs.declared.statement.Statement.{Statement}
use Rattle.asm_line.specs.declared.statement.Statement.TheVariants.{Section, Label, Global, Word, Space, Jump, Code}
use Rattle.asm_text.specs.declared.unit.AsmFault.{AsmFault}
use Rattle.asm_text.specs.declared.unit.AsmFault.TheVariants.{Line as LineFault}
use Rattle.asm_line.specs.declared.statement.SectionKind.{SectionKind}
use Rattle.asm_text.specs.Assembly.{name_count, meanings, assembled}
use Rattle.asm_text.specs.Emission.{Meanings, Emitted, nothing, emitted, emitted_from, statement_bytes, with_statement, in_last, grown}
use Rattle.asm_line.specs.Encoding.{code_bytes}
use Rattle.asm_text.specs.internal.Emitted.{newest_section}
use Rattle.asm_text.specs.Parts.{SectionValue, UnitValue}
use Rattle.asm_text.specs.Placing.{Placed, nowhere, spot_of, placed, placed_from}
use Rattle.asm_text.specs.Sections.{Line, PutsBytes, begins_section, up_to_section, by_section, bytes_in_order, SectionsAreLines}
use Rattle.asm_text.specs.Source.{SourceRead, source_read}
use Rattle.asm_line.specs.Statements.{statement_size}
use Rattle.asm_text.proofs.EmittingLemmas.{next_place}
use Rattle.asm_text.proofs.LockLemmas.{Agree, last_there, ok_is, ok_or_is, jump_size, IsTaken, taken, IsOpened, is_opened, agree_more}
use Rattle.asm_text.proofs.ReachLemmas.{next_line, accepted}

-- ---- the last section

abbrev bytes_in : List SectionValue → List (List ℕ)
bytes_in sections = map (λ s. s.bytes) sections

-- these bytes after those of the last section
abbrev after_last : List (List ℕ) → List ℕ → List (List ℕ)
after_last [] more = []
after_last (b ∷ []) more = (b ++ more) ∷ []
after_last (b ∷ c ∷ others) more = b ∷ after_last (c ∷ others) more

after_none : (xs : List (List ℕ)) → after_last xs [] ≡ xs
after_none [] = refl
after_none (x ∷ []) = ap (λ b. b ∷ []) (append-nil x)
after_none (x ∷ y ∷ xs) = ap (λ l. x ∷ l) (after_none (y ∷ xs))

after_push : (xs : List (List ℕ)) (x more : List ℕ) → after_last (xs ++ x ∷ []) more ≡ xs ++ (x ++ more) ∷ []
after_push [] x more = refl
after_push (y ∷ []) x more = refl
after_push (y ∷ z ∷ xs) x more = ap (λ l. y ∷ l) (after_push (z ∷ xs) x more)

after_twice : (xs : List (List ℕ)) (a b : List ℕ) → after_last (after_last xs a) b ≡ after_last xs (a ++ b)
after_twice [] a b = refl
after_twice (x ∷ []) a b = ap (λ l. l ∷ []) (append_assoc x a b)
after_twice (x ∷ y ∷ []) a b = ap (λ l. x ∷ l ∷ []) (append_assoc y a b)
after_twice (x ∷ y ∷ z ∷ xs) a b = ap (λ l. x ∷ l) (after_twice (y ∷ z ∷ xs) a b)

set_last : (xs : List SectionValue) (last y : SectionValue) (more : List ℕ) → newest_section xs ≡ Some last → y.bytes ≡ last.bytes ++ more → bytes_in (set xs (length xs - 1) y) ≡ after_last (bytes_in xs) more
set_last [] last y more is same = absurd cc
set_last (x ∷ []) last y more is same =
    let one : x ≡ last = cc in
    ap (λ b. b ∷ []) (same ∙ ap (λ (s : SectionValue). s.bytes ++ more) (sym one))
set_last (x ∷ z ∷ xs) last y more is same =
    let e : length (x ∷ z ∷ xs) - 1 ≡ suc (length (z ∷ xs) - 1) = omega arith in
    let there : newest_section (z ∷ xs) ≡ Some last = sym (ap (slice_get (x ∷ z ∷ xs)) e) ∙ is in
    ap (λ k. bytes_in (set (x ∷ z ∷ xs) k y)) e ∙ ap (λ l. x.bytes ∷ l) (set_last (z ∷ xs) last y more there same)

-- ---- a line

-- what a line put at the end of the last section
record PutLast (e f : Emitted) (s : Statement ℕ) : Type 0 where
  pub bytes : List ℕ
  pub put : PutsBytes s bytes
  pub after : bytes_in f.sections ≡ after_last (bytes_in e.sections) bytes

put_last : (m : Meanings) (n : ℕ) (e f : Emitted) (p q : Placed) (s : Statement ℕ) → ((section here : ℕ) (bytes : List ℕ) → statement_bytes m n section here s ≡ Ok bytes → PutsBytes s bytes) → Agree m e p → IsTaken p q s
    → in_last m n e (newest_section e.sections) s ≡ Ok f → PutLast e f s
put_last m n e f p q s puts a t goes =
    let there = last_there m e p t.head a t.is in
    by there.last there.lasts.last_is (statement_bytes m n (length e.sections - 1) there.last.size s) refl (ap (λ o. in_last m n e o s) (sym there.lasts.last_is) ∙ goes)
  where
    by : (last : SectionValue) → newest_section e.sections ≡ Some last → (r : Result (List ℕ) AsmFault) → statement_bytes m n (length e.sections - 1) last.size s ≡ r → with_statement m e last s r ≡ Ok f → PutLast e f s
    by last is (Err fault) made k = absurd cc
    by last is (Ok bytes) made k = record {
      bytes = bytes;
      put = puts (length e.sections - 1) last.size bytes made;
      after = ap (λ (x : Emitted). bytes_in x.sections) (sym (ok_is _ f k)) ∙ set_last e.sections last (grown last (statement_size s) bytes) bytes is refl;
    }

-- ---- all lines

-- the lines from here on, after the sections so far
record Written (e f : Emitted) (statements : List (Statement ℕ)) : Type 0 where
  pub lines : List Line
  pub are : map (λ l. l.statement) lines ≡ statements
  pub put : All (λ l. PutsBytes l.statement l.bytes) lines
  pub sections : bytes_in f.sections ≡ after_last (bytes_in e.sections) (bytes_in_order (up_to_section lines)) ++ map bytes_in_order (by_section lines)

abbrev line : Statement ℕ → List ℕ → Line
line s bytes = record { statement = s; bytes = bytes }

put_more : (s : Statement ℕ) (bytes : List ℕ) (lines : List Line) → PutsBytes s bytes → All (λ l. PutsBytes l.statement l.bytes) lines → All (λ l. PutsBytes l.statement l.bytes) (line s bytes ∷ lines)
put_more s bytes lines h all = All-cons (λ (l : Line). PutsBytes l.statement l.bytes) (line s bytes) lines h all

section_written : (m : Meanings) (e g f : Emitted) (rest : List (Statement ℕ)) (name : ℕ) (kind : SectionKind) → IsOpened m e g name kind → Written g f rest → Written e f (Section name kind ∷ rest)
section_written m e g f rest name kind o w =
    let here = bytes_in_order (up_to_section w.lines) in
    let others = map bytes_in_order (by_section w.lines) in
    let old = bytes_in e.sections in
    let sections : bytes_in g.sections ≡ old ++ [] ∷ [] = ap (λ (x : Emitted). bytes_in x.sections) (sym o.is) ∙ map-append (λ (s : SectionValue). s.bytes) e.sections ((record { name = o.name; kind = kind; size = 0; bytes = [] }) ∷ []) in
    record {
      lines = line (Section name kind) [] ∷ w.lines;
      are = ap (λ l. Section name kind ∷ l) w.are;
      put = put_more (Section name kind) [] w.lines refl w.put;
      sections = w.sections ∙ (ap (λ l. after_last l here ++ others) sections ∙ (ap (λ l. l ++ others) (after_push old [] here)
          ∙ (append_assoc old (here ∷ []) others ∙ ap (λ l. l ++ (here ∷ others)) (sym (after_none old)))));
    }

-- a line that puts nothing
passed_written : (e f : Emitted) (rest : List (Statement ℕ)) (s : Statement ℕ) → PutsBytes s [] → begins_section s ≡ false → Written e f rest → Written e f (s ∷ rest)
passed_written e f rest s none other w = record {
  lines = line s [] ∷ w.lines;
  are = ap (λ l. s ∷ l) w.are;
  put = put_more s [] w.lines none w.put;
  sections = w.sections
      ∙ (ap (λ b. after_last (bytes_in e.sections) (bytes_in_order (cond b [] (line s [] ∷ up_to_section w.lines))) ++ map bytes_in_order (by_section w.lines)) (sym other)
      ∙ ap (λ b. after_last (bytes_in e.sections) (bytes_in_order (up_to_section (line s [] ∷ w.lines))) ++ map bytes_in_order (cond b (up_to_section w.lines ∷ by_section w.lines) (by_section w.lines))) (sym other));
}

-- a line that puts these bytes
put_written : (e g f : Emitted) (rest : List (Statement ℕ)) (s : Statement ℕ) → begins_section s ≡ false → PutLast e g s → Written g f rest → Written e f (s ∷ rest)
put_written e g f rest s other x w =
    let here = bytes_in_order (up_to_section w.lines) in
    let others = map bytes_in_order (by_section w.lines) in
    record {
      lines = line s x.bytes ∷ w.lines;
      are = ap (λ l. s ∷ l) w.are;
      put = put_more s x.bytes w.lines x.put w.put;
      sections = w.sections ∙ (ap (λ l. after_last l here ++ others) x.after ∙ (ap (λ l. l ++ others) (after_twice (bytes_in e.sections) x.bytes here)
          ∙ (ap (λ b. after_last (bytes_in e.sections) (bytes_in_order (cond b [] (line s x.bytes ∷ up_to_section w.lines))) ++ others) (sym other)
          ∙ ap (λ b. after_last (bytes_in e.sections) (bytes_in_order (up_to_section (line s x.bytes ∷ w.lines))) ++ map bytes_in_order (cond b (up_to_section w.lines ∷ by_section w.lines) (by_section w.lines))) (sym other))));
    }

in_last_written : (m : Meanings) (n : ℕ) (e g f : Emitted) (p q : Placed) (rest : List (Statement ℕ)) (s : Statement ℕ) → begins_section s ≡ false
    → ((section here : ℕ) (bytes : List ℕ) → statement_bytes m n section here s ≡ Ok bytes → PutsBytes s bytes) → Agree m e p → IsTaken p q s
    → in_last m n e (newest_section e.sections) s ≡ Ok g → Written g f rest → Written e f (s ∷ rest)
in_last_written m n e g f p q rest s other puts a t goes w = put_written e g f rest s other (put_last m n e g p q s puts a t goes) w

one_line : (m : Meanings) (n : ℕ) (e g f : Emitted) (p q : Placed) (rest : List (Statement ℕ)) (s : Statement ℕ) → Agree m e p → placed n p s ≡ Ok q → emitted m n e s ≡ Ok g → Written g f rest → Written e f (s ∷ rest)
one_line m n e g f p q rest (Section name kind) a j k w = section_written m e g f rest name kind (is_opened m n e g name kind k) w
one_line m n e g f p q rest (Label name) a j k w = passed_written e f rest (Label name) refl refl (subst (λ (x : Emitted). Written x f rest) (sym (ok_is e g k)) w)
one_line m n e g f p q rest (Global name) a j k w = passed_written e f rest (Global name) refl refl (subst (λ (x : Emitted). Written x f rest) (sym (ok_is e g k)) w)
one_line m n e g f p q rest (Word field) a j k w =
    in_last_written m n e g f p q rest (Word field) refl (λ section here bytes made. sym (ok_is _ bytes made)) a (taken n p q (Word field) (λ h. refl) j) k w
one_line m n e g f p q rest (Space size) a j k w =
    in_last_written m n e g f p q rest (Space size) refl (λ section here bytes made. sym (ok_is _ bytes made)) a (taken n p q (Space size) (λ h. refl) j) k w
one_line m n e g f p q rest (Jump c t) a j k w =
    in_last_written m n e g f p q rest (Jump c t) refl (λ section here bytes made. jump_size n section here c (spot_of m.spots t) bytes made) a (taken n p q (Jump c t) (λ h. refl) j) k w
one_line m n e g f p q rest (Code insn x y) a j k w =
    in_last_written m n e g f p q rest (Code insn x y) refl (λ section here bytes made. ok_or_is (code_bytes insn) (LineFault n) bytes made) a (taken n p q (Code insn x y) (λ h. refl) j) k w

all_lines : (m : Meanings) (n : ℕ) (e f : Emitted) (p q : Placed) (statements : List (Statement ℕ)) → Agree m e p → placed_from n p statements ≡ Ok q → emitted_from m n e statements ≡ Ok f → Written e f statements
all_lines m n e f p q [] a j k = record {
  lines = [];
  are = refl;
  put = All-nil (λ (l : Line). PutsBytes l.statement l.bytes);
  sections = ap (λ (x : Emitted). bytes_in x.sections) (sym (ok_is e f k)) ∙ (sym (after_none (bytes_in e.sections)) ∙ sym (append-nil (after_last (bytes_in e.sections) [])));
}
all_lines m n e f p q (s ∷ rest) a j k =
    let place = next_place n p s rest q j in
    let next = next_line m n e s rest f k in
    one_line m n e next.after f p place.after rest s a place.is next.is
    (all_lines m (n + 1) next.after f place.after q rest (agree_more m n e next.after p place.after s a place.is next.is) place.goes next.goes)

pub sections_are_lines : SectionsAreLines
unfolding assembled
sections_are_lines text u k =
    let s : SourceRead = source_read text in
    let a = accepted s u k in
    let none : Agree (meanings s a.places) nothing (nowhere (name_count s)) = record { shapes = refl; filled = λ i d h. absurd (omega (arith, h)) } in
    let w = all_lines (meanings s a.places) 1 nothing a.end (nowhere (name_count s)) a.places s.statements none a.goes a.is in
    record { lines = w.lines; are = w.are; put = w.put; in_order = ap (λ (v : UnitValue). bytes_in v.sections) (sym a.unit) ∙ w.sections }
