-- One line, and what the rules say of the text from it on.
use Rattle.std.proofs.Common.{◌≡◌, ℕ, ◌+◌, ◌<◌, List, [], ◌∷◌, ◌++◌, length, true, false, Option, Some, None, refl, sym, ap, ◌∙◌, subst, arith, length-append}
use Rattle.std.proofs.lemmas.Bool.Decides.{nat_tests}
use Rattle.mod_layout.specs.declared.Module.{Module}
use Rattle.mod_layout.specs.declared.TableFault.{TableFault}
use Rattle.mod_layout.specs.Table.{Table, fault_of, empty_table}
use Rattle.mod_layout.specs.Tables.{IsTable}
use Rattle.texts.specs.Lines.{ended_lines, unended, lines_text}
use Rattle.texts.proofs.LawLemmas.{texts_are_lines}
use Rattle.image_text.specs.declared.ImageFault.{ImageFault}
use Rattle.image_text.specs.declared.ImageFault.TheVariants.{Line, Table as TableRefuses}
use Rattle.image_text.specs.Image.{AreNumbered}
use Rattle.image_text.specs.ImageText.{line_before, modules_text, module_line}
use Rattle.image_text.specs.Refusal.{Spot, next_spot, formed, module_form, modules_refusal, rows_refusal, end_refusal, section_at, digits_word, added, taken_or, one_less}
use Rattle.image_text.specs.internal.Reading.{Unread, on, ReadLine, HasLineForm, due_next, AddsModule, IsLeft, IsGivenCount, ModulesSoFar, PassedModules}
use Rattle.image_text.proofs.FormLemmas.{formed_ok}
use Rattle.image_text.proofs.LineTexts.{module_line_of}

abbrev pub Stage : Type 0
Stage = Spot → List (List ℕ) → List ℕ → Option ImageFault

-- what is refused of a line at a spot, by the parts of the spot
pub form_fails : (form line : List ℕ) (s : Spot) (rest said : Option ImageFault) (n a : ℕ) (fault : ImageFault) → said ≡ formed form s line rest → n ≡ s.number → a ≡ s.at
    → ((rest : Option ImageFault) → formed form record { number = n; at = a } line rest ≡ Some fault) → said ≡ Some fault
form_fails form line s rest said n a fault is e f err = let whole = err rest in is ∙ (rw (e, f) at whole)

-- what a stage says where one line was read
pub line_on : (R : Stage) (old new : Unread) (line : List ℕ) → ReadLine old line new → on old R ≡ R old.spot (line ∷ ended_lines new.rest) (unended new.rest)
line_on R old new line h = ap (λ (l : List (List ℕ)). R old.spot l (unended old.rest)) h.lines ∙ ap (λ (t : List ℕ). R old.spot (line ∷ ended_lines new.rest) t) h.tail

-- and from the next line on
pub next_on : (R : Stage) (old new : Unread) (line : List ℕ) → ReadLine old line new → R (next_spot line old.spot) (ended_lines new.rest) (unended new.rest) ≡ on new R
next_on R old new line h = ap (λ (s : Spot). R s (ended_lines new.rest) (unended new.rest)) (sym h.spot)

-- ---- modules

-- where no module is due, the rows follow
pub none_due : (t : Table) (left : Option ℕ) (s : Spot) (lines : List (List ℕ)) (tail : List ℕ) → due_next left lines ≡ false → modules_refusal t left s lines tail ≡ rows_refusal 496 s lines tail
none_due t None s [] tail e = refl
none_due t None s (line ∷ more) tail e = rw e refl
none_due t (Some n) s [] tail e = refl
none_due t (Some n) s (line ∷ more) tail e = rw e refl

-- where one is due, its line is the next
pub one_due : (t : Table) (left : Option ℕ) (s : Spot) (line : List ℕ) (more : List (List ℕ)) (tail : List ℕ) → due_next left (line ∷ more) ≡ true
    → modules_refusal t left s (line ∷ more) tail ≡ formed module_form s line (taken_or (fault_of t (section_at 12 line) (section_at 22 line)) (t.given + 1) (modules_refusal (added t line) (one_less left) (next_spot line s) more tail))
one_due t None s line more tail e = rw e refl
one_due t (Some n) s line more tail e = rw e refl

pub numbered_more : (id : ℕ) (ms : List Module) (m : Module) → AreNumbered id ms → m.id ≡ id + length ms → m.vendor < 65536 → AreNumbered id (ms ++ m ∷ [])
numbered_more id [] m h e v = (omega (arith, e), v, tt)
numbered_more id (x ∷ ms) m h e v = (h.0, h.1, numbered_more (id + 1) ms m h.2 (omega (arith, e)) v)

pub modules_text_more : (ms : List Module) (m : Module) (rest : List ℕ) → modules_text (ms ++ m ∷ []) rest ≡ modules_text ms (line_before (module_line m) rest)
modules_text_more [] m rest = refl
modules_text_more (x ∷ ms) m rest = ap (λ (l : List ℕ). line_before (module_line x) l) (modules_text_more ms m rest)

pub left_less : (due left : Option ℕ) (given : ℕ) (lines : List (List ℕ)) → IsLeft due left given → due_next left lines ≡ true → IsLeft due (one_less left) (given + 1)
left_less None None given lines h e = tt
left_less (Some n) (Some k) given lines h e = let some : 0 < k = grind (arith, nat_tests) in omega (arith, h)
left_less _ _ given lines h e = absurd h

pub all_given : (due left : Option ℕ) (given : ℕ) (lines : List (List ℕ)) → IsLeft due left given → due_next left lines ≡ false → IsGivenCount due given
all_given None left given lines h e = tt
all_given (Some n) None given lines h e = absurd h
all_given (Some n) (Some k) given lines h e = let none : k ≡ 0 = grind (arith, nat_tests) in omega (arith, h)

pub first_left : (due : Option ℕ) → IsLeft due due 0
first_left None = tt
first_left (Some n) = omega arith

-- the whole refusal of the modules, past one of them
pub past_module : (old new : Unread) (t u : Table) (left : Option ℕ) → AddsModule old new t u → due_next left (ended_lines old.rest) ≡ true → on old (modules_refusal t left) ≡ on new (modules_refusal u (one_less left))
past_module old new t u left a e =
    let r = a.read in
    line_on (modules_refusal t left) old new a.line r
    ∙ one_due t left old.spot a.line _ _ (ap (due_next left) (sym r.lines) ∙ e)
    ∙ formed_ok module_form old.spot a.line _ a.form
    ∙ ap (λ (o : Option _). taken_or o (t.given + 1) (modules_refusal (added t a.line) (one_less left) (next_spot a.line old.spot) (ended_lines new.rest) (unended new.rest))) a.taken
    ∙ ap (λ (v : Table). modules_refusal v (one_less left) (next_spot a.line old.spot) (ended_lines new.rest) (unended new.rest)) (sym a.table)
    ∙ next_on (modules_refusal u (one_less left)) old new a.line r

-- ---- the end

-- where bytes are left, no end
pub not_ended : (s : Spot) (b : ℕ) (bytes : List ℕ) → end_refusal s (ended_lines (b ∷ bytes)) (unended (b ∷ bytes)) ≡ Some (Line s.number)
not_ended s b bytes = by (ended_lines (b ∷ bytes)) refl
  where
    by : (l : List (List ℕ)) → ended_lines (b ∷ bytes) ≡ l → end_refusal s l (unended (b ∷ bytes)) ≡ Some (Line s.number)
    by [] e = ap (λ (t : List ℕ). end_refusal s [] t) (sym (texts_are_lines (b ∷ bytes) ∙ ap (λ (l : List (List ℕ)). lines_text l (unended (b ∷ bytes))) e))
    by (x ∷ l) e = refl

pub not_ended_yet : (s : Spot) (bytes : List ℕ) → 0 < length bytes → end_refusal s (ended_lines bytes) (unended bytes) ≡ Some (Line s.number)
not_ended_yet s [] l = absurd (omega arith)
not_ended_yet s (b ∷ bytes) l = not_ended s b bytes

-- a module's line that has not the form, and one whose module the table refuses
module _ (old new : Unread) (t : Table) (left : Option ℕ) (line : List ℕ) (read : ReadLine old line new) (due : due_next left (ended_lines old.rest) ≡ true) where
  pub due_line : on old (modules_refusal t left) ≡ formed module_form old.spot line (taken_or (fault_of t (section_at 12 line) (section_at 22 line)) (t.given + 1) (modules_refusal (added t line) (one_less left) (next_spot line old.spot) (ended_lines new.rest) (unended new.rest)))
  due_line = line_on (modules_refusal t left) old new line read ∙ one_due t left old.spot line _ _ (ap (due_next left) (sym read.lines) ∙ due)

  pub module_refused : (fault : TableFault) → HasLineForm module_form line → fault_of t (section_at 12 line) (section_at 22 line) ≡ Some fault → on old (modules_refusal t left) ≡ Some (TableRefuses (t.given + 1) fault)
  module_refused fault h e =
      due_line ∙ formed_ok module_form old.spot line _ h
      ∙ ap (λ (o : Option TableFault). taken_or o (t.given + 1) (modules_refusal (added t line) (one_less left) (next_spot line old.spot) (ended_lines new.rest) (unended new.rest))) e

-- one module more
pub modules_more : (room : ℕ) (due : Option ℕ) (start : Unread) (t u : Table) (now next : Unread) (left : Option ℕ)
    → ModulesSoFar room due start t now left → AddsModule now next t u → IsTable u → due_next left (ended_lines now.rest) ≡ true → ModulesSoFar room due start u next (one_less left)
modules_more room due start t u now next left h a ok e =
    let line = a.line in
    let m : Module = record { id = t.given + 1; vendor = digits_word 7 line; text = section_at 12 line; ram = section_at 22 line } in
    let k = module_line_of line a.form in
    let r = a.read in
    let held = h.all_held in
    let grown : ModulesSoFar room due start (added t line) next (one_less left) = record {
      table_ok = subst IsTable a.table ok;
      room_is = h.room_is;
      all_held = omega (arith, held, length-append t.modules (m ∷ []));
      numbered = numbered_more 1 t.modules m h.numbered (omega (arith, held)) k.small;
      text = h.text ∙ ap (λ (l : List ℕ). modules_text t.modules l) (r.text ∙ ap (λ (l : List ℕ). line_before l next.rest) (k.text (t.given + 1))) ∙ sym (modules_text_more t.modules m next.rest);
      refusal = h.refusal ∙ past_module now next t u left a e ∙ ap (λ (v : Table). on next (modules_refusal v (one_less left))) a.table;
      count = left_less due left t.given (ended_lines now.rest) h.count e;
    } in
    subst (λ (v : Table). ModulesSoFar room due start v next (one_less left)) (sym a.table) grown

-- no module more
pub modules_done : (room : ℕ) (due : Option ℕ) (start : Unread) (t : Table) (now : Unread) (left : Option ℕ)
    → ModulesSoFar room due start t now left → due_next left (ended_lines now.rest) ≡ false → PassedModules room due t start now
modules_done room due start t now left h e = record {
  text = h.text;
  refusal = h.refusal ∙ none_due t left now.spot (ended_lines now.rest) (unended now.rest) e;
  table_ok = h.table_ok;
  room_is = h.room_is;
  numbered = h.numbered;
  all_held = h.all_held;
  count = all_given due left t.given (ended_lines now.rest) h.count e;
}

-- no module yet
pub modules_none : (room : ℕ) (due : Option ℕ) (start : Unread) (t : Table) → t ≡ empty_table room → IsTable t → ModulesSoFar room due start t start due
modules_none room due start t e ok =
    let none : ModulesSoFar room due start (empty_table room) start due = record { table_ok = subst IsTable e ok; room_is = refl; all_held = refl; numbered = tt; text = refl; refusal = refl; count = first_left due } in
    subst (λ (v : Table). ModulesSoFar room due start v start due) (sym e) none
