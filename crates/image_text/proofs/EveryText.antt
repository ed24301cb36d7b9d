-- Bytes of which no refusal holds are some image's text: the image is gathered line by line.
use Rattle.std.proofs.Common.{◌≡◌, ◌⊎◌, inl, inr, ⊎_elim, ℕ, zero, suc, ◌+◌, ◌-◌, ◌%◌, ◌<◌, List, [], ◌∷◌, ◌++◌, length, take, drop, replicate, slice_index, Bool, true, false, cond, ◌==◌, nat_eq, is_none, codes, Option, Some, None, position, refl, sym, ap, ◌∙◌, subst, arith, length-append}
use Rattle.std.specs.Cmp.Lexicographic.{pointwise}
use Rattle.std.specs.List.{starts_with}
use Rattle.std.proofs.lemmas.Bool.Decides.{nat_tests}
use Rattle.std.proofs.lemmas.Slice.Eq.{bytes_eq-Decides}
use Rattle.texts.specs.Decimals.{read_decimal}
use Rattle.texts.specs.Lines.{is_line_feed, ended_lines, unended}
use Rattle.texts.proofs.LineLemmas.{cut_at, no_line}
use Rattle.mod_layout.specs.declared.TableFault.{TableFault}
use Rattle.mod_layout.specs.Table.{Table, empty_table, fault_of}
use Rattle.mod_layout.specs.Tables.{IsTable}
use Rattle.mod_layout.proofs.TableLemmas.{table_more}
use Rattle.image_text.specs.declared.numbers.TheConstants.{MAX_VERSION}
use Rattle.image_text.specs.declared.ImageFault.{ImageFault}
use Rattle.image_text.specs.declared.ImageFault.TheVariants.{Line, Twice}
use Rattle.image_text.specs.Image.{Image}
use Rattle.image_text.specs.ImageText.{line_before, first_line, key_line, handler_line, end_line}
use Rattle.image_text.specs.Refusal.{Spot, next_spot, line_fault, has_form, bad_digit, digit_or, formed, key_form, handler_form, module_form, row_form, digits_bytes, digits_word, section_at, announced_count, counted_or_line, count_refusal, modules_refusal, handler_refusal, key_refusal, version_or_line, version_refusal, first_refusal, end_refusal, is_row, row_or, rows_refusal, taken_or, added, one_less, refusal_of}
use Rattle.image_text.specs.internal.Reading.{Unread, on, ReadLine, HasLineForm, PassedCount, due_next, AddsModule, ModulesSoFar, PassedModules, RowsSoFar, PassedMemory}
use Rattle.image_text.specs.Laws.{Complete}
use Rattle.image_text.proofs.FormLemmas.{has_form_of}
use Rattle.image_text.proofs.LineTexts.{key_line_of, handler_line_of}
use Rattle.image_text.proofs.CountLines.{passed_count}
use Rattle.image_text.proofs.StageLemmas.{Stage, line_on, next_on, due_line, past_module, modules_more, modules_done, modules_none, not_ended_yet}
use Rattle.image_text.proofs.RowTexts.{row_on, adds_row, rows_more, rows_none, rows_done}
use Rattle.image_text.proofs.WholeText.{whole_text, whole_image}

-- ---- a line

record HasLine (u : Unread) : Type 0 where
  pub line : List ℕ
  pub next : Unread
  pub read : ReadLine u line next
  pub shorter : length next.rest < length u.rest

next_line : (u : Unread) → HasLine u ⊎ (ended_lines u.rest ≡ [])
next_line u = by (position is_line_feed u.rest) refl
  where
    by : (o : Option ℕ) → position is_line_feed u.rest ≡ o → HasLine u ⊎ (ended_lines u.rest ≡ [])
    by None e = inr (no_line u.rest e).lines
    by (Some i) e =
        let c = cut_at u.rest i e in
        inl record {
          line = take i u.rest;
          next = record { rest = drop (i + 1) u.rest; spot = next_spot (take i u.rest) u.spot };
          read = record { text = c.cut; lines = c.lines; tail = c.behind; spot = refl };
          shorter = omega (arith, ap length c.cut, length-append (take i u.rest) (10 ∷ drop (i + 1) u.rest));
        }

-- a rule that wants a line has one
must_line : (R : Stage) → ((s : Spot) (tail : List ℕ) → R s [] tail ≡ line_fault s) → (u : Unread) → on u R ≡ None → HasLine u
must_line R wants u e = ⊎_elim (λ h. h) (λ none. absurd (clash (ap (λ (l : List (List ℕ)). R u.spot l (unended u.rest)) none ∙ wants u.spot (unended u.rest)))) (next_line u)
  where
    clash : on u R ≡ line_fault u.spot → ⊥
    clash f = cc

record IsFormed (form line : List ℕ) (rest : Option ImageFault) : Type 0 where
  pub has : HasLineForm form line
  pub after : rest ≡ None

-- a line of a form that is not refused has the form, and what comes after is not refused
formed_none : (form : List ℕ) (s : Spot) (line : List ℕ) (rest : Option ImageFault) → formed form s line rest ≡ None → IsFormed form line rest
formed_none form s line rest e = by (has_form form line) (bad_digit form line s.at) refl refl e
  where
    by : (c : Bool) (o : Option ℕ) → has_form form line ≡ c → bad_digit form line s.at ≡ o → cond c (digit_or o rest) (line_fault s) ≡ None → IsFormed form line rest
    by true None f g e = record { has = has_form_of form line s.at f g; after = e }
    by _ _ f g e = absurd cc

-- a line of the text, and what the next rule says of the text behind it
record Went (line : List ℕ) (R : Stage) (u : Unread) : Type 0 where
  pub next : Unread
  pub text : u.rest ≡ line_before line next.rest
  pub none : on next R ≡ None

went : (R : Stage) (u : Unread) (line : List ℕ) (h : HasLine u) → h.line ≡ line → R (next_spot h.line u.spot) (ended_lines h.next.rest) (unended h.next.rest) ≡ None → Went line R u
went R u line h is e = record {
  next = h.next;
  text = let r = h.read in r.text ∙ ap (λ (l : List ℕ). line_before l h.next.rest) is;
  none = sym (next_on R u h.next h.line h.read) ∙ e;
}

-- ---- the first lines

record FirstLine (u : Unread) : Type 0 where
  pub room : ℕ
  pub known : (room ≡ 8) ⊎ (room ≡ 32)
  pub went : Went (first_line room) (key_refusal room) u

first_stage : (u : Unread) → on u first_refusal ≡ None → FirstLine u
first_stage u e = by (pointwise nat_eq h.line (codes "sancus-image 1")) (pointwise nat_eq h.line (codes "sancus-image 2")) refl refl (sym (line_on first_refusal u h.next h.line h.read) ∙ e)
  where
    h : HasLine u
    h = must_line first_refusal (λ s tail. refl) u e

    refused : version_refusal u.spot h.line ≡ None → ⊥
    refused f = version (starts_with nat_eq h.line (codes "sancus-image ")) (read_decimal MAX_VERSION (drop 13 h.line)) f
      where
        version : (c : Bool) (o : Option ℕ) → cond c (version_or_line o u.spot) (line_fault u.spot) ≡ None → ⊥
        version true None f = cc
        version _ _ f = cc

    by : (a b : Bool) → pointwise nat_eq h.line (codes "sancus-image 1") ≡ a → pointwise nat_eq h.line (codes "sancus-image 2") ≡ b
        → cond a (key_refusal 8 (next_spot h.line u.spot) (ended_lines h.next.rest) (unended h.next.rest)) (cond b (key_refusal 32 (next_spot h.line u.spot) (ended_lines h.next.rest) (unended h.next.rest)) (version_refusal u.spot h.line)) ≡ None → FirstLine u
    by true b p q e = record { room = 8; known = inl refl; went = went (key_refusal 8) u (codes "sancus-image 1") h ((bytes_eq-Decides h.line (codes "sancus-image 1")).0 p) e }
    by false true p q e = record { room = 32; known = inr refl; went = went (key_refusal 32) u (codes "sancus-image 2") h ((bytes_eq-Decides h.line (codes "sancus-image 2")).0 q) e }
    by false false p q e = absurd (refused e)

record KeyLine (room : ℕ) (u : Unread) : Type 0 where
  pub key : List ℕ
  pub sixteen : length key ≡ 16
  pub bytes : (n : ℕ) → slice_index key n < 256
  pub went : Went (key_line key) (handler_refusal room) u

key_stage : (room : ℕ) (u : Unread) → on u (key_refusal room) ≡ None → KeyLine room u
key_stage room u e =
    let h = must_line (key_refusal room) (λ s tail. refl) u e in
    let f = formed_none key_form u.spot h.line _ (sym (line_on (key_refusal room) u h.next h.line h.read) ∙ e) in
    let k = key_line_of h.line f.has in
    let c = k.coded in
    record { key = digits_bytes 4 16 h.line; sixteen = c.count; bytes = c.are_bytes; went = went (handler_refusal room) u (key_line (digits_bytes 4 16 h.line)) h k.text f.after }

record HandlerLine (room : ℕ) (u : Unread) : Type 0 where
  pub sp : ℕ
  pub even : sp % 2 ≡ 0
  pub small : sp < 65536
  pub went : Went (handler_line sp) (count_refusal room) u

handler_stage : (room : ℕ) (u : Unread) → on u (handler_refusal room) ≡ None → HandlerLine room u
handler_stage room u e = by (digits_word 8 h.line % 2 == 0) refl f.after
  where
    h : HasLine u
    h = must_line (handler_refusal room) (λ s tail. refl) u e

    f : IsFormed handler_form h.line (cond (digits_word 8 h.line % 2 == 0) (count_refusal room (next_spot h.line u.spot) (ended_lines h.next.rest) (unended h.next.rest)) (line_fault u.spot))
    f = formed_none handler_form u.spot h.line _ (sym (line_on (handler_refusal room) u h.next h.line h.read) ∙ e)

    by : (c : Bool) → (digits_word 8 h.line % 2 == 0) ≡ c → cond c (count_refusal room (next_spot h.line u.spot) (ended_lines h.next.rest) (unended h.next.rest)) (line_fault u.spot) ≡ None → HandlerLine room u
    by true p e =
        let k = handler_line_of h.line f.has in
        record { sp = digits_word 8 h.line; even = grind (arith, nat_tests); small = k.small; went = went (count_refusal room) u (handler_line (digits_word 8 h.line)) h k.text e }
    by false p e = absurd cc

record CountLine (room : ℕ) (u : Unread) : Type 0 where
  pub due : Option ℕ
  pub next : Unread
  pub passed : PassedCount room due u next

count_stage : (room : ℕ) (u : Unread) → (room ≡ 8) ⊎ (room ≡ 32) → on u (count_refusal room) ≡ None → CountLine room u
count_stage room u (inl first) e = subst (λ r. CountLine r u) (sym first) record { due = None; next = u; passed = record { kind = refl; text = refl; refusal = refl } }
count_stage room u (inr second) e = by (announced_count h.line) refl (sym (line_on (count_refusal 32) u h.next h.line h.read) ∙ announced)
  where
    announced : on u (count_refusal 32) ≡ None
    announced = subst (λ r. on u (count_refusal r) ≡ None) second e

    h : HasLine u
    h = must_line (count_refusal 32) (λ s tail. refl) u announced

    by : (o : Option ℕ) → announced_count h.line ≡ o → counted_or_line o u.spot (modules_refusal (empty_table 32) o (next_spot h.line u.spot) (ended_lines h.next.rest) (unended h.next.rest)) ≡ None → CountLine room u
    by None p e = absurd cc
    by (Some n) p e = record { due = Some n; next = h.next; passed = passed_count room n u h.next h.line second h.read p }

-- ---- the modules

taken_none : (o : Option TableFault) (id : ℕ) (rest : Option ImageFault) → taken_or o id rest ≡ None → (o ≡ None) × (rest ≡ None)
taken_none None id rest e = (refl, e)
taken_none (Some fault) id rest e = absurd cc

record ModuleLine (t : Table) (line : List ℕ) : Type 0 where
  pub has : HasLineForm module_form line
  pub free : fault_of t (section_at 12 line) (section_at 22 line) ≡ None

-- a module's line, where one is due
module_stage : (u : Unread) (t : Table) (left : Option ℕ) (h : HasLine u) → due_next left (ended_lines u.rest) ≡ true → on u (modules_refusal t left) ≡ None → ModuleLine t h.line
module_stage u t left h due e =
    let f = formed_none module_form u.spot h.line _ (sym (due_line u h.next t left h.line h.read due) ∙ e) in
    let free = taken_none (fault_of t (section_at 12 h.line) (section_at 22 h.line)) (t.given + 1) _ f.after in
    record { has = f.has; free = free.0 }

record ModuleLines (room : ℕ) (due : Option ℕ) (start : Unread) : Type 0 where
  pub table : Table
  pub next : Unread
  pub passed : PassedModules room due table start next

modules_stage : (n room : ℕ) (due : Option ℕ) (start : Unread) (t : Table) (u : Unread) (left : Option ℕ) → length u.rest < n
    → ModulesSoFar room due start t u left → on u (modules_refusal t left) ≡ None → ModuleLines room due start
modules_stage zero room due start t u left short so e = absurd (omega arith)
modules_stage (suc n) room due start t u left short so e = by (due_next left (ended_lines u.rest)) refl (λ next v less l so e. modules_stage n room due start v next l less so e)
  where
    by : (c : Bool) → due_next left (ended_lines u.rest) ≡ c
        → ((next : Unread) (v : Table) → length next.rest < n → (l : Option ℕ) → ModulesSoFar room due start v next l → on next (modules_refusal v l) ≡ None → ModuleLines room due start)
        → ModuleLines room due start
    by false p more = record { table = t; next = u; passed = modules_done room due start t u left so p }
    by true p more =
        let h = must_line (modules_refusal t left) (λ s tail. refl) u e in
        let m = module_stage u t left h p e in
        let line = h.line in
        let a : AddsModule u h.next t (added t line) = record { line = line; read = h.read; form = m.has; taken = m.free; table = refl } in
        let ok = table_more t (digits_word 7 line) (section_at 12 line) (section_at 22 line) so.table_ok (ap is_none m.free) in
        more h.next (added t line) (let l = h.shorter in omega arith) (one_less left) (modules_more room due start t (added t line) u h.next left so a ok p)
        (sym (past_module u h.next t (added t line) left a p) ∙ e)

-- ---- the rows

record MemoryLines (start : Unread) : Type 0 where
  pub memory : List ℕ
  pub passed : PassedMemory memory start

ended_none : (u : Unread) → on u end_refusal ≡ None → u.rest ≡ []
ended_none u e = by u.rest (λ l. not_ended_yet u.spot u.rest l)
  where
    by : (text : List ℕ) → (0 < length text → on u end_refusal ≡ Some (Line u.spot.number)) → text ≡ []
    by [] f = refl
    by (b ∷ text) f = absurd (let x = f (omega arith) in cc)

record RowLine (last : ℕ) (u : Unread) (h : HasLine u) : Type 0 where
  pub has : HasLineForm row_form h.line
  pub row : is_row last (digits_word 3 h.line) (digits_bytes 8 16 h.line) ≡ true
  pub above : (digits_word 3 h.line == last) ≡ false

row_stage : (last : ℕ) (u : Unread) (h : HasLine u) → pointwise nat_eq h.line end_line ≡ false → on u (rows_refusal last) ≡ None → RowLine last u h
row_stage last u h other e =
    by (is_row last (digits_word 3 h.line) (digits_bytes 8 16 h.line)) (digits_word 3 h.line == last) refl refl f.after
  where
    f : IsFormed row_form h.line (row_or last u.spot h.line (rows_refusal (digits_word 3 h.line) (next_spot h.line u.spot) (ended_lines h.next.rest) (unended h.next.rest)))
    f = formed_none row_form u.spot h.line _ (sym (row_on last u h.next h.line h.read other) ∙ e)

    by : (a b : Bool) → is_row last (digits_word 3 h.line) (digits_bytes 8 16 h.line) ≡ a → (digits_word 3 h.line == last) ≡ b
        → cond a (cond b (Some (Twice (digits_word 3 h.line))) (rows_refusal (digits_word 3 h.line) (next_spot h.line u.spot) (ended_lines h.next.rest) (unended h.next.rest))) (line_fault u.spot) ≡ None → RowLine last u h
    by true false p q e = record { has = f.has; row = p; above = q }
    by _ _ p q e = absurd cc

rows_stage : (n : ℕ) (start : Unread) (last : ℕ) (memory : List ℕ) (u : Unread) → length u.rest < n → last % 16 ≡ 0
    → RowsSoFar start.rest last memory u.rest → on u (rows_refusal last) ≡ None → MemoryLines start
rows_stage zero start last memory u short even so e = absurd (omega arith)
rows_stage (suc n) start last memory u short even so e =
    by (pointwise nat_eq h.line end_line) refl (λ next at grown less even so e. rows_stage n start at grown next less even so e)
  where
    h : HasLine u
    h = must_line (rows_refusal last) (λ s tail. refl) u e

    by : (c : Bool) → pointwise nat_eq h.line end_line ≡ c
        → ((next : Unread) (at : ℕ) (grown : List ℕ) → length next.rest < n → at % 16 ≡ 0 → RowsSoFar start.rest at grown next.rest → on next (rows_refusal at) ≡ None → MemoryLines start)
        → MemoryLines start
    by true p more =
        let w = went end_refusal u end_line h ((bytes_eq-Decides h.line end_line).0 p)
        (sym (line_on (rows_refusal last) u h.next h.line h.read ∙ ap (λ b. cond b (end_refusal (next_spot h.line u.spot) (ended_lines h.next.rest) (unended h.next.rest)) (formed row_form u.spot h.line (row_or last u.spot h.line (rows_refusal (digits_word 3 h.line) (next_spot h.line u.spot) (ended_lines h.next.rest) (unended h.next.rest))))) p) ∙ e) in
        let none = ended_none w.next w.none in
        record {
          memory = memory ++ replicate (65536 - length memory) 0;
          passed = rows_done start last memory (memory ++ replicate (65536 - length memory) 0) u.rest even so (w.text ∙ ap (λ (l : List ℕ). line_before end_line l) none) refl;
        }
    by false p more =
        let r = row_stage last u h p e in
        let at = digits_word 3 h.line in
        let grown : List ℕ = (memory ++ replicate (at - length memory) 0) ++ digits_bytes 8 16 h.line in
        let a = adds_row last u h.next h.line h.read p r.has at memory grown refl r.row r.above refl in
        more h.next at grown (let l = h.shorter in omega arith) a.even (rows_more start.rest last at memory grown u h.next a.even so a) (sym a.refusal ∙ e)

-- ---- the whole

empty_ok : (room : ℕ) → (room ≡ 8) ⊎ (room ≡ 32) → IsTable (empty_table room)
empty_ok room known = record { modules = tt; fits = omega arith; room_ok = known }

pub every_text : Complete
unfolding refusal_of
every_text bytes e =
    let start : Unread = record { rest = bytes; spot = record { number = 1; at = 0 } } in
    let f = first_stage start e in
    let w = f.went in
    let k = key_stage f.room w.next w.none in
    let kw = k.went in
    let h = handler_stage f.room kw.next kw.none in
    let hw = h.went in
    let n = count_stage f.room hw.next f.known hw.none in
    let np = n.passed in
    let m = modules_stage (suc (length n.next.rest)) f.room n.due n.next (empty_table f.room) n.next n.due (omega arith)
    (modules_none f.room n.due n.next (empty_table f.room) refl (empty_ok f.room f.known)) (sym np.refusal ∙ hw.none) in
    let mp = m.passed in
    let r = rows_stage (suc (length m.next.rest)) m.next 496 (replicate 512 0) m.next (omega arith) refl (rows_none m.next.rest (replicate 512 0) refl) (sym mp.refusal ∙ (sym np.refusal ∙ hw.none)) in
    let rp = r.passed in
    let image : Image = record { memory = r.memory; table = m.table; node_key = k.key; handler_sp = h.sp } in (
      image,
      whole_image r.memory k.key m.table h.sp f.room n.due n.next m.next m.next mp rp k.sixteen k.bytes h.even h.small,
      whole_text image f.room n.due bytes w.next.rest kw.next.rest hw.next.rest n.next.rest m.next.rest mp.room_is np.kind mp.count w.text kw.text hw.text np.text mp.text rp.text,
    )
