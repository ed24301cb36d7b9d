-- Texts of rows of memory.
use Rattle.std.proofs.Common.{◌≡◌, ℕ, zero, suc, ◌+◌, ◌-◌, ◌*◌, ◌/◌, ◌%◌, ◌<◌, ◌≤◌, List, [], ◌∷◌, ◌++◌, length, take, drop, replicate, slice_index, Bool, true, false, cond, not, ◌&&◌, ◌==◌, ◌≢◌, nat_eq, nat_lt, Option, Some, refl, sym, ap, ◌∙◌, subst, arith, append_assoc, length-append, length-drop}
use Rattle.std.proofs.lemmas.Bool.Decides.{nat_tests}
use Rattle.std.proofs.lemmas.List.{append-nil, take-append-le, drop-append-le, take_at, length-replicate, replicate-append-replicate, get_or-replicate, get_or_append_left, nil_from_length}
use Rattle.hex.specs.Hex.{IsBytes}
use Rattle.texts.specs.Lines.{ended_lines, unended}
use Rattle.image_text.specs.ImageText.{line_before, end_line, is_zero, row_line, row_text, rows_text}
use Rattle.std.specs.Cmp.Lexicographic.{pointwise}
use Rattle.std.proofs.lemmas.Bool.{not-true, and_parts}
use Rattle.image_text.specs.declared.ImageFault.{ImageFault}
use Rattle.image_text.specs.declared.ImageFault.TheVariants.{Line, Twice}
use Rattle.image_text.specs.Refusal.{next_spot, formed, row_form, row_or, is_row, digits_word, digits_bytes, rows_refusal, end_refusal}
use Rattle.image_text.proofs.FormLemmas.{formed_ok}
use Rattle.image_text.proofs.LineTexts.{row_line_of}
use Rattle.image_text.proofs.StageLemmas.{line_on, next_on}
use Rattle.image_text.specs.internal.Reading.{Unread, on, ReadLine, HasLineForm, AddsRow, RowsSoFar, PassedMemory}

-- rows, and more rows
pub rows_append : (n k at : ℕ) (m1 m2 rest : List ℕ) → length m1 ≡ 16 * n → rows_text (n + k) at (m1 ++ m2) rest ≡ rows_text n at m1 (rows_text k (at + 16 * n) m2 rest)
unfolding rows_text
rows_append zero k at m1 m2 rest len =
    let none : m1 ≡ [] = nil_from_length m1 (omega (arith, len)) in
    let count : 0 + k ≡ k = omega arith in
    let place : at + 16 * 0 ≡ at = omega arith in
    ap (λ (c : ℕ). rows_text c at (m1 ++ m2) rest) count ∙ ap (λ (m : List ℕ). rows_text k at (m ++ m2) rest) none ∙ sym (ap (λ (a : ℕ). rows_text k a m2 rest) place)
rows_append (suc n) k at m1 m2 rest len =
    let count : suc n + k ≡ suc (n + k) = omega arith in
    let place : at + 16 + 16 * n ≡ at + 16 * suc n = omega arith in
    let front = take-append-le 16 m1 m2 (omega (arith, len)) in
    let back = drop-append-le 16 m1 m2 (omega (arith, len)) in
    let next = rows_append n k (at + 16) (drop 16 m1) m2 rest (omega (arith, len, length-drop 16 m1)) in
    ap (λ (c : ℕ). rows_text c at (m1 ++ m2) rest) count
    ∙ ap (λ (r : List ℕ). row_text at r (rows_text (n + k) (at + 16) (drop 16 (m1 ++ m2)) rest)) front
    ∙ ap (λ (m : List ℕ). row_text at (take 16 m1) (rows_text (n + k) (at + 16) m rest)) back
    ∙ ap (λ (t : List ℕ). row_text at (take 16 m1) t) (next ∙ ap (λ (a : ℕ). rows_text n (at + 16) (drop 16 m1) (rows_text k a m2 rest)) place)

abbrev sixteen_zeros : List ℕ
sixteen_zeros = 0 ∷ 0 ∷ 0 ∷ 0 ∷ 0 ∷ 0 ∷ 0 ∷ 0 ∷ 0 ∷ 0 ∷ 0 ∷ 0 ∷ 0 ∷ 0 ∷ 0 ∷ 0 ∷ []

-- zeros have no lines
pub rows_zeros : (k at : ℕ) (rest : List ℕ) → rows_text k at (replicate (16 * k) 0) rest ≡ rest
unfolding rows_text
rows_zeros zero at rest = refl
rows_zeros (suc k) at rest =
    let count : 16 * suc k ≡ 16 + 16 * k = omega arith in
    let split : replicate (16 * suc k) 0 ≡ sixteen_zeros ++ replicate (16 * k) 0 = ap (λ (n : ℕ). replicate n 0) count ∙ sym (replicate-append-replicate 16 (16 * k) 0) in
    ap (λ (m : List ℕ). rows_text (suc k) at m rest) split ∙ rows_zeros k (at + 16) rest

-- one row that is not all zeros
pub row_alone : (at : ℕ) (row rest : List ℕ) → length row ≡ 16 → is_zero row ≡ false → rows_text 1 at row rest ≡ line_before (row_line at row) rest
unfolding rows_text
row_alone at row rest len e =
    ap (λ (r : List ℕ). row_text at r rest) (ap (take 16) (sym (append-nil row)) ∙ take_at row [] 16 len) ∙ ap (λ b. cond b rest (line_before (row_line at row) rest)) e

-- the low part stays as memory grows
low_kept : (memory more : List ℕ) → 512 ≤ length memory → ((a : ℕ) → a < 512 → slice_index memory a ≡ 0) → (a : ℕ) → a < 512 → slice_index (memory ++ more) a ≡ 0
low_kept memory more l h a m = get_or_append_left memory more 0 a (omega arith) ∙ h a m

bytes_append : (xs ys : List ℕ) → IsBytes xs → IsBytes ys → IsBytes (xs ++ ys)
bytes_append [] ys p q k = q k
bytes_append (x ∷ xs) ys p q zero = p 0
bytes_append (x ∷ xs) ys p q (suc k) = bytes_append xs ys (λ i. p (suc i)) q k

bytes_zeros : (n : ℕ) → IsBytes (replicate n 0)
bytes_zeros (suc n) (suc k) = bytes_zeros n k
bytes_zeros _ _ = omega arith

pub rows_more : (rest : List ℕ) (last at : ℕ) (memory grown : List ℕ) (old new : Unread) → at % 16 ≡ 0 → RowsSoFar rest last memory old.rest → AddsRow last at old new memory grown → RowsSoFar rest at grown new.rest
rows_more rest last at memory grown old new even h a =
    let k = h.rows in
    let size = h.size in
    let last_is = h.last_is in
    let above = a.above in
    let j : ℕ = (at - length memory) / 16 in
    let gap : at - length memory ≡ 16 * j = omega arith in
    let place : 512 + 16 * k + 16 * j ≡ at = omega arith in
    let d : List ℕ = drop 512 memory in
    let z : List ℕ = replicate (16 * j) 0 in
    let dlen : length d ≡ 16 * k = omega (arith, length-drop 512 memory) in
    let zlen : length z ≡ 16 * j = length-replicate (16 * j) 0 in
    let dzlen : length (d ++ z) ≡ 16 * (k + j) = omega (arith, length-append d z) in
    let joined : grown ≡ memory ++ (z ++ a.row) = a.memory_is ∙ ap (λ (n : ℕ). (memory ++ replicate n 0) ++ a.row) gap ∙ append_assoc memory z a.row in
    let dropped : drop 512 grown ≡ (d ++ z) ++ a.row = ap (drop 512) joined ∙ drop-append-le 512 memory (z ++ a.row) (omega arith) ∙ sym (append_assoc d z a.row) in
    record {
      rows = k + j + 1;
      size = omega (arith, ap length joined, length-append memory (z ++ a.row), length-append z a.row, a.sixteen, zlen);
      last_is = omega arith;
      low = λ b l. ap (λ (m : List ℕ). slice_index m b) joined ∙ low_kept memory (z ++ a.row) (omega arith) h.low b l;
      are_bytes = subst IsBytes (sym joined) (bytes_append memory (z ++ a.row) h.are_bytes (bytes_append z a.row (bytes_zeros (16 * j)) a.are_bytes));
      small = a.small;
      text = h.text ∙ ap (λ (t : List ℕ). rows_text k 512 d t) (a.text ∙ sym (row_alone at a.row new.rest a.sixteen a.filled)
          ∙ sym (rows_zeros j (512 + 16 * k) (rows_text 1 at a.row new.rest)))
          ∙ sym (rows_append k j 512 d z (rows_text 1 at a.row new.rest) dlen)
          ∙ ap (λ (b : ℕ). rows_text (k + j) 512 (d ++ z) (rows_text 1 b a.row new.rest)) (let p : at ≡ 512 + 16 * (k + j) = omega arith in p)
          ∙ sym (rows_append (k + j) 1 512 (d ++ z) a.row new.rest dzlen)
          ∙ ap (λ (m : List ℕ). rows_text (k + j + 1) 512 m new.rest) (sym dropped);
    }

pub rows_none : (rest memory : List ℕ) → memory ≡ replicate 512 0 → RowsSoFar rest 496 memory rest
unfolding rows_text
rows_none rest memory e = record {
  rows = 0;
  size = ap length e;
  last_is = refl;
  low = λ a l. ap (λ (m : List ℕ). slice_index m a) e ∙ get_or-replicate 512 a 0 0 l;
  are_bytes = subst IsBytes (sym e) (bytes_zeros 512);
  small = omega arith;
  text = refl;
}

-- the memory is whole
pub rows_done : (start : Unread) (last : ℕ) (memory filled : List ℕ) (left : List ℕ) → last % 16 ≡ 0 → RowsSoFar start.rest last memory left → left ≡ line_before end_line [] → filled ≡ memory ++ replicate (65536 - length memory) 0 → PassedMemory filled start
rows_done start last memory filled left even h is e =
    let small = h.small in
    let k = h.rows in
    let size = h.size in
    let last_is = h.last_is in
    let j : ℕ = (65536 - length memory) / 16 in
    let gap : 65536 - length memory ≡ 16 * j = omega arith in
    let whole : k + j ≡ 4064 = omega arith in
    let d : List ℕ = drop 512 memory in
    let z : List ℕ = replicate (16 * j) 0 in
    let dlen : length d ≡ 16 * k = omega (arith, length-drop 512 memory) in
    let zlen : length z ≡ 16 * j = length-replicate (16 * j) 0 in
    let joined : filled ≡ memory ++ z = e ∙ ap (λ (n : ℕ). memory ++ replicate n 0) gap in
    let dropped : drop 512 filled ≡ d ++ z = ap (drop 512) joined ∙ drop-append-le 512 memory z (omega arith) in
    record {
      text = h.text ∙ ap (λ (t : List ℕ). rows_text k 512 d t) (is ∙ sym (rows_zeros j (512 + 16 * k) (line_before end_line [])))
          ∙ sym (rows_append k j 512 d z (line_before end_line []) dlen)
          ∙ ap (λ (c : ℕ). rows_text c 512 (d ++ z) (line_before end_line [])) whole
          ∙ ap (λ (m : List ℕ). rows_text 4064 512 m (line_before end_line [])) (sym dropped);
      full = omega (arith, ap length joined, length-append memory z, zlen);
      low = λ b l. ap (λ (m : List ℕ). slice_index m b) joined ∙ low_kept memory z (omega arith) h.low b l;
      are_bytes = subst IsBytes (sym joined) (bytes_append memory z h.are_bytes (bytes_zeros (16 * j)));
    }

-- ---- a row's line

pub record IsPlaced (last a : ℕ) (row : List ℕ) : Type 0 where
  pub even : a % 16 ≡ 0
  pub filled : is_zero row ≡ false
  pub above : last ≤ a

pub is_placed : (last a : ℕ) (row : List ℕ) → is_row last a row ≡ true → IsPlaced last a row
is_placed last a row e =
    let abc = (and_parts ((a % 16 == 0) && not (nat_lt a 512) && not (is_zero row)) (not (nat_lt a last)) e).0 in
    let d = not-true (nat_lt a last) (and_parts ((a % 16 == 0) && not (nat_lt a 512) && not (is_zero row)) (not (nat_lt a last)) e).1 in
    let ab = (and_parts ((a % 16 == 0) && not (nat_lt a 512)) (not (is_zero row)) abc).0 in
    let c = not-true (is_zero row) (and_parts ((a % 16 == 0) && not (nat_lt a 512)) (not (is_zero row)) abc).1 in
    let first = (and_parts (a % 16 == 0) (not (nat_lt a 512)) ab).0 in
    record { even = grind (arith, nat_tests); filled = c; above = grind (arith, nat_tests) }

module _ (last : ℕ) (old new : Unread) (line : List ℕ) (read : ReadLine old line new) (other : pointwise nat_eq line end_line ≡ false) where
  -- what the rules say behind this row
  abbrev behind : Option ImageFault
  behind = rows_refusal (digits_word 3 line) (next_spot line old.spot) (ended_lines new.rest) (unended new.rest)

  pub row_on : on old (rows_refusal last) ≡ formed row_form old.spot line (row_or last old.spot line behind)
  row_on =
      line_on (rows_refusal last) old new line read
      ∙ ap (λ b. cond b (end_refusal (next_spot line old.spot) (ended_lines new.rest) (unended new.rest)) (formed row_form old.spot line (row_or last old.spot line behind))) other

  module _ (form : HasLineForm row_form line) where
    pub row_says : (c d : Bool) → is_row last (digits_word 3 line) (digits_bytes 8 16 line) ≡ c → (digits_word 3 line == last) ≡ d
        → on old (rows_refusal last) ≡ cond c (cond d (Some (Twice (digits_word 3 line))) behind) (Some (Line old.spot.number))
    row_says c d e f =
        row_on ∙ formed_ok row_form old.spot line _ form
        ∙ ap (λ b. cond b (cond (digits_word 3 line == last) (Some (Twice (digits_word 3 line))) behind) (Some (Line old.spot.number))) e
        ∙ ap (λ b. cond c (cond b (Some (Twice (digits_word 3 line))) behind) (Some (Line old.spot.number))) f

    -- the row is added
    pub adds_row : (at : ℕ) (memory grown : List ℕ) → at ≡ digits_word 3 line → is_row last (digits_word 3 line) (digits_bytes 8 16 line) ≡ true → (digits_word 3 line == last) ≡ false
        → grown ≡ (memory ++ replicate (at - length memory) 0) ++ digits_bytes 8 16 line → AddsRow last at old new memory grown
    adds_row at memory grown is e f m =
        let k = row_line_of line form in
        let r = k.row in
        let p = is_placed last (digits_word 3 line) (digits_bytes 8 16 line) e in
        let above = p.above in
        let other_than : digits_word 3 line ≢ last = grind (arith, nat_tests) in
        record {
          row = digits_bytes 8 16 line;
          sixteen = r.count;
          are_bytes = r.are_bytes;
          small = let l = k.small in omega (arith, is);
          filled = p.filled;
          even = ap (λ (n : ℕ). n % 16) is ∙ p.even;
          above = omega arith;
          text = let t = read in t.text ∙ ap (λ (l : List ℕ). line_before l new.rest) (k.text ∙ ap (λ (n : ℕ). row_line n (digits_bytes 8 16 line)) (sym is));
          refusal = row_says true false e f ∙ next_on (rows_refusal (digits_word 3 line)) old new line read ∙ ap (λ (n : ℕ). on new (rows_refusal n)) (sym is);
          memory_is = m;
        }
