-- What is written, and what is left to write.
use Rattle.std.proofs.Common.{◌≡◌, ℕ, zero, suc, ◌+◌, ◌-◌, ◌*◌, ◌<◌, ◌≤◌, List, [], ◌∷◌, ◌++◌, length, take, drop, Bool, true, false, cond, ◌==◌, nat_lt, Option, Some, None, is_some, refl, sym, ap, ◌∙◌, arith, append_assoc, length-drop, codes, drop-drop}
use Rattle.std.proofs.lemmas.Bool.Decides.{nat_tests}
use Rattle.texts.specs.Hexadecimals.{hex_word}
use Rattle.mod_layout.specs.declared.Module.{Module}
use Rattle.mod_layout.proofs.Found.{find_module}
use Rattle.image_text.specs.Image.{Image, AreNumbered}
use Rattle.image_text.specs.ImageText.{line_before, is_zero, row_line, row_text, rows_text, section_words, module_line, modules_text, count_text, count_line, first_line, key_line, handler_line, end_line, memory_text, image_text}

place : (k i : ℕ) → suc i + k ≡ i + (k + 1)
place k i = omega arith

-- the module with a number stands at its place
pub found_number : (k : ℕ) (ms : List Module) (i : ℕ) (m : Module) → AreNumbered k ms → find_module (i + k) ms ≡ Some m → drop i ms ≡ m ∷ drop (suc i) ms
found_number k [] i m h e = absurd cc
found_number k (x ∷ ms) zero m h e = by (x.id == 0 + k) refl e
  where
    by : (c : Bool) → (x.id == 0 + k) ≡ c → cond c (Some x) (find_module (0 + k) ms) ≡ Some m → x ∷ ms ≡ m ∷ ms
    by true f g = let same : x ≡ m = cc in ap (λ (y : Module). y ∷ ms) same
    by false f g = absurd (let own = h.0 in let z : x.id ≡ 0 + k = omega arith in let t : (x.id == 0 + k) ≡ true = grind (arith, nat_tests) in let c : true ≡ false = sym t ∙ f in cc)
found_number k (x ∷ ms) (suc i) m h e = by (x.id == suc i + k) refl e (λ g. found_number (k + 1) ms i m h.2 (sym (ap (λ (j : ℕ). find_module j ms) (place k i)) ∙ g))
  where
    by : (c : Bool) → (x.id == suc i + k) ≡ c → cond c (Some x) (find_module (suc i + k) ms) ≡ Some m → (find_module (suc i + k) ms ≡ Some m → drop i ms ≡ m ∷ drop (suc i) ms) → drop i ms ≡ m ∷ drop (suc i) ms
    by true f g r = absurd (let own = h.0 in let z : x.id ≡ suc i + k = grind (arith, nat_tests) in let y : ⊥ = omega arith in y)
    by false f g r = r g

-- no module has the next number
pub missing_number : (k : ℕ) (ms : List Module) (i : ℕ) → AreNumbered k ms → find_module (i + k) ms ≡ None → drop i ms ≡ []
missing_number k [] zero h e = refl
missing_number k [] (suc i) h e = refl
missing_number k (x ∷ ms) zero h e = by (x.id == 0 + k) refl e
  where
    by : (c : Bool) → (x.id == 0 + k) ≡ c → cond c (Some x) (find_module (0 + k) ms) ≡ None → x ∷ ms ≡ []
    by true f g = absurd cc
    by false f g = absurd (let own = h.0 in let z : x.id ≡ 0 + k = omega arith in let t : (x.id == 0 + k) ≡ true = grind (arith, nat_tests) in let c : true ≡ false = sym t ∙ f in cc)
missing_number k (x ∷ ms) (suc i) h e = by (x.id == suc i + k) refl e (λ g. missing_number (k + 1) ms i h.2 (sym (ap (λ (j : ℕ). find_module j ms) (place k i)) ∙ g))
  where
    by : (c : Bool) → (x.id == suc i + k) ≡ c → cond c (Some x) (find_module (suc i + k) ms) ≡ None → (find_module (suc i + k) ms ≡ None → drop i ms ≡ []) → drop i ms ≡ []
    by true f g r = absurd cc
    by false f g r = r g

pub below_of : (ms : List Module) (i : ℕ) (m : Module) → drop i ms ≡ m ∷ drop (suc i) ms → i < length ms
below_of ms i m e = omega (arith, length-drop i ms, ap length e)

pub not_below : (ms : List Module) (i : ℕ) → drop i ms ≡ [] → length ms ≤ i
not_below ms i e = omega (arith, length-drop i ms, ap length e)

-- a number is held where it is not above how many there are
pub number_held : (ms : List Module) (i : ℕ) → AreNumbered 1 ms → is_some (find_module (i + 1) ms) ≡ nat_lt i (length ms)
number_held ms i h = by (find_module (i + 1) ms) refl
  where
    by : (o : Option Module) → find_module (i + 1) ms ≡ o → is_some o ≡ nat_lt i (length ms)
    by None e = let l = not_below ms i (missing_number 1 ms i h e) in grind (arith, nat_tests)
    by (Some m) e = let l = below_of ms i m (found_number 1 ms i m h e) in grind (arith, nat_tests)

-- a line, and what is left
pub ended_then : (line rest : List ℕ) → line_before line [] ++ rest ≡ line_before line rest
ended_then line rest = append_assoc line (10 ∷ []) rest

pub row_then : (at : ℕ) (row rest : List ℕ) → row_text at row [] ++ rest ≡ row_text at row rest
row_then at row rest = by (is_zero row)
  where
    by : (c : Bool) → cond c [] (line_before (row_line at row) []) ++ rest ≡ cond c rest (line_before (row_line at row) rest)
    by true = refl
    by false = ended_then (row_line at row) rest

pub count_then : (room n : ℕ) (rest : List ℕ) → count_text room n [] ++ rest ≡ count_text room n rest
count_then room n rest = by (room == 8)
  where
    by : (c : Bool) → cond c [] (line_before (count_line n) []) ++ rest ≡ cond c rest (line_before (count_line n) rest)
    by true = refl
    by false = ended_then (count_line n) rest

-- the rows from one on
pub rows_from : (n : ℕ) (memory rest : List ℕ) → n < 4096 → rows_text (4096 - n) (16 * n) (drop (16 * n) memory) rest
    ≡ row_text (16 * n) (take 16 (drop (16 * n) memory)) (rows_text (4096 - (n + 1)) (16 * (n + 1)) (drop (16 * (n + 1)) memory) rest)
unfolding rows_text
rows_from n memory rest l =
    let count : 4096 - n ≡ suc (4096 - (n + 1)) = omega arith in
    let place : 16 * n + 16 ≡ 16 * (n + 1) = omega arith in
    let behind : drop 16 (drop (16 * n) memory) ≡ drop (16 * (n + 1)) memory = drop-drop 16 (16 * n) memory ∙ ap (λ (k : ℕ). drop k memory) place in
    ap (λ (c : ℕ). rows_text c (16 * n) (drop (16 * n) memory) rest) count
    ∙ ap (λ (a : ℕ). row_text (16 * n) (take 16 (drop (16 * n) memory)) (rows_text (4096 - (n + 1)) a (drop 16 (drop (16 * n) memory)) rest)) place
    ∙ ap (λ (m : List ℕ). row_text (16 * n) (take 16 (drop (16 * n) memory)) (rows_text (4096 - (n + 1)) (16 * (n + 1)) m rest)) behind

-- no row is left
pub rows_over : (at : ℕ) (memory rest : List ℕ) → rows_text 0 at memory rest ≡ rest
unfolding rows_text
rows_over at memory rest = refl

-- one module more is written
pub module_written : (old new start : List ℕ) (ms : List Module) (i : ℕ) (m : Module) → AreNumbered 1 ms → find_module (i + 1) ms ≡ Some m → new ≡ old ++ line_before (module_line m) []
    → ((rest : List ℕ) → old ++ modules_text (drop i ms) rest ≡ start ++ modules_text ms rest) → (rest : List ℕ) → new ++ modules_text (drop (i + 1) ms) rest ≡ start ++ modules_text ms rest
module_written old new start ms i m h f e inv rest =
    let at = found_number 1 ms i m h f in
    let next : i + 1 ≡ suc i = omega arith in
    ap (λ (l : List ℕ). l ++ modules_text (drop (i + 1) ms) rest) e
    ∙ append_assoc old (line_before (module_line m) []) (modules_text (drop (i + 1) ms) rest)
    ∙ ap (λ (l : List ℕ). old ++ l) (ended_then (module_line m) (modules_text (drop (i + 1) ms) rest)
    ∙ ap (λ (n : ℕ). line_before (module_line m) (modules_text (drop n ms) rest)) next
    ∙ sym (ap (λ (l : List Module). modules_text l rest) at))
    ∙ inv rest

-- one row more is written
pub row_written : (old new start : List ℕ) (n to : ℕ) (memory : List ℕ) → n < 4096 → to ≡ 16 → new ≡ old ++ row_text (16 * n) (take to (drop (16 * n) memory)) []
    → ((rest : List ℕ) → old ++ rows_text (4096 - n) (16 * n) (drop (16 * n) memory) rest ≡ start ++ rows_text 4064 512 (drop 512 memory) rest)
    → (rest : List ℕ) → new ++ rows_text (4096 - (n + 1)) (16 * (n + 1)) (drop (16 * (n + 1)) memory) rest ≡ start ++ rows_text 4064 512 (drop 512 memory) rest
row_written old new start n to memory l t e inv rest =
    let left = rows_text (4096 - (n + 1)) (16 * (n + 1)) (drop (16 * (n + 1)) memory) rest in
    let row : List ℕ = take to (drop (16 * n) memory) in
    ap (λ (x : List ℕ). x ++ left) e
    ∙ append_assoc old (row_text (16 * n) row []) left
    ∙ ap (λ (x : List ℕ). old ++ x) (row_then (16 * n) row left
    ∙ ap (λ (k : ℕ). row_text (16 * n) (take k (drop (16 * n) memory)) left) t
    ∙ sym (rows_from n memory rest l))
    ∙ inv rest

-- the whole text is written
pub all_written : (image : Image) (t1 t2 t3 t4 t5 t6 t7 : List ℕ) → length image.table.modules ≡ image.table.given
    → t1 ≡ [] ++ line_before (first_line image.table.room) [] → t2 ≡ t1 ++ line_before (key_line image.node_key) [] → t3 ≡ t2 ++ line_before (handler_line image.handler_sp) []
    → t4 ≡ t3 ++ count_text image.table.room (length image.table.modules) [] → ((rest : List ℕ) → t5 ++ rest ≡ t4 ++ modules_text image.table.modules rest)
    → ((rest : List ℕ) → t6 ++ rest ≡ t5 ++ rows_text 4064 512 (drop 512 image.memory) rest) → t7 ≡ t6 ++ line_before end_line [] → t7 ≡ image_text image
unfolding image_text
all_written image t1 t2 t3 t4 t5 t6 t7 held e1 e2 e3 e4 e5 e6 e7 =
    let tail = memory_text image.memory in
    let body = modules_text image.table.modules tail in
    let counted = count_text image.table.room image.table.given body in
    let handled = line_before (handler_line image.handler_sp) counted in
    let f6 : t7 ≡ t5 ++ tail = e7 ∙ e6 (line_before end_line []) in
    let f5 : t7 ≡ t4 ++ body = f6 ∙ e5 tail in
    let f4 : t7 ≡ t3 ++ counted = f5 ∙ ap (λ (l : List ℕ). l ++ body) e4 ∙ append_assoc t3 (count_text image.table.room (length image.table.modules) []) body
    ∙ ap (λ (l : List ℕ). t3 ++ l) (count_then image.table.room (length image.table.modules) body ∙ ap (λ (n : ℕ). count_text image.table.room n body) held) in
    let f3 : t7 ≡ t2 ++ handled = f4 ∙ ap (λ (l : List ℕ). l ++ counted) e3 ∙ append_assoc t2 (line_before (handler_line image.handler_sp) []) counted ∙ ap (λ (l : List ℕ). t2 ++ l) (ended_then (handler_line image.handler_sp) counted) in
    let f2 : t7 ≡ t1 ++ line_before (key_line image.node_key) handled = f3 ∙ ap (λ (l : List ℕ). l ++ handled) e2 ∙ append_assoc t1 (line_before (key_line image.node_key) []) handled ∙ ap (λ (l : List ℕ). t1 ++ l) (ended_then (key_line image.node_key) handled) in
    f2 ∙ ap (λ (l : List ℕ). l ++ line_before (key_line image.node_key) handled) e1 ∙ ended_then (first_line image.table.room) (line_before (key_line image.node_key) handled)

-- ---- a module's line, part by part

joined : (t a b c d e f g : List ℕ) → ((((((t ++ a) ++ b) ++ c) ++ d) ++ e) ++ f) ++ g ≡ t ++ ((a ++ (b ++ (c ++ (d ++ (e ++ f))))) ++ g)
joined t a b c d e f g = simp append_assoc

pub module_put : (m : Module) (t0 t1 t2 t3 t4 t5 t6 t7 : List ℕ) → t1 ≡ t0 ++ codes "module " → t2 ≡ t1 ++ hex_word m.vendor → t3 ≡ t2 ++ codes " "
    → t4 ≡ t3 ++ section_words m.text → t5 ≡ t4 ++ codes " " → t6 ≡ t5 ++ section_words m.ram → t7 ≡ t6 ++ codes "\n" → t7 ≡ t0 ++ line_before (module_line m) []
module_put m t0 t1 t2 t3 t4 t5 t6 t7 e1 e2 e3 e4 e5 e6 e7 =
    let s2 = e2 ∙ ap (λ (t : List ℕ). t ++ hex_word m.vendor) e1 in
    let s3 = e3 ∙ ap (λ (t : List ℕ). t ++ codes " ") s2 in
    let s4 = e4 ∙ ap (λ (t : List ℕ). t ++ section_words m.text) s3 in
    let s5 = e5 ∙ ap (λ (t : List ℕ). t ++ codes " ") s4 in
    let s6 = e6 ∙ ap (λ (t : List ℕ). t ++ section_words m.ram) s5 in
    e7 ∙ ap (λ (t : List ℕ). t ++ codes "\n") s6 ∙ joined t0 (codes "module ") (hex_word m.vendor) (codes " ") (section_words m.text) (codes " ") (section_words m.ram) (codes "\n")
