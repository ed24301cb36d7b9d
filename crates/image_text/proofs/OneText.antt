-- The text of an image is not refused, and no other image has it.
use Rattle.std.proofs.Common.{◌≡◌, ◌⊎◌, inl, inr, ℕ, zero, suc, ◌+◌, ◌*◌, ◌%◌, ◌<◌, ◌≤◌, min, List, [], ◌∷◌, ◌++◌, map, length, take, drop, get_or, slice_index, codes, Bool, true, false, nat_lt, cond, not, ◌&&◌, ◌||◌, ◌==◌, Option, Some, None, refl, sym, ap, ◌∙◌, subst, arith, length-append, length-take, length-drop}
use Rattle.std.proofs.lemmas.List.{take-append-drop, nil_from_length}
use Rattle.std.proofs.lemmas.Bool.{and_parts, eqb-true, or_from}
use Rattle.std.proofs.lemmas.Bool.Decides.{nat_tests}
use Rattle.hex.specs.Hex.{IsBytes}
use Rattle.mod_layout.specs.declared.Section.{Section}
use Rattle.mod_layout.specs.declared.Module.{Module}
use Rattle.mod_layout.specs.declared.TableFault.{TableFault}
use Rattle.mod_layout.specs.declared.TableFault.TheVariants.{Empty, Odd, Overlap, Reserved, Full, Spent}
use Rattle.mod_layout.specs.First.{first_of}
use Rattle.mod_layout.specs.Table.{Table, fault_of, with_module, empty_table, share_byte, lowest_met, meets, is_empty, is_odd, is_reserved}
use Rattle.mod_layout.specs.Tables.{IsSection, IsModule, Separate, AreModules}
use Rattle.mod_layout.proofs.Found.{SeparateFrom, share_sym}
use Rattle.texts.specs.Lines.{ended_lines, unended}
use Rattle.std.specs.Bool.{then_some}
use Rattle.std.specs.List.{filter, reduce}
use Rattle.std.specs.Option.{option_map}
use Rattle.image_text.specs.declared.ImageFault.{ImageFault}
use Rattle.image_text.specs.declared.ImageFault.TheVariants.{Line, Twice}
use Rattle.image_text.specs.Image.{Image, IsImage, AreNumbered}
use Rattle.image_text.specs.ImageText.{line_before, first_line, key_line, handler_line, count_line, module_line, row_line, end_line, count_text, modules_text, is_zero, rows_text, memory_text, text_after_key, image_text}
use Rattle.image_text.specs.Refusal.{Spot, next_spot, key_form, handler_form, module_form, row_form, has_form, digits_bytes, digits_word, section_at, is_row, rows_refusal, end_refusal, taken_or, added, one_less, modules_refusal, counted_or_line, count_refusal, handler_refusal, key_refusal, first_refusal, refusal_of}
use Rattle.image_text.specs.internal.Reading.{HasLineForm, due_next}
use Rattle.image_text.proofs.WholeText.{few}
use Rattle.image_text.proofs.FormLemmas.{formed_ok, bytes_cons, bytes_nil}
use Rattle.image_text.proofs.StageLemmas.{Stage, none_due, one_due}
use Rattle.image_text.proofs.ValueLines.{no_lf, lines_of, tail_of, line_one, key_text, handler_text, text_of_row, IsSmall, text_of_module, text_of_count}

-- ---- modules of one text

small_module : (g : ℕ) (m : Module) → IsModule g m → m.vendor < 65536 → IsSmall m
small_module g m h v =
    let t = h.text_ok in
    let r = h.ram_ok in
    let a = t.order in
    let b = t.high in
    let c = r.order in
    let d = r.high in
    record { vendor = v; text_start = omega (arith, a, b); text_end = omega (arith, b); ram_start = omega (arith, c, d); ram_end = omega (arith, d) }

same_module : (m n : Module) → m.id ≡ n.id → m.vendor ≡ n.vendor → m.text ≡ n.text → m.ram ≡ n.ram → m ≡ n
same_module m n a b c d = let e : ◌≡◌ {A = Module} record { id = m.id; vendor = m.vendor; text = m.text; ram = m.ram } n = rw (a, b, c, d) refl in e

-- lists that differ at a place
other_place : (a b n : ℕ) (r s : List ℕ) → (a == b) ≡ false → get_or r n 0 ≡ a → get_or s n 0 ≡ b → r ≡ s → ⊥
other_place a b n r s ne p q e = let same : a ≡ b = sym p ∙ ap (λ (l : List ℕ). get_or l n 0) e ∙ q in let t : (a == b) ≡ true = grind (arith, nat_tests) in let f : true ≡ false = sym t ∙ ne in cc

-- no module's line begins this text
abbrev NoModule : List ℕ → Type 0
NoModule text = (x : List ℕ) → 109 ∷ x ≡ text → ⊥

no_module : (n at : ℕ) (memory : List ℕ) → NoModule (rows_text n at memory (line_before end_line []))
unfolding rows_text
no_module zero at memory x e = other_place 109 101 0 _ _ refl refl refl e
no_module (suc n) at memory x e = by (is_zero (take 16 memory)) e (no_module n (at + 16) (drop 16 memory) x)
  where
    by : (c : Bool) → 109 ∷ x ≡ cond c (rows_text n (at + 16) (drop 16 memory) (line_before end_line [])) (line_before (row_line at (take 16 memory)) (rows_text n (at + 16) (drop 16 memory) (line_before end_line [])))
        → (109 ∷ x ≡ rows_text n (at + 16) (drop 16 memory) (line_before end_line []) → ⊥) → ⊥
    by true f r = r f
    by false f r = other_place 109 97 0 _ _ refl refl refl f

modules_one : (ms ns : List Module) (k g h : ℕ) (r s : List ℕ) → AreNumbered k ms → AreNumbered k ns → AreModules g ms → AreModules h ns → NoModule r → NoModule s
    → modules_text ms r ≡ modules_text ns s → (ms ≡ ns) × (r ≡ s)
modules_one [] [] k g h r s a b c d p q e = (refl, e)
modules_one [] (n ∷ ns) k g h r s a b c d p q e = absurd (p _ (sym e))
modules_one (m ∷ ms) [] k g h r s a b c d p q e = absurd (q _ e)
modules_one (m ∷ ms) (n ∷ ns) k g h r s a b c d p q e =
    let x = text_of_module m (small_module g m c.0 a.1) in
    let y = text_of_module n (small_module h n d.0 b.1) in
    let t = line_one (module_line m) (module_line n) (modules_text ms r) (modules_text ns s) x.lined.plain y.lined.plain e in
    let u = modules_one ms ns (k + 1) g h r s a.2 b.2 c.2 d.2 p q t.1 in
    let one : m ≡ n = same_module m n (a.0 ∙ sym b.0)
    (sym x.vendor_is ∙ ap (digits_word 7) t.0 ∙ y.vendor_is)
    (sym x.text_is ∙ ap (section_at 12) t.0 ∙ y.text_is)
    (sym x.ram_is ∙ ap (section_at 22) t.0 ∙ y.ram_is) in
    (ap (λ (z : Module). z ∷ ms) one ∙ ap (λ (z : List Module). n ∷ z) u.0, u.1)

-- ---- rows of one text

bytes_drop : (n : ℕ) (xs : List ℕ) → IsBytes xs → IsBytes (drop n xs)
bytes_drop (suc n) (x ∷ xs) h = bytes_drop n xs (λ i. h (suc i))
bytes_drop _ _ h = h

bytes_take : (n : ℕ) (xs : List ℕ) → IsBytes xs → IsBytes (take n xs)
bytes_take zero xs h = bytes_nil
bytes_take (suc n) [] h = h
bytes_take (suc n) (x ∷ xs) h = bytes_cons x (take n xs) (h 0) (bytes_take n xs (λ i. h (suc i)))

zeros_one : (xs ys : List ℕ) → length xs ≡ length ys → is_zero xs ≡ true → is_zero ys ≡ true → xs ≡ ys
zeros_one [] [] l p q = refl
zeros_one (x ∷ xs) (y ∷ ys) l p q =
    let a = and_parts (x == 0) (is_zero xs) p in
    let b = and_parts (y == 0) (is_zero ys) q in
    let first : x ≡ y = eqb-true x 0 a.0 ∙ sym (eqb-true y 0 b.0) in
    let rest = zeros_one xs ys (omega (arith, l)) a.1 b.1 in
    ap (λ (z : ℕ). z ∷ xs) first ∙ ap (λ (z : List ℕ). y ∷ z) rest
zeros_one _ _ l p q = absurd (omega arith)

row_one : (a b : ℕ) (x y r s : List ℕ) → a < 65536 → b < 65536 → length x ≡ 16 → length y ≡ 16 → IsBytes x → IsBytes y → line_before (row_line a x) r ≡ line_before (row_line b y) s → (a ≡ b) × (x ≡ y) × (r ≡ s)
row_one a b x y r s la lb lx ly p q e =
    let t = text_of_row a x la lx p in
    let u = text_of_row b y lb ly q in
    let k = line_one (row_line a x) (row_line b y) r s t.lined.plain u.lined.plain e in
    (sym t.at_is ∙ ap (digits_word 3) k.0 ∙ u.at_is, sym t.row_is ∙ ap (digits_bytes 8 16) k.0 ∙ u.row_is, k.1)

first_row : (n : ℕ) (memory : List ℕ) → length memory ≡ 16 * suc n → length (take 16 memory) ≡ 16
first_row n memory l = omega (arith, length-take 16 memory)

later_rows : (n : ℕ) (memory : List ℕ) → length memory ≡ 16 * suc n → length (drop 16 memory) ≡ 16 * n
later_rows n memory l = omega (arith, length-drop 16 memory)

-- no line of these rows is for a row before them
no_line : (n at next : ℕ) (row memory rest : List ℕ) → at < next → next + 16 * n ≤ 65536 → length row ≡ 16 → IsBytes row → length memory ≡ 16 * n → IsBytes memory → line_before (row_line at row) rest ≡ rows_text n next memory (line_before end_line []) → ⊥
unfolding rows_text
no_line zero at next row memory rest l m len p mem q e = other_place 97 101 0 _ _ refl refl refl e
no_line (suc n) at next row memory rest l m len p mem q e =
    by (is_zero (take 16 memory)) e (no_line n at (next + 16) row (drop 16 memory) rest (omega arith) (omega arith) len p (later_rows n memory mem) (bytes_drop 16 memory q))
  where
    by : (c : Bool) → line_before (row_line at row) rest ≡ cond c (rows_text n (next + 16) (drop 16 memory) (line_before end_line [])) (line_before (row_line next (take 16 memory)) (rows_text n (next + 16) (drop 16 memory) (line_before end_line [])))
        → (line_before (row_line at row) rest ≡ rows_text n (next + 16) (drop 16 memory) (line_before end_line []) → ⊥) → ⊥
    by true f r = r f
    by false f r = let k = row_one at next row (take 16 memory) rest _ (omega arith) (omega arith) len (first_row n memory mem) p (bytes_take 16 memory q) f in omega (arith, k.0)

joined_parts : (n : ℕ) (m k : List ℕ) → take n m ≡ take n k → drop n m ≡ drop n k → m ≡ k
joined_parts n m k a b = sym (take-append-drop n m) ∙ ap (λ (l : List ℕ). l ++ drop n m) a ∙ ap (λ (l : List ℕ). take n k ++ l) b ∙ take-append-drop n k

rows_one : (n at : ℕ) (m k : List ℕ) → at + 16 * n ≤ 65536 → length m ≡ 16 * n → length k ≡ 16 * n → IsBytes m → IsBytes k
    → rows_text n at m (line_before end_line []) ≡ rows_text n at k (line_before end_line []) → m ≡ k
unfolding rows_text
rows_one zero at m k room lm lk p q e = nil_from_length m (omega (arith, lm)) ∙ sym (nil_from_length k (omega (arith, lk)))
rows_one (suc n) at m k room lm lk p q e =
    by (is_zero (take 16 m)) (is_zero (take 16 k)) refl refl e
    (rows_one n (at + 16) (drop 16 m) (drop 16 k) (omega arith) (later_rows n m lm) (later_rows n k lk) (bytes_drop 16 m p) (bytes_drop 16 k q))
  where
    by : (b c : Bool) → is_zero (take 16 m) ≡ b → is_zero (take 16 k) ≡ c
        → cond b (rows_text n (at + 16) (drop 16 m) (line_before end_line [])) (line_before (row_line at (take 16 m)) (rows_text n (at + 16) (drop 16 m) (line_before end_line [])))
        ≡ cond c (rows_text n (at + 16) (drop 16 k) (line_before end_line [])) (line_before (row_line at (take 16 k)) (rows_text n (at + 16) (drop 16 k) (line_before end_line [])))
        → (rows_text n (at + 16) (drop 16 m) (line_before end_line []) ≡ rows_text n (at + 16) (drop 16 k) (line_before end_line []) → drop 16 m ≡ drop 16 k) → m ≡ k
    by true true y z f r = joined_parts 16 m k (zeros_one (take 16 m) (take 16 k) (first_row n m lm ∙ sym (first_row n k lk)) y z) (r f)
    by true false y z f r = absurd (no_line n at (at + 16) (take 16 k) (drop 16 m) _ (omega arith) (omega arith) (first_row n k lk) (bytes_take 16 k q) (later_rows n m lm) (bytes_drop 16 m p) (sym f))
    by false true y z f r = absurd (no_line n at (at + 16) (take 16 m) (drop 16 k) _ (omega arith) (omega arith) (first_row n m lm) (bytes_take 16 m p) (later_rows n k lk) (bytes_drop 16 k q) f)
    by false false y z f r =
        let t = row_one at at (take 16 m) (take 16 k) _ _ (omega arith) (omega arith) (first_row n m lm) (first_row n k lk) (bytes_take 16 m p) (bytes_take 16 k q) f in
        joined_parts 16 m k t.1 (r t.2)

same_front : (n : ℕ) (m k : List ℕ) → n ≤ length m → n ≤ length k → ((a : ℕ) → a < n → slice_index m a ≡ 0) → ((a : ℕ) → a < n → slice_index k a ≡ 0) → take n m ≡ take n k
same_front zero m k l r p q = refl
same_front (suc n) (x ∷ m) (y ∷ k) l r p q =
    let first : x ≡ y = p 0 (omega arith) ∙ sym (q 0 (omega arith)) in
    let rest = same_front n m k (omega (arith, l)) (omega (arith, r)) (λ a f. p (suc a) (omega arith)) (λ a f. q (suc a) (omega arith)) in
    ap (λ (z : ℕ). z ∷ take n m) first ∙ ap (λ (z : List ℕ). y ∷ z) rest
same_front (suc n) _ _ l r p q = absurd (omega arith)

-- ---- images of one text

first_plain : (room : ℕ) → (room ≡ 8) ⊎ (room ≡ 32) → no_lf (first_line room) ≡ true
first_plain room (inl e) = rw e refl
first_plain room (inr e) = rw e refl

first_one : (a b : ℕ) → (a ≡ 8) ⊎ (a ≡ 32) → (b ≡ 8) ⊎ (b ≡ 32) → first_line a ≡ first_line b → a ≡ b
first_one a b (inl p) (inl q) e = p ∙ sym q
first_one a b (inr p) (inr q) e = p ∙ sym q
first_one a b (inl p) (inr q) e =
    let f : codes "sancus-image 1" ≡ codes "sancus-image 2" = sym (ap first_line p) ∙ e ∙ ap first_line q in
    absurd (other_place 49 50 13 _ _ refl refl refl f)
first_one a b (inr p) (inl q) e =
    let f : codes "sancus-image 2" ≡ codes "sancus-image 1" = sym (ap first_line p) ∙ e ∙ ap first_line q in
    absurd (other_place 50 49 13 _ _ refl refl refl f)

count_one : (room a b : ℕ) (r s : List ℕ) → a ≤ 32 → b ≤ 32 → count_text room a r ≡ count_text room b s → r ≡ s
count_one room a b r s la lb e = by (room == 8) e
  where
    by : (c : Bool) → cond c r (line_before (count_line a) r) ≡ cond c s (line_before (count_line b) s) → r ≡ s
    by true f = f
    by false f = let x = text_of_count a la in let y = text_of_count b lb in (line_one (count_line a) (count_line b) r s x.plain y.plain f).1

same_table : (t u : Table) → t.modules ≡ u.modules → t.given ≡ u.given → t.room ≡ u.room → t ≡ u
same_table t u a b c = let e : ◌≡◌ {A = Table} record { modules = t.modules; given = t.given; room = t.room } u = rw (a, b, c) refl in e

same_image : (i j : Image) → i.memory ≡ j.memory → i.table ≡ j.table → i.node_key ≡ j.node_key → i.handler_sp ≡ j.handler_sp → i ≡ j
same_image i j a b c d =
    let e : ◌≡◌ {A = Image} record { memory = i.memory; table = i.table; node_key = i.node_key; handler_sp = i.handler_sp } j = rw (a, b, c, d) refl in e

few_given : (i : Image) → IsImage i → i.table.given ≤ 32
few_given i h = let t = h.table_ok in few i.table.given i.table.room (omega (arith, t.fits, h.all_held)) t.room_ok

-- no other image has the text of an image
pub images_of_one_text : (i j : Image) → IsImage i → IsImage j → image_text i ≡ image_text j → i ≡ j
unfolding image_text
images_of_one_text i j p q e =
    let pt = p.table_ok in
    let qt = q.table_ok in
    let rest_i : List ℕ = memory_text i.memory in
    let rest_j : List ℕ = memory_text j.memory in
    let a = line_one (first_line i.table.room) (first_line j.table.room) _ _ (first_plain i.table.room pt.room_ok) (first_plain j.table.room qt.room_ok) e in
    let room : i.table.room ≡ j.table.room = first_one i.table.room j.table.room pt.room_ok qt.room_ok a.0 in
    let ki = key_text i.node_key p.sixteen p.key_bytes in
    let kj = key_text j.node_key q.sixteen q.key_bytes in
    let b = line_one (key_line i.node_key) (key_line j.node_key) _ _ ki.lined.plain kj.lined.plain a.1 in
    let key : i.node_key ≡ j.node_key = sym ki.key_is ∙ ap (digits_bytes 4 16) b.0 ∙ kj.key_is in
    let hi = handler_text i.handler_sp p.small_sp in
    let hj = handler_text j.handler_sp q.small_sp in
    let c = line_one (handler_line i.handler_sp) (handler_line j.handler_sp) _ _ hi.lined.plain hj.lined.plain b.1 in
    let sp : i.handler_sp ≡ j.handler_sp = sym hi.sp_is ∙ ap (digits_word 8) c.0 ∙ hj.sp_is in
    let d = count_one j.table.room i.table.given j.table.given (modules_text i.table.modules rest_i) (modules_text j.table.modules rest_j) (few_given i p) (few_given j q)
    (sym (ap (λ (n : ℕ). count_text n i.table.given (modules_text i.table.modules rest_i)) room) ∙ c.1) in
    let f = modules_one i.table.modules j.table.modules 1 i.table.given j.table.given rest_i rest_j p.numbered q.numbered pt.modules qt.modules
    (no_module 4064 512 (drop 512 i.memory)) (no_module 4064 512 (drop 512 j.memory)) d in
    let given : i.table.given ≡ j.table.given = sym p.all_held ∙ ap length f.0 ∙ q.all_held in
    let fi = p.full in
    let fj = q.full in
    let high : drop 512 i.memory ≡ drop 512 j.memory = rows_one 4064 512 (drop 512 i.memory) (drop 512 j.memory) (omega arith) (omega (arith, fi, length-drop 512 i.memory)) (omega (arith, fj, length-drop 512 j.memory)) (bytes_drop 512 i.memory p.bytes) (bytes_drop 512 j.memory q.bytes) f.1 in
    let low : take 512 i.memory ≡ take 512 j.memory = same_front 512 i.memory j.memory (omega (arith, fi)) (omega (arith, fj)) p.low q.low in
    same_image i j (joined_parts 512 i.memory j.memory low high) (same_table i.table j.table f.0 given room) key sp

-- ---- no refusal: a line

-- what a rule says of a text
abbrev says : Stage → Spot → List ℕ → Option ImageFault
says R s text = R s (ended_lines text) (unended text)

at_line : (R : Stage) (s : Spot) (line rest : List ℕ) → no_lf line ≡ true → says R s (line_before line rest) ≡ R s (line ∷ ended_lines rest) (unended rest)
at_line R s line rest e = ap (λ (l : List (List ℕ)). R s l (unended (line_before line rest))) (lines_of line rest e) ∙ ap (λ (t : List ℕ). R s (line ∷ ended_lines rest) t) (tail_of line rest e)

-- ---- no refusal: the rows

abbrev placed_by : ℕ → Spot → ℕ → List ℕ → Option ImageFault → Option ImageFault
placed_by last s at row rest = cond (is_row last at row) (cond (at == last) (Some (Twice at)) rest) (Some (Line s.number))

row_serves : (at last : ℕ) (row : List ℕ) → at % 16 ≡ 0 → 512 ≤ at → last < at → is_zero row ≡ false → (is_row last at row ≡ true) × ((at == last) ≡ false)
row_serves at last row even high above filled =
    let a : (at % 16 == 0) ≡ true = grind (arith, nat_tests) in
    let b : nat_lt at 512 ≡ false = grind (arith, nat_tests) in
    let c : nat_lt at last ≡ false = grind (arith, nat_tests) in
    let d : (at == last) ≡ false = grind (arith, nat_tests) in
    (all (at % 16 == 0) (nat_lt at 512) (is_zero row) (nat_lt at last) a b filled c, d)
  where
    all : (x y z w : Bool) → x ≡ true → y ≡ false → z ≡ false → w ≡ false → (x && not y && not z && not w) ≡ true
    all x y z w e f g h = rw (e, f, g, h) refl

row_ok : (at last : ℕ) (row rest : List ℕ) (s : Spot) → at % 16 ≡ 0 → 512 ≤ at → at < 65536 → last < at → length row ≡ 16 → IsBytes row → is_zero row ≡ false
    → says (rows_refusal last) s (line_before (row_line at row) rest) ≡ says (rows_refusal at) (next_spot (row_line at row) s) rest
row_ok at last row rest s even high small above len are filled =
    let t = text_of_row at row small len are in
    let k = row_serves at last row even high above filled in
    let line : List ℕ = row_line at row in
    let next : Spot = next_spot line s in
    at_line (rows_refusal last) s line rest t.lined.plain
    ∙ formed_ok row_form s (row_line at row) _ t.lined.has
    ∙ ap (λ (a : ℕ). placed_by last s a (digits_bytes 8 16 line) (says (rows_refusal a) next rest)) t.at_is
    ∙ ap (λ (r : List ℕ). placed_by last s at r (says (rows_refusal at) next rest)) t.row_is
    ∙ ap (λ (b : Bool). cond b (cond (at == last) (Some (Twice at)) (says (rows_refusal at) next rest)) (Some (Line s.number))) k.0
    ∙ ap (λ (b : Bool). cond b (Some (Twice at)) (says (rows_refusal at) next rest)) k.1

at_end : (s : Spot) → says end_refusal s [] ≡ None
unfolding ended_lines unended
at_end s = refl

rows_ok : (n at last : ℕ) (memory : List ℕ) (s : Spot) → at % 16 ≡ 0 → 512 ≤ at → at + 16 * n ≤ 65536 → last < at → length memory ≡ 16 * n → IsBytes memory
    → says (rows_refusal last) s (rows_text n at memory (line_before end_line [])) ≡ None
unfolding rows_text
rows_ok zero at last memory s even high room above len are = at_line (rows_refusal last) s end_line [] refl ∙ at_end (next_spot end_line s)
rows_ok (suc n) at last memory s even high room above len are =
    by (is_zero (take 16 memory)) refl
    (λ l q below. rows_ok n (at + 16) l (drop 16 memory) q (omega arith) (omega arith) (omega arith) below (later_rows n memory len) (bytes_drop 16 memory are))
  where
    by : (c : Bool) → is_zero (take 16 memory) ≡ c
        → ((l : ℕ) (q : Spot) → l < at + 16 → says (rows_refusal l) q (rows_text n (at + 16) (drop 16 memory) (line_before end_line [])) ≡ None)
        → says (rows_refusal last) s (cond c (rows_text n (at + 16) (drop 16 memory) (line_before end_line [])) (line_before (row_line at (take 16 memory)) (rows_text n (at + 16) (drop 16 memory) (line_before end_line [])))) ≡ None
    by true z rest = rest last s (omega arith)
    by false z rest =
        row_ok at last (take 16 memory) (rows_text n (at + 16) (drop 16 memory) (line_before end_line [])) s even high (omega arith) above (first_row n memory len) (bytes_take 16 memory are) z
        ∙ rest at (next_spot (row_line at (take 16 memory)) s) (omega arith)

-- no row's line is a module's
rows_not_due : (n at : ℕ) (memory : List ℕ) → at + 16 * n ≤ 65536 → length memory ≡ 16 * n → IsBytes memory → due_next None (ended_lines (rows_text n at memory (line_before end_line []))) ≡ false
unfolding rows_text
rows_not_due zero at memory room len are = ap (due_next None) (lines_of end_line [] refl)
rows_not_due (suc n) at memory room len are =
    by (is_zero (take 16 memory)) (rows_not_due n (at + 16) (drop 16 memory) (omega arith) (later_rows n memory len) (bytes_drop 16 memory are))
  where
    by : (c : Bool) → due_next None (ended_lines (rows_text n (at + 16) (drop 16 memory) (line_before end_line []))) ≡ false
        → due_next None (ended_lines (cond c (rows_text n (at + 16) (drop 16 memory) (line_before end_line [])) (line_before (row_line at (take 16 memory)) (rows_text n (at + 16) (drop 16 memory) (line_before end_line []))))) ≡ false
    by true rest = rest
    by false rest =
        let t = text_of_row at (take 16 memory) (omega arith) (first_row n memory len) (bytes_take 16 memory are) in
        ap (due_next None) (lines_of (row_line at (take 16 memory)) (rows_text n (at + 16) (drop 16 memory) (line_before end_line [])) t.lined.plain)

-- ---- no refusal: the modules

abbrev ApartFrom : List Module → Module → Type 0
ApartFrom [] m = Unit {0}
ApartFrom (x ∷ xs) m = Separate x m × ApartFrom xs m

lowest_none : (xs : List Module) (m : Module) → ApartFrom xs m → lowest_met m.text m.ram xs ≡ None
lowest_none [] m h = refl
lowest_none (x ∷ xs) m h =
    let s = h.0 in
    let none = meet_not (share_byte m.text x.text) (share_byte m.text x.ram) (share_byte m.ram x.text) (share_byte m.ram x.ram)
    (share_sym x.text m.text s.texts) (share_sym x.ram m.text s.ram_text) (share_sym x.text m.ram s.text_ram) (share_sym x.ram m.ram s.rams) in
    ap (λ (b : Bool). reduce min (map (λ (y : Module). y.id) (cond b (x ∷ filter (meets m.text m.ram) xs) (filter (meets m.text m.ram) xs)))) none ∙ lowest_none xs m h.1
  where
    meet_not : (a b c d : Bool) → a ≡ false → b ≡ false → c ≡ false → d ≡ false → (a || b || c || d) ≡ false
    meet_not a b c d e f g h = rw (e, f, g, h) refl

record IsFine (s : Section) : Type 0 where
  pub filled : is_empty s ≡ false
  pub even : is_odd s ≡ false
  pub free : is_reserved s ≡ false

is_fine : (s : Section) → IsSection s → IsFine s
is_fine s h =
    let l = h.order in
    let lo = h.low in
    let hi = h.high in
    let es = h.even_start in
    let ee = h.even_end in
    let a : nat_lt s.start s.end ≡ true = grind (arith, nat_tests) in
    let b : (s.start % 2 == 0) ≡ true = grind (arith, nat_tests) in
    let c : (s.end % 2 == 0) ≡ true = grind (arith, nat_tests) in
    let d : nat_lt s.start 512 ≡ false = grind (arith, nat_tests) in
    let e : nat_lt 65504 s.end ≡ false = grind (arith, nat_tests) in
    record { filled = ap not a; even = evens (s.start % 2 == 0) (s.end % 2 == 0) b c; free = or_from (nat_lt s.start 512) (nat_lt 65504 s.end) d e }
  where
    evens : (x y : Bool) → x ≡ true → y ≡ true → not (x && y) ≡ false
    evens x y p q = rw (p, q) refl

no_fault : (t : Table) (g : ℕ) (m : Module) → IsModule g m → ApartFrom t.modules m → length t.modules < t.room → t.given < 65535 → fault_of t m.text m.ram ≡ None
no_fault t g m h apart room few =
    let a = is_fine m.text h.text_ok in
    let b = is_fine m.ram h.ram_ok in
    let c = lowest_none t.modules m apart in
    let e : nat_lt (length t.modules) t.room ≡ true = grind (arith, nat_tests) in
    let f : nat_lt t.given 65535 ≡ true = grind (arith, nat_tests) in
    steps (is_empty m.text) (is_empty m.ram) (is_odd m.text) (is_odd m.ram) (is_reserved m.text) (is_reserved m.ram) (share_byte m.text m.ram) (nat_lt (length t.modules) t.room) (nat_lt t.given 65535) (lowest_met m.text m.ram t.modules)
    a.filled b.filled a.even b.even a.free b.free h.apart e f c
  where
    steps : (a b c d e f g h i : Bool) (o : Option ℕ) → a ≡ false → b ≡ false → c ≡ false → d ≡ false → e ≡ false → f ≡ false → g ≡ false → h ≡ true → i ≡ true → o ≡ None
        → first_of (
        then_some (a || b) Empty ∷ then_some (c || d) Odd ∷ option_map Overlap o ∷ then_some g (Overlap 0)
        ∷ then_some (e || f) Reserved ∷ then_some (not h) Full ∷ then_some (not i) Spent ∷ []) ≡ None
    steps a b c d e f g h i o p1 p2 p3 p4 p5 p6 p7 p8 p9 p10 = rw (p1, p2, p3, p4, p10, p7, p5, p6, p8, p9) refl

abbrev AllApart : List Module → List Module → Type 0
AllApart [] ms = Unit {0}
AllApart (x ∷ xs) ms = SeparateFrom x ms × AllApart xs ms

heads_apart : (xs : List Module) (m : Module) (ms : List Module) → AllApart xs (m ∷ ms) → ApartFrom xs m
heads_apart [] m ms h = tt
heads_apart (x ∷ xs) m ms h = (h.0.0, heads_apart xs m ms h.1)

more_apart : (xs : List Module) (m : Module) (ms : List Module) → AllApart xs (m ∷ ms) → SeparateFrom m ms → AllApart (xs ++ m ∷ []) ms
more_apart [] m ms h s = (s, tt)
more_apart (x ∷ xs) m ms h s = (h.0.1, more_apart xs m ms h.1 s)

-- so many modules are due
abbrev AreDue : Option ℕ → ℕ → Type 0
AreDue None n = Unit {0}
AreDue (Some k) n = k ≡ n

due_here : (left : Option ℕ) (n : ℕ) (line : List ℕ) (more : List (List ℕ)) → AreDue left (suc n) → has_form module_form line ≡ true → due_next left (line ∷ more) ≡ true
due_here None n line more d h = h
due_here (Some k) n line more d h = let z : (k == 0) ≡ false = grind (arith, nat_tests) in ap not z

due_less : (left : Option ℕ) (n : ℕ) → AreDue left (suc n) → AreDue (one_less left) n
due_less None n d = tt
due_less (Some k) n d = omega (arith, d)

due_over : (left : Option ℕ) (lines : List (List ℕ)) → AreDue left 0 → due_next None lines ≡ false → due_next left lines ≡ false
due_over None lines d h = h
due_over (Some k) lines d h = let z : (k == 0) ≡ true = grind (arith, nat_tests) in ap not z

module_ok : (t u : Table) (left : Option ℕ) (s : Spot) (line rest : List ℕ) → no_lf line ≡ true → HasLineForm module_form line → due_next left (line ∷ ended_lines rest) ≡ true
    → fault_of t (section_at 12 line) (section_at 22 line) ≡ None → added t line ≡ u
    → says (modules_refusal t left) s (line_before line rest) ≡ says (modules_refusal u (one_less left)) (next_spot line s) rest
module_ok t u left s line rest plain has due none is =
    at_line (modules_refusal t left) s line rest plain
    ∙ one_due t left s line (ended_lines rest) (unended rest) due
    ∙ formed_ok module_form s line _ has
    ∙ ap (λ (o : Option TableFault). taken_or o (t.given + 1) (says (modules_refusal (added t line) (one_less left)) (next_spot line s) rest)) none
    ∙ ap (λ (v : Table). says (modules_refusal v (one_less left)) (next_spot line s) rest) is

modules_ok : (ms xs : List Module) (g k room : ℕ) (left : Option ℕ) (s : Spot) (rest : List ℕ) → g ≡ length xs → length xs + length ms ≤ room → room ≤ 32 → AreNumbered (g + 1) ms → AreModules k ms → AllApart xs ms
    → AreDue left (length ms) → due_next None (ended_lines rest) ≡ false → ((q : Spot) → says (rows_refusal 496) q rest ≡ None)
    → says (modules_refusal record { modules = xs; given = g; room = room } left) s (modules_text ms rest) ≡ None
modules_ok [] xs g k room left s rest gl held small num mods apart due other after =
    none_due record { modules = xs; given = g; room = room } left s (ended_lines rest) (unended rest) (due_over left (ended_lines rest) due other) ∙ after s
modules_ok (m ∷ ms) xs g k room left s rest gl held small num mods apart due other after =
    let x = text_of_module m (small_module k m mods.0 num.1) in
    let line : List ℕ = module_line m in
    let t : Table = record { modules = xs; given = g; room = room } in
    let u : Table = record { modules = xs ++ m ∷ []; given = g + 1; room = room } in
    let fine : fault_of t m.text m.ram ≡ None = no_fault t k m mods.0 (heads_apart xs m ms apart) (omega (arith, held)) (omega (arith, gl, held, small)) in
    let none : fault_of t (section_at 12 line) (section_at 22 line) ≡ None = ap (λ (a : Section). fault_of t a (section_at 22 line)) x.text_is ∙ ap (λ (b : Section). fault_of t m.text b) x.ram_is ∙ fine in
    let by_vendor : added t line ≡ with_module t m.vendor m.text m.ram = ap (λ (v : ℕ). with_module t v (section_at 12 line) (section_at 22 line)) x.vendor_is
    ∙ ap (λ (a : Section). with_module t m.vendor a (section_at 22 line)) x.text_is ∙ ap (λ (b : Section). with_module t m.vendor m.text b) x.ram_is in
    let with_id = λ (i : ℕ). let n : Module = record { id = i; vendor = m.vendor; text = m.text; ram = m.ram } in let v : Table = record { modules = xs ++ n ∷ []; given = g + 1; room = room } in v in
    let is : added t line ≡ u = by_vendor ∙ ap with_id (sym num.0) in
    module_ok t u left s line (modules_text ms rest) x.lined.plain x.lined.has (due_here left (length ms) line (ended_lines (modules_text ms rest)) due (let f = x.lined.has in f.formed)) none is
    ∙ modules_ok ms (xs ++ m ∷ []) (g + 1) k room (one_less left) (next_spot line s) rest (omega (arith, gl, length-append xs (m ∷ []))) (omega (arith, held, length-append xs (m ∷ []))) small num.2 mods.2 (more_apart xs m ms apart mods.1) (due_less left (length ms) due) other after

-- ---- no refusal: the first lines

first_ok : (room : ℕ) (s : Spot) (rest : List ℕ) → (room ≡ 8) ⊎ (room ≡ 32) → says first_refusal s (line_before (first_line room) rest) ≡ says (key_refusal room) (next_spot (first_line room) s) rest
first_ok room s rest (inl e) = rw e (at_line first_refusal s (codes "sancus-image 1") rest refl)
first_ok room s rest (inr e) = rw e (at_line first_refusal s (codes "sancus-image 2") rest refl)

key_ok : (room : ℕ) (s : Spot) (key rest : List ℕ) → length key ≡ 16 → IsBytes key → says (key_refusal room) s (line_before (key_line key) rest) ≡ says (handler_refusal room) (next_spot (key_line key) s) rest
key_ok room s key rest len are =
    let t = key_text key len are in
    at_line (key_refusal room) s (key_line key) rest t.lined.plain ∙ formed_ok key_form s (key_line key) _ t.lined.has

handler_ok : (room : ℕ) (s : Spot) (sp : ℕ) (rest : List ℕ) → sp < 65536 → sp % 2 ≡ 0 → says (handler_refusal room) s (line_before (handler_line sp) rest) ≡ says (count_refusal room) (next_spot (handler_line sp) s) rest
handler_ok room s sp rest small even =
    let t = handler_text sp small in
    let z : (sp % 2 == 0) ≡ true = grind (arith, nat_tests) in
    let next = says (count_refusal room) (next_spot (handler_line sp) s) rest in
    at_line (handler_refusal room) s (handler_line sp) rest t.lined.plain ∙ formed_ok handler_form s (handler_line sp) _ t.lined.has
    ∙ ap (λ (w : ℕ). cond (w % 2 == 0) next (Some (Line s.number))) t.sp_is
    ∙ ap (λ (b : Bool). cond b next (Some (Line s.number))) z

count_ok : (room n : ℕ) (s : Spot) (rest : List ℕ) → (room ≡ 8) ⊎ (room ≡ 32) → n ≤ 32
    → ((left : Option ℕ) (q : Spot) → AreDue left n → says (modules_refusal (empty_table room) left) q rest ≡ None) → says (count_refusal room) s (count_text room n rest) ≡ None
count_ok room n s rest (inl e) small after = let none = after None s tt in rw e (rw e at none)
count_ok room n s rest (inr e) small after =
    let t = text_of_count n small in
    let none = after (Some n) (next_spot (count_line n) s) refl in
    rw e (at_line (count_refusal 32) s (count_line n) rest t.plain
    ∙ ap (λ (o : Option ℕ). counted_or_line o s (says (modules_refusal (empty_table 32) o) (next_spot (count_line n) s) rest)) t.count_is ∙ (rw e at none))

-- the text of an image is not refused
pub text_has_no_refusal : (i : Image) → IsImage i → refusal_of (image_text i) ≡ None
unfolding refusal_of image_text
text_has_no_refusal i h =
    let t = h.table_ok in
    let f = h.full in
    let held = h.all_held in
    let fits = t.fits in
    let room = i.table.room in
    let start : Spot = record { number = 1; at = 0 } in
    let rest : List ℕ = memory_text i.memory in
    let more : List ℕ = modules_text i.table.modules rest in
    let len : length (drop 512 i.memory) ≡ 16 * 4064 = omega (arith, f, length-drop 512 i.memory) in
    let are = bytes_drop 512 i.memory h.bytes in
    let small : i.table.room ≤ 32 = few i.table.room i.table.room (omega arith) t.room_ok in
    let after : (left : Option ℕ) (q : Spot) → AreDue left i.table.given → says (modules_refusal (empty_table i.table.room) left) q more ≡ None =
    λ left q due. modules_ok i.table.modules [] 0 i.table.given i.table.room left q rest refl (omega (arith, fits)) small h.numbered t.modules tt (subst (AreDue left) (sym held) due)
    (rows_not_due 4064 512 (drop 512 i.memory) (omega arith) len are)
    (λ p. rows_ok 4064 512 496 (drop 512 i.memory) p refl (omega arith) (omega arith) (omega arith) len are) in
    first_ok i.table.room start (line_before (key_line i.node_key) (text_after_key i)) t.room_ok
    ∙ key_ok i.table.room (next_spot (first_line i.table.room) start) i.node_key (text_after_key i) h.sixteen h.key_bytes
    ∙ handler_ok i.table.room (next_spot (key_line i.node_key) (next_spot (first_line i.table.room) start)) i.handler_sp (count_text i.table.room i.table.given more) h.small_sp h.even_sp
    ∙ count_ok i.table.room i.table.given (next_spot (handler_line i.handler_sp) (next_spot (key_line i.node_key) (next_spot (first_line i.table.room) start))) more t.room_ok (few_given i h) after
