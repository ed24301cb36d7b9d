-- The text of an image is no longer than a file may be.
use Rattle.std.proofs.Common.{◌≡◌, ℕ, zero, suc, ◌+◌, ◌*◌, ◌≤◌, ◌==◌, ◌⊎◌, inl, inr, Bool, true, false, List, [], ◌∷◌, length, length-append, take, drop, refl, arith}
use Rattle.std.specs.Fmt.{decimal}
use Rattle.std.specs.Prelude.{codes, if◌then◌else◌}
use Rattle.std.proofs.lemmas.Fmt.{length-decimal-le_succ}
use Rattle.std.proofs.lemmas.List.{length-take}
use Rattle.hex.specs.Hex.{lower_digits}
use Rattle.hex.proofs.HexLemmas.{length-encode_with}
use Rattle.texts.specs.Hexadecimals.{hex_key}
use Rattle.mod_layout.specs.declared.Module.{Module}
use Rattle.image_text.specs.Image.{Image, IsImage}
use Rattle.image_text.specs.ImageText.{line_before, first_line, key_line, handler_line, count_line, count_text, module_line, modules_text, is_zero, row_line, rows_text, end_line, memory_text, text_after_key, image_text}
use Rattle.cli_files.specs.Files.{most_bytes}

long_ended : (line rest : List ℕ) → length (line_before line rest) ≡ length line + 1 + length rest
long_ended line rest = let e = length-append line (10 ∷ rest) in omega (arith, e)

long_key : (bytes : List ℕ) → length (hex_key bytes) ≡ 2 * length bytes
long_key bytes = length-encode_with lower_digits bytes

long_row : (at : ℕ) (row : List ℕ) → length (row_line at row) ≡ 8 + 2 * length row
long_row at row =
    let digits = long_key row in
    let line : length (row_line at row) ≡ suc (suc (suc (suc (suc (suc (suc (suc (length (hex_key row))))))))) = refl in
    omega (arith, digits, line)

rows_long : (n at : ℕ) (memory rest : List ℕ) → length (rows_text n at memory rest) ≤ 41 * n + length rest
unfolding rows_text
rows_long zero at memory rest = omega arith
rows_long (suc n) at memory rest = by (is_zero (take 16 memory)) (rows_long n (at + 16) (drop 16 memory) rest)
  where
    by : (b : Bool) → length (rows_text n (at + 16) (drop 16 memory) rest) ≤ 41 * n + length rest
        → length (if b then rows_text n (at + 16) (drop 16 memory) rest else line_before (row_line at (take 16 memory)) (rows_text n (at + 16) (drop 16 memory) rest)) ≤ 41 * suc n + length rest
    by true h = omega (arith, h)
    by false h =
        let line = long_ended (row_line at (take 16 memory)) (rows_text n (at + 16) (drop 16 memory) rest) in
        omega (arith, h, line, long_row at (take 16 memory), length-take 16 memory)

memory_long : (memory : List ℕ) → length (memory_text memory) ≤ 166628
memory_long memory = let rows = rows_long 4064 0x0200 (drop 0x0200 memory) (line_before end_line []) in omega (arith, rows)

modules_long : (ms : List Module) (rest : List ℕ) → length (modules_text ms rest) ≡ 32 * length ms + length rest
modules_long [] rest = omega arith
modules_long (m ∷ ms) rest =
    let line : length (module_line m) ≡ 31 = refl in
    omega (arith, line, long_ended (module_line m) (modules_text ms rest), modules_long ms rest)

count_long : (room n : ℕ) (rest : List ℕ) → n ≤ 32 → length (count_text room n rest) ≤ 42 + length rest
count_long room n rest h = by (room == 8)
  where
    by : (b : Bool) → length (if b then rest else line_before (count_line n) rest) ≤ 42 + length rest
    by true = omega arith
    by false =
        let line = length-append (codes "modules ") (decimal n) in
        omega (arith, h, line, long_ended (count_line n) rest, length-decimal-le_succ n (omega arith))

first_long : (room : ℕ) → length (first_line room) ≡ 14
first_long room = by (room == 8)
  where
    by : (b : Bool) → length (if b then first_line 8 else first_line 32) ≡ 14
    by true = refl
    by false = refl

pub short_text : (i : Image) → IsImage i → length (image_text i) ≤ most_bytes
unfolding image_text
short_text i image =
    let few : i.table.given ≤ 32 = room_few image.table_ok.room_ok image.table_ok.fits image.all_held in
    let handler : length (handler_line i.handler_sp) ≡ 12 = refl in
    let key : length (key_line i.node_key) ≡ suc (suc (suc (suc (length (hex_key i.node_key))))) = refl in
    let tail = count_text i.table.room i.table.given (modules_text i.table.modules (memory_text i.memory)) in
    omega (
      arith,
      few,
      handler,
      key,
      image.all_held,
      image.sixteen,
      long_key i.node_key,
      first_long i.table.room,
      long_ended (first_line i.table.room) (line_before (key_line i.node_key) (text_after_key i)),
      long_ended (key_line i.node_key) (text_after_key i),
      long_ended (handler_line i.handler_sp) tail,
      count_long i.table.room i.table.given (modules_text i.table.modules (memory_text i.memory)) few,
      modules_long i.table.modules (memory_text i.memory),
      memory_long i.memory,
    )
  where
    room_few : (i.table.room ≡ 8) ⊎ (i.table.room ≡ 32) → length i.table.modules ≤ i.table.room → length i.table.modules ≡ i.table.given → i.table.given ≤ 32
    room_few (inl e) h k = omega (arith, e, h, k)
    room_few (inr e) h k = omega (arith, e, h, k)
