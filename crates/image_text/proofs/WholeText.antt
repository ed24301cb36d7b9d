-- What was read, put together.
use Rattle.std.proofs.Common.{◌≡◌, ◌⊎◌, ⊎_elim, ℕ, ◌%◌, ◌<◌, ◌≤◌, List, length, slice_index, Option, Some, None, refl, sym, ap, ◌∙◌, arith}
use Rattle.mod_layout.specs.Table.{Table}
use Rattle.image_text.specs.Image.{Image, IsImage}
use Rattle.image_text.specs.ImageText.{line_before, first_line, key_line, handler_line, count_text, modules_text, memory_text, image_text}
use Rattle.image_text.specs.internal.Reading.{Unread, IsCountOf, IsGivenCount, count_part, PassedModules, PassedMemory}

count_is : (room given : ℕ) (due : Option ℕ) (rest : List ℕ) → IsCountOf room due → IsGivenCount due given → count_part due rest ≡ count_text room given rest
count_is room given None rest k g = rw k refl
count_is room given (Some n) rest k g = rw (k, g) refl

-- the whole text, line by line
pub whole_text : (image : Image) (room : ℕ) (due : Option ℕ) (u0 u1 u2 u3 u4 u5 : List ℕ) → image.table.room ≡ room → IsCountOf room due → IsGivenCount due image.table.given
    → u0 ≡ line_before (first_line room) u1 → u1 ≡ line_before (key_line image.node_key) u2 → u2 ≡ line_before (handler_line image.handler_sp) u3 → u3 ≡ count_part due u4
    → u4 ≡ modules_text image.table.modules u5 → u5 ≡ memory_text image.memory → u0 ≡ image_text image
unfolding image_text
whole_text image room due u0 u1 u2 u3 u4 u5 r k g e0 e1 e2 e3 e4 e5 =
    let f4 = e4 ∙ ap (λ (l : List ℕ). modules_text image.table.modules l) e5 in
    let f3 = e3 ∙ count_is room image.table.given due u4 k g ∙ ap (λ (l : List ℕ). count_text room image.table.given l) f4 in
    let f2 = e2 ∙ ap (λ (l : List ℕ). line_before (handler_line image.handler_sp) l) f3 in
    let f1 = e1 ∙ ap (λ (l : List ℕ). line_before (key_line image.node_key) l) f2 in
    e0 ∙ ap (λ (l : List ℕ). line_before (first_line room) l) f1
    ∙ sym (ap (λ (n : ℕ). line_before (first_line n) (line_before (key_line image.node_key) (line_before (handler_line image.handler_sp) (count_text n image.table.given (modules_text image.table.modules (memory_text image.memory)))))) r)

-- a table has room for no more than 32
pub few : (n room : ℕ) → n ≤ room → (room ≡ 8) ⊎ (room ≡ 32) → n ≤ 32
few n room l h = ⊎_elim (λ e. omega (arith, e)) (λ e. omega (arith, e)) h

pub whole_image : (memory key : List ℕ) (table : Table) (sp room : ℕ) (due : Option ℕ) (u4 u5 w : Unread) → PassedModules room due table u4 u5 → PassedMemory memory w
    → length key ≡ 16 → ((n : ℕ) → slice_index key n < 256) → sp % 2 ≡ 0 → sp < 65536
    → IsImage record { memory = memory; table = table; node_key = key; handler_sp = sp }
whole_image memory key table sp room due u4 u5 w t m sixteen key_bytes even small =
    let ok = t.table_ok in
    let fits = ok.fits in
    let held = t.all_held in
    record {
      full = m.full;
      bytes = m.are_bytes;
      low = m.low;
      sixteen = sixteen;
      key_bytes = key_bytes;
      table_ok = t.table_ok;
      numbered = t.numbered;
      all_held = t.all_held;
      given_small = let f = few (length table.modules) table.room fits ok.room_ok in omega (arith, held, f);
      even_sp = even;
      small_sp = small;
    }
