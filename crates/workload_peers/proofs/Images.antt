-- The images of a workload.
use Rattle.std.proofs.Common.{◌≡◌, ◌<◌, ◌≤◌, inl, ⊎_elim, ℕ, ◌-◌, List, [], ◌∷◌, ◌++◌, length, take, drop, replicate, refl, sym, ap, ◌∙◌, subst, arith, true, false}
use Rattle.std.specs.Prelude.{slice_index, All}
use Rattle.std.specs.List.{flat_map}
use Rattle.std.proofs.lemmas.Bool.Decides.{nat_tests}
use Rattle.std.proofs.lemmas.List.{get_or_append_left, get_or-append_right, get_or_past}
use Rattle.std.proofs.lemmas.Bool.{cases_lt}
use Rattle.std.proofs.lemmas.List.Elements.{All-nil, All-cons, All-append, All-replicate, All-get_or}
use Rattle.sm_words.specs.Words.{low_byte, high_byte}
use Rattle.mod_layout.specs.declared.TheConstants.{RESET_VECTOR}
use Rattle.mod_layout.specs.Table.{holds}
use Rattle.mod_layout.specs.Tables.{IsModule}
use Rattle.image_text.specs.Image.{IsImage}
use Rattle.written_machine.specs.Peers.{DifferInData}
use Rattle.peer_rows.specs.Rows.{row_module}
use Rattle.workload.specs.declared.program.TheConstants.{START, PROGRAM, TEXT, DATA, HANDLER, LINE_VECTOR}
use Rattle.sm_words.specs.Bytes.{word_bytes}
use Rattle.workload.specs.Program.{placed_words, memory, image}
use Rattle.workload.proofs.Memory.{low_memory}
use Rattle.peer_rows.proofs.Sound.{none_at}

-- ---- bytes

abbrev Bytes : List ℕ → Type 0
Bytes l = All (λ b. b < 256) l

bytes_words : (ws : List ℕ) → Bytes (flat_map word_bytes ws)
bytes_words [] = All-nil (λ b. b < 256)
bytes_words (w ∷ ws) = All-cons (λ b. b < 256) (low_byte w) (high_byte w ∷ flat_map word_bytes ws) (omega arith) (All-cons (λ b. b < 256) (high_byte w) (flat_map word_bytes ws) (omega arith) (bytes_words ws))

bytes_placed : (addr : ℕ) (ws before : List ℕ) → Bytes before → Bytes (placed_words addr ws before)
unfolding placed_words
bytes_placed addr ws before h =
    All-append (λ b. b < 256) (before ++ replicate (addr - length before) 0) (flat_map word_bytes ws)
    (All-append (λ b. b < 256) before (replicate (addr - length before) 0) h (All-replicate (λ b. b < 256) (addr - length before) 0 (omega arith))) (bytes_words ws)

bytes_memory : (v : ℕ) → Bytes (memory v)
unfolding memory
bytes_memory v = bytes_placed RESET_VECTOR _ _ (bytes_placed LINE_VECTOR _ _ (bytes_placed HANDLER _ _ (bytes_placed DATA.start _ _ (bytes_placed TEXT.start _ _ (bytes_placed START PROGRAM [] (All-nil (λ b. b < 256)))))))

byte_at : (l : List ℕ) → Bytes l → (a : ℕ) → slice_index l a < 256
byte_at l h a =
    ⊎_elim (λ within. All-get_or (λ b. b < 256) l a 0 within h)
    (λ past. let none : slice_index l a ≡ 0 = get_or_past l a 0 past in omega arith) (cases_lt a (length l))

-- ---- around the data

front : List ℕ
front = take 0x400 (memory 0)

back : List ℕ
back = drop 0x402 (memory 0)

pair : ℕ → List ℕ
pair v = low_byte v ∷ high_byte v ∷ []

memory_is : (v : ℕ) → memory v ≡ (front ++ pair v) ++ back
unfolding memory placed_words front back pair
memory_is v = refl

full : (v : ℕ) → length (memory v) ≡ 65536
unfolding memory placed_words
full v = refl

front_length : length front ≡ 0x400
unfolding memory placed_words front
front_length = refl

pair_length : (v : ℕ) → length (front ++ pair v) ≡ 0x402
unfolding memory placed_words front pair
pair_length v = refl

below : (v x : ℕ) → x < 0x400 → slice_index (memory v) x ≡ slice_index front x
below v x h =
    let short = pair_length v in
    let first = front_length in
    ap (λ (l : List ℕ). slice_index l x) (memory_is v) ∙ (get_or_append_left (front ++ pair v) back 0 x (omega arith) ∙ get_or_append_left front (pair v) 0 x (omega arith))

above : (v x : ℕ) → 0x402 ≤ x → slice_index (memory v) x ≡ slice_index back (x - 0x402)
above v x h = ap (λ (l : List ℕ). slice_index l x) (memory_is v) ∙ get_or-append_right (front ++ pair v) back 0x402 x 0 (pair_length v) h

same_else : (v w x : ℕ) → holds DATA x ≡ false → slice_index (memory v) x ≡ slice_index (memory w) x
same_else v w x e =
    ⊎_elim (λ low. below v x low ∙ sym (below w x low))
    (λ high. ⊎_elim (λ within. absurd (clash high within)) (λ past. above v x past ∙ sym (above w x past)) (cases_lt x 0x402))
    (cases_lt x 0x400)
  where
    clash : 0x400 ≤ x → x < 0x402 → ⊥
    clash h k = let t : holds DATA x ≡ true = grind (arith, nat_tests) in let bad : false ≡ true = sym e ∙ t in cc

-- ---- images

is_module : IsModule 1 (row_module 0x0322)
is_module = record {
  text_ok = record { order = omega arith; even_start = refl; even_end = refl; low = omega arith; high = omega arith };
  ram_ok = record { order = omega arith; even_start = refl; even_end = refl; low = omega arith; high = omega arith };
  apart = refl;
  numbered = omega arith;
  known = omega arith;
}

is_image : (v : ℕ) → v < 65536 → IsImage (image v)
unfolding image
is_image v small = record {
  full = full v;
  bytes = byte_at (memory v) (bytes_memory v);
  low = (low_memory v).low;
  sixteen = refl;
  key_bytes = λ n. subst (λ k. k < 256) (sym (none_at 16 n)) (omega arith);
  table_ok = record { modules = (is_module, tt, tt); fits = omega arith; room_ok = inl refl };
  numbered = (refl, omega arith, tt);
  all_held = refl;
  given_small = omega arith;
  even_sp = refl;
  small_sp = omega arith;
}

pub differ : (v w : ℕ) → v < 65536 → w < 65536 → DifferInData (image v) (image w) 1 (row_module 0x0322)
unfolding image
differ v w a b = record {
  images = (is_image v a, is_image w b);
  table = refl;
  node_key = refl;
  handler_sp = refl;
  owned = refl;
  elsewhere = λ x h. same_else v w x h;
}
