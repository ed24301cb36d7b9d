-- Memories of words are sound.
use Rattle.std.proofs.Common.{◌≡◌, ◌≢◌, ◌<◌, ◌≤◌, ℕ, zero, suc, ◌+◌, ◌%◌, ◌/◌, List, [], ◌∷◌, length, set, replicate, slice_index, refl, sym, ap, ◌∙◌, subst, arith}
use Rattle.std.proofs.lemmas.List.{length-set, length-replicate}
use Rattle.peer_rows.specs.Rows.{with_words}

-- 65,536 bytes, none but 0 below 0x0200
pub record Sound (memory : List ℕ) : Type 0 where
  pub full : length memory ≡ 65536
  pub bytes : (a : ℕ) → slice_index memory a < 256
  pub low : (a : ℕ) → a < 512 → slice_index memory a ≡ 0

set_bytes : (xs : List ℕ) (i v : ℕ) → v < 256 → ((a : ℕ) → slice_index xs a < 256) → (a : ℕ) → slice_index (set xs i v) a < 256
set_bytes [] i v h k a = k a
set_bytes (x ∷ xs) zero v h k zero = h
set_bytes (x ∷ xs) zero v h k (suc a) = k (suc a)
set_bytes (x ∷ xs) (suc i) v h k zero = k 0
set_bytes (x ∷ xs) (suc i) v h k (suc a) = set_bytes xs i v h (λ a. k (suc a)) a

pub set_else : (xs : List ℕ) (i v a : ℕ) → a ≢ i → slice_index (set xs i v) a ≡ slice_index xs a
set_else (x ∷ xs) zero v zero ne = absurd (ne refl)
set_else (x ∷ xs) (suc i) v (suc a) ne = set_else xs i v a (λ e. ne (ap suc e))
set_else _ _ v _ ne = refl

sound_set : (memory : List ℕ) (i v : ℕ) → Sound memory → 512 ≤ i → v < 256 → Sound (set memory i v)
sound_set memory i v s h b = record {
  full = length-set memory i v ∙ s.full;
  bytes = set_bytes memory i v b s.bytes;
  low = λ a lt. set_else memory i v a (λ e. absurd (omega arith)) ∙ s.low a lt;
}

-- each of these is a word
abbrev pub Words : List ℕ → Type 0
Words [] = Unit {0}
Words (w ∷ ws) = (w < 65536) × Words ws

pub sound_words : (a : ℕ) (ws memory : List ℕ) → 512 ≤ a → Words ws → Sound memory → Sound (with_words a ws memory)
sound_words a [] memory h w s = s
sound_words a (x ∷ ws) memory h w s =
    sound_words (a + 2) ws (set (set memory a (x % 256)) (a + 1) (x / 256)) (omega arith) w.1
    (sound_set (set memory a (x % 256)) (a + 1) (x / 256) (sound_set memory a (x % 256) s h (omega arith)) (omega arith) (let b : x < 65536 = w.0 in omega arith))

pub none_at : (n a : ℕ) → slice_index (replicate n 0) a ≡ 0
none_at (suc n) (suc a) = none_at n a
none_at _ _ = refl

pub sound_zeros : (n : ℕ) → n ≡ 65536 → Sound (replicate n 0)
sound_zeros n e = record {
  full = length-replicate n 0 ∙ e;
  bytes = λ a. subst (λ v. v < 256) (sym (none_at n a)) (omega arith);
  low = λ a lt. none_at n a;
}
