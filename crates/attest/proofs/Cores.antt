-- On cores that differ in PC.
use Rattle.std.proofs.Common.{◌≡◌, ℕ, List, [], ◌∷◌, refl}
use Rattle.sm_words.specs.Words.{put}
use Rattle.attest.specs.Units.{next}
use Rattle.attest.specs.Done.{with_old_pc}

-- R15 alone is written
pub with_old_pc-answer : (core : List ℕ) (v : ℕ) → put core 15 v ≡ with_old_pc core (put (next core) 15 v)
with_old_pc-answer [] v = refl
with_old_pc-answer (pc ∷ rest) v = refl

pub with_old_pc-next : (core : List ℕ) → core ≡ with_old_pc core (next core)
with_old_pc-next [] = refl
with_old_pc-next (pc ∷ rest) = refl
