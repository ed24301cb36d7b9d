-- What a memory holds.
use Rattle.std.specs.Prelude.{◌≡◌, ℕ, List}

pub record Contents : Type 0 where
  pub bytes : List ℕ  -- of all addresses from 0 to 0xffff
  pub marked : List (List ℕ)  -- the bytes at each mark, the oldest first
  pub room : ℕ  -- how many marks there may be

-- the marks stay, and their room
pub record SameMarks (old new : Contents) : Type 0 where
  pub marked : new.marked ≡ old.marked
  pub room : new.room ≡ old.room
