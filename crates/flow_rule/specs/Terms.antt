-- What a module may tell where a call ends, and which of its data are public.
use Rattle.std.specs.Prelude.{ℕ, List, []}

-- the registers that may hold anything where a call ends, by their numbers, 2 for the flags; and the addresses of data words
-- that are public where a call begins, and have to be so again where it leaves
pub record Terms : Type 0 where
  pub answers : List ℕ
  pub public : List ℕ

-- nothing is told, and no data are public
abbrev pub no_terms : Terms
no_terms = record { answers = []; public = [] }
