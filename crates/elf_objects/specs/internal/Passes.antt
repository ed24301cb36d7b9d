-- What loops over indexes find.
use Rattle.std.specs.Prelude.{◌≡◌, ◌<◌, ℕ, Option, None}
use Rattle.elf_objects.specs.Passes.{first_below}

-- what is found at the indexes below a count is what this function gives
abbrev pub FindsBelow : {A : Type 0} → ℕ → (ℕ → Option A → Type 0) → (ℕ → Option A) → Type 0
FindsBelow {A} count found f = (k : ℕ) (r : Option A) → k < count → found k r → r ≡ f k

-- nothing was found below an index
abbrev pub NoneBelow : {A : Type 0} → ℕ → (ℕ → Option A → Type 0) → ℕ → Type 0
NoneBelow {A} count found i = (f : ℕ → Option A) → FindsBelow count found f → first_below f i ≡ None
