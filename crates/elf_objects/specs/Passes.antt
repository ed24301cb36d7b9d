-- What is found or given at each index below a count, and the refusal that a check answers.
use Rattle.std.specs.Prelude.{◌≡◌, ◌≢◌, ℕ, zero, suc, List, [], ◌∷◌, ◌++◌, Option, Some, None, Result, Ok, Err}
use Rattle.elf_objects.specs.declared.fault.ElfFault.{ElfFault}
use Rattle.elf_objects.specs.declared.fault.ElfFault.TheVariants as fault
use Rattle.std.specs.Option.{option_or}

-- what the lowest index below a count gives that gives something
unfoldable pub first_below : {A : Type 0} → (ℕ → Option A) → ℕ → Option A
first_below found_at zero = None
first_below found_at (suc n) = option_or (first_below found_at n) (found_at n)

-- a value for each index below a count
unfoldable pub each_below : {A : Type 0} → (ℕ → A) → ℕ → List A
each_below value_at zero = []
each_below value_at (suc n) = each_below value_at n ++ value_at n ∷ []

-- the values of each index below a count
unfoldable pub all_below : {A : Type 0} → (ℕ → List A) → ℕ → List A
all_below values_at zero = []
all_below values_at (suc n) = all_below values_at n ++ values_at n

-- a check answers this refusal, if there is one
abbrev pub FaultIs : {F : Type 0} → Result (Unit {0}) F → Option F → Type 0
FaultIs (Ok _) refusal = refusal ≡ None
FaultIs (Err f) refusal = refusal ≡ Some f

-- unless memory ran out, this is the refusal
abbrev pub IsFaultOf : Option ElfFault → ElfFault → Type 0
IsFaultOf refusal f = f ≢ fault.NoMemory → FaultIs (Err f) refusal
