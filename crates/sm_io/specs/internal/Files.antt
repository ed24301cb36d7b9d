-- What the code's own invariants say of: Files.
use Rattle.std.specs.Prelude.{◌≡◌, ℕ, ◌-◌, List, [], length, take, Option, Some, None}
use Rattle.sm_io.specs.declared.files.Unread.TheVariants as unread
use Rattle.sm_io.specs.declared.whole.ReadFault.TheVariants as fault

-- these bytes are a front of the file; before the first read there need be no file
abbrev pub IsReadSoFar : Option (List ℕ) → List ℕ → Type 0
IsReadSoFar None so_far = so_far ≡ []
IsReadSoFar (Some bytes) so_far = take (length so_far) bytes ≡ so_far
