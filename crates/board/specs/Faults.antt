-- Why a board does not go back to an address.
use Rattle.std.specs.Prelude.{◌≡◌, ℕ, ◌<◌, ◌≤◌, length, None}
use Rattle.written_machine.specs.Marks.{Marked, last_at}
use Rattle.board.specs.declared.marks.LastFault.{LastFault}
use Rattle.board.specs.declared.marks.LastFault.TheVariants.{NoMark, NotThere}

-- there is no mark k, or it did not stand there in any cycle from mark k's on and before the present one
abbrev pub IsLastFault : ℕ → ℕ → Marked → LastFault → Type 0
IsLastFault addr k g (NoMark j) = (j ≡ k) × (length g.marks ≤ k)
IsLastFault addr k g (NotThere a) = (a ≡ addr) × (k < length g.marks) × (last_at addr k g ≡ None)
