-- The frames of a module, and the cycles that are left.
use Rattle.std.specs.Prelude.{ℕ, ◌+◌, List, [], ◌∷◌, ◌==◌}
use Rattle.sm_words.specs.Sums.{one_if}
use Rattle.reg_backup.specs.declared.backup.Phase.{Phase}
use Rattle.reg_backup.specs.declared.backup.Phase.TheVariants.{Run, Pad}
use Rattle.reg_backup.specs.declared.frames.Frame.{Frame}
use Rattle.reg_backup.specs.declared.frames.Frame.TheVariants.{Plain, Module as Held}

-- the number of its frames
abbrev pub times : ℕ → List Frame → ℕ
times m [] = 0
times m (Plain ∷ fs) = times m fs
times m (Held b ∷ fs) = one_if (b.module == m) + times m fs

-- the cycles that an instruction still needs
abbrev pub rest_of : Phase → ℕ
rest_of (Run rest) = rest
rest_of (Pad left) = 0
