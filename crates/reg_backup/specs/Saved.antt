-- What a backup keeps of an interrupted module.
use Rattle.std.specs.Prelude.{ℕ, List, Bool, true, false}
use Rattle.reg_backup.specs.declared.backup.Backup.{Backup}
use Rattle.reg_backup.specs.declared.backup.After.{After}
use Rattle.reg_backup.specs.declared.backup.After.TheVariants.{Next, Close}

-- whether the module closes once its rest has passed
abbrev pub is_close : After → Bool
is_close Close = true
is_close _ = false

-- what is settled at rest 0 after a module is resumed
abbrev pub closing_after : Bool → After
closing_after true = Close
closing_after false = Next

-- the backup of a module with its caller, its core, its rest and what is settled after it
abbrev pub saved : ℕ → ℕ → List ℕ → ℕ → After → Backup
saved id caller core rest after = record { «module» = id; caller = caller; core = core; rest = rest; closing = is_close after }
