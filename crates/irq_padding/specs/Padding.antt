-- The padding after an interrupt of a module.
use Rattle.std.specs.Prelude.{ℕ, zero, suc, ◌-◌}
use Rattle.reg_backup.specs.declared.backup.Phase.{Phase}
use Rattle.reg_backup.specs.declared.backup.Phase.TheVariants.{Run, Pad}
use Rattle.reg_backup.specs.declared.backup.After.{After}
use Rattle.reg_backup.specs.declared.backup.After.TheVariants.{Next, Handler}

-- a phase and what is settled after it, with so many cycles of padding left: with none, the handler starts
abbrev pub padding : ℕ → Phase × After
padding zero = (Run 0, Handler)
padding (suc left) = (Pad (suc left), Next)

-- one cycle later
abbrev pub stepped_by : Phase → Phase × After → Phase × After
stepped_by (Pad left) p = padding (left - 1)
stepped_by (Run rest) p = p

-- n cycles later
abbrev pub after_steps : ℕ → Phase × After → Phase × After
after_steps zero p = p
after_steps (suc n) p = let q = after_steps n p in stepped_by q.0 q
