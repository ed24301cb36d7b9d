-- The machine's state.
use Rattle.std.specs.Prelude.{ℕ, List, Option}
use Rattle.mod_layout.specs.Table.{Table}
use Rattle.pc_access.specs.declared.Stop.{Stop}
use Rattle.devices.specs.Devices.{Devices}
use Rattle.reg_backup.specs.declared.backup.After.{After}
use Rattle.reg_backup.specs.declared.backup.Phase.{Phase}
use Rattle.reg_backup.specs.declared.frames.Frame.{Frame}

-- everything that a cycle reads or changes, and the image's key and handler_sp
pub record State : Type 0 where
  pub core : List ℕ
  pub memory : List ℕ
  pub table : Table
  pub devices : Devices
  pub cycle : ℕ
  pub active : Option ℕ
  pub caller : ℕ
  pub frames : List Frame  -- the newest first
  pub stop : Option Stop
  pub phase : Phase
  pub after : After
  pub key : List ℕ
  pub handler_sp : ℕ
