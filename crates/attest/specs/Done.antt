-- What a unit instruction does to core, memory and table.
use Rattle.std.specs.Prelude.{◌≡◌, ◌<◌, ℕ, ◌+◌, List, if◌then◌else◌, slice_index, slice_set}
use Rattle.sm_words.specs.Words.{reg}
use Rattle.sm_words.specs.declared.registers.TheConstants.{PC}
use Rattle.mod_layout.specs.Table.{Table, takes}
pub use Rattle.mod_layout.specs.Table.{own_of}
use Rattle.attest.specs.declared.Who.{Who}
use Rattle.attest.specs.declared.UnitDone.{UnitDone}
use Rattle.attest.specs.Units.{UnitName, Protect, Doer, Effect, new_text, new_ram, table_by, unit_effect, unit_plan}
use Rattle.attest.specs.Accesses.{memory_after, bytes_read, writes_of}

abbrev pub doer : Table → Who → List ℕ → Doer
doer t who key = record { own = own_of who.active t; caller = who.caller; table = t; key = key }

-- the effect, by the bytes that its reads give
abbrev pub effect_in : Doer → UnitName → List ℕ → List ℕ → Effect
effect_in who x core mem = unit_effect who x core (bytes_read mem (unit_plan who x core))

-- the id of the module that it makes, or 0
abbrev pub made_by : UnitName → Table → List ℕ → ℕ
made_by Protect t core = if takes t (new_text core) (new_ram core) then t.given + 1 else 0
made_by _ t core = 0

-- a core with PC as it was
abbrev pub with_old_pc : List ℕ → List ℕ → List ℕ
with_old_pc old core = slice_set core PC (reg old PC)

-- it was done: core, memory and table are those of its effect, but that PC stays
pub record IsDone (who : Doer) (x : UnitName) (core mem core' mem' : List ℕ) (table' : Table) (done : UnitDone) : Type 0 where
  pub core_is : core' ≡ with_old_pc core (effect_in who x core mem).core
  pub memory_is : mem' ≡ memory_after mem (writes_of (unit_plan who x core)) (effect_in who x core mem).stored
  pub table_is : table' ≡ table_by x who.table core
  pub cycles : done.cycles ≡ (effect_in who x core mem).cycles
  pub bytes : (k : ℕ) → slice_index (effect_in who x core mem).stored k < 256
  pub closing : done.closing ≡ (effect_in who x core mem).closing
  pub made : done.made ≡ made_by x who.table core
