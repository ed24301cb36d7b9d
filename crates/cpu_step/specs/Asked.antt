-- Every instruction in one scheme, the unit instructions among them: the accesses that it asks for,
-- in their order, and what it leaves once its reads gave their values.
use Rattle.std.specs.Prelude.{ℕ, List, false, is_some}
use Rattle.insn_decode.specs.declared.insn.Insn.{Insn}
use Rattle.insn_decode.specs.declared.insn.Insn.TheVariants.{Unit as UnitOp}
use Rattle.cycle_table.specs.Cycles.{cycles_of}
use Rattle.mod_layout.specs.Table.{Table}
use Rattle.pc_access.specs.declared.Access.{Access}
use Rattle.attest.specs.Units.{Doer, Effect, unit_plan, unit_effect, table_by}
use Rattle.cpu_step.specs.Effect.{does}
use Rattle.cpu_step.specs.Plan.{plan}

-- the accesses of an instruction in their order
unfoldable pub asks : Doer → Insn → List ℕ → List Access
asks who (UnitOp name) core = unit_plan who name core
asks who insn core = plan insn core

-- what it leaves, once its reads gave these values
unfoldable pub effect : Doer → Insn → List ℕ → List ℕ → Effect
effect who (UnitOp name) core values = unit_effect who name core values
effect who insn core values =
    let d = does insn core values (is_some who.own) in
    record { core = d.core; stored = d.stored; cycles = cycles_of insn; closing = false }

-- the table after an instruction: only protect changes it
unfoldable pub table_after : Table → Insn → List ℕ → Table
table_after t (UnitOp name) core = table_by name t core
table_after t _ core = t
