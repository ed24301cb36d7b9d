use Rattle.std.proofs.Common.{◌≡◌, drop, map}
use Rattle.std.specs.List.{filter}
use Rattle.mod_layout.specs.declared.Module.{Module}
use Rattle.mod_layout.specs.Table.{meets, lowest_met as lowest_met_in}
use Rattle.mod_layout.proofs.TableLemmas.{lowest_from}
use Rattle.mod_layout.proofs.table.lowest_met.Given as goal

-- the lowest so far and the ids to come
abbrev pub invariant-loop-module : goal.invariant-loop-module
invariant-loop-module l =
    lowest_from l.lowest (map (λ (m : Module). m.id) (filter (meets l.text l.ram) (drop l.module-index l.modules))) ≡ lowest_met_in l.text l.ram l.modules
