use Rattle.std.proofs.Common.{◌≡◌, [], ◌∷◌}
use Rattle.flow_laws.specs.Exploring.{explore, forks, most_states}
use Rattle.flow_check.specs.internal.Programs.{flow_by}
use Rattle.flow_check.specs.internal.Exploring.{held_point, stacked}
use Rattle.flow_check.proofs.exploring.explore.Given as goal

abbrev pub invariant-loop-held : goal.invariant-loop-held
invariant-loop-held l =
    explore (flow_by l.program) (forks l.program.module.now l.program.text.now) most_states (held_point l.fn.first ∷ []) [] l.steps
    ≡ explore (flow_by l.program) (forks l.program.module.now l.program.text.now) most_states (stacked l.to_come.items []) (stacked l.kept.items []) l.left

abbrev pub decreases-loop-held : goal.decreases-loop-held
decreases-loop-held l = l.left
