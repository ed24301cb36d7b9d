use Rattle.std.proofs.Common.{◌≡◌, ◌+◌, drop}
use Rattle.owner_steps.specs.Steps.{early_count}
use Rattle.owner_steps.proofs.stepping.early_count.Given as goal

abbrev pub invariant-loop-event : goal.invariant-loop-event
invariant-loop-event l = record {
  rest : l.count + early_count (drop l.event-index l.events) ≡ early_count l.events;
  place : l.count ≡ l.event-index;
}
