use Rattle.std.proofs.Common.{◌≡◌, ◌<◌, ◌≤◌, ◌+◌}
use Rattle.workload.specs.Draws.{drawn}
use Rattle.workload.specs.Pulses.{pulses}
use Rattle.workload.proofs.pulses.schedule.Given as goal

abbrev pub invariant-loop-number : goal.invariant-loop-number
invariant-loop-number l = (l.entries.items ≡ pulses l.seed l.number) × (l.drawn ≡ drawn l.seed (l.number + 1)) × (l.drawn < 2147483648) × (l.number ≤ 1000)
