use Rattle.std.proofs.Common.{◌≡◌, ℕ, ◌+◌, ◌-◌, List}
use Rattle.written_machine.specs.Script.{refused_or}
use Rattle.monitor.proofs.showing.first_refusal.Given as goal

abbrev pub invariant-loop-i : goal.invariant-loop-i
invariant-loop-i l = (rest : List ℕ) → refused_or l.table l.addr l.count rest ≡ refused_or l.table (l.addr + l.i) (l.count - l.i) rest
