use Rattle.std.proofs.Common.{◌≡◌, ◌-◌, ◌≤◌}
use Rattle.written_machine.specs.Cycle.{after_cycles}
use Rattle.board.specs.internal.Sound.{MachineStands}
use Rattle.board.specs.internal.Standing.{state_of, lasting_of}
use Rattle.board.proofs.machine.Machine.pass_to.Given as goal

abbrev pub invariant-loop-self : goal.invariant-loop-self
invariant-loop-self l = record {
  from : l.initial.self.cycle ≤ l.self.cycle;
  to : l.self.cycle ≤ l.end;
  state : state_of l.self ≡ after_cycles (state_of l.initial.self) (l.self.cycle - l.initial.self.cycle);
  stands : MachineStands l.self;
  lasting : lasting_of l.self ≡ lasting_of l.initial.self;
}

abbrev pub decreases-loop-self : goal.decreases-loop-self
decreases-loop-self l = l.end - l.self.cycle
