use Rattle.std.proofs.Common.{◌≡◌, ◌-◌, ◌≤◌, false}
use Rattle.written_machine.specs.Cycle.{after_cycles}
use Rattle.written_machine.specs.Standing.{stands_at, last_standing}
use Rattle.board.specs.internal.Sound.{MachineStands, state_number}
use Rattle.board.specs.internal.Standing.{state_of, lasting_of}
use Rattle.board.proofs.machine.Machine.last_before.Given as goal

-- where it stands at the address now, the next round tells so
abbrev pub invariant-loop-self : goal.invariant-loop-self
invariant-loop-self l = record {
  from : l.initial.self.cycle ≤ l.self.cycle;
  to : l.self.cycle ≤ l.end;
  state : state_of l.self ≡ after_cycles (state_of l.initial.self) (l.self.cycle - l.initial.self.cycle);
  apart : stands_at l.addr (state_of l.self) ≡ false → l.last ≡ state_number (last_standing l.addr (state_of l.initial.self) (l.self.cycle - l.initial.self.cycle));
  ended : l.self.cycle ≡ l.end → l.last ≡ state_number (last_standing l.addr (state_of l.initial.self) (l.self.cycle - l.initial.self.cycle));
  stands : MachineStands l.self;
  lasting : lasting_of l.self ≡ lasting_of l.initial.self;
}

abbrev pub decreases-loop-self : goal.decreases-loop-self
decreases-loop-self l = l.end - l.self.cycle
