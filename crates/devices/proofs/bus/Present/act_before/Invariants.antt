use Rattle.std.proofs.Common.{◌≡◌, ◌+◌, List, drop}
use Rattle.schedule_file.specs.declared.Entry.{Entry}
use Rattle.devices.specs.internal.Parts.{joined_parts}
use Rattle.devices.specs.internal.Bus.{acted_before, past_count}
use Rattle.devices.proofs.bus.Present.act_before.Given as goal

abbrev pub invariant-loop-entry : goal.invariant-loop-entry
invariant-loop-entry l =
    ((es : List Entry) → acted_before l.end (drop l.entry-index l.pending) (joined_parts l.self.lines l.self.serial l.self.timer es) ≡ acted_before l.end l.pending (joined_parts l.initial.self.lines l.initial.self.serial l.initial.self.timer es))
    × (l.acted + past_count l.end (drop l.entry-index l.pending) ≡ past_count l.end l.pending)
    × (l.acted ≡ l.entry-index)
    × (l.self.ticks ≡ l.initial.self.ticks)
