use Rattle.std.proofs.Common.{◌≡◌, ℕ, ◌+◌, ◌-◌, ◌≤◌, List, ◌++◌}
use Rattle.sm_io.specs.Sink.{Took}
use Rattle.sm_cli.specs.DisCommand.{listing, lines_below}
use Rattle.sm_cli.proofs.commands.dis.put_listing.Given as goal

abbrev pub invariant-loop-at : goal.invariant-loop-at
invariant-loop-at g l = (done : List ℕ) × (left : ℕ) × (l.end ≤ l.at + left)
    × (done ++ lines_below left l.memory l.at l.end ≡ listing l.memory l.fn.start l.end)
    × Took g.O.Sink.taken g.O.Sink.faults g.O.Sink.sure l.initial.out l.out done

abbrev pub decreases-loop-at : goal.decreases-loop-at
decreases-loop-at g l = l.end - l.at
