-- Images of the workload are peers.
use Rattle.std.specs.Prelude.{ℕ, ◌<◌}
use Rattle.written_machine.specs.Peers.{Peers}
use Rattle.workload.specs.Program.{image}

-- whatever the words of their module's data
abbrev pub WorkloadsArePeers : Type 0
WorkloadsArePeers = (v w : ℕ) → v < 65536 → w < 65536 → Peers (image v) (image w) 1
