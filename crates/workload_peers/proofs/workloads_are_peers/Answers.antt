use Rattle.workload.specs.Program.{image}
use Rattle.peer_rows.specs.Rows.{row_module}
use Rattle.workload_peers.proofs.Images.{differ}
use Rattle.workload_peers.proofs.Verdict.{accepted}
use Rattle.workload_peers.proofs.workloads_are_peers.Goals as goal
use Rattle.peer_rows.proofs.Examples.{meet}

pub returns : goal.returns
returns c = record { peers = λ v w a b. c.accepted_are_peers.ensures.peers (image v) (image w) 1 (row_module 0x0322) meet (differ v w a b) (accepted v) }
