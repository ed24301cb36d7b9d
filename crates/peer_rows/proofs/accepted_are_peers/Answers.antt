use Rattle.peer_rows.proofs.Accepted.{accepted, accepted_but}
use Rattle.peer_rows.proofs.accepted_are_peers.Goals as goal

pub returns : goal.returns
returns c = record { peers = accepted; answers = accepted_but }
