use Rattle.peer_rows.proofs.Examples.{blind_peers, balanced_peers}
use Rattle.peer_rows.proofs.Interrupted.{interrupted}
use Rattle.peer_rows.proofs.Returning.{returning_peers}
use Rattle.peer_rows.proofs.there_are_peers.Goals as goal

pub returns-clause-blind : goal.returns-clause-blind
returns-clause-blind c = blind_peers

pub returns-clause-balanced : goal.returns-clause-balanced
returns-clause-balanced c = balanced_peers

pub returns-clause-interrupted : goal.returns-clause-interrupted
returns-clause-interrupted c = returning_peers

pub returns-clause-hidden : goal.returns-clause-hidden
returns-clause-hidden c = interrupted
