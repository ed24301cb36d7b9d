use Rattle.sm_cli.proofs.Joins.{link_writes, joined}
use Rattle.sm_cli.proofs.laws.commands_join.Goals as goal

pub returns : goal.returns
returns c = record {
  images = λ files layout objects written are a. link_writes files layout objects c.linked_is_image.ensures.image are written a;
  joined = λ files layout objects. joined files layout objects c.linked_is_image.ensures.image c.accepted_are_peers.ensures.peers c.texts.ensures.traces c.two_runs.ensures.views;
}
