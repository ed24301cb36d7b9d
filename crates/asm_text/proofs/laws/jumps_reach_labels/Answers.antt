use Rattle.asm_text.proofs.JumpLemmas.{jumps_lead}
use Rattle.asm_text.proofs.ReachLemmas.{jumps_reach_labels, labels_are_even}
use Rattle.asm_text.proofs.laws.jumps_reach_labels.Goals as goal

pub returns : goal.returns
returns c = record { jumps = jumps_reach_labels; even = labels_are_even; leads = jumps_lead }
