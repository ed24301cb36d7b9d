use Rattle.std.proofs.Common.{List, [], length}
use Rattle.flow_rule.specs.declared.Verdict.{Verdict}
use Rattle.terms_file.specs.declared.Term.{Term}
use Rattle.written_machine.specs.Peers.{section}
use Rattle.cli_calls.specs.Offers.{IsOffered}
use Rattle.lab_cli.proofs.terms.settle.Given as goal

-- what comes of the verdicts so far is what comes of none
abbrev pub invariant-loop-verdicts : goal.invariant-loop-verdicts
invariant-loop-verdicts l =
    let owner = l.chosen.«module» in
    let text = section owner.text l.chosen.image.memory in
    (terms : List Term) (v : Verdict) → IsOffered owner text l.arms.list.items l.granted l.left l.verdicts.items terms v
    → IsOffered owner text l.arms.list.items l.granted (length l.granted) [] terms v

abbrev pub decreases-loop-verdicts : goal.decreases-loop-verdicts
decreases-loop-verdicts l = l.left
