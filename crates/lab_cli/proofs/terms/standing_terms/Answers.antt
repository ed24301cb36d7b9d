use Rattle.cli_calls.specs.Offers.{stands}
use Rattle.lab_cli.proofs.Settling.{kept_more}
use Rattle.lab_cli.proofs.terms.standing_terms.Goals as goal

pub loop-term-preserved : goal.loop-term-preserved
loop-term-preserved c =
    kept_more (stands c.args.verdicts.now) c.args.granted.now c.loop-term.term-index _ c.loop-term.list.items
    c.push_standing.new.list.items _ c.loop-term-test.true c.loop-term.invariant c.in_ok-push_standing.ensures
