use Rattle.std.proofs.Common.{◌≡◌, ◌++◌, drop, filter}
use Rattle.cli_calls.specs.Offers.{stands}
use Rattle.lab_cli.proofs.terms.standing_terms.Given as goal

abbrev pub invariant-loop-term : goal.invariant-loop-term
invariant-loop-term l = l.list.items ++ filter (stands l.verdicts) (drop l.term-index l.granted) ≡ filter
    (stands l.verdicts) l.granted
