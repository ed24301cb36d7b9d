use Rattle.std.proofs.Common.{◌≡◌, drop}
use Rattle.flow_rule.specs.declared.Val.TheVariants.{Public}
use Rattle.flow_rule.specs.Values.{set_each}
use Rattle.flow_check.proofs.ending.bare.Given as goal

abbrev pub invariant-loop-answer : goal.invariant-loop-answer
invariant-loop-answer l = set_each l.answers Public l.core ≡ set_each (drop l.answer-index l.answers) Public l.bare
