use Rattle.std.proofs.Common.{◌≡◌, drop}
use Rattle.flow_rule.specs.Does.{write_reaches}
use Rattle.flow_rule.specs.declared.Val.TheVariants.{Secret}
use Rattle.flow_rule.specs.Values.{set_each}
use Rattle.flow_rule.specs.Arms.{written_words}
use Rattle.flow_check.proofs.clobbers.clobber_words.Given as goal

abbrev pub invariant-loop-reach : goal.invariant-loop-reach
invariant-loop-reach l = set_each (written_words l.module (write_reaches l.reaches)) Secret l.fn.words ≡ set_each (written_words l.module (write_reaches (drop l.reach-index l.reaches))) Secret l.words
