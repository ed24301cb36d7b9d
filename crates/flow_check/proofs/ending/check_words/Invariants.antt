use Rattle.std.proofs.Common.{◌≡◌, drop}
use Rattle.flow_rule.specs.Violations.{word_violations}
use Rattle.flow_check.specs.internal.Violations.{noted}
use Rattle.flow_check.proofs.ending.check_words.Given as goal

abbrev pub invariant-loop-addr : goal.invariant-loop-addr
invariant-loop-addr l = noted (word_violations l.module l.pc l.words l.public) l.fn.least ≡ noted (word_violations l.module l.pc l.words (drop l.addr-index l.public)) l.least
