use Rattle.std.proofs.Common.{◌≡◌, map, drop}
use Rattle.flow_rule.specs.declared.Val.TheVariants.{Public}
use Rattle.flow_rule.specs.Values.{set_each}
use Rattle.flow_rule.specs.Does.{word_no}
use Rattle.flow_check.proofs.open_words.Given as goal

abbrev pub invariant-loop-addr : goal.invariant-loop-addr
invariant-loop-addr l =
    set_each (map (word_no l.module) l.public) Public l.fn.words ≡ set_each (map (word_no l.module) (drop l.addr-index l.public)) Public l.words
