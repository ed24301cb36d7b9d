use Rattle.std.proofs.Common.{◌≡◌, drop}
use Rattle.link_symbols.specs.internal.Meanings.{all_stand}
use Rattle.link_symbols.proofs.check.all_stand.Given as goal

abbrev pub invariant-loop-meaning : goal.invariant-loop-meaning
invariant-loop-meaning l = all_stand l.meanings ≡ all_stand (drop l.meaning-index l.meanings)
