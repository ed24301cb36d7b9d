use Rattle.std.proofs.Common.{◌≡◌, drop}
use Rattle.flow_laws.specs.Exploring.{say_less}
use Rattle.flow_check.proofs.exploring.say_less.Given as goal

abbrev pub invariant-loop-i : goal.invariant-loop-i
invariant-loop-i l = say_less l.us l.vs ≡ say_less (drop l.i l.us) (drop l.i l.vs)
