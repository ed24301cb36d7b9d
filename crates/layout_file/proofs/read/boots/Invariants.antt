use Rattle.std.proofs.Common.{◌≡◌, take, map}
use Rattle.layout_file.specs.Views.{module_value}
use Rattle.layout_file.proofs.read.boots.Given as goal

abbrev pub invariant-loop-module : goal.invariant-loop-module
invariant-loop-module l = l.boots.items ≡ map (λ m. m.boot) (map module_value (take l.module-index l.modules))
