use Rattle.std.proofs.Common.{◌≡◌, take, map}
use Rattle.layout_file.specs.Views.{module_value}
use Rattle.layout_file.proofs.read.names.Given as goal

abbrev pub invariant-loop-module : goal.invariant-loop-module
invariant-loop-module l = map (λ n. n.now) l.names.items ≡ map (λ m. m.name) (map module_value (take l.module-index l.modules))
