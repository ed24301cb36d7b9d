use Rattle.std.proofs.Common.{◌≡◌, take, map, ◌∷◌}
use Rattle.std.specs.Prelude.{flat_map}
use Rattle.layout_file.specs.Values.{regions_of}
use Rattle.layout_file.specs.Views.{module_value}
use Rattle.layout_file.proofs.read.regions.Given as goal

abbrev pub invariant-loop-module : goal.invariant-loop-module
invariant-loop-module l = l.regions.items ≡ l.fn.text ∷ l.fn.ram ∷ flat_map regions_of (map module_value (take l.module-index l.modules))
