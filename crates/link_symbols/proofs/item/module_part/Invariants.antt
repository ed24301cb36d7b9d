use Rattle.std.proofs.Common.{◌≡◌, drop, map}
use Rattle.layout_file.specs.Views.{module_value}
use Rattle.link_symbols.specs.Passes.{first_at}
use Rattle.link_symbols.specs.Parts.{part_in}
use Rattle.link_symbols.proofs.item.module_part.Given as goal

abbrev pub invariant-loop-number : goal.invariant-loop-number
invariant-loop-number l = first_at (λ i m. part_in i m l.name) 0 (map module_value l.modules) ≡ first_at (λ i m. part_in i m l.name) l.number (drop l.number (map module_value l.modules))
