use Rattle.std.proofs.Common.{◌≡◌, drop, map}
use Rattle.link_symbols.specs.internal.Maps.{meaning_of_name}
use Rattle.layout_file.specs.Views.{module_value}
use Rattle.link_symbols.specs.Passes.{first_at}
use Rattle.link_symbols.specs.Refusals.{elsewhere_in}
use Rattle.link_symbols.proofs.check.check_places.Given as goal

abbrev pub invariant-loop-number : goal.invariant-loop-number
invariant-loop-number l = first_at (elsewhere_in (meaning_of_name l.names) l.items) 0 (map module_value l.modules) ≡ first_at (elsewhere_in (meaning_of_name l.names) l.items) l.number (drop l.number (map module_value l.modules))
