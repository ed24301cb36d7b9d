use Rattle.std.proofs.Common.{◌≡◌, drop, map}
use Rattle.link_symbols.specs.internal.Maps.{meaning_of_name}
use Rattle.layout_file.specs.Views.{module_value}
use Rattle.link_symbols.specs.Passes.{first_at}
use Rattle.link_symbols.specs.Refusals.{no_entry_in}
use Rattle.link_symbols.proofs.check.check_entries.Given as goal

abbrev pub invariant-loop-number : goal.invariant-loop-number
invariant-loop-number l = first_at (no_entry_in (meaning_of_name l.names)) 0 (map module_value l.modules) ≡ first_at (no_entry_in (meaning_of_name l.names)) l.number (drop l.number (map module_value l.modules))
