use Rattle.std.proofs.Common.{◌≡◌, take, map}
use Rattle.std.specs.Prelude.{slice_index}
use Rattle.link_symbols.specs.Resolved.{meanings_of}
use Rattle.linker.specs.Linkage.{listed_numbers}
use Rattle.linker.specs.Numbers.{number_or_zero}
use Rattle.linker.proofs.linkage.all_numbers.Given as goal

abbrev pub invariant-loop-number : goal.invariant-loop-number
invariant-loop-number l = listed_numbers l.all.items ≡ map (map (number_or_zero (slice_index l.addresses))) (take l.number (meanings_of l.resolved.objects))
