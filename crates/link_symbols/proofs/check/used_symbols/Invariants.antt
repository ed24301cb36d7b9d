use Rattle.std.proofs.Common.{◌≡◌, length}
use Rattle.link_symbols.proofs.FoundLemmas.{Marks}
use Rattle.link_symbols.proofs.check.used_symbols.Given as goal

abbrev pub invariant-loop-place : goal.invariant-loop-place
invariant-loop-place l = record {
  count : length l.used.items ≡ length l.object.symbols;
  marks : Marks l.used.items l.object.relocations l.place;
}
