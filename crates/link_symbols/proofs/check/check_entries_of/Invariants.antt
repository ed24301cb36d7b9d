use Rattle.std.proofs.Common.{◌≡◌, drop, map}
use Rattle.link_symbols.specs.internal.Maps.{meaning_of_name}
use Rattle.std.specs.Prelude.{string_bytes}
use Rattle.link_symbols.specs.Passes.{first_at}
use Rattle.link_symbols.specs.Refusals.{no_entry_at}
use Rattle.link_symbols.proofs.check.check_entries_of.Given as goal

abbrev pub invariant-loop-k : goal.invariant-loop-k
invariant-loop-k l = first_at (no_entry_at (meaning_of_name l.names) l.number) 0 (map string_bytes l.spec.entries.items) ≡ first_at (no_entry_at (meaning_of_name l.names) l.number) l.k (drop l.k (map string_bytes l.spec.entries.items))
