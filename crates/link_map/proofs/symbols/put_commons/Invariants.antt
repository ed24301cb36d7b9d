use Rattle.std.proofs.Common.{◌≡◌, ◌++◌, List, drop}
use Rattle.std.specs.Prelude.{slice_index}
use Rattle.link_symbols.specs.CommonNames.{borrowed}
use Rattle.link_symbols.specs.Commons.{Common}
use Rattle.link_map.specs.Lines.{numbered_text}
use Rattle.link_map.specs.Map.{common_line}
use Rattle.link_map.specs.internal.Values.{HasCommons}
use Rattle.link_map.proofs.symbols.put_commons.Given as goal

abbrev pub invariant-loop-k : goal.invariant-loop-k
invariant-loop-k l = (commons : List Common) → HasCommons (borrowed l.linkage.commons.items) l.linkage.items.items l.first commons →
    l.out.text.items ++ numbered_text (common_line (slice_index l.linkage.addresses.items) l.first) l.k (drop l.k commons) ≡ l.fn.out.text.items ++ numbered_text (common_line (slice_index l.linkage.addresses.items) l.first) 0 commons
