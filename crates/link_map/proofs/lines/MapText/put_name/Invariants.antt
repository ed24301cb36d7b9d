use Rattle.std.proofs.Common.{◌≡◌, ◌++◌, map, take}
use Rattle.cli_files.specs.SymbolNames.{shown_byte}
use Rattle.link_map.proofs.lines.MapText.put_name.Given as goal

abbrev pub invariant-loop-byte : goal.invariant-loop-byte
invariant-loop-byte l = l.self.text.items ≡ l.fn.self.text.items ++ map shown_byte (take l.byte-index l.name)
