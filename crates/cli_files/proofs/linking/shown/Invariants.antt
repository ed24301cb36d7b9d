use Rattle.std.proofs.Common.{◌≡◌, map, take, string_bytes}
use Rattle.cli_files.specs.SymbolNames.{shown_byte}
use Rattle.cli_files.proofs.linking.shown.Given as goal

abbrev pub invariant-loop-byte : goal.invariant-loop-byte
invariant-loop-byte l = string_bytes l.shown ≡ map shown_byte (take l.byte-index l.name)
