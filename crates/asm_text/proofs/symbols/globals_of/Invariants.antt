use Rattle.std.proofs.Common.{ℕ, ◌≡◌, ◌<◌, false, length, take}
use Rattle.std.specs.List.{slice_index_or}
use Rattle.asm_text.specs.Symbols.{is_global_name}
use Rattle.asm_text.proofs.symbols.globals_of.Given as goal

abbrev pub invariant-loop-statement : goal.invariant-loop-statement
invariant-loop-statement l = record {
  length : length l.globals.items ≡ l.names;
  globals : (k : ℕ) → k < l.names → slice_index_or l.globals.items k false ≡ is_global_name (take l.statement-index l.statements) k;
}
