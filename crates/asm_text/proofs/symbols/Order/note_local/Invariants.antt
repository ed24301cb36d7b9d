use Rattle.std.proofs.Common.{◌≡◌, ◌+◌, ◌≤◌, length, drop}
use Rattle.std.specs.Prelude.{fold, filter}
use Rattle.asm_text.specs.internal.Numbering.{IsNumbering}
use Rattle.asm_text.specs.Symbols.{once}
use Rattle.asm_text.specs.internal.Symbols.{is_local_name}
use Rattle.asm_text.proofs.symbols.Order.note_local.Given as goal

abbrev pub invariant-loop-label : goal.invariant-loop-label
invariant-loop-label l = record {
  rest : fold once l.self.names.items (filter (is_local_name l.globals) (drop l.label-index l.labels)) ≡ fold once l.initial.self.names.items (filter (is_local_name l.globals) l.labels);
  few : length l.self.names.items ≤ length l.initial.self.names.items + l.label-index;
  same : length l.self.numbers.items ≡ length l.initial.self.numbers.items;
  numbering : IsNumbering l.self.numbers.items l.self.names.items;
}
