use Rattle.std.proofs.Common.{◌≡◌, ◌+◌, ◌≤◌, length}
use Rattle.std.specs.Prelude.{fold}
use Rattle.asm_text.specs.internal.Numbering.{IsNumbering}
use Rattle.asm_text.specs.Symbols.{once, below}
use Rattle.asm_text.proofs.symbols.Order.note_all.Given as goal

abbrev pub invariant-loop-name : goal.invariant-loop-name
invariant-loop-name l = record {
  noted : l.self.names.items ≡ fold once l.initial.self.names.items (below l.name);
  few : length l.self.names.items ≤ length l.initial.self.names.items + l.name;
  same : length l.self.numbers.items ≡ length l.initial.self.numbers.items;
  numbering : IsNumbering l.self.numbers.items l.self.names.items;
}
