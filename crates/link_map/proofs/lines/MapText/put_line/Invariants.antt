use Rattle.std.proofs.Common.{◌≡◌, ◌++◌, map, drop}
use Rattle.link_map.specs.Lines.{line, after_blanks}
use Rattle.link_map.specs.internal.Values.{piece_text}
use Rattle.link_map.proofs.lines.MapText.put_line.Given as goal

abbrev pub invariant-loop-word : goal.invariant-loop-word
invariant-loop-word l = l.self.text.items ++ after_blanks (map piece_text (drop l.word-index l.words)) ≡ l.fn.self.text.items ++ line l.first (map piece_text l.words)
