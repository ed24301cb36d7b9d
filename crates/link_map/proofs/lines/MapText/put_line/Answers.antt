use Rattle.std.proofs.Common.{◌++◌, List, ℕ, ap, sym, ◌∙◌}
use Rattle.link_map.specs.Lines.{after_blanks}
use Rattle.link_map.specs.internal.Values.{piece_text}
use Rattle.link_map.proofs.Steps.{word_read, map_over}
use Rattle.link_map.proofs.lines.MapText.put_line.Goals as goal

pub loop-word-preserved : goal.loop-word-preserved
loop-word-preserved c =
    word_read piece_text c.args.words.now c.loop-word.word-index _ c.loop-word.self.text.items c.put-in-loop-word.new.self.text.items c.put_piece.new.self.text.items _ c.loop-word-test.true c.loop-word.invariant
    c.in_ok-put-2.ensures c.in_ok-put_piece.ensures

pub returns : goal.returns
returns c =
    c.in_ok-put-3.ensures ∙ (ap (λ (l : List (List ℕ)). c.loop-word.self.text.items ++ after_blanks l) (sym (map_over piece_text c.args.words.now c.loop-word.word-index c.loop-word-test.false)) ∙ c.loop-word.invariant)
