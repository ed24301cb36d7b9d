use Rattle.std.proofs.Common.{◌≡◌, Some, sym, ap, ◌∙◌}
use Rattle.std.specs.Prelude.{option_map}
use Rattle.asm_line.specs.Lines.{statement_of}
use Rattle.asm_line.specs.Renamed.{with_texts}
use Rattle.asm_text.proofs.SourceLemmas.{IsRead-start, IsRead-more, IsNext}
use Rattle.asm_text.proofs.reading.read_source.Goals as goal

pub loop-line-init : goal.loop-line-init
loop-line-init c = rw c.new-statements.ensures.items (IsRead-start c.args.text.now c.new-tables.result c.new-tables.ensures.none c.new-tables.ensures.indexed)

pub loop-line-preserved : goal.loop-line-preserved
loop-line-preserved c =
    let next : IsNext c.loop-line.rest.now c.in-Some.line.now c.in-Some.after.now = record { cut = c.in-Some.ensures.cut; lines = c.in-Some.ensures.lines; behind = c.in-Some.ensures.behind } in
    let is : statement_of c.in-Some.line.now ≡ Some (with_texts c.in-Some-statement_of.statement) = sym c.statement_of.ensures.exact ∙ ap (option_map with_texts) c.in-Some-statement_of.is in
    rw (c.in_ok-push.ensures.items, c.in_ok-numbered.ensures.numbered)
    (IsRead-more _ _ _ _ _ _ _ _ _ c.loop-line.invariant next is c.in_ok-numbered.ensures.noted c.in_ok-numbered.ensures.indexed)
