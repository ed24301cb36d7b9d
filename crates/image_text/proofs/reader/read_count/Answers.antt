use Rattle.std.proofs.Common.{◌≡◌, ◌∙◌, sym, arith}
use Rattle.image_text.proofs.CountLines.{passed_count}
use Rattle.image_text.proofs.reader.read_count.Goals as goal

pub returns-in-Some-clause-passed : goal.returns-in-Some-clause-passed
returns-in-Some-clause-passed c =
    let second : c.args.room ≡ 32 = grind (arith, c.requires, c.if-room-eq8.false) in
    passed_count c.args.room c.in-Some.n c.args.lines.now c.next.new.self c.in_ok-line.line.text.now second c.in_ok-line.ensures.line (sym c.announced_count.ensures ∙ c.in-Some.is)
