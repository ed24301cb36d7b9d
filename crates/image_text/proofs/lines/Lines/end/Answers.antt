use Rattle.std.proofs.Common.{◌<◌, length, arith}
use Rattle.image_text.proofs.StageLemmas.{not_ended_yet}
use Rattle.image_text.proofs.lines.Lines.end.Goals as goal

pub returns-clause-more : goal.returns-clause-more
returns-clause-more c =
    let some : 0 < length c.self.inside.rest.now = grind (arith, c.if-is_empty.false, c.is_empty.ensures) in
    rw (← c.self.view_is) (not_ended_yet record { number = c.self.inside.number; at = c.self.inside.at } c.self.inside.rest.now some)
