use Rattle.std.specs.Result.{is_ok}
use Rattle.std.proofs.Common.{not, true, ◌≡◌, ◌∙◌, ap, arith}
use Rattle.script_file.proofs.Loop.{IsRead-start, IsRead-push}
use Rattle.script_file.proofs.reading.read_script.Goals as goal

pub loop-text-init : goal.loop-text-init
loop-text-init c = rw c.new-lines.ensures.items (IsRead-start c.args.bytes.now)

pub overflow_add-n : goal.overflow_add-n
overflow_add-n c = omega (arith, c.loop-text.invariant.room)

pub loop-text-preserved : goal.loop-text-preserved
loop-text-preserved c =
    let pushed : is_ok c.push.result ≡ true = c.is_err.ensures.negation ∙ ap not c.if-is_err.false in
    rw (c.push.ensures.items, pushed)
    (IsRead-push _ _ _ _ _ _ _ c.loop-text.invariant c.in-Some.ensures.lines c.in-Some.ensures.shorter c.in-Ok.ensures.line c.in-Ok.ensures.bounds)
