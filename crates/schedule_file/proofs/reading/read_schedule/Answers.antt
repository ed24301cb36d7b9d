use Rattle.std.specs.Result.{is_ok}
use Rattle.std.proofs.Common.{not, true, sym, ◌≡◌, ◌∙◌, ap, arith}
use Rattle.texts.proofs.RowLemmas.{IsRead-start, IsRead-push}
use Rattle.schedule_file.specs.Entries.{HasLine}
use Rattle.schedule_file.specs.Reading.{entry_rows}
use Rattle.schedule_file.proofs.reading.read_schedule.Goals as goal

pub loop-line-init : goal.loop-line-init
loop-line-init c = rw c.new-entries.ensures.items (IsRead-start entry_rows HasLine c.args.bytes.now)

pub loop-line-preserved : goal.loop-line-preserved
loop-line-preserved c =
    let pushed : is_ok c.push.result ≡ true = c.is_err.ensures.negation ∙ ap not c.if-is_err.false in
    rw (c.push.ensures.items, pushed)
    (IsRead-push entry_rows HasLine _ _ _ _ _ _ _ c.loop-line.invariant c.in-Some.ensures.lines _ c.if-n-gt-MAX_LINES.false
    (sym c.entry_of.ensures.entry ∙ c.in-Some-entry_of.is) c.if-entry-low.false (omega arith) c.in-Some-entry_of.ensures.line)
