use Rattle.std.proofs.Common.{◌++◌, ◌∙◌}
use Rattle.sm_io.proofs.Putting.{cut_first, cut_later, cut_same, puts_last, puts_same, took_same, took_then}
use Rattle.owner_steps.specs.Steps.{owner_lines}
use Rattle.owner_steps.proofs.Putting.{early_is, early_lines, late_is, late_lines, own_is}
use Rattle.owner_steps.proofs.stepping.put_cycle.Goals as goal

pub returns-in-Err-clause-lines : goal.returns-in-Err-clause-lines
returns-in-Err-clause-lines g c =
    let s = c.args.board.now.present in
    cut_first g.S.Sink.taken g.S.Sink.faults g.S.Sink.sure _ _ (early_lines s ++ owner_lines s) (late_lines s)
    (cut_first g.S.Sink.taken g.S.Sink.faults g.S.Sink.sure _ _ (early_lines s) (owner_lines s) (cut_same g.S.Sink.taken g.S.Sink.faults g.S.Sink.sure _ _ _ (early_lines s)
    (early_is s _ c.as_slice.result.now _ c.number_of-number.ensures (c.as_slice.ensures.value ∙ c.tick-events.ensures.events) c.parted.ensures.early) c.in-Err.ensures))

pub returns-in-Err-put_between-clause-lines : goal.returns-in-Err-put_between-clause-lines
returns-in-Err-put_between-clause-lines g c =
    let s = c.args.board.now.present in
    cut_first g.S.Sink.taken g.S.Sink.faults g.S.Sink.sure _ _ (early_lines s ++ owner_lines s) (late_lines s)
    (cut_later g.S.Sink.taken g.S.Sink.faults g.S.Sink.sure _ _ _ (early_lines s) (owner_lines s)
    (took_same g.S.Sink.taken g.S.Sink.faults g.S.Sink.sure _ _ _ (early_lines s) (early_is s _ c.as_slice.result.now _ c.number_of-number.ensures (c.as_slice.ensures.value ∙ c.tick-events.ensures.events) c.parted.ensures.early) c.in-Ok.ensures)
    (cut_same g.S.Sink.taken g.S.Sink.faults g.S.Sink.sure _ _ _ (owner_lines s) (own_is s c.tick-events.new.board.present _ _ _ c.core-old.ensures c.tick-events.ensures.state c.core.ensures c.tick-events.ensures.begun) c.in-Err-put_between.ensures))

pub returns-clause-lines : goal.returns-clause-lines
returns-clause-lines g c =
    let s = c.args.board.now.present in
    puts_last g.S.Sink.taken g.S.Sink.faults g.S.Sink.sure _ _ _ (early_lines s ++ owner_lines s) (late_lines s) _
    (took_then g.S.Sink.taken g.S.Sink.faults g.S.Sink.sure _ _ _ (early_lines s) (owner_lines s)
    (took_same g.S.Sink.taken g.S.Sink.faults g.S.Sink.sure _ _ _ (early_lines s) (early_is s _ c.as_slice.result.now _ c.number_of-number.ensures (c.as_slice.ensures.value ∙ c.tick-events.ensures.events) c.parted.ensures.early) c.in-Ok.ensures)
    (took_same g.S.Sink.taken g.S.Sink.faults g.S.Sink.sure _ _ _ (owner_lines s) (own_is s c.tick-events.new.board.present _ _ _ c.core-old.ensures c.tick-events.ensures.state c.core.ensures c.tick-events.ensures.begun) c.in-Ok-put_between.ensures))
    (puts_same g.S.Sink.taken g.S.Sink.faults g.S.Sink.sure _ _ _ (late_lines s) _ (late_is s _ c.as_slice.result.now _ c.number_of-number.ensures (c.as_slice.ensures.value ∙ c.tick-events.ensures.events) c.parted.ensures.late) c.put_lines-2.ensures)
