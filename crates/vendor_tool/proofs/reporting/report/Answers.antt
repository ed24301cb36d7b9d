use Rattle.std.proofs.Common.{drop, ◌≡◌, ◌+◌, ◌&&◌, ◌++◌, ◌∙◌, arith}
use Rattle.sm_io.proofs.Putting.{took_then, cut_within}
use Rattle.vendor_tool.specs.Report.{report_text, report_from, judgement_line, is_genuine}
use Rattle.vendor_tool.proofs.Judging.{IsJudged, judged_at, next_line, line_done, genuine_more, and_first, and_not}
use Rattle.vendor_tool.proofs.reporting.report.Goals as goal
use Rattle.vendor_tool.proofs.reporting.report.Goals.{then-all_genuine, else-all_genuine}

pub returns-in-Err-clause-lines : goal.returns-in-Err-clause-lines
returns-in-Err-clause-lines g c =
    let i = c.loop-challenge.invariant in
    let cs = c.args.challenges.now.list.items in
    let judged : IsJudged c.args.key.now c.args.replies.now c.judge-judgement.result cs c.loop-challenge.place =
    judged_at c.args.key.now c.args.replies.now c.judge-judgement.result c.deref-challenge-items.result.now cs c.loop-challenge.place c.loop-challenge.challenge-index i.at c.deref-challenge-items.ensures.value c.loop-challenge-test.true c.judge-judgement.ensures in
    cut_within g.S.Sink.taken g.S.Sink.faults g.S.Sink.sure _ _ _ i.done (judgement_line c.loop-challenge.place c.judge-judgement.result)
    (report_from c.args.key.now c.args.replies.now (c.loop-challenge.place + 1) (drop (c.loop-challenge.place + 1) cs)) (report_text c.args.key.now cs c.args.replies.now)
    (next_line c.args.key.now c.args.replies.now i.done _ c.judge-judgement.result cs c.loop-challenge.place judged i.text) i.took c.in-Err.ensures

pub loop-challenge-preserved : goal.loop-challenge-preserved
loop-challenge-preserved g c =
    let i = c.loop-challenge.invariant in
    let cs = c.args.challenges.now.list.items in
    let judged : IsJudged c.args.key.now c.args.replies.now c.judge-judgement.result cs c.loop-challenge.place =
    judged_at c.args.key.now c.args.replies.now c.judge-judgement.result c.deref-challenge-items.result.now cs c.loop-challenge.place c.loop-challenge.challenge-index i.at c.deref-challenge-items.ensures.value c.loop-challenge-test.true c.judge-judgement.ensures in
    let now : c.if-all_genuine.all_genuine ≡ (c.loop-challenge.all_genuine && is_genuine c.judge-judgement.result) =
    elim c.if-all_genuine.branch [
      | then-all_genuine w ↦ and_first _ _ _ w.if-all_genuine.true (w.all_genuine-is ∙ w.is_genuine-all_genuine.ensures)
      | else-all_genuine w ↦ and_not _ _ _ w.if-all_genuine.false w.all_genuine-is
    ] in
    record {
      at = omega arith;
      done = i.done ++ judgement_line c.loop-challenge.place c.judge-judgement.result;
      text = line_done c.args.key.now c.args.replies.now i.done _ c.judge-judgement.result cs c.loop-challenge.place judged i.text;
      took = took_then g.S.Sink.taken g.S.Sink.faults g.S.Sink.sure _ _ _ i.done (judgement_line c.loop-challenge.place c.judge-judgement.result) i.took c.in-Ok.ensures;
      genuine = genuine_more c.args.key.now c.args.replies.now c.loop-challenge.all_genuine c.if-all_genuine.all_genuine _ c.judge-judgement.result cs c.loop-challenge.place judged now i.genuine;
    }
