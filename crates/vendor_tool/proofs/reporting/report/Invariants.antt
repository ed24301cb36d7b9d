use Rattle.std.proofs.Common.{◌≡◌, ◌&&◌, List, ℕ, ◌++◌, drop}
use Rattle.sm_io.specs.Sink.{Took}
use Rattle.vendor_tool.specs.Report.{report_from, all_genuine_from, report_text, all_genuine}
use Rattle.vendor_tool.proofs.reporting.report.Given as goal

-- what is put, and what is left
abbrev pub invariant-loop-challenge : goal.invariant-loop-challenge
invariant-loop-challenge g l = record {
  at : l.place ≡ l.challenge-index;
  done : List ℕ;
  text : done ++ report_from l.key l.replies l.place (drop l.place l.challenges.list.items) ≡ report_text l.key l.challenges.list.items l.replies;
  took : Took (g.S.Sink.taken) (g.S.Sink.faults) (g.S.Sink.sure) l.initial.sink l.sink done;
  genuine : (l.all_genuine && all_genuine_from l.key l.replies l.place (drop l.place l.challenges.list.items)) ≡ all_genuine l.key l.challenges.list.items l.replies;
}
