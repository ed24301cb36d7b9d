use Rattle.std.proofs.Common.{◌++◌, codes}
use Rattle.sm_io.proofs.Putting.{cut_first, puts_last}
use Rattle.cli_files.specs.NameText.{name_text}
use Rattle.cli_files.specs.Refusal.{refusal_text, refusal_line}
use Rattle.cli_files.proofs.lines.put_refusal.Goals as goal

pub returns-in-Err : goal.returns-in-Err
unfolding refusal_line
returns-in-Err g c = cut_first g.S.Sink.taken g.S.Sink.faults g.S.Sink.sure _ _ (c.args.program.now ++ codes ": ") (refusal_text c.args.refused.now.refusal (name_text c.args.refused.now.name)) c.in-Err.ensures

pub returns-in-Ok : goal.returns-in-Ok
unfolding refusal_line
returns-in-Ok g c = puts_last g.S.Sink.taken g.S.Sink.faults g.S.Sink.sure _ _ _ (c.args.program.now ++ codes ": ") _ _ c.in-Ok.ensures c.put_refusal_text.ensures
