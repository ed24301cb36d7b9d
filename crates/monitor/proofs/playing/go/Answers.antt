use Rattle.monitor.proofs.Doing.{cycles_done, cycles_cut}
use Rattle.monitor.proofs.playing.go.Goals as goal

pub returns-in-Done-clause-done : goal.returns-in-Done-clause-done
returns-in-Done-clause-done g c = cycles_done g.S.Sink.taken g.S.Sink.faults g.S.Sink.sure c.args.cycles c.args.board.now c.run.new.self c.args.sink.now c.run.new.sink c.in-Done.ensures.ran.0 c.run.ensures.marks

pub returns-in-Stopped-clause-done : goal.returns-in-Stopped-clause-done
returns-in-Stopped-clause-done g c = cycles_done g.S.Sink.taken g.S.Sink.faults g.S.Sink.sure c.args.cycles c.args.board.now c.run.new.self c.args.sink.now c.run.new.sink c.in-Stopped.ensures.ran.0 c.run.ensures.marks

pub returns-in-SinkFailed-clause-done : goal.returns-in-SinkFailed-clause-done
returns-in-SinkFailed-clause-done g c = cycles_cut g.S.Sink.taken g.S.Sink.faults g.S.Sink.sure c.args.cycles c.args.board.now c.run.new.self c.args.sink.now c.run.new.sink c.in-SinkFailed.ensures.ran c.run.ensures.marks
