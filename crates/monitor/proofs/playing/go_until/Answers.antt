use Rattle.monitor.proofs.Doing.{cycles_done, cycles_cut}
use Rattle.written_machine.specs.Standing.{cycles_until}
use Rattle.monitor.proofs.playing.go_until.Goals as goal

pub returns-in-Done-clause-done : goal.returns-in-Done-clause-done
returns-in-Done-clause-done g c = cycles_done g.S.Sink.taken g.S.Sink.faults g.S.Sink.sure (cycles_until c.args.addr c.args.board.now.present c.args.most) c.args.board.now c.run_until.new.self c.args.sink.now c.run_until.new.sink c.in-Done.ensures.ran.0 c.run_until.ensures.marks

pub returns-in-Stopped-clause-done : goal.returns-in-Stopped-clause-done
returns-in-Stopped-clause-done g c = cycles_done g.S.Sink.taken g.S.Sink.faults g.S.Sink.sure (cycles_until c.args.addr c.args.board.now.present c.args.most) c.args.board.now c.run_until.new.self c.args.sink.now c.run_until.new.sink c.in-Stopped.ensures.ran.0 c.run_until.ensures.marks

pub returns-in-SinkFailed-clause-done : goal.returns-in-SinkFailed-clause-done
returns-in-SinkFailed-clause-done g c = cycles_cut g.S.Sink.taken g.S.Sink.faults g.S.Sink.sure (cycles_until c.args.addr c.args.board.now.present c.args.most) c.args.board.now c.run_until.new.self c.args.sink.now c.run_until.new.sink c.in-SinkFailed.ensures.ran c.run_until.ensures.marks
