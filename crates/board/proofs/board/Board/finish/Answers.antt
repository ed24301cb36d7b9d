use Rattle.std.proofs.Common.{rules}
use Rattle.board.proofs.Seen.{peers_end}
use Rattle.board.proofs.board.Board.finish.Goals as goal

pub returns-clause-line : goal.returns-clause-line
returns-clause-line g c = search rules

pub returns-clause-peers : goal.returns-clause-peers
returns-clause-peers g c = peers_end g.S.Sink.taken g.S.Sink.faults g.S.Sink.sure c.texts.ensures.ends c.args.self.now.present c.args.sink.now c.put_all.new.sink c.put_all.result (returns-clause-line g c)
