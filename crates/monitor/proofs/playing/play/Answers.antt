use Rattle.std.proofs.Common.{◌≤◌, ◌^◌, length, get_or, ap, arith}
use Rattle.std.proofs.Math.ListN.{drop_of_length-le}
use Rattle.written_machine.specs.declared.ScriptLine.TheVariants.{Go}
use Rattle.board.specs.declared.Ran.TheVariants.{SinkFailed}
use Rattle.monitor.proofs.Doing.{line_at, cycles_left, playing_start, playing_next, playing_cut, playing_ended, playing_end_cut, peers_play}
use Rattle.monitor.proofs.playing.play.Goals as goal

pub play_line-requires-clause-cycles : goal.play_line-requires-clause-cycles
play_line-requires-clause-cycles g c =
    let script = c.args.script.now.lines.items in
    let items = c.as_slice-line-items.result.now in
    let i = c.loop-line.line-index in
    let l = get_or items i (Go 0) in
    let at = line_at script items i (Go 0) c.as_slice-line-items.ensures.value c.loop-line-test.true in
    omega (arith, cycles_left script i l c.loop-line.board.present.cycle (2 ^ 62) at c.loop-line.invariant.number)

pub loop-line-init : goal.loop-line-init
loop-line-init g c = record {
  playing = playing_start g.S.Sink.taken g.S.Sink.faults g.S.Sink.sure c.args.script.now.lines.items c.args.board.now c.args.sink.now;
  number = c.requires;
}

pub returns-in-Err-clause-played : goal.returns-in-Err-clause-played
returns-in-Err-clause-played g c =
    let script = c.args.script.now.lines.items in
    let items = c.as_slice-line-items.result.now in
    let i = c.loop-line.line-index in
    let l = get_or items i (Go 0) in
    let at = line_at script items i (Go 0) c.as_slice-line-items.ensures.value c.loop-line-test.true in
    playing_cut g.S.Sink.taken g.S.Sink.faults g.S.Sink.sure script c.args.board.now c.loop-line.board c.play_line.new.board c.args.sink.now c.loop-line.sink c.play_line.new.sink i l c.loop-line.invariant.playing at c.in-Err.ensures.done

pub returns-in-Err-clause-peers : goal.returns-in-Err-clause-peers
returns-in-Err-clause-peers g c =
    peers_play g.S.Sink.taken g.S.Sink.faults g.S.Sink.sure c.texts.ensures.scripts c.args.script.now.lines.items c.args.board.now c.play_line.new.board c.args.sink.now c.play_line.new.sink SinkFailed (returns-in-Err-clause-played g c)

pub loop-line-preserved : goal.loop-line-preserved
loop-line-preserved g c =
    let script = c.args.script.now.lines.items in
    let items = c.as_slice-line-items.result.now in
    let i = c.loop-line.line-index in
    let l = get_or items i (Go 0) in
    let at = line_at script items i (Go 0) c.as_slice-line-items.ensures.value c.loop-line-test.true in
    record {
      playing = playing_next g.S.Sink.taken g.S.Sink.faults g.S.Sink.sure script c.args.board.now c.loop-line.board c.play_line.new.board c.args.sink.now c.loop-line.sink c.play_line.new.sink i l c.loop-line.invariant.playing at c.in-Ok.ensures.done;
      number = omega (arith, cycles_left script i l c.loop-line.board.present.cycle (2 ^ 62) at c.loop-line.invariant.number, c.play_line.ensures.number);
    }

pub returns-in-Ok-finish-clause-played : goal.returns-in-Ok-finish-clause-played
returns-in-Ok-finish-clause-played g c =
    playing_ended g.S.Sink.taken g.S.Sink.faults g.S.Sink.sure c.args.script.now.lines.items c.args.board.now c.loop-line.board c.args.sink.now c.loop-line.sink c.finish.new.sink c.loop-line.line-index c.ended.result c.loop-line.invariant.playing
    (let past : length c.args.script.now.lines.items ≤ c.loop-line.line-index = omega (arith, c.loop-line-test.false, ap length c.as_slice-line-items.ensures.value) in drop_of_length-le c.args.script.now.lines.items {i = c.loop-line.line-index} past)
    c.in-Ok-finish.ensures.line c.ended.ensures.ended

pub returns-in-Ok-finish-clause-peers : goal.returns-in-Ok-finish-clause-peers
returns-in-Ok-finish-clause-peers g c =
    peers_play g.S.Sink.taken g.S.Sink.faults g.S.Sink.sure c.texts.ensures.scripts c.args.script.now.lines.items c.args.board.now c.loop-line.board c.args.sink.now c.finish.new.sink c.ended.result (returns-in-Ok-finish-clause-played g c)

pub returns-in-Err-finish-clause-played : goal.returns-in-Err-finish-clause-played
returns-in-Err-finish-clause-played g c =
    playing_end_cut g.S.Sink.taken g.S.Sink.faults g.S.Sink.sure c.args.script.now.lines.items c.args.board.now c.loop-line.board c.args.sink.now c.loop-line.sink c.finish.new.sink c.loop-line.line-index c.loop-line.invariant.playing
    (let past : length c.args.script.now.lines.items ≤ c.loop-line.line-index = omega (arith, c.loop-line-test.false, ap length c.as_slice-line-items.ensures.value) in drop_of_length-le c.args.script.now.lines.items {i = c.loop-line.line-index} past)
    c.in-Err-finish.ensures.line

pub returns-in-Err-finish-clause-peers : goal.returns-in-Err-finish-clause-peers
returns-in-Err-finish-clause-peers g c =
    peers_play g.S.Sink.taken g.S.Sink.faults g.S.Sink.sure c.texts.ensures.scripts c.args.script.now.lines.items c.args.board.now c.loop-line.board c.args.sink.now c.finish.new.sink SinkFailed (returns-in-Err-finish-clause-played g c)
