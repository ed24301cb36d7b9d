use Rattle.std.proofs.Common.{◌∙◌, ap, refl}
use Rattle.board.specs.Shown.{Shown}
use Rattle.written_machine.specs.Marks.{marked, back_to, last_at}
use Rattle.written_machine.specs.Script.{shown, regs_text, mem_text, mark_move, back_move, last_move, line_moves}
use Rattle.written_machine.specs.View.{view_of}
use Rattle.written_machine.specs.declared.Hidden.TheVariants.{All as AllHidden}
use Rattle.monitor.proofs.Doing.{does_line}
use Rattle.monitor.proofs.playing.play_line.Goals as goal

pub returns-in-Regs-clause-done : goal.returns-in-Regs-clause-done
returns-in-Regs-clause-done g c =
    let old = c.args.board.now in
    does_line g.S.Sink.taken g.S.Sink.faults g.S.Sink.sure c.args.line old old c.args.sink.now c.put.new.sink (shown (regs_text (view_of old.present AllHidden)) old) c.regs_line.result.bytes c.put.result
    (ap (line_moves old) c.in-Regs.is)
    (c.regs_line.ensures ∙ ap (λ (v : Shown). regs_text (view_of v.state v.hidden)) c.view.ensures.shown)
    refl
    c.put.ensures

pub returns-in-Mem-clause-done : goal.returns-in-Mem-clause-done
returns-in-Mem-clause-done g c =
    let old = c.args.board.now in
    does_line g.S.Sink.taken g.S.Sink.faults g.S.Sink.sure c.args.line old old c.args.sink.now c.put-in-Mem.new.sink (shown (mem_text (view_of old.present AllHidden) c.in-Mem.addr c.in-Mem.count) old) c.mem_line.result.bytes c.put-in-Mem.result
    (ap (line_moves old) c.in-Mem.is)
    (c.mem_line.ensures ∙ ap (λ (v : Shown). mem_text (view_of v.state v.hidden) c.in-Mem.addr c.in-Mem.count) c.view-in-Mem.ensures.shown)
    refl
    c.put-in-Mem.ensures

pub returns-in-Mark-clause-done : goal.returns-in-Mark-clause-done
returns-in-Mark-clause-done g c =
    let old = c.args.board.now in
    does_line g.S.Sink.taken g.S.Sink.faults g.S.Sink.sure c.args.line old c.mark.new.board c.args.sink.now c.put-in-Mark.new.sink (mark_move old (marked old)) c.mark.result.bytes c.put-in-Mark.result
    (ap (line_moves old) c.in-Mark.is) c.mark.ensures.text c.mark.ensures.after c.put-in-Mark.ensures

pub returns-in-Back-clause-done : goal.returns-in-Back-clause-done
returns-in-Back-clause-done g c =
    let old = c.args.board.now in
    let k = c.in-Back.k in
    does_line g.S.Sink.taken g.S.Sink.faults g.S.Sink.sure c.args.line old c.back.new.board c.args.sink.now c.put-in-Back.new.sink (back_move k old (back_to k old)) c.back.result.bytes c.put-in-Back.result
    (ap (line_moves old) c.in-Back.is) c.back.ensures.text c.back.ensures.after c.put-in-Back.ensures

pub returns-in-Last-clause-done : goal.returns-in-Last-clause-done
returns-in-Last-clause-done g c =
    let old = c.args.board.now in
    let addr = c.in-Last.addr in
    let k = c.in-Last.k in
    does_line g.S.Sink.taken g.S.Sink.faults g.S.Sink.sure c.args.line old c.last.new.board c.args.sink.now c.put-in-Last.new.sink (last_move addr k old (last_at addr k old)) c.last.result.bytes c.put-in-Last.result
    (ap (line_moves old) c.in-Last.is) c.last.ensures.text c.last.ensures.after c.put-in-Last.ensures
