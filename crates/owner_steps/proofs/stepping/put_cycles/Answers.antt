use Rattle.std.proofs.Common.{◌≡◌, ◌+◌, ◌-◌, ◌<◌, ◌++◌, true, is_some, ◌∙◌, ap, arith, rules}
use Rattle.sm_io.proofs.Putting.{cut_within, took_same, took_then}
use Rattle.written_machine.specs.Cycle.{after_cycles}
use Rattle.owner_steps.specs.Steps.{lines_with, owner_lines, run_with}
use Rattle.owner_steps.proofs.Running.{run_next, run_within, state_next, stopped_early}
use Rattle.owner_steps.proofs.stepping.put_cycles.Goals as goal

pub returns-then-is_stopped : goal.returns-then-is_stopped
returns-then-is_stopped g c =
    let i = c.loop-left.invariant in
    let stopped : is_some c.loop-left.board.present.stop ≡ true = search rules in
    let early = stopped_early (c.args.cycles - c.loop-left.left) c.args.cycles c.args.board.now.present c.loop-left.board.present (omega arith) i.state stopped in
    record { lines = took_same g.S.Sink.taken g.S.Sink.faults g.S.Sink.sure _ _ _ _ early.1 i.lines; state = early.0 }

pub returns-in-Err-clause-lines : goal.returns-in-Err-clause-lines
returns-in-Err-clause-lines g c =
    let i = c.loop-left.invariant in
    let n = c.args.cycles - c.loop-left.left in
    let s = c.args.board.now.present in
    let within : n < c.args.cycles = omega (arith, i.within, c.loop-left-test.true) in
    cut_within g.S.Sink.taken g.S.Sink.faults g.S.Sink.sure _ _ _ (run_with owner_lines s n) (lines_with owner_lines c.loop-left.board.present)
    (run_with owner_lines (after_cycles s (n + 1)) (c.args.cycles - (n + 1))) (run_with owner_lines s c.args.cycles)
    (run_within n c.args.cycles s c.loop-left.board.present within i.state) i.lines c.in-Err.ensures.lines

pub loop-left-preserved : goal.loop-left-preserved
loop-left-preserved g c =
    let i = c.loop-left.invariant in
    let n = c.args.cycles - c.loop-left.left in
    let s = c.args.board.now.present in
    let more : n + 1 ≡ c.args.cycles - (c.loop-left.left - 1) = omega (arith, i.within, c.loop-left-test.true) in
    record {
      within = omega (arith, i.within);
      state = state_next n s c.loop-left.board.present c.put_cycle.new.board.present i.state c.put_cycle.ensures.state ∙ ap (after_cycles s) more;
      lines = took_same g.S.Sink.taken g.S.Sink.faults g.S.Sink.sure _ _ (run_with owner_lines s n ++ lines_with owner_lines c.loop-left.board.present) (run_with owner_lines s (c.args.cycles - (c.loop-left.left - 1)))
          (run_next n s c.loop-left.board.present i.state ∙ ap (run_with owner_lines s) more)
          (took_then g.S.Sink.taken g.S.Sink.faults g.S.Sink.sure _ _ _ (run_with owner_lines s n) _ i.lines c.in-Ok.ensures.lines);
      number = omega (arith, i.number, i.within, c.loop-left-test.true, c.put_cycle.ensures.number);
    }

pub returns : goal.returns
returns g c =
    let i = c.loop-left.invariant in
    let all : c.args.cycles - c.loop-left.left ≡ c.args.cycles = omega arith in
    let s = c.args.board.now.present in
    record {
      lines = took_same g.S.Sink.taken g.S.Sink.faults g.S.Sink.sure _ _ _ _ (ap (run_with owner_lines s) all) i.lines;
      state = i.state ∙ ap (after_cycles s) all;
    }
