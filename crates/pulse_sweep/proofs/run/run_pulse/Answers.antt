use Rattle.std.proofs.Common.{◌≡◌, ◌∙◌, arith}
use Rattle.written_machine.specs.View.{boot}
use Rattle.pulse_sweep.specs.Sweep.{lone_pulse}
use Rattle.pulse_sweep.proofs.Running.{state_next, columns_next, lines_next, columns_whole, trace_whole}
use Rattle.pulse_sweep.proofs.run.run_pulse.Goals as goal

pub loop-i-preserved : goal.loop-i-preserved
loop-i-preserved c =
    let s = boot c.args.image.now (lone_pulse c.args.pulses.now.line c.args.pulse) in
    let t = c.loop-i.board.present in
    let n = c.loop-i.i in
    record {
      state = state_next s t c.tick.new.board.present n c.loop-i.invariant.state c.tick.ensures.state;
      number = omega (arith, c.loop-i.invariant.number, c.tick.ensures.number);
      columns = columns_next c.args.pulse s t n c.loop-i.run.columns c.tick.new.self.columns c.loop-i.invariant.state c.loop-i.invariant.columns c.in_ok-tick.ensures.columns;
      trace = lines_next s t n c.loop-i.run.trace.items c.tick.new.self.trace.items c.loop-i.invariant.state c.loop-i.invariant.trace c.in_ok-tick.ensures.trace;
    }

pub returns-clause-columns : goal.returns-clause-columns
returns-clause-columns c =
    let all : c.loop-i.i ≡ c.args.pulses.now.cycles = omega (arith, c.loop-i-test.false, c.loop-i.auto.i-end) in
    c.finish.ensures.columns ∙ columns_whole c.args.pulses.now c.args.image.now c.args.pulse c.loop-i.i _ all c.loop-i.invariant.columns

pub returns-clause-trace : goal.returns-clause-trace
returns-clause-trace c =
    let all : c.loop-i.i ≡ c.args.pulses.now.cycles = omega (arith, c.loop-i-test.false, c.loop-i.auto.i-end) in
    trace_whole c.args.pulses.now c.args.image.now c.args.pulse c.loop-i.i _ _ _ all c.loop-i.invariant.state c.loop-i.invariant.trace c.in_ok-finish.ensures.trace
