use Rattle.std.proofs.Common.{◌≡◌, suc, ◌+◌, ◌-◌, ◌<◌, sym, ◌∙◌, ap, arith}
use Rattle.written_machine.specs.Cycle.{after_cycles}
use Rattle.written_machine.specs.State.{State}
use Rattle.board.specs.internal.Standing.{state_of}
use Rattle.board.proofs.Leading.{walk_next}
use Rattle.board.proofs.Runs.{state_split}
use Rattle.board.proofs.machine.Machine.pass_to.Goals as goal

pub loop-self-smaller : goal.loop-self-smaller
loop-self-smaller c =
    let i = c.loop-self.invariant in
    let s = state_of c.args.self.now in
    let n = c.loop-self.self.cycle - c.args.self.now.cycle in
    let within : n < c.args.end - c.args.self.now.cycle = omega (arith, i.from, c.loop-self-test.true) in
    let walk = walk_next c.args.end n s (state_of c.loop-self.self) (state_of c.tick.new.self) c.requires.runs i.state within c.tick.ensures.state in
    omega (arith, i.from, c.loop-self-test.true, walk.1, c.pass_idle.ensures.number)

pub loop-self-preserved : goal.loop-self-preserved
loop-self-preserved c =
    let i = c.loop-self.invariant in
    let s = state_of c.args.self.now in
    let n = c.loop-self.self.cycle - c.args.self.now.cycle in
    let k = c.pass_idle.result in
    let within : n < c.args.end - c.args.self.now.cycle = omega (arith, i.from, c.loop-self-test.true) in
    let walk = walk_next c.args.end n s (state_of c.loop-self.self) (state_of c.tick.new.self) c.requires.runs i.state within c.tick.ensures.state in
    let total : suc n + k ≡ c.pass_idle.new.self.cycle - c.args.self.now.cycle = omega (arith, i.from, walk.1, c.pass_idle.ensures.number) in
    record {
      from = omega (arith, i.from, walk.1, c.pass_idle.ensures.number);
      to = omega (arith, walk.1, within, c.pass_idle.ensures.number, c.pass_idle.ensures.most);
      state = c.pass_idle.ensures.leads.state ∙ ap (λ (x : State). after_cycles x k) walk.0 ∙ sym (state_split (suc n) k s) ∙ ap (after_cycles s) total;
      stands = c.pass_idle.ensures.stands;
      lasting = c.pass_idle.ensures.lasting ∙ c.tick.ensures.lasting ∙ i.lasting;
    }
