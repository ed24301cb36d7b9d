use Rattle.std.proofs.Common.{◌≡◌, suc, ◌+◌, ◌-◌, ◌<◌, sym, ◌∙◌, ap, arith, refl}
use Rattle.std.proofs.lemmas.Bool.{and_right}
use Rattle.written_machine.specs.Cycle.{after_cycles}
use Rattle.written_machine.specs.Standing.{stands_at, last_standing}
use Rattle.written_machine.specs.State.{State}
use Rattle.board.specs.internal.Sound.{state_number}
use Rattle.board.specs.internal.Standing.{state_of}
use Rattle.board.proofs.Leading.{last_apart, last_here, last_there, walk_next}
use Rattle.board.proofs.Runs.{state_split}
use Rattle.board.proofs.machine.Machine.last_before.Goals.{then-stands_at, else-stands_at}
use Rattle.board.proofs.machine.Machine.last_before.Goals as goal

pub loop-self-smaller : goal.loop-self-smaller
loop-self-smaller c =
    let i = c.loop-self.invariant in
    let s = state_of c.args.self.now in
    let n = c.loop-self.self.cycle - c.args.self.now.cycle in
    let within : n < c.args.end - c.args.self.now.cycle = omega (arith, i.from, c.loop-self-test.true) in
    let walk = walk_next c.args.end n s (state_of c.loop-self.self) (state_of c.tick.new.self) c.requires.runs i.state within c.tick.ensures.state in
    omega (arith, i.from, c.loop-self-test.true, walk.1, c.pass_idle.ensures.number)

pub loop-self-preserved : goal.loop-self-preserved
loop-self-preserved c =
    let i = c.loop-self.invariant in
    let s = state_of c.args.self.now in
    let t = state_of c.loop-self.self in
    let u = state_of c.tick.new.self in
    let addr = c.args.addr in
    let n = c.loop-self.self.cycle - c.args.self.now.cycle in
    let k = c.pass_idle.result in
    let within : n < c.args.end - c.args.self.now.cycle = omega (arith, i.from, c.loop-self-test.true) in
    let walk = walk_next c.args.end n s t u c.requires.runs i.state within c.tick.ensures.state in
    let total : suc n + k ≡ c.pass_idle.new.self.cycle - c.args.self.now.cycle = omega (arith, i.from, walk.1, c.pass_idle.ensures.number) in
    let exact : c.if-stands_at.last ≡ state_number (last_standing addr s (suc n)) =
    elim c.if-stands_at.branch [
      | then-stands_at w ↦ last_here addr n c.loop-self.self.cycle s t c.if-stands_at.last i.state refl (sym c.stands_at.ensures ∙ w.if-stands_at.true) w.last-is
      | else-stands_at w ↦
          let off = sym c.stands_at.ensures ∙ w.if-stands_at.false in
          last_there addr n s t c.loop-self.last c.if-stands_at.last i.state off (i.apart off) w.last-is
    ] in
    record {
      from = omega (arith, i.from, walk.1, c.pass_idle.ensures.number);
      to = omega (arith, walk.1, within, c.pass_idle.ensures.number, c.pass_idle.ensures.most, c.saturating_sub.ensures);
      state = c.pass_idle.ensures.leads.state ∙ ap (λ (x : State). after_cycles x k) walk.0 ∙ sym (state_split (suc n) k s) ∙ ap (after_cycles s) total;
      apart = λ off.
          exact
          ∙ ap state_number (sym (last_apart addr (suc n) k s u walk.0 (c.pass_idle.ensures.missed addr (and_right (stands_at addr u) (stands_at addr (state_of c.pass_idle.new.self)) off))))
          ∙ ap (λ j. state_number (last_standing addr s j)) total;
      ended = λ last.
          let same : suc n ≡ c.pass_idle.new.self.cycle - c.args.self.now.cycle = omega (arith, total, last, walk.1, c.pass_idle.ensures.number, c.pass_idle.ensures.most, c.saturating_sub.ensures) in
          exact ∙ ap (λ j. state_number (last_standing addr s j)) same;
      stands = c.pass_idle.ensures.stands;
      lasting = c.pass_idle.ensures.lasting ∙ c.tick.ensures.lasting ∙ i.lasting;
    }
