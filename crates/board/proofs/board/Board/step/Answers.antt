use Rattle.std.proofs.Common.{◌≤◌, ◌<◌, ◌^◌, sym, subst}
use Rattle.written_machine.specs.Marks.{Marked}
use Rattle.std.specs.Vec.{vec_capacity}
use Rattle.board.specs.internal.Standing.{Lasting, state_of}
use Rattle.board.proofs.Keeping.{keeps_on, marked_same, number_next}
use Rattle.board.proofs.board.Board.step.Goals as goal

pub invariant_of-self : goal.invariant_of-self
invariant_of-self c =
    let m = c.self.inside.machine in
    let n = c.tick.new.self in
    let few = subst (λ (g : Marked). g.present.cycle < 2 ^ 62) (sym c.self.view_is) c.requires in (
      keeps_on 1 m n c.self.inside.moments.items c.self.invariant.0 c.tick.ensures.state c.tick.ensures.stands
          (number_next (state_of m) (state_of n) c.tick.ensures.state few c.self.invariant.0.number) c.tick.ensures.lasting,
      subst (λ (l : Lasting). l.room ≤ vec_capacity c.self.inside.moments) (sym c.tick.ensures.lasting) c.self.invariant.1,
    )

pub returns-clause-marks : goal.returns-clause-marks
returns-clause-marks c = marked_same c.self.inside.machine c.tick.new.self c.self.inside.moments.items c.args.self.now c.self.view_is c.tick.ensures.lasting
