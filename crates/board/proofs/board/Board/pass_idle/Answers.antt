use Rattle.std.proofs.Common.{◌≤◌, ◌+◌, ◌^◌, sym, subst}
use Rattle.std.specs.Vec.{vec_capacity}
use Rattle.written_machine.specs.Marks.{Marked}
use Rattle.board.specs.internal.Standing.{Lasting, state_of}
use Rattle.board.proofs.Keeping.{keeps_on, marked_same, number_passed}
use Rattle.board.proofs.board.Board.pass_idle.Goals as goal

pub invariant_of-self : goal.invariant_of-self
invariant_of-self c =
    let m = c.self.inside.machine in
    let n = c.pass_idle.new.self in
    let few = subst (λ (g : Marked). g.present.cycle + c.args.most ≤ 2 ^ 62) (sym c.self.view_is) c.requires in
    let at = c.pass_idle.ensures.leads.state in (
      keeps_on c.pass_idle.result m n c.self.inside.moments.items c.self.invariant.0 at c.pass_idle.ensures.stands
          (number_passed c.pass_idle.result c.args.most (state_of m) (state_of n) c.pass_idle.ensures.stop at c.pass_idle.ensures.number c.pass_idle.ensures.most few c.self.invariant.0.number) c.pass_idle.ensures.lasting,
      subst (λ (l : Lasting). l.room ≤ vec_capacity c.self.inside.moments) (sym c.pass_idle.ensures.lasting) c.self.invariant.1,
    )

pub returns-clause-marks : goal.returns-clause-marks
returns-clause-marks c = marked_same c.self.inside.machine c.pass_idle.new.self c.self.inside.moments.items c.args.self.now c.self.view_is c.pass_idle.ensures.lasting
