use Rattle.std.proofs.Common.{◌≤◌, ◌<◌, ◌^◌, sym, subst}
use Rattle.written_machine.specs.Marks.{Marked}
use Rattle.std.specs.Vec.{vec_capacity}
use Rattle.board.specs.internal.Standing.{Lasting, state_of}
use Rattle.board.proofs.Keeping.{keeps_on, marked_same, number_next}
use Rattle.board.proofs.board.Board.tick_watched.Goals as goal

pub invariant_of-self : goal.invariant_of-self
invariant_of-self g c =
    let m = c.self.inside.machine in
    let n = c.tick_watched.new.self in
    let few = subst (λ (x : Marked). x.present.cycle < 2 ^ 62) (sym c.self.view_is) c.requires.number in (
      keeps_on 1 m n c.self.inside.moments.items c.self.invariant.0 c.tick_watched.ensures.state c.tick_watched.ensures.stands
          (number_next (state_of m) (state_of n) c.tick_watched.ensures.state few c.self.invariant.0.number) c.tick_watched.ensures.lasting,
      subst (λ (l : Lasting). l.room ≤ vec_capacity c.self.inside.moments) (sym c.tick_watched.ensures.lasting) c.self.invariant.1,
    )

pub returns-clause-marks : goal.returns-clause-marks
returns-clause-marks g c = marked_same c.self.inside.machine c.tick_watched.new.self c.self.inside.moments.items c.args.self.now c.self.view_is c.tick_watched.ensures.lasting
