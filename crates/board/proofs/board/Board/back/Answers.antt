use Rattle.std.proofs.Common.{◌≡◌, ◌+◌, ◌<◌, ◌≤◌, length, take, rules, refl, ◌∙◌, ap, arith}
use Rattle.written_machine.specs.Marks.{Marked}
use Rattle.board.specs.internal.Standing.{Lasting, lasting_of}
use Rattle.board.proofs.Going.{back_none, back_number, gone_back, gone_is, keeps_cut, stands_back}
use Rattle.board.proofs.board.Board.back.Goals as goal

pub returns-then-k-marks-clause-none : goal.returns-then-k-marks-clause-none
returns-then-k-marks-clause-none c =
    let past : length c.self.inside.moments.items ≤ c.args.k = let level = c.self.invariant.0.level in omega (arith, level, c.marks.ensures.number, c.if-k-marks.true) in
    (back_none c.self.inside.machine c.self.inside.moments.items c.args.k c.args.self.now c.self.view_is c.self.invariant.0 past, refl)

live : (c : goal.After-truncate) → c.args.k < length c.self.inside.moments.items
live c = let level = c.self.invariant.0.level in omega (arith, level, c.marks.ensures.number, c.if-k-marks.false)

items : (c : goal.After-truncate) → c.truncate.new.self.items ≡ take (c.args.k + 1) c.self.inside.moments.items
items c = c.truncate.ensures.items ∙ ap (λ j. take (j + 1) c.self.inside.moments.items) c.from-mark.ensures

pub invariant_of-self : goal.invariant_of-self
invariant_of-self c =
    let m = c.self.inside.machine in
    let n = c.back.new.self in
    let ts = c.self.inside.moments.items in
    let k = c.args.k in
    let h = c.self.invariant.0 in
    let t = c.index.result.now in (
      keeps_cut 0 k m n ts c.truncate.new.self.items h (live c) c.back.ensures.lasting (items c) (gone_is m n ts k t h (live c) (search rules) c.back.ensures.state)
          (stands_back m n ts k t h (live c) (search rules) c.back.ensures.state c.back.ensures.ticks) (back_number m n ts k t h (live c) (search rules) c.back.ensures.state).1,
      let room : (lasting_of n).room ≡ (lasting_of m).room = ap (λ (l : Lasting). l.room) c.back.ensures.lasting in omega (arith, room, c.self.invariant.1, c.truncate.ensures.capacity),
    )

pub returns-clause-back : goal.returns-clause-back
returns-clause-back c =
    gone_back c.self.inside.machine c.back.new.self c.self.inside.moments.items c.truncate.new.self.items c.args.k c.index.result.now c.args.self.now c.self.view_is c.self.invariant.0 (live c) (search rules) c.back.ensures.lasting (items c) c.back.ensures.state

pub returns-clause-clock : goal.returns-clause-clock
returns-clause-clock c =
    let m = c.self.inside.machine in
    let number = (back_number m c.back.new.self c.self.inside.moments.items c.args.k c.index.result.now c.self.invariant.0 (live c) (search rules) c.back.ensures.state).0 in
    let now : m.cycle ≡ c.args.self.now.present.cycle = ap (λ (g : Marked). g.present.cycle) c.self.view_is in
    omega (arith, number, now)
