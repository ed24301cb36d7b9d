use Rattle.std.proofs.Common.{◌≡◌, ◌<◌, length, rules, sym, ◌∙◌, ap}
use Rattle.board.specs.internal.Standing.{lasting_of}
use Rattle.written_machine.specs.Marks.{Marked}
use Rattle.board.proofs.Going.{keeps_mark, mark_full, mark_made, marks_length}
use Rattle.board.proofs.board.Board.mark.Goals as goal

-- there is room for one more
less : (c : goal.After-unwrap) → length c.self.inside.moments.items < (lasting_of c.self.inside.machine).room
less c = let k = c.self.invariant.0 in let level = k.level in let few = k.few in search rules

pub invariant_of-self-in-Ok : goal.invariant_of-self-in-Ok
invariant_of-self-in-Ok c = (
  keeps_mark c.self.inside.machine c.mark.new.self c.self.inside.moments.items c.push.new.self.items c.moment.result c.self.invariant.0 c.in-Ok.ensures.marked c.moment.ensures.state c.moment.ensures.ticks (less c) (search rules),
  search rules,
)

pub returns-in-Ok-clause-marked : goal.returns-in-Ok-clause-marked
returns-in-Ok-clause-marked c =
    mark_made c.self.inside.machine c.mark.new.self c.self.inside.moments.items c.push.new.self.items c.moment.result c.args.self.now c.self.view_is c.self.invariant.0 c.in-Ok.ensures.marked c.moment.ensures.state (less c) (search rules)

pub returns-in-Ok-clause-number : goal.returns-in-Ok-clause-number
returns-in-Ok-clause-number c =
    let m = c.self.inside.machine in
    let ts = c.self.inside.moments.items in
    c.in-Ok.ensures.number ∙ sym c.self.invariant.0.level ∙ sym (marks_length m ts c.self.invariant.0) ∙ ap (λ (g : Marked). length g.marks) c.self.view_is

pub returns-in-Err-clause-full : goal.returns-in-Err-clause-full
returns-in-Err-clause-full c =
    let m = c.self.inside.machine in
    let ts = c.self.inside.moments.items in
    let full : length (lasting_of m).marked ≡ (lasting_of m).room = search rules in
    (mark_full m ts c.args.self.now c.self.view_is c.self.invariant.0 full, search rules)
