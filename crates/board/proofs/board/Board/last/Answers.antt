use Rattle.std.proofs.Common.{◌≡◌, ℕ, List, ◌+◌, ◌-◌, ◌<◌, IfSome, get_or, length, take, rules, refl, sym, ◌∙◌, ap, subst, arith}
use Rattle.written_machine.specs.Cycle.{after_cycles}
use Rattle.written_machine.specs.Marks.{Marked}
use Rattle.board.specs.declared.moment.Moment.{Moment}
use Rattle.board.specs.internal.Sound.{IsSound, RunsTo}
use Rattle.board.specs.internal.Standing.{Lasting, lasting_of, mark_state, marks_of, state_of}
use Rattle.board.proofs.Going.{Found, keeps_cut, last_gone, last_none, gone_number, last_some, mark_is, mark_leads, mark_sound, marks_length, went}
use Rattle.board.proofs.board.Board.last.Goals as goal

pub returns-then-k-marks-clause-fault : goal.returns-then-k-marks-clause-fault
returns-then-k-marks-clause-fault c =
    let m = c.self.inside.machine in
    let ts = c.self.inside.moments.items in
    let count = marks_length m ts c.self.invariant.0 in
    let level = c.self.invariant.0.level in
    let seen : length (marks_of m ts) ≡ length c.args.self.now.marks = ap (λ (g : Marked). length g.marks) c.self.view_is in
    (refl, omega (arith, count, level, seen, c.marks.ensures.number, c.if-k-marks.true))

-- mark k is live
within : (k marks : ℕ) (bs : List (List ℕ)) (ts : List Moment) → length ts ≡ length bs → marks ≡ length bs → k < marks → k < length ts
within k marks bs ts level number h = omega (arith, level, number, h)

pub last_since-requires-clause-sound : goal.last_since-requires-clause-sound
last_since-requires-clause-sound c =
    let live = within c.args.k c.marks.result _ c.self.inside.moments.items c.self.invariant.0.level c.marks.ensures.number (omega (arith, c.if-k-marks.false)) in
    mark_sound c.self.inside.machine c.self.inside.moments.items c.args.k c.index-moment.result.now c.self.invariant.0 live (search rules)

pub last_since-requires-clause-leads : goal.last_since-requires-clause-leads
last_since-requires-clause-leads c =
    let live = within c.args.k c.marks.result _ c.self.inside.moments.items c.self.invariant.0.level c.marks.ensures.number (omega (arith, c.if-k-marks.false)) in
    mark_leads c.self.inside.machine c.self.inside.moments.items c.args.k c.index-moment.result.now c.self.invariant.0 live (search rules)

pub returns-in-None-clause-fault : goal.returns-in-None-clause-fault
returns-in-None-clause-fault c =
    let m = c.self.inside.machine in
    let ts = c.self.inside.moments.items in
    let live = within c.args.k c.marks.result _ ts c.self.invariant.0.level c.marks.ensures.number (omega (arith, c.if-k-marks.false)) in
    let count = marks_length m ts c.self.invariant.0 in
    let seen : length (marks_of m ts) ≡ length c.args.self.now.marks = ap (λ (g : Marked). length g.marks) c.self.view_is in
    (refl, omega (arith, count, seen, live), last_none c.args.addr c.args.k m ts c.index-moment.result.now c.args.self.now c.self.view_is c.self.invariant.0 live (search rules) c.in-None.ensures.last)

-- where it was found
pub return_to-requires-clause-number : goal.return_to-requires-clause-number
return_to-requires-clause-number c =
    let m = c.self.inside.machine in
    let ts = c.self.inside.moments.items in
    let live = within c.args.k c.marks.result _ ts c.self.invariant.0.level c.marks.ensures.number (omega (arith, c.if-k-marks.false)) in
    let found = last_some c.args.addr c.args.k c.in-Some.cycle m ts c.index-moment.result.now c.self.invariant.0 live (search rules) c.in-Some.ensures.last in
    let before = found.before in
    let most = c.self.invariant.0.number in
    omega (arith, before, most)

pub return_to-requires-clause-sound : goal.return_to-requires-clause-sound
return_to-requires-clause-sound c =
    let m = c.self.inside.machine in
    let ts = c.self.inside.moments.items in
    let t = c.index-moment.result.now in
    let live = within c.args.k c.marks.result _ ts c.self.invariant.0.level c.marks.ensures.number (omega (arith, c.if-k-marks.false)) in
    subst (λ (l : Lasting). IfSome (mark_state l c.args.k t) IsSound) (sym c.last_since.ensures.lasting) (mark_sound m ts c.args.k t c.self.invariant.0 live (search rules))

pub return_to-requires-clause-runs : goal.return_to-requires-clause-runs
return_to-requires-clause-runs c =
    let m = c.self.inside.machine in
    let ts = c.self.inside.moments.items in
    let t = c.index-moment.result.now in
    let live = within c.args.k c.marks.result _ ts c.self.invariant.0.level c.marks.ensures.number (omega (arith, c.if-k-marks.false)) in
    let at : t ≡ get_or ts c.args.k t = search rules in
    let found = last_some c.args.addr c.args.k c.in-Some.cycle m ts t c.self.invariant.0 live at c.in-Some.ensures.last in
    subst (λ o. IfSome o (RunsTo c.in-Some.cycle)) (sym (ap (λ (l : Lasting). mark_state l c.args.k t) c.last_since.ensures.lasting ∙ mark_is m ts c.args.k t c.self.invariant.0 live at)) found.runs

-- ---- the board that went there

live : (c : goal.After-truncate) → c.args.k < length c.self.inside.moments.items
live c = within c.args.k c.marks.result _ c.self.inside.moments.items c.self.invariant.0.level c.marks.ensures.number (omega (arith, c.if-k-marks.false))

at : (c : goal.After-truncate) → c.index-moment.result.now ≡ get_or c.self.inside.moments.items c.args.k c.index-moment.result.now
at c = search rules

found : (c : goal.After-truncate) → Found c.args.addr c.args.k c.in-Some.cycle c.self.inside.machine c.self.inside.moments.items
found c = last_some c.args.addr c.args.k c.in-Some.cycle c.self.inside.machine c.self.inside.moments.items c.index-moment.result.now c.self.invariant.0 (live c) (at c) c.in-Some.ensures.last

there : (c : goal.After-truncate) → let s = get_or (marks_of c.self.inside.machine c.self.inside.moments.items) c.args.k (state_of c.self.inside.machine) in state_of c.return_to.new.self ≡ after_cycles s (c.in-Some.cycle - s.cycle)
there c = went c.args.k c.in-Some.cycle c.self.inside.machine c.return_to.new.self c.self.inside.moments.items c.index-moment.result.now _ c.self.invariant.0 (live c) (at c) c.last_since.ensures.lasting c.return_to.ensures.state

lasting : (c : goal.After-truncate) → lasting_of c.return_to.new.self ≡ record (lasting_of c.self.inside.machine) { marked = take (c.args.k + 1) (lasting_of c.self.inside.machine).marked }
lasting c = c.return_to.ensures.lasting ∙ ap (λ (l : Lasting). record l { marked = take (c.args.k + 1) l.marked }) c.last_since.ensures.lasting

items : (c : goal.After-truncate) → c.truncate.new.self.items ≡ take (c.args.k + 1) c.self.inside.moments.items
items c = c.truncate.ensures.items ∙ ap (λ j. take (j + 1) c.self.inside.moments.items) c.from-in-Some.ensures

pub invariant_of-self-in-Some : goal.invariant_of-self-in-Some
invariant_of-self-in-Some c =
    let m = c.self.inside.machine in
    let n = c.return_to.new.self in
    let ts = c.self.inside.moments.items in
    let s = get_or (marks_of m ts) c.args.k (state_of m) in (
      keeps_cut (c.in-Some.cycle - s.cycle) c.args.k m n ts c.truncate.new.self.items c.self.invariant.0 (live c) (lasting c) (items c) (there c) c.return_to.ensures.stands
          (gone_number c.args.addr c.args.k c.in-Some.cycle m n ts c.self.invariant.0 (found c) (there c)).2,
      let room : (lasting_of n).room ≡ (lasting_of m).room = ap (λ (l : Lasting). l.room) (lasting c) in omega (arith, room, c.self.invariant.1, c.truncate.ensures.capacity),
    )

pub returns-in-Some-clause-last : goal.returns-in-Some-clause-last
returns-in-Some-clause-last c =
    last_gone c.args.addr c.args.k c.in-Some.cycle c.self.inside.machine c.return_to.new.self c.self.inside.moments.items c.truncate.new.self.items c.args.self.now c.self.view_is c.self.invariant.0 (live c) (found c) (lasting c) (items c) (there c)

pub returns-in-Some-clause-cycle : goal.returns-in-Some-clause-cycle
returns-in-Some-clause-cycle c =
    (gone_number c.args.addr c.args.k c.in-Some.cycle c.self.inside.machine c.return_to.new.self c.self.inside.moments.items c.self.invariant.0 (found c) (there c)).0

pub returns-in-Some-clause-clock : goal.returns-in-Some-clause-clock
returns-in-Some-clause-clock c =
    let m = c.self.inside.machine in
    let number = (gone_number c.args.addr c.args.k c.in-Some.cycle m c.return_to.new.self c.self.inside.moments.items c.self.invariant.0 (found c) (there c)).1 in
    let now : m.cycle ≡ c.args.self.now.present.cycle = ap (λ (g : Marked). g.present.cycle) c.self.view_is in
    omega (arith, number, now)
