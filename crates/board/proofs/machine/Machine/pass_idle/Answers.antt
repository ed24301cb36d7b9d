use Rattle.std.proofs.Common.{◌<◌, ◌≤◌, ◌&&◌, sym, ◌∙◌, ap, subst, arith}
use Rattle.written_machine.specs.Passing.{Leads}
use Rattle.written_machine.specs.Standing.{stands_at}
use Rattle.written_machine.specs.State.{State}
use Rattle.board.specs.internal.Standing.{state_of}
use Rattle.board.proofs.Idle.{missed_none}
use Rattle.board.proofs.machine.Machine.pass_idle.Goals as goal

pub returns-then-cycles-gt0-clause-leads : goal.returns-then-cycles-gt0-clause-leads
returns-then-cycles-gt0-clause-leads c =
    let s = state_of c.args.self.now in
    let n = c.min-cycles.result in
    let some : 0 < n = omega (arith, c.if-cycles-gt0.true) in
    let few : n ≤ c.idle_cycles-idle.result = omega (arith, c.min-cycles.ensures) in
    subst (Leads n s) (sym c.pass_by.ensures.state)
    (c.passing.ensures.leads s c.idle_cycles-idle.result n (c.idle_cycles-idle.ensures.runs (omega (arith, some, few))) c.idle_cycles-idle.ensures.pass some few)

pub returns-then-cycles-gt0-clause-missed : goal.returns-then-cycles-gt0-clause-missed
returns-then-cycles-gt0-clause-missed c addr ends =
    let s = state_of c.args.self.now in
    let n = c.min-cycles.result in
    let some : 0 < n = omega (arith, c.if-cycles-gt0.true) in
    let few : n ≤ c.idle_cycles-idle.result = omega (arith, c.min-cycles.ensures) in
    missed_none c.passing.ensures.leads addr c.idle_cycles-idle.result n s (c.idle_cycles-idle.ensures.runs (omega (arith, some, few))) c.idle_cycles-idle.ensures.pass few
    (ap (λ (t : State). stands_at addr s && stands_at addr t) (sym (returns-then-cycles-gt0-clause-leads c).state) ∙ ends)
