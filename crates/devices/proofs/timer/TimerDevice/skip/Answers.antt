use Rattle.std.proofs.Common.{true, false, ◌≡◌, ◌<◌, ◌≤◌, ◌+◌, ◌-◌, ◌%◌, sym, ◌∙◌, ap, subst}
use Rattle.devices.specs.Parts.{TimerPart, timer_alone}
use Rattle.devices.proofs.Timing.{ticked_by-stopped, ticked_by-below, ticked_by-past, to_limit}
use Rattle.devices.proofs.timer.TimerDevice.skip.Goals as goal

pub returns-then-not-self-clause-state : goal.returns-then-not-self-clause-state
returns-then-not-self-clause-state c =
    sym (ticked_by-stopped c.args.n c.args.self.now (subst (λ (t : TimerPart). t.running ≡ false) c.self.view_is c.if-not-self.true))

pub returns-then-n-to_limit-clause-state : goal.returns-then-n-to_limit-clause-state
returns-then-n-to_limit-clause-state c =
    rw c.from.ensures
    (ap (λ (t : TimerPart). timer_alone (record t { count = (t.count + c.args.n) % 65536 })) c.self.view_is
    ∙ sym (ticked_by-below c.args.n c.args.self.now
    (subst (λ (t : TimerPart). t.running ≡ true) c.self.view_is c.if-not-self.false)
    (subst (λ (t : TimerPart). t.count < 65536) c.self.view_is c.self.invariant.0)
    (subst (λ (t : TimerPart). t.limit < 65536) c.self.view_is c.self.invariant.1)
    (subst (λ x. c.args.n ≤ x) c.ticks_to_limit-to_limit.ensures c.if-n-to_limit.true)))

pub returns-else-n-to_limit-clause-state : goal.returns-else-n-to_limit-clause-state
returns-else-n-to_limit-clause-state c =
    rw (c.from-else-n-to_limit.ensures, c.ticks_to_limit-to_limit.ensures)
    (ap (λ (t : TimerPart). timer_alone (record t { count = (c.args.n - to_limit c.args.self.now.count c.args.self.now.limit - 1) % (t.limit + 1); flag = true })) c.self.view_is
    ∙ sym (ticked_by-past c.args.n c.args.self.now
    (subst (λ (t : TimerPart). t.running ≡ true) c.self.view_is c.if-not-self.false)
    (subst (λ (t : TimerPart). t.count < 65536) c.self.view_is c.self.invariant.0)
    (subst (λ (t : TimerPart). t.limit < 65536) c.self.view_is c.self.invariant.1)
    (subst (λ x. x < c.args.n) c.ticks_to_limit-to_limit.ensures c.if-n-to_limit.false)))
