use Rattle.std.proofs.Common.{◌≡◌, ◌<◌, ◌≤◌, ◌&&◌, true, not, sym, subst}
use Rattle.devices.specs.Parts.{TimerPart}
use Rattle.devices.proofs.Timing.{line_of-timer, is_ringing}
use Rattle.devices.proofs.timer.TimerDevice.quiet.Goals as goal
use Rattle.devices.proofs.timer.TimerDevice.quiet.Goals.{else-self-via-then-self+then-self-2+else-not-self, else-self-via-then-self+else-self-2, else-self-via-else-self}

pub returns-then-not-self-clause-stays : goal.returns-then-not-self-clause-stays
returns-then-not-self-clause-stays c n few =
    line_of-timer n c.args.self.now
    (subst (λ (t : TimerPart). t.count < 65536) c.self.view_is c.self.invariant.0)
    (subst (λ (t : TimerPart). t.limit < 65536) c.self.view_is c.self.invariant.1)
    (λ ringing. subst (λ x. n ≤ x) c.ticks_to_limit.ensures few)

pub returns-else-self-clause-stays : goal.returns-else-self-clause-stays
returns-else-self-clause-stays c n few =
    line_of-timer n c.args.self.now
    (subst (λ (t : TimerPart). t.count < 65536) c.self.view_is c.self.invariant.0)
    (subst (λ (t : TimerPart). t.limit < 65536) c.self.view_is c.self.invariant.1)
    (λ ringing.
    let all = is_ringing c.self.inside.running c.self.inside.enabled c.self.inside.flag
    (subst (λ (t : TimerPart). (t.running && t.alarm && not t.flag) ≡ true) (sym c.self.view_is) ringing) in
    elim c.else-self.branch [
      | else-self-via-then-self+then-self-2+else-not-self w ↦ absurd (cc)
      | else-self-via-then-self+else-self-2 w ↦ absurd (cc)
      | else-self-via-else-self w ↦ absurd (cc)
    ])
