use Rattle.std.proofs.Common.{◌≡◌, ◌≤◌, ◌+◌, ◌∙◌, ap, arith, length}
use Rattle.devices.specs.internal.Parts.{joined_parts}
use Rattle.devices.specs.Time.{ticked_by}
use Rattle.devices.specs.Bus.{BusState}
use Rattle.devices.specs.internal.Bus.{IsDue, acted_before, past_count}
use Rattle.devices.proofs.Order.{IsDue-later, IsDue-within}
use Rattle.devices.proofs.Passing.{advanced}
use Rattle.devices.proofs.bus.Bus.advance.Goals as goal

pub pending-requires : goal.pending-requires
pending-requires c = IsDue-within _ _ _ c.self.invariant.0

pub overflow_add-self : goal.overflow_add-self
overflow_add-self c =
    let due : IsDue c.self.inside.agenda.entries.items (c.self.inside.agenda.acted + c.act_before-acted.result) (c.self.inside.present.ticks + c.args.n) =
    IsDue-later c.self.inside.agenda.entries.items c.self.inside.agenda.acted c.act_before-acted.result c.self.inside.present.ticks (c.self.inside.present.ticks + c.args.n) c.self.invariant.0 (omega arith)
    (c.act_before-acted.ensures.count ∙ ap (past_count (c.self.inside.present.ticks + c.args.n)) c.pending.ensures.entries) in
    let within : c.self.inside.agenda.acted + c.act_before-acted.result ≤ length c.self.inside.agenda.entries.items = IsDue-within _ _ _ due in
    omega (arith, within, c.pending.ensures.count)

pub invariant_of-self : goal.invariant_of-self
invariant_of-self c =
    let passed : c.self.inside.present.ticks ≡ c.args.self.now.ticks = ap (λ (b : BusState). b.ticks) c.self.view_is in (
      IsDue-later c.self.inside.agenda.entries.items c.self.inside.agenda.acted c.act_before-acted.result c.self.inside.present.ticks (c.self.inside.present.ticks + c.args.n) c.self.invariant.0 (omega arith)
          (c.act_before-acted.ensures.count ∙ ap (past_count (c.self.inside.present.ticks + c.args.n)) c.pending.ensures.entries),
      omega (arith, passed, c.self.invariant.1),
    )

pub returns-clause-devices : goal.returns-clause-devices
returns-clause-devices c =
    c.act_before-acted.ensures.devices c.self.inside.agenda.entries.items
    ∙ ap (λ p. acted_before (c.self.inside.present.ticks + c.args.n) p (joined_parts c.self.inside.present.lines c.skip.new.self c.skip-2.new.self c.self.inside.agenda.entries.items)) c.pending.ensures.entries
    ∙ advanced c.args.n c.self.inside.present.ticks c.self.inside.agenda.acted c.self.inside.present.lines c.self.inside.present.serial c.skip.new.self c.self.inside.present.timer c.skip-2.new.self c.self.inside.agenda.entries.items c.self.invariant.0 c.skip.ensures.state c.skip-2.ensures.state
    ∙ ap (λ (b : BusState). ticked_by c.args.n b.ticks b.devices) c.self.view_is
