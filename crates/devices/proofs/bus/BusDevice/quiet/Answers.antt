use Rattle.std.proofs.Common.{◌≡◌, ◌≤◌, ◌<◌, ◌-◌, ◌∙◌, sym, ap, subst, List, length, drop, get_or, min}
use Rattle.schedule_file.specs.declared.Entry.{Entry}
use Rattle.schedule_file.specs.declared.What.TheVariants.{Serial}
use Rattle.devices.specs.Devices.{line_of}
use Rattle.devices.specs.Time.{ticked_by, quiet_of}
use Rattle.devices.specs.Bus.{BusState}
use Rattle.devices.proofs.Order.{IsDue-within}
use Rattle.devices.proofs.Passing.{cycle-due, quiet_of-due, quiet_of-done, quiet_of-stays}
use Rattle.devices.proofs.bus.BusDevice.quiet.Goals as goal

pub pending-requires : goal.pending-requires
pending-requires c = IsDue-within _ _ _ c.self.invariant.0

-- what stands for no entry
abbrev nothing : Entry
nothing = record { cycle = 0; what = Serial 0 }

pub overflow_sub-next : goal.overflow_sub-next
overflow_sub-next c =
    subst (λ (es : List Entry). c.self.inside.present.ticks ≤ (get_or es 0 nothing).cycle) (sym c.pending.ensures.entries)
    (cycle-due c.self.inside.agenda.entries.items c.self.inside.agenda.acted c.self.inside.present.ticks nothing c.self.invariant.0
    (subst (λ (es : List Entry). 1 ≤ length es) c.pending.ensures.entries c.in-len1-up.len_at_least))

pub returns-in-empty-clause-ticks : goal.returns-in-empty-clause-ticks
returns-in-empty-clause-ticks c =
    c.quiet-quiet.ensures.ticks
    ∙ sym (quiet_of-done c.self.inside.present.ticks c.self.inside.agenda.acted c.self.inside.present.lines c.self.inside.present.serial c.self.inside.present.timer c.self.inside.agenda.entries.items c.self.invariant.0
    (subst (λ (es : List Entry). length es < 1) c.pending.ensures.entries c.in-empty.len_below))
    ∙ ap (λ (b : BusState). quiet_of b.devices b.ticks) c.self.view_is

pub returns-in-empty-clause-stays : goal.returns-in-empty-clause-stays
returns-in-empty-clause-stays c n few =
    subst (λ (b : BusState). line_of (ticked_by n b.ticks b.devices) ≡ line_of b.devices) c.self.view_is
    (quiet_of-stays n c.self.inside.present.ticks c.self.inside.agenda.acted c.self.inside.present.lines c.self.inside.present.serial c.self.inside.present.timer c.self.inside.agenda.entries.items c.self.invariant.0
    (subst (λ q. n ≤ q) (returns-in-empty-clause-ticks c ∙ sym (ap (λ (b : BusState). quiet_of b.devices b.ticks) c.self.view_is)) few)
    (λ m within. c.quiet-quiet.ensures.stays m (subst (λ q. m ≤ q) (sym c.quiet-quiet.ensures.ticks) within)))

pub returns-in-len1-up-clause-ticks : goal.returns-in-len1-up-clause-ticks
returns-in-len1-up-clause-ticks c =
    c.min.ensures
    ∙ ap (λ (es : List Entry). min c.quiet-quiet.result ((get_or es 0 nothing).cycle - c.self.inside.present.ticks)) c.pending.ensures.entries
    ∙ ap (λ q. min q ((get_or (drop c.self.inside.agenda.acted c.self.inside.agenda.entries.items) 0 nothing).cycle - c.self.inside.present.ticks)) c.quiet-quiet.ensures.ticks
    ∙ sym (quiet_of-due c.self.inside.present.ticks c.self.inside.agenda.acted c.self.inside.present.lines c.self.inside.present.serial c.self.inside.present.timer c.self.inside.agenda.entries.items nothing c.self.invariant.0
    (subst (λ (es : List Entry). 1 ≤ length es) c.pending.ensures.entries c.in-len1-up.len_at_least))
    ∙ ap (λ (b : BusState). quiet_of b.devices b.ticks) c.self.view_is

pub returns-in-len1-up-clause-stays : goal.returns-in-len1-up-clause-stays
returns-in-len1-up-clause-stays c n few =
    subst (λ (b : BusState). line_of (ticked_by n b.ticks b.devices) ≡ line_of b.devices) c.self.view_is
    (quiet_of-stays n c.self.inside.present.ticks c.self.inside.agenda.acted c.self.inside.present.lines c.self.inside.present.serial c.self.inside.present.timer c.self.inside.agenda.entries.items c.self.invariant.0
    (subst (λ q. n ≤ q) (returns-in-len1-up-clause-ticks c ∙ sym (ap (λ (b : BusState). quiet_of b.devices b.ticks) c.self.view_is)) few)
    (λ m within. c.quiet-quiet.ensures.stays m (subst (λ q. m ≤ q) (sym c.quiet-quiet.ensures.ticks) within)))
