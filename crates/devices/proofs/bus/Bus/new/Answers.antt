use Rattle.std.proofs.Common.{◌∙◌, sym, subst, arith, List}
use Rattle.schedule_file.specs.declared.Entry.{Entry}
use Rattle.devices.specs.internal.Bus.{IsDue}
use Rattle.devices.proofs.Order.{IsDue-start}
use Rattle.devices.proofs.bus.Bus.new.Goals as goal

pub invariant_of-result : goal.invariant_of-result
invariant_of-result c =
    (subst (λ (es : List Entry). IsDue es 0 0) (sym (c.in_ok-entries.ensures.items ∙ c.as_slice.ensures.value)) (IsDue-start c.args.schedule.now.entries.items c.args.schedule.now.cycles_never_fall c.args.schedule.now.lines), omega arith)
