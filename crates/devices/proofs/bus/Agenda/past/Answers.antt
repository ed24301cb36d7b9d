use Rattle.std.proofs.Common.{nat_lt, rules}
use Rattle.std.proofs.lemmas.List.Sorted.{IsPartitionPoint-from_clause}
use Rattle.schedule_file.specs.declared.What.TheVariants.{Serial}
use Rattle.devices.proofs.Order.{before_first, past_count-point}
use Rattle.devices.proofs.bus.Agenda.past.Goals as goal

pub returns : goal.returns
returns c =
    let first = before_first c.args.ticks c.deref.result.now (search rules) in
    let point = IsPartitionPoint-from_clause (λ e. nat_lt e.cycle c.args.ticks) _ _ c.partition_point.ensures.partitioned first (λ a r q k. search rules) in
    let is = past_count-point c.args.ticks c.partition_point.result c.deref.result.now record { cycle = 0; what = Serial 0 } c.partition_point.ensures.bound point in
    search rules
