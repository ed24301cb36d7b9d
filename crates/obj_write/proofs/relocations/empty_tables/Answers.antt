use Rattle.obj_write.proofs.RelocationLemmas.{no_tables, empty_more}
use Rattle.obj_write.proofs.relocations.empty_tables.Goals as goal

pub loop-section-init : goal.loop-section-init
loop-section-init c = no_tables (λ t. t.items) c.new-tables.result.items c.new-tables.ensures.items

pub loop-section-preserved : goal.loop-section-preserved
loop-section-preserved c =
    empty_more (λ t. t.items) c.loop-section.tables.items c.push.new.self.items c.new.result c.loop-section._section
    c.in_ok-push.ensures.items c.new.ensures.items c.loop-section.invariant
