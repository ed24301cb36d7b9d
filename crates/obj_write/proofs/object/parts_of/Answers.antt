use Rattle.std.proofs.Common.{length, ap, arith}
use Rattle.asm_text.specs.Unit.{unit_of}
use Rattle.obj_write.proofs.ObjectLemmas.{no_parts, part_added, parts_whole}
use Rattle.obj_write.proofs.object.parts_of.Goals as goal

pub loop-i-init : goal.loop-i-init
loop-i-init c = no_parts (unit_of c.args.unit.now) c.new-sections.result c.new-sections.ensures

pub loop-i-preserved : goal.loop-i-preserved
loop-i-preserved c =
    part_added c.args.unit.now c.args.names.now c.loop-i.i c.place.result c.part_head.result c.section-item.result c.deref-section-items.result.now c.deref.result.now c.loop-i.sections c.add.new.self
    (omega arith) c.section-item.is c.deref-section-items.ensures.value c.deref.ensures.value c.requires c.place.ensures c.part_head.ensures c.in_ok-add.ensures c.loop-i.invariant

pub returns : goal.returns
returns c = let e = ap length c.deref-section-items.ensures.value in parts_whole c.args.unit.now c.loop-i.sections c.loop-i.i (omega (arith, e)) c.loop-i.invariant
