use Rattle.std.proofs.Common.{◌≡◌, ◌+◌, ◌∙◌, ap, sym, get_or, length, map, arith}
use Rattle.asm_text.specs.Unit.{unit_of}
use Rattle.asm_text.specs.Views.{section_value}
use Rattle.obj_write.specs.Relocations.{relocation_table}
use Rattle.obj_write.proofs.ObjectLemmas.{no_relocations, relocations_within, relocation_added, tables_whole, section_small, table_at, part_count}
use Rattle.obj_write.proofs.object.add_relocations.Goals as goal

pub loop-j-init : goal.loop-j-init
loop-j-init c = λ done is. no_relocations (unit_of c.args.unit.now) c.args.sections.now done is

pub bounds-tables-i : goal.bounds-tables-i
bounds-tables-i c = relocations_within (λ t. t.items) c.args.unit.now c.args.tables.now c.args.relocated.now c.loop-j.j 0 c.requires.relocated c.requires.tables c.loop-j-test.true

pub offset_bounds-tables-i : goal.offset_bounds-tables-i
offset_bounds-tables-i c = let small = section_small c.args.unit.now c.args.relocated.now c.loop-j.j c.requires.relocated c.loop-j-test.true in omega (arith, small)

pub relocations_head-head-requires : goal.relocations_head-head-requires
relocations_head-head-requires c = let small = section_small c.args.unit.now c.args.relocated.now c.loop-j.j c.requires.relocated c.loop-j-test.true in omega (arith, small)

pub loop-j-preserved : goal.loop-j-preserved
loop-j-preserved c = λ done is.
    let unit = unit_of c.args.unit.now in
    let section = get_or c.args.relocated.now c.loop-j.j 0 in
    let count : c.len-count.result ≡ length (map section_value c.args.unit.now.sections.items) = c.len-count.ensures ∙ part_count c.args.unit.now in
    let there = relocations_within (λ t. t.items) c.args.unit.now c.args.tables.now c.args.relocated.now c.loop-j.j 0 c.requires.relocated c.requires.tables c.loop-j-test.true in
    let lasts = ap length c.requires.relocated in
    relocation_added unit c.args.names.now c.loop-j.j (c.len-count.result + 3 + c.loop-j.j) c.place.result section c.len.result (c.len-count.result + 1)
    c.deref.result.now c.relocations_head-head.result c.loop-j.sections c.add.new.self done
    (omega (arith, lasts)) c.requires.names c.place.ensures (ap (λ n. n + 3 + c.loop-j.j) count)
    (ap (λ l. get_or l c.loop-j.j 0) c.requires.relocated)
    (c.deref.ensures.value ∙ table_at (λ t. t.items) c.args.tables.now c.index-tables-i.result (relocation_table c.args.unit.now.relocations.items) (length (map section_value c.args.unit.now.sections.items)) section there c.index-tables-i.is c.requires.tables)
    (c.len.ensures ∙ (c.index-tables-i.result.ok.0 ∙ sym (ap length c.deref.ensures.value)))
    (ap (λ n. n + 1) count) c.relocations_head-head.ensures c.in_ok-add.ensures (c.loop-j.invariant done is)

pub returns : goal.returns
returns c = λ done is. let e = ap length c.requires.relocated in tables_whole (unit_of c.args.unit.now) c.loop-j.sections done c.loop-j.j (omega (arith, e)) (c.loop-j.invariant done is)
