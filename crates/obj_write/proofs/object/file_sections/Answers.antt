use Rattle.std.proofs.Common.{◌∙◌}
use Rattle.obj_write.proofs.ObjectLemmas.{relocated_found}
use Rattle.obj_write.proofs.object.file_sections.Goals as goal

pub name_sections-requires : goal.name_sections-requires
name_sections-requires c =
    c.deref-3.ensures.value
    ∙ relocated_found (λ t. t.items) c.args.unit.now c.in_ok-tables.tables.items c.deref-2.result.now c.deref.result.now c.len.result c.in_ok-relocated.relocated.items
    c.deref.ensures.value c.len.ensures c.in_ok-tables.ensures c.deref-2.ensures.value c.in_ok-relocated.ensures

pub add_relocations-requires-clause-relocated : goal.add_relocations-requires-clause-relocated
add_relocations-requires-clause-relocated c =
    c.deref-7.ensures.value
    ∙ relocated_found (λ t. t.items) c.args.unit.now c.in_ok-tables.tables.items c.deref-2.result.now c.deref.result.now c.len.result c.in_ok-relocated.relocated.items
    c.deref.ensures.value c.len.ensures c.in_ok-tables.ensures c.deref-2.ensures.value c.in_ok-relocated.ensures
