use Rattle.std.proofs.Common.{◌≡◌, ap, arith}
use Rattle.elf_objects.specs.declared.section.Header.{Header}
use Rattle.elf_objects.specs.Section.{header_of}
use Rattle.elf_objects.proofs.PlaceLemmas.{entry_small}
use Rattle.elf_objects.proofs.relocation.relocation_at.Goals as goal

pub overflow_cast-entry : goal.overflow_cast-entry
overflow_cast-entry c =
    let e = entry_small c.args.file.now c.table_with-section.result c.args.place c.table_with-section.ensures in
    let same : (c.header_of-table.result).size ≡ (header_of c.args.file.now c.table_with-section.result).size = ap (λ (h : Header). h.size) c.header_of-table.ensures in
    let fits = c.header_of-table.type_inv.1.1.1.1.0 in
    omega (arith, e, same, fits, c.count_before.ensures)
