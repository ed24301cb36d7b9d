use Rattle.std.proofs.Common.{arith}
use Rattle.elf_objects.specs.internal.Relocation.{IsIn}
use Rattle.elf_objects.proofs.PlaceLemmas.{is_in_found, these_rise}
use Rattle.elf_objects.proofs.relocation.table_with.Goals as goal

pub section_with-section-requires : goal.section_with-section-requires
section_with-section-requires c = these_rise c.args.file.now c.args.ends.now c.requires.ends

pub overflow_cast-result : goal.overflow_cast-result
overflow_cast-result c =
    let is : IsIn c.args.file.now c.section_with-section.result c.args.place = is_in_found c.args.file.now c.args.ends.now c.section_with-section.result c.args.place c.requires.ends c.requires.place c.section_with-section.ensures in
    let within = is.within in
    omega (arith, within, c.section_count-fewer_than_65536.ensures)

pub returns : goal.returns
returns c = is_in_found c.args.file.now c.args.ends.now c.section_with-section.result c.args.place c.requires.ends c.requires.place c.section_with-section.ensures
