use Rattle.std.proofs.Common.{◌+◌, ap, ◌∙◌}
use Rattle.elf_objects.specs.Object.{elf_fault_of}
use Rattle.asm_text.specs.Unit.{unit_of}
use Rattle.obj_write.specs.Object.{file_sections, file_bytes, object_of}
use Rattle.obj_write.proofs.ObjectLemmas.{part_count}
use Rattle.obj_write.proofs.EntryLemmas.{no_fault}
use Rattle.obj_write.proofs.GivenLemmas.{object_given}
use Rattle.obj_write.proofs.object.write_object.Goals as goal

pub returns-clause-bytes : goal.returns-clause-bytes
unfolding object_of
returns-clause-bytes c =
    let list = file_sections (unit_of c.args.unit.now) in
    c.in_ok-bytes.ensures list c.in_ok-sections.ensures ∙ ap (λ n. file_bytes list (n + 3)) (c.len.ensures ∙ part_count c.args.unit.now)

pub returns-clause-sound : goal.returns-clause-sound
returns-clause-sound c = ap elf_fault_of (returns-clause-bytes c) ∙ no_fault (unit_of c.args.unit.now) c.args.unit.now.sound

pub returns-clause-object : goal.returns-clause-object
returns-clause-object c = λ object same is. object_given (unit_of c.args.unit.now) c.args.unit.now.sound object (same ∙ returns-clause-bytes c) is
