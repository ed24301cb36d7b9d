use Rattle.std.proofs.Common.{[]}
use Rattle.obj_write.proofs.ObjectLemmas.{names_whole}
use Rattle.obj_write.proofs.object.name_sections.Goals as goal

pub returns : goal.returns
returns c =
    names_whole c.args.unit.now c.deref.result.now c.name_relocations.new.strings c.deref.ensures.value
    (c.in_ok-name_relocations.ensures _ (c.in_ok-name_tables.ensures _ (c.in_ok-name_parts.ensures [] c.in_ok-strings.ensures)))
