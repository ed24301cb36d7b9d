use Rattle.map_laws.proofs.Parts.{parts_sections, parts_rise, part_bytes}
use Rattle.map_laws.proofs.parts_are_sections.Goals as goal

pub returns-clause-parts : goal.returns-clause-parts
returns-clause-parts c = parts_sections

pub returns-clause-rising : goal.returns-clause-rising
returns-clause-rising c = parts_rise

pub returns-clause-bytes : goal.returns-clause-bytes
returns-clause-bytes c = part_bytes c.each_byte_is_given.ensures.sections
