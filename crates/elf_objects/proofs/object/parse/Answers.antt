use Rattle.std.proofs.Common.{◌≡◌, sym, ◌∙◌, ap}
use Rattle.elf_objects.specs.Header.{header_fault, section_count}
use Rattle.elf_objects.proofs.ObjectLemmas.{no_sections, no_sections_lists, no_ends}
use Rattle.elf_objects.proofs.object.parse.Goals as goal

pub invariant_of-result : goal.invariant_of-result
invariant_of-result c =
    let none : section_count c.args.bytes.items ≡ 0 = ap section_count (sym c.as_slice-file.ensures.value) ∙ (sym c.section_count.ensures ∙ c.if-section_count-eq0.true) in (
      no_sections c.args.bytes.items _ _ _
          (ap header_fault (sym c.as_slice-file.ensures.value) ∙ c.in_ok-check_header.ensures)
          none
          c.new.ensures.items c.new-then-section_count-eq0.ensures.items (no_sections_lists c.args.bytes.items none).2,
      c.new-then-section_count-eq0-2.ensures.items ∙ sym (no_ends c.args.bytes.items none),
    )

pub returns-then-section_count-eq0-clause-object : goal.returns-then-section_count-eq0-clause-object
returns-then-section_count-eq0-clause-object c = (invariant_of-result c).0
