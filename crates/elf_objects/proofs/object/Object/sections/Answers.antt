use Rattle.std.proofs.Common.{◌≡◌, length, ap, subst, ◌∙◌, arith}
use Rattle.elf_objects.specs.Header.{section_count}
use Rattle.elf_objects.proofs.LawLemmas.{length_sections}
use Rattle.std.proofs.lemmas.List.Elements.{All-same}
use Rattle.elf_objects.specs.Object.{ObjectValue, IsObject, IsSectionHead}
use Rattle.elf_objects.proofs.LawLemmas.{all_sections}
use Rattle.elf_objects.proofs.object.Object.sections.Goals as goal

pub returns-clause-within : goal.returns-clause-within
returns-clause-within c =
    All-same (IsSectionHead (length c.args.self.now.file)) c.deref.result.now c.args.self.now.sections
    (c.deref.ensures.value ∙ ap (λ (o : ObjectValue). o.sections) c.self.view_is)
    (all_sections c.args.self.now (subst IsObject c.self.view_is c.self.invariant.0))

pub returns-clause-few : goal.returns-clause-few
returns-clause-few c =
    let object = subst IsObject c.self.view_is c.self.invariant.0 in
    let same : c.deref.result.now ≡ c.args.self.now.sections = c.deref.ensures.value ∙ ap (λ (o : ObjectValue). o.sections) c.self.view_is in
    let counted : length c.args.self.now.sections ≡ section_count c.args.self.now.file = ap length object.sections ∙ length_sections c.args.self.now.file in
    let read : section_count c.as_slice-file.result.now ≡ section_count c.args.self.now.file = ap section_count (c.as_slice-file.ensures.value ∙ ap (λ (o : ObjectValue). o.file) c.self.view_is) in
    let e = ap length same in
    omega (arith, e, counted, read, c.section_count-count.ensures)
