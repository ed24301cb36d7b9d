use Rattle.std.proofs.Common.{◌≡◌, subst, ap, sym, ◌∙◌}
use Rattle.std.specs.Prelude.{slice_get}
use Rattle.elf_objects.specs.Relocation.{relocations_of}
use Rattle.elf_objects.specs.Object.{ObjectValue, IsObject}
use Rattle.elf_objects.proofs.LawLemmas.{relocation_in}
use Rattle.elf_objects.proofs.object.Object.relocation.Goals as goal

pub returns-clause-within : goal.returns-clause-within
returns-clause-within c =
    let same : relocations_of c.as_slice.result.now ≡ c.args.self.now.relocations = ap relocations_of c.as_slice.ensures.value ∙ ap (λ (o : ObjectValue). o.relocations) c.self.view_is in
    relocation_in c.args.self.now (subst IsObject c.self.view_is c.self.invariant.0) c.args.place _ (ap (λ l. slice_get l c.args.place) (sym same) ∙ c.relocation_at.ensures)
