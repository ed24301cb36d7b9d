use Rattle.std.proofs.Common.{◌≡◌, ap, ◌∙◌, length, unwrap_or}
use Rattle.elf_objects.specs.Relocation.{relocations_of}
use Rattle.elf_objects.specs.internal.Relocation.{ends_of}
use Rattle.elf_objects.specs.Object.{ObjectValue}
use Rattle.elf_objects.proofs.PlaceLemmas.{last_of}
use Rattle.elf_objects.proofs.object.Object.relocation_count.Goals as goal

pub returns : goal.returns
returns c =
    let same : length (relocations_of c.self.inside.file.items) ≡ length c.args.self.now.relocations = ap (λ (o : ObjectValue). length o.relocations) c.self.view_is in
    let ends : c.deref.result.now ≡ ends_of c.self.inside.file.items = c.deref.ensures.value ∙ c.self.invariant.1 in
    record { count = c.unwrap_or.ensures ∙ (ap (λ o. unwrap_or o 0) (c.copied.ensures ∙ c.last.ensures.value) ∙ (last_of c.self.inside.file.items c.deref.result.now ends ∙ same)) }
