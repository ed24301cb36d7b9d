-- The refusals in their order are those of names and those of placement.
use Rattle.std.proofs.Common.{◌≡◌, List, [], ◌∷◌, Option, Some, None, refl}
use Rattle.elf_objects.specs.Object.{ObjectValue}
use Rattle.mod_layout.specs.First.{first_in, first_of}
use Rattle.layout_file.specs.Values.{LayoutValue}
use Rattle.link_symbols.specs.Passes.{numbered_objects}
use Rattle.std.specs.Option.{option_or}
use Rattle.link_symbols.specs.Refusals.{unresolved}
use Rattle.mod_layout.proofs.FirstLemmas.{or_else_none}
use Rattle.linker.specs.Numbers.{linking_of, region_end}
use Rattle.linker.specs.Fields.{reloc_fault_in}
use Rattle.linker.specs.Refusals.{overfull, link_fault_of}
use Rattle.linker.specs.internal.Groups.{fill_fault}

grouped : {F : Type 0} (a b c : Option F) → first_of (a ∷ b ∷ c ∷ []) ≡ option_or a (option_or b c)
grouped (Some x) b c = refl
grouped None (Some x) c = refl
grouped None None c = or_else_none c

pub in_groups : (layout : LayoutValue) (os : List ObjectValue) →
    link_fault_of layout os ≡ option_or (unresolved layout os) (fill_fault (region_end layout os) (linking_of layout os) layout os)
unfolding link_fault_of fill_fault
in_groups layout os = grouped (unresolved layout os) (overfull layout (region_end layout os)) (first_in (reloc_fault_in (linking_of layout os)) (numbered_objects os))
