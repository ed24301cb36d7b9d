use Rattle.std.proofs.Common.{◌∙◌, List, ℕ, ap, length, map, arith}
use Rattle.elf_objects.specs.Object.{ObjectValue}
use Rattle.link_symbols.specs.CommonNames.{common_names}
use Rattle.link_symbols.specs.Passes.{numbered_objects}
use Rattle.linker.specs.Numbers.{numbers_in}
use Rattle.linker.specs.internal.Resolved.{linking_by}
use Rattle.linker.proofs.linkage.tell_linkage.Goals as goal

pub commons-requires : goal.commons-requires
commons-requires c = let n = ap length c.requires.resolved in omega (arith, n, c.requires.few)

pub returns-clause-numbers : goal.returns-clause-numbers
returns-clause-numbers c =
    let numbers = λ (places : List ℕ) (os : List ObjectValue). map (numbers_in (linking_by os places)) (numbered_objects os) in
    c.in_ok-numbers.ensures
    ∙ (ap (λ (places : List ℕ). numbers places c.args.resolved.objects) c.as_slice.ensures.value ∙ ap (numbers c.args.placement.addresses.items) c.requires.resolved)

pub returns-clause-commons : goal.returns-clause-commons
returns-clause-commons c = c.in_ok-commons.ensures ∙ ap common_names c.requires.resolved
