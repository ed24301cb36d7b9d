use Rattle.std.proofs.Common.{◌≡◌, List, ap, length, arith, subst}
use Rattle.std.specs.Prelude.{IfOk}
use Rattle.elf_objects.specs.Object.{ObjectValue}
use Rattle.link_symbols.specs.CommonNames.{borrowed, common_names}
use Rattle.link_symbols.specs.Resolved.{ResolvedValue}
use Rattle.link_symbols.proofs.resolved.Resolved.commons.Goals as goal

pub commons_of-requires-clause-few : goal.commons_of-requires-clause-few
commons_of-requires-clause-few c = let n = ap (λ (v : ResolvedValue). length v.objects) c.self.view_is in omega (arith, n, c.requires)

pub commons_of-requires-clause-numbered : goal.commons_of-requires-clause-numbered
commons_of-requires-clause-numbered c = c.self.invariant.1.1

pub returns : goal.returns
returns c = subst (λ (os : List ObjectValue). IfOk c.commons_of.result (λ found. borrowed found.items ≡ common_names os)) (ap (λ (v : ResolvedValue). v.objects) c.self.view_is) c.commons_of.ensures
