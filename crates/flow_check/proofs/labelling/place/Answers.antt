use Rattle.std.proofs.Common.{rules, ◌≡◌, ℕ, List, subst}
use Rattle.std.specs.BTreeMap.{get_by}
use Rattle.std.specs.Cmp.Lexicographic.{slice_cmp}
use Rattle.std.specs.Ordering.{nat_cmp}
use Rattle.flow_check.proofs.labelling.place.Goals as goal

pub returns : goal.returns
returns c = subst (λ (l : List ℕ). c.copied.result ≡ get_by (λ k. slice_cmp nat_cmp l k.items) c.args.places.now) c.key.ensures (search rules)
