use Rattle.std.proofs.Common.{rules, ◌≡◌, ℕ, length, subst}
use Rattle.std.specs.BTreeMap.{get_by}
use Rattle.link_symbols.proofs.KeyLemmas.{parts_cmp}
use Rattle.link_symbols.proofs.names.find.Goals as goal

pub returns : goal.returns
returns g c =
    subst (λ (last : ℕ). c.copied.result ≡ get_by (parts_cmp (length c.args.name.now) last c.args.name.now) c.args.map.now) c.last_bytes.ensures (search rules)
