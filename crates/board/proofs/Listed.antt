-- The first refusal among the accesses of format I.
use Rattle.std.proofs.Common.{◌≡◌, ℕ, List, ◌++◌, ap, ◌∙◌, Option}
use Rattle.std.specs.Option.{option_or}
use Rattle.mod_layout.specs.Table.{Table}
use Rattle.mod_layout.specs.First.{first_in}
use Rattle.mod_layout.proofs.FirstLemmas.{first_in_append, or_else_assoc}
use Rattle.pc_access.specs.Rights.{right}
use Rattle.pc_access.specs.declared.Access.{Access}
use Rattle.pc_access.specs.declared.Denied.{Denied}

-- of three lists, the first that has one
pub denied_three : (t : Table) (active : Option ℕ) (held : List ℕ) (xs ys zs : List Access) →
    first_in (right t active held) ((xs ++ ys) ++ zs) ≡ option_or (first_in (right t active held) xs) (option_or (first_in (right t active held) ys) (first_in (right t active held) zs))
denied_three t active held xs ys zs =
    first_in_append (right t active held) (xs ++ ys) zs
    ∙ ap (λ (o : Option Denied). option_or o (first_in (right t active held) zs)) (first_in_append (right t active held) xs ys)
    ∙ or_else_assoc (first_in (right t active held) xs) (first_in (right t active held) ys) (first_in (right t active held) zs)
