use Rattle.std.proofs.Common.{subst, List, Option, ℕ}
use Rattle.std.proofs.lemmas.Bool.{false≢true}
use Rattle.page_pool.specs.Tables.{IsUnused}
use Rattle.page_pool.proofs.ViewLemmas.{not_all_shown}
use Rattle.page_pool.proofs.pool.Pool.copy_table.Goals as goal

pub returns-in-Some-clause-full : goal.returns-in-Some-clause-full
returns-in-Some-clause-full c =
    let unused = subst (λ (ts : List (Option (List ℕ))). IsUnused ts c.in-Some.copy) c.self.view_is c.in-Some.ensures.some in
    (λ e. absurd (false≢true e), λ all. absurd (not_all_shown c.args.self.now c.in-Some.copy unused all))
