use Rattle.std.proofs.Common.{◌≡◌, ℕ, ◌<◌, ◌≤◌, List, length, Option, Some, None, MatchOption, ap, sym, ◌∙◌}
use Rattle.std.specs.Borrow.{Bor}
use Rattle.std.specs.Prelude.{slice_get, option_copied}
use Rattle.std.specs.List.{HoldsAt}
use Rattle.std.proofs.lemmas.Option.{slice_get-get_or, slice_get_past}
use Rattle.elf_objects.proofs.ZeroLemmas.{found_by}
use Rattle.elf_objects.proofs.names.first_from.Goals as goal

-- what `get` gives, copied
copied_by : (zeros : List ℕ) (k : ℕ) (found : Option (Bor ℕ)) →
    MatchOption found (length zeros ≤ k) (λ x. (k < length zeros) × HoldsAt (λ y. x.now ≡ y) zeros k) → option_copied found ≡ slice_get zeros k
copied_by zeros k None past = sym (slice_get_past zeros k past)
copied_by zeros k (Some x) here = sym (slice_get-get_or zeros k x.now here.0 ∙ ap Some (sym (here.1 x.now)))

pub returns : goal.returns
returns c =
    c.copied.ensures ∙ (copied_by c.args.zeros.now c.count_below.result c.get.result c.get.ensures.lookup.3
    ∙ found_by c.args.zeros.now c.count_below.result c.args.offset c.count_below.ensures)
