-- Cycles of which none is below an earlier one.
use Rattle.std.proofs.Common.{◌≡◌, ◌≤◌, ⊎_elim, List, get_or, ap, arith}
use Rattle.std.specs.List.{AllPairs}
use Rattle.std.proofs.lemmas.Bool.{cases_lt}
use Rattle.schedule_file.specs.declared.Entry.{Entry}
use Rattle.schedule_file.specs.Entries.{CyclesNeverFall}

pub never_fall : (es : List Entry) → AllPairs (λ x y. x.cycle ≤ y.cycle) es → CyclesNeverFall es
never_fall es apart i j d order h =
    ⊎_elim (λ before. apart i j d before h) (λ late. let same : i ≡ j = omega arith in omega (arith, ap (λ k. (get_or es k d).cycle) same)) (cases_lt i j)
