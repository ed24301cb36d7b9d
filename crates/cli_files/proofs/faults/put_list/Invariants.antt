use Rattle.std.proofs.Common.{◌≡◌, ℕ, List, [], ◌++◌, drop, codes}
use Rattle.std.specs.Fmt.{decimal}
use Rattle.std.specs.List.{flat_map}
use Rattle.sm_io.specs.Sink.{Took}
use Rattle.cli_files.specs.Faults.{with_numbers}
use Rattle.cli_files.proofs.faults.put_list.Given as goal

-- a number after a space
abbrev pub number_text : ℕ → List ℕ
number_text n = codes " " ++ decimal n

abbrev pub invariant-loop-number : goal.invariant-loop-number
invariant-loop-number g l = (done : List ℕ) × (done ++ flat_map number_text (drop l.number-index l.numbers) ≡ with_numbers [] l.numbers)
    × Took g.S.Sink.taken g.S.Sink.faults g.S.Sink.sure l.initial.sink l.sink done
