-- Cycles are run, and their events counted.
use Rattle.std.proofs.Common.{◌≡◌, ℕ, ◌+◌, ◌*◌, ◌≤◌, ap, ap₂, arith}
use Rattle.written_machine.specs.Cycle.{after_cycles}
use Rattle.written_machine.specs.State.{State}
use Rattle.written_machine.specs.Marks.{Marked, unmarked}
use Rattle.sm_cli.specs.MakeCommand.{events_after, runs_text, run_start, second_data, make_text}

-- so many cycles from one state lead to another, and tell so many events
pub record IsCounted (from to : State) (count cycles : ℕ) : Type 0 where
  pub leads : to ≡ after_cycles from cycles
  pub counted : count ≡ events_after from cycles
  pub few : count ≤ 4 * cycles
  pub number : to.cycle ≤ from.cycle + cycles

-- a run begins in cycle 0
pub starts : (seed word : ℕ) (board : Marked) → board ≡ unmarked 0 (run_start seed word) → board.present.cycle ≤ 1000000000
unfolding run_start
starts seed word board e = let zero : board.present.cycle ≡ 0 = ap (λ (b : Marked). b.present.cycle) e in omega arith

-- both runs of a seed
pub told : (seed : ℕ) (first second : Marked) → first ≡ unmarked 0 (run_start seed 0) → second ≡ unmarked 0 (run_start seed (second_data seed)) → runs_text seed 200000 first.present second.present ≡ make_text seed
unfolding make_text
told seed first second e f = ap₂ (λ (a b : Marked). runs_text seed 200000 a.present b.present) e f
