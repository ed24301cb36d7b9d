-- `make SEED`: two runs of the workload of a seed, which differ in the module's data; of each the number of lines of its trace, and
-- the end line.
use Rattle.std.specs.Prelude.{ℕ, zero, suc, ◌+◌, ◌%◌, List, [], ◌∷◌, ◌++◌, length, Option, None, codes}
use Rattle.std.specs.Option.{option_map}
use Rattle.texts.specs.Decimals.{read_decimal}
use Rattle.workload.specs.declared.pulses.TheConstants.{COUNT}
use Rattle.workload.specs.Draws.{next_number}
use Rattle.workload.specs.Program.{image}
use Rattle.workload.specs.Pulses.{pulses}
use Rattle.written_machine.specs.Cycle.{cycle, after_cycles}
use Rattle.written_machine.specs.State.{State}
use Rattle.written_machine.specs.Trace.{end_line_of}
use Rattle.written_machine.specs.View.{boot}
use Rattle.sm_cli.specs.declared.commands.make.TheConstants.{CYCLES, MAX_SEED}
use Rattle.sm_cli.specs.Numbers.{number_line}
use Rattle.cli_calls.specs.Words.{Text}
use Rattle.cli_calls.specs.Command.{done, Command}

abbrev pub seed_of : Text → Option ℕ
seed_of word = read_decimal MAX_SEED word

-- how many events so many cycles tell
abbrev pub events_after : State → ℕ → ℕ
events_after s zero = 0
events_after s (suc n) = events_after s n + length (cycle (after_cycles s n)).events

-- a trace has a line for each event, and the end line
unfoldable pub run_text : State → ℕ → List ℕ
run_text s cycles = number_line (codes "lines ") (events_after s cycles + 1) ++ end_line_of (after_cycles s cycles)

-- what is told of two runs
abbrev pub runs_text : ℕ → ℕ → State → State → List ℕ
runs_text seed cycles first second = number_line (codes "seed ") seed ++ (run_text first cycles ++ run_text second cycles)

-- where the run of a seed begins whose module has this word as its data
unfoldable pub run_start : ℕ → ℕ → State
run_start seed word = boot (image word) (pulses seed COUNT)

-- the first run's data are 0, the second's the low word of the number after the seed
abbrev pub second_data : ℕ → ℕ
second_data seed = next_number seed % 65536

unfoldable pub make_text : ℕ → List ℕ
make_text seed = runs_text seed CYCLES (run_start seed 0) (run_start seed (second_data seed))

abbrev pub make_command : ℕ → Command
make_command seed = record { needs = []; outcome = λ helds. done (make_text seed) }

abbrev pub read_make : List Text → Option Command
read_make (seed ∷ []) = option_map make_command (seed_of seed)
read_make _ = None
