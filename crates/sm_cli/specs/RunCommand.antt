-- `run LAYOUT SCHEDULE CYCLES OBJ..`: the outside trace of the image that objects link to.
use Rattle.std.specs.Prelude.{ℕ, List, ◌∷◌, ◌++◌, Option, None}
use Rattle.std.specs.Option.{option_map}
use Rattle.cli_calls.specs.Words.{Text}
use Rattle.cli_calls.specs.Values.{file_named, read_cycles}
use Rattle.cli_files.specs.Files.{Held, a_layout, layout_file, need, schedule_needs, object_needs}
use Rattle.cli_calls.specs.Command.{Outcome, runs, nothing, Command}
use Rattle.cli_calls.specs.ImageRuns.{with_schedule}
use Rattle.cli_calls.specs.Linking.{with_objects, linked}

abbrev pub run_outcome : ℕ → List Held → Outcome
run_outcome cycles (a_layout layout ∷ more) =
    with_schedule (λ entries. with_objects (λ objects. linked layout objects (λ image. runs image entries cycles))) more
run_outcome cycles _ = nothing

abbrev pub run_command : Text → Option Text → ℕ → List Text → Command
run_command layout schedule cycles objects = record { needs = need layout layout_file ∷ (schedule_needs schedule ++ object_needs objects); outcome = run_outcome cycles }

abbrev pub read_run : List Text → Option Command
read_run (layout ∷ schedule ∷ cycles ∷ objects) = option_map (λ n. run_command layout (file_named schedule) n objects) (read_cycles cycles)
read_run _ = None
