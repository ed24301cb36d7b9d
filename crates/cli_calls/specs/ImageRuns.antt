-- `IMAGE SCHEDULE CYCLES`: what comes of an image that is run on a schedule.
use Rattle.std.specs.Prelude.{ℕ, List, [], ◌∷◌, Option, None, option_map}
use Rattle.image_text.specs.Image.{Image}
use Rattle.schedule_file.specs.declared.Entry.{Entry}
use Rattle.cli_files.specs.Files.{Held, an_image, a_schedule, image_file, need, schedule_needs}
use Rattle.cli_calls.specs.Command.{Command, Outcome, nothing}
use Rattle.cli_calls.specs.Values.{read_cycles, file_named}
use Rattle.cli_calls.specs.Words.{Text}

-- an outcome by the entries of a schedule, whose file comes first where there is one, and by what the other files hold
abbrev pub with_schedule : (List Entry → List Held → Outcome) → List Held → Outcome
with_schedule outcome (a_schedule entries ∷ more) = outcome entries more
with_schedule outcome more = outcome [] more

abbrev pub image_run_outcome : (Image → List Entry → ℕ → Outcome) → ℕ → List Held → Outcome
image_run_outcome told cycles (an_image value ∷ more) = with_schedule (λ entries others. told value entries cycles) more
image_run_outcome told cycles _ = nothing

abbrev pub image_run_command : (Image → List Entry → ℕ → Outcome) → Text → Option Text → ℕ → Command
image_run_command told name schedule cycles = record { needs = need name image_file ∷ schedule_needs schedule; outcome = image_run_outcome told cycles }

abbrev pub read_image_run : (Image → List Entry → ℕ → Outcome) → List Text → Option Command
read_image_run told (name ∷ schedule ∷ cycles ∷ []) = option_map (image_run_command told name (file_named schedule)) (read_cycles cycles)
read_image_run told _ = None
