-- `sweep IMAGE IMAGE LINE FROM TO CYCLES`: what a pulse in each cycle of a span does to two images.
use Rattle.std.specs.Prelude.{ℕ, ◌==◌, List, [], ◌∷◌, if◌then◌else◌, Option, Some, None, option_map}
use Rattle.texts.specs.Decimals.{read_decimal}
use Rattle.image_text.specs.Image.{Image}
use Rattle.schedule_file.specs.declared.TheConstants.{MAX_CYCLE}
use Rattle.pulse_sweep.specs.Sweep.{different, sweep_text}
use Rattle.pulse_sweep.specs.declared.Pulses.{Pulses}
use Rattle.cli_files.specs.declared.answers.Status.{Status}
use Rattle.cli_files.specs.declared.answers.Status.TheVariants as status
use Rattle.cli_files.specs.Files.{Held, an_image, image_file, need}
use Rattle.cli_calls.specs.Command.{Answer, Command, Outcome, gives, nothing}
use Rattle.cli_calls.specs.Values.{read_cycles}
use Rattle.cli_calls.specs.Words.{Text}
use Rattle.lab_cli.specs.declared.sweep.TheConstants.{MAX_LINE}

-- a no, where a row says that the traces differ
abbrev pub sweep_status : ℕ → Status
sweep_status n = if n == 0 then status.Done else status.CheckNo

abbrev pub sweep_answer : Pulses → Image → Image → Answer
sweep_answer pulses first second = record { text = sweep_text pulses first second; status = sweep_status (different pulses first second) }

abbrev pub sweep_outcome : Pulses → List Held → Outcome
sweep_outcome pulses (an_image first ∷ an_image second ∷ []) = gives (sweep_answer pulses first second)
sweep_outcome pulses _ = nothing

abbrev pub sweep_command : Text → Text → Pulses → Command
sweep_command first second pulses = record { needs = need first image_file ∷ need second image_file ∷ []; outcome = sweep_outcome pulses }

abbrev pub pulses_with : Option ℕ → Option ℕ → Option ℕ → Option ℕ → Option Pulses
pulses_with (Some line) (Some from) (Some to) (Some cycles) = Some (record { line = line; from = from; to = to; cycles = cycles })
pulses_with _ _ _ _ = None

-- a line, two cycles as a schedule has them, and a number of cycles
abbrev pub pulses_of : Text → Text → Text → Text → Option Pulses
pulses_of line from to cycles = pulses_with (read_decimal MAX_LINE line) (read_decimal MAX_CYCLE from) (read_decimal MAX_CYCLE to) (read_cycles cycles)

abbrev pub read_sweep : List Text → Option Command
read_sweep (first ∷ second ∷ line ∷ from ∷ to ∷ cycles ∷ []) = option_map (sweep_command first second) (pulses_of line from to cycles)
read_sweep _ = None
