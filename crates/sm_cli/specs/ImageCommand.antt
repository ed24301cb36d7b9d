-- `image IMAGE SCHEDULE CYCLES`: the outside trace of an image.
use Rattle.std.specs.Prelude.{ℕ, Option}
use Rattle.cli_calls.specs.Command.{Command, runs}
use Rattle.cli_calls.specs.ImageRuns.{image_run_command}
use Rattle.cli_calls.specs.Words.{Text}

abbrev pub image_command : Text → Option Text → ℕ → Command
image_command name schedule cycles = image_run_command runs name schedule cycles
