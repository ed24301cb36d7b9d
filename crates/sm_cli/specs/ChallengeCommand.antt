-- `challenge CHALLENGES`: the schedule that sends a vendor's challenges.
use Rattle.std.specs.Prelude.{List, [], ◌∷◌, Option, Some, None}
use Rattle.vendor_tool.specs.NonceSchedule.{schedule_entries, entries_text}
use Rattle.cli_calls.specs.Words.{Text}
use Rattle.cli_files.specs.Files.{Held, the_challenges, challenges_file, need}
use Rattle.cli_calls.specs.Command.{Outcome, done, nothing, Command}

abbrev pub challenge_outcome : List Held → Outcome
challenge_outcome (the_challenges list ∷ []) = done (entries_text (schedule_entries list))
challenge_outcome _ = nothing

abbrev pub challenge_command : Text → Command
challenge_command name = record { needs = need name challenges_file ∷ []; outcome = challenge_outcome }

abbrev pub read_challenge : List Text → Option Command
read_challenge (name ∷ []) = Some (challenge_command name)
read_challenge _ = None
