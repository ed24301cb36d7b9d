-- `terms IMAGE ID TERMS ARMS`: of the terms that an owner would grant, those under which a module is judged yes.
use Rattle.std.specs.Prelude.{ℕ, List, Option}
use Rattle.cli_calls.specs.Command.{Command, offers}
use Rattle.cli_calls.specs.Words.{Text}
use Rattle.lab_cli.specs.UnderTerms.{judged_command, read_judged}

abbrev pub offer_command : Text → ℕ → Text → Option Text → Command
offer_command name id terms arms = judged_command offers name id terms arms

abbrev pub read_offer : List Text → Option Command
read_offer words = read_judged offers words
