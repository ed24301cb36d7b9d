-- `released IMAGE ID TERMS ARMS`: the verdict of a module's text under terms, with certificates of balanced branches.
use Rattle.std.specs.Prelude.{ℕ, List, Option}
use Rattle.cli_calls.specs.Command.{Command, judges}
use Rattle.cli_calls.specs.Offers.{terms_by}
use Rattle.cli_calls.specs.Words.{Text}
use Rattle.lab_cli.specs.UnderTerms.{Judging, judged_command, read_judged}

abbrev pub judged_under : Judging
judged_under terms owner text arms = judges (terms_by terms) owner text arms

abbrev pub released_command : Text → ℕ → Text → Option Text → Command
released_command name id terms arms = judged_command judged_under name id terms arms

abbrev pub read_released : List Text → Option Command
read_released words = read_judged judged_under words
