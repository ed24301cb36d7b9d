-- The commands of `sancus-lab`.
use Rattle.std.specs.Prelude.{List, [], ◌∷◌, codes}
use Rattle.cli_calls.specs.CommandNames.{NamedCommand}
use Rattle.lab_cli.specs.MapCommand.{read_map}
use Rattle.lab_cli.specs.ReleasedCommand.{read_released}
use Rattle.lab_cli.specs.SweepCommand.{read_sweep}
use Rattle.lab_cli.specs.StepsCommand.{read_steps}
use Rattle.lab_cli.specs.TermsCommand.{read_offer}

abbrev pub lab_commands : List NamedCommand
lab_commands =
    record { name = codes "map"; least = 2; most = 65; asks = read_map }
    ∷ record { name = codes "released"; least = 4; most = 4; asks = read_released }
    ∷ record { name = codes "sweep"; least = 6; most = 6; asks = read_sweep }
    ∷ record { name = codes "steps"; least = 3; most = 3; asks = read_steps }
    ∷ record { name = codes "terms"; least = 4; most = 4; asks = read_offer }
    ∷ []
