-- The commands of `sancus`.
use Rattle.std.specs.Prelude.{List, [], ◌∷◌, codes}
use Rattle.cli_calls.specs.CommandNames.{NamedCommand}
use Rattle.cli_calls.specs.Command.{runs}
use Rattle.cli_calls.specs.ImageRuns.{read_image_run}
use Rattle.cli_calls.specs.Linking.{read_objects}
use Rattle.sm_cli.specs.KeyCommand.{read_key}
use Rattle.sm_cli.specs.DisCommand.{read_dis}
use Rattle.sm_cli.specs.ChallengeCommand.{read_challenge}
use Rattle.sm_cli.specs.VendorCommand.{read_vendor}
use Rattle.sm_cli.specs.CheckCommand.{read_check}
use Rattle.sm_cli.specs.BalanceCommand.{read_balance}
use Rattle.sm_cli.specs.LinkCommand.{linked_image_text}
use Rattle.sm_cli.specs.RunCommand.{read_run}
use Rattle.sm_cli.specs.LoneCommand.{read_lone}
use Rattle.sm_cli.specs.MonitorCommand.{read_monitor}
use Rattle.sm_cli.specs.AsmCommand.{read_asm}
use Rattle.sm_cli.specs.MakeCommand.{read_make}

abbrev pub sancus_commands : List NamedCommand
sancus_commands =
    record { name = codes "image"; least = 3; most = 3; asks = read_image_run runs }
    ∷ record { name = codes "key"; least = 2; most = 2; asks = read_key }
    ∷ record { name = codes "dis"; least = 3; most = 3; asks = read_dis }
    ∷ record { name = codes "challenge"; least = 1; most = 1; asks = read_challenge }
    ∷ record { name = codes "vendor"; least = 5; most = 5; asks = read_vendor }
    ∷ record { name = codes "check"; least = 2; most = 2; asks = read_check }
    ∷ record { name = codes "balance"; least = 3; most = 3; asks = read_balance }
    ∷ record { name = codes "link"; least = 2; most = 65; asks = read_objects linked_image_text }
    ∷ record { name = codes "run"; least = 4; most = 67; asks = read_run }
    -- more than fourteen pairs name some register twice
    ∷ record { name = codes "lone"; least = 3; most = 17; asks = read_lone }
    ∷ record { name = codes "monitor"; least = 3; most = 3; asks = read_monitor }
    ∷ record { name = codes "asm"; least = 1; most = 1; asks = read_asm }
    ∷ record { name = codes "make"; least = 1; most = 1; asks = read_make }
    ∷ []
