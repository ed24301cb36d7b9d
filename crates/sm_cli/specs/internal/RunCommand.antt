-- What the code's own invariants say of: RunCommand.
use Rattle.std.specs.Prelude.{map}
use Rattle.std.specs.Option.{option_copied}
use Rattle.sm_cli.specs.declared.commands.run.RunCommand.{RunCommand}
use Rattle.cli_calls.specs.Command.{Command}
use Rattle.sm_cli.specs.RunCommand.{run_command}

-- what the program's value asks for
abbrev pub run_asked : RunCommand → Command
run_asked c = run_command c.layout.now (option_copied c.schedule) c.cycles (map (λ o. o.now) c.objects.items)
