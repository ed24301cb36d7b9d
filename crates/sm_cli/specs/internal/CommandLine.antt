-- What the code's own invariants say of: CommandLine.
use Rattle.std.specs.Prelude.{◌≡◌, ◌≤◌, ◌%◌, length, map}
use Rattle.std.specs.Option.{option_copied}
use Rattle.sm_cli.specs.declared.commands.CommandLine.{CommandLine}
use Rattle.sm_cli.specs.declared.commands.CommandLine.TheVariants as line
use Rattle.cli_calls.specs.declared.values.TheConstants.{MAX_CYCLES}
use Rattle.cli_calls.specs.Command.{Command}
use Rattle.sm_cli.specs.Pairs.{core_with}
use Rattle.sm_cli.specs.ImageCommand.{image_command}
use Rattle.sm_cli.specs.KeyCommand.{key_command}
use Rattle.sm_cli.specs.DisCommand.{dis_command}
use Rattle.sm_cli.specs.ChallengeCommand.{challenge_command}
use Rattle.sm_cli.specs.VendorCommand.{vendor_command}
use Rattle.sm_cli.specs.CheckCommand.{check_command}
use Rattle.sm_cli.specs.BalanceCommand.{balance_command}
use Rattle.sm_cli.specs.LinkCommand.{link_command}
use Rattle.sm_cli.specs.internal.RunCommand.{run_asked}
use Rattle.sm_cli.specs.LoneCommand.{lone_command}
use Rattle.sm_cli.specs.MonitorCommand.{monitor_command}
use Rattle.sm_cli.specs.AsmCommand.{asm_command}
use Rattle.sm_cli.specs.MakeCommand.{make_command}

-- what the program's value asks for
abbrev pub asked : CommandLine → Command
asked (line.Image c) = image_command c.image.now (option_copied c.schedule) c.cycles
asked (line.Key c) = key_command c.image.now c.id
asked (line.Dis c) = dis_command c.image.now c.start c.end
asked (line.Challenge c) = challenge_command c.challenges.now
asked (line.Vendor c) = vendor_command c.image.now c.challenges.now c.trace.now c.id c.provider
asked (line.Check c) = check_command c.image.now c.id
asked (line.Balance c) = balance_command c.image.now c.id c.arms.now
asked (line.Link c) = link_command c.layout.now (map (λ o. o.now) c.objects.items)
asked (line.Run c) = run_asked c
asked (line.Lone c) = lone_command c.image.now c.id c.limit (core_with c.pairs.items)
asked (line.Monitor c) = monitor_command c.image.now (option_copied c.schedule) c.script.now
asked (line.Asm c) = asm_command c.source.now
asked (line.Make c) = make_command c.seed

-- its numbers are within their bounds
abbrev pub IsCommandBounded : CommandLine → Type 0
IsCommandBounded (line.Image c) = c.cycles ≤ MAX_CYCLES
IsCommandBounded (line.Dis c) = c.start % 2 ≡ 0
IsCommandBounded (line.Link c) = length c.objects.items ≤ 64
IsCommandBounded (line.Run c) = (length c.objects.items ≤ 64) × (c.cycles ≤ MAX_CYCLES)
IsCommandBounded (line.Lone c) = c.limit ≤ MAX_CYCLES
IsCommandBounded _ = Unit {0}
