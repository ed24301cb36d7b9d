-- What the code's own invariants say of: CommandLine.
use Rattle.std.specs.Prelude.{◌≤◌, length, map}
use Rattle.std.specs.Option.{option_copied}
use Rattle.cli_calls.specs.Command.{Command}
use Rattle.cli_calls.specs.ImageRuns.{image_run_command}
use Rattle.cli_calls.specs.Linking.{objects_command}
use Rattle.cli_calls.specs.declared.values.TheConstants.{MAX_CYCLES}
use Rattle.lab_cli.specs.declared.commands.LabCommand.{LabCommand}
use Rattle.lab_cli.specs.declared.commands.LabCommand.TheVariants as line
use Rattle.link_map.specs.Map.{map_text}
use Rattle.lab_cli.specs.ReleasedCommand.{released_command}
use Rattle.lab_cli.specs.SweepCommand.{sweep_command}
use Rattle.lab_cli.specs.internal.SweepCommand.{IsWithin}
use Rattle.lab_cli.specs.StepsCommand.{steps_outcome}
use Rattle.lab_cli.specs.TermsCommand.{offer_command}

-- what the program's value asks for
abbrev pub lab_asks : LabCommand → Command
lab_asks (line.Map c) = objects_command map_text c.layout.now (map (λ o. o.now) c.objects.items)
lab_asks (line.Released c) = released_command c.image.now c.id c.terms.now (option_copied c.arms)
lab_asks (line.Sweep c) = sweep_command c.first.now c.second.now c.pulses
lab_asks (line.Steps c) = image_run_command steps_outcome c.image.now (option_copied c.schedule) c.cycles
lab_asks (line.Terms c) = offer_command c.image.now c.id c.terms.now (option_copied c.arms)

-- its numbers are within their bounds
abbrev pub IsLabBounded : LabCommand → Type 0
IsLabBounded (line.Map c) = length c.objects.items ≤ 64
IsLabBounded (line.Released c) = Unit {0}
IsLabBounded (line.Sweep c) = IsWithin c.pulses
IsLabBounded (line.Steps c) = c.cycles ≤ MAX_CYCLES
IsLabBounded (line.Terms c) = Unit {0}
