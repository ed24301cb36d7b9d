-- Which command the words of a call are.
use Rattle.std.specs.Prelude.{ℕ, List, [], ◌∷◌, Option, None, option_and_then, find}
use Rattle.std.specs.Str.{bytes_eq}
use Rattle.cli_calls.specs.Command.{Command}
use Rattle.cli_calls.specs.Words.{Text, values_within}

-- a command by its name: the fewest and the most values that may follow it, and what they ask for
pub record NamedCommand : Type 0 where
  pub name : Text
  pub least : ℕ
  pub most : ℕ
  pub asks : List Text → Option Command

-- what the words ask for, by the first of them, or none
unfoldable pub command_of : List NamedCommand → List Text → Option Command
command_of commands [] = None
command_of commands (name ∷ words) =
    option_and_then (λ command. option_and_then command.asks (values_within command.least command.most words))
    (find (λ command. bytes_eq name command.name) commands)
