-- `balance IMAGE ID ARMS`: the verdict of a module's text, with certificates of balanced branches.
use Rattle.std.specs.Prelude.{ℕ, List, [], ◌∷◌, Option, None}
use Rattle.std.specs.Option.{option_map}
use Rattle.flow_rule.specs.Terms.{no_terms}
use Rattle.mod_layout.specs.declared.Module.{Module}
use Rattle.image_text.specs.Image.{Image}
use Rattle.written_machine.specs.Peers.{section}
use Rattle.cli_calls.specs.Words.{Text}
use Rattle.cli_calls.specs.Ids.{id_of}
use Rattle.cli_files.specs.Files.{Held, certificates, arms_file, image_with, need}
use Rattle.cli_calls.specs.Command.{Outcome, judges, nothing, Command}
use Rattle.sm_cli.specs.ModuleCommand.{with_chosen}

abbrev pub balance_outcome : Image → Module → List Held → Outcome
balance_outcome value m (certificates arms ∷ []) = judges no_terms m (section m.text value.memory) arms
balance_outcome value m _ = nothing

abbrev pub balance_command : Text → ℕ → Text → Command
balance_command name id arms = record { needs = need name (image_with id) ∷ need arms arms_file ∷ []; outcome = with_chosen id balance_outcome }

abbrev pub read_balance : List Text → Option Command
read_balance (name ∷ id ∷ arms ∷ []) = option_map (λ n. balance_command name n arms) (id_of id)
read_balance _ = None
