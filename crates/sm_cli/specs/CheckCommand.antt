-- `check IMAGE ID`: the verdict of a module's text.
use Rattle.std.specs.Prelude.{ℕ, List, [], ◌∷◌, Option, None}
use Rattle.std.specs.Option.{option_map}
use Rattle.flow_rule.specs.Terms.{no_terms}
use Rattle.mod_layout.specs.declared.Module.{Module}
use Rattle.image_text.specs.Image.{Image}
use Rattle.written_machine.specs.Peers.{section}
use Rattle.cli_calls.specs.Words.{Text}
use Rattle.cli_calls.specs.Ids.{id_of}
use Rattle.cli_files.specs.Files.{Held, image_with, need}
use Rattle.cli_calls.specs.Command.{Outcome, judges, nothing, Command}
use Rattle.sm_cli.specs.ModuleCommand.{with_chosen}

abbrev pub check_outcome : Image → Module → List Held → Outcome
check_outcome value m [] = judges no_terms m (section m.text value.memory) []
check_outcome value m _ = nothing

abbrev pub check_command : Text → ℕ → Command
check_command name id = record { needs = need name (image_with id) ∷ []; outcome = with_chosen id check_outcome }

abbrev pub read_check : List Text → Option Command
read_check (name ∷ id ∷ []) = option_map (check_command name) (id_of id)
read_check _ = None
