-- `key IMAGE ID`: the key of a module's vendor, and the module's.
use Rattle.std.specs.Prelude.{ℕ, List, [], ◌∷◌, ◌++◌, Option, None, codes}
use Rattle.std.specs.Option.{option_map}
use Rattle.texts.specs.Hexadecimals.{hex_key}
use Rattle.mod_layout.specs.declared.Module.{Module}
use Rattle.mod_keys.specs.Keys.{provider_key, module_key}
use Rattle.image_text.specs.Image.{Image}
use Rattle.written_machine.specs.Peers.{section}
use Rattle.cli_calls.specs.Words.{Text}
use Rattle.cli_calls.specs.Ids.{id_of}
use Rattle.cli_files.specs.Files.{Held, image_with, need}
use Rattle.cli_calls.specs.Command.{Outcome, done, nothing, Command}
use Rattle.sm_cli.specs.ModuleCommand.{with_chosen}

-- the line of a key
abbrev pub named_key_line : List ℕ → List ℕ → List ℕ
named_key_line name key = name ++ (hex_key key ++ codes "\n")

abbrev pub two_lines : List ℕ → List ℕ → List ℕ
two_lines provider key = named_key_line (codes "provider ") provider ++ named_key_line (codes "module ") key

abbrev pub key_lines : Image → Module → List ℕ
key_lines value m = two_lines (provider_key value.node_key m.vendor) (module_key value.node_key m (section m.text value.memory))

abbrev pub key_outcome : Image → Module → List Held → Outcome
key_outcome value m [] = done (key_lines value m)
key_outcome value m _ = nothing

abbrev pub key_command : Text → ℕ → Command
key_command name id = record { needs = need name (image_with id) ∷ []; outcome = with_chosen id key_outcome }

abbrev pub read_key : List Text → Option Command
read_key (name ∷ id ∷ []) = option_map (key_command name) (id_of id)
read_key _ = None
