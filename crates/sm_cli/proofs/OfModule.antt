-- What comes of a module of an image.
use Rattle.std.proofs.Common.{◌≡◌, ℕ, List, ◌∷◌, Some, ap}
use Rattle.std.specs.Option.{option_map_or}
use Rattle.mod_layout.specs.declared.Module.{Module}
use Rattle.mod_layout.specs.Table.{module_of}
use Rattle.image_text.specs.Image.{Image}
use Rattle.cli_files.specs.Files.{Held, an_image}
use Rattle.cli_calls.specs.Command.{Outcome, nothing}
use Rattle.sm_cli.specs.ModuleCommand.{with_chosen}

pub of_module : (outcome : Image → Module → List Held → Outcome) (value : Image) (id : ℕ) (m : Module) (more : List Held) → module_of id value.table ≡ Some m
    → with_chosen id outcome (an_image value ∷ more) ≡ outcome value m more
of_module outcome value id m more e = ap (λ o. option_map_or (λ n. outcome value n more) o nothing) e
