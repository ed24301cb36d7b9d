-- What comes of a module of an image.
use Rattle.std.specs.Prelude.{ℕ, List, ◌∷◌}
use Rattle.std.specs.Option.{option_map_or}
use Rattle.mod_layout.specs.declared.Module.{Module}
use Rattle.mod_layout.specs.Table.{module_of}
use Rattle.image_text.specs.Image.{Image}
use Rattle.cli_files.specs.Files.{Held, an_image}
use Rattle.cli_calls.specs.Command.{Outcome, nothing}

-- an outcome by the image, whose file comes first, by its module with this id, and by what the other files hold
abbrev pub with_chosen : ℕ → (Image → Module → List Held → Outcome) → List Held → Outcome
with_chosen id outcome (an_image value ∷ more) = option_map_or (λ m. outcome value m more) (module_of id value.table) nothing
with_chosen id outcome _ = nothing
