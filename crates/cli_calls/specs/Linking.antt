-- What comes of a layout and objects.
use Rattle.std.specs.Prelude.{ℕ, List, [], ◌∷◌, Option, Some, None}
use Rattle.std.specs.Option.{option_map_or}
use Rattle.image_text.specs.Image.{Image}
use Rattle.layout_file.specs.Values.{LayoutValue}
use Rattle.elf_objects.specs.Object.{ObjectValue}
use Rattle.linker.specs.Image.{linked_image}
use Rattle.linker.specs.Refusals.{link_fault_of}
use Rattle.cli_files.specs.Files.{Held, a_layout, an_object, layout_file, need, object_needs}
use Rattle.cli_files.specs.SymbolNames.{symbol_name}
use Rattle.cli_calls.specs.Command.{Command, Outcome, done, nothing, refuses}
use Rattle.cli_calls.specs.Words.{Text}

-- an outcome by the objects that files hold
abbrev pub with_objects : (List ObjectValue → Outcome) → List Held → Outcome
with_objects outcome [] = outcome []
with_objects outcome (an_object object ∷ more) = with_objects (λ objects. outcome (object ∷ objects)) more
with_objects outcome _ = nothing

-- what comes of linking: an outcome by the image, or the first refusal
abbrev pub linked : LayoutValue → List ObjectValue → (Image → Outcome) → Outcome
linked layout objects outcome = option_map_or (λ fault. refuses fault (symbol_name layout objects fault)) (link_fault_of layout objects) (outcome (linked_image layout objects))

-- ---- `LAYOUT OBJ..`: a text that is written of a layout and the objects that link

abbrev pub objects_outcome : (LayoutValue → List ObjectValue → List ℕ) → List Held → Outcome
objects_outcome text (a_layout layout ∷ more) = with_objects (λ objects. linked layout objects (λ image. done (text layout objects))) more
objects_outcome text _ = nothing

abbrev pub objects_command : (LayoutValue → List ObjectValue → List ℕ) → Text → List Text → Command
objects_command text layout objects = record { needs = need layout layout_file ∷ object_needs objects; outcome = objects_outcome text }

abbrev pub read_objects : (LayoutValue → List ObjectValue → List ℕ) → List Text → Option Command
read_objects text (layout ∷ objects) = Some (objects_command text layout objects)
read_objects text [] = None
