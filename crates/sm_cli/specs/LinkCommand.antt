-- `link LAYOUT OBJ..`: the text of the image that objects link to.
use Rattle.std.specs.Prelude.{ℕ, List}
use Rattle.elf_objects.specs.Object.{ObjectValue}
use Rattle.image_text.specs.Image.{Image}
use Rattle.image_text.specs.ImageText.{image_text}
use Rattle.layout_file.specs.Values.{LayoutValue}
use Rattle.linker.specs.Image.{linked_image}
use Rattle.cli_files.specs.declared.answers.Status.TheVariants as status
use Rattle.cli_calls.specs.Command.{Answer, Command}
use Rattle.cli_calls.specs.Linking.{objects_command}
use Rattle.cli_calls.specs.Words.{Text}

abbrev pub text_answer : Image → Answer
text_answer image = record { text = image_text image; status = status.Done }

abbrev pub linked_image_text : LayoutValue → List ObjectValue → List ℕ
linked_image_text layout objects = image_text (linked_image layout objects)

abbrev pub link_command : Text → List Text → Command
link_command layout objects = objects_command linked_image_text layout objects
