-- Releases: the words and files by which a module of an image is judged under terms.
use Rattle.std.specs.Prelude.{◌≡◌, ℕ, List, Option, Some}
use Rattle.sm_io.specs.Files.{FileMap}
use Rattle.image_text.specs.Image.{Image}
use Rattle.terms_file.specs.declared.Term.{Term}
use Rattle.cli_files.specs.Files.{an_image, the_terms, image_with, terms_file, need, Holds}
use Rattle.cli_calls.specs.Words.{Text}
use Rattle.cli_calls.specs.CommandNames.{command_of}
use Rattle.lab_cli.specs.CommandLine.{lab_commands}
use Rattle.lab_cli.specs.ReleasedCommand.{released_command}

-- the words are `released` with this id, a file that holds this image, one that holds these terms, and some file of certificates or none
pub record IsRelease (words : List Text) (files : Option FileMap) (value : Image) (id : ℕ) (terms : List Term) : Type 0 where
  pub map : FileMap
  pub told : files ≡ Some map
  pub name : Text
  pub terms_name : Text
  pub arms : Option Text
  pub command : command_of lab_commands words ≡ Some (released_command name id terms_name arms)
  pub image_is : Holds (Some map) (need name (image_with id)) (an_image value)
  pub terms_are : Holds (Some map) (need terms_name terms_file) (the_terms terms)
