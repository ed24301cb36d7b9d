-- Sweeps: the words and files by which two images are swept.
use Rattle.std.specs.Prelude.{◌≡◌, List, Option, Some}
use Rattle.sm_io.specs.Files.{FileMap}
use Rattle.image_text.specs.Image.{Image}
use Rattle.pulse_sweep.specs.declared.Pulses.{Pulses}
use Rattle.cli_files.specs.Files.{an_image, image_file, need, Holds}
use Rattle.cli_calls.specs.Words.{Text}
use Rattle.cli_calls.specs.CommandNames.{command_of}
use Rattle.lab_cli.specs.CommandLine.{lab_commands}
use Rattle.lab_cli.specs.SweepCommand.{sweep_command}

-- the words are `sweep` with these files, which hold these images
pub record IsSweep (words : List Text) (files : Option FileMap) (first second : Image) : Type 0 where
  pub map : FileMap
  pub told : files ≡ Some map
  pub first_name : Text
  pub second_name : Text
  pub pulses : Pulses
  pub command : command_of lab_commands words ≡ Some (sweep_command first_name second_name pulses)
  pub first_is : Holds (Some map) (need first_name image_file) (an_image first)
  pub second_is : Holds (Some map) (need second_name image_file) (an_image second)
