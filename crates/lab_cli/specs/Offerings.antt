-- Offerings: the words and files by which a module of an image is offered terms.
use Rattle.std.specs.Prelude.{◌≡◌, ℕ, Bool, List, Option, Some, filter}
use Rattle.sm_io.specs.Files.{FileMap}
use Rattle.mod_layout.specs.declared.Module.{Module}
use Rattle.mod_layout.specs.Table.{module_of}
use Rattle.arm_balance.specs.declared.Arm.{Arm}
use Rattle.flow_rule.specs.declared.Verdict.TheVariants.{Yes}
use Rattle.flow_rule.specs.Arms.{VerdictUnder}
use Rattle.image_text.specs.Image.{Image}
use Rattle.written_machine.specs.Peers.{section}
use Rattle.terms_file.specs.declared.Term.{Term}
use Rattle.terms_file.specs.Terms.{terms_text}
use Rattle.cli_files.specs.Files.{an_image, the_terms, image_with, terms_file, need, Holds}
use Rattle.cli_calls.specs.Offers.{terms_by}
use Rattle.cli_calls.specs.Words.{Text}
use Rattle.cli_calls.specs.CommandNames.{command_of}
use Rattle.lab_cli.specs.CommandLine.{lab_commands}
use Rattle.lab_cli.specs.TermsCommand.{offer_command}

-- the words are `terms` with this module's id, files of this image and these terms, and certificates or none
pub record IsOffering (words : List Text) (files : Option FileMap) (value : Image) (owner : Module)
    (granted : List Term) : Type 0 where
  pub map : FileMap
  pub told : files ≡ Some map
  pub name : Text
  pub id : ℕ
  pub terms_name : Text
  pub arms : Option Text
  pub command : command_of lab_commands words ≡ Some (offer_command name id terms_name arms)
  pub image_is : Holds (Some map) (need name (image_with id)) (an_image value)
  pub terms_are : Holds (Some map) (need terms_name terms_file) (the_terms granted)
  pub owned : module_of id value.table ≡ Some owner

-- a text with P says some of the granted terms, in their order, under which the verdict of the module's text is yes
pub record AreAccepted (value : Image) (owner : Module) (granted : List Term) (P : List ℕ → Type 0) : Type 0 where
  pub terms : List Term
  pub text : P (terms_text terms)
  pub test : Term → Bool
  pub granted_ones : terms ≡ filter test granted
  pub arms : List Arm
  pub accepted : VerdictUnder (terms_by terms) owner (section owner.text value.memory) arms Yes
