-- Laws that join commands. Each is what a function of this crate ensures.
use Rattle.std.specs.Prelude.{◌≡◌, ◌⊎◌, ◌↔◌, ℕ, ◌<◌, ◌^◌, List, slice_get, Option, Some}
use Rattle.sm_io.specs.Files.{FileMap}
use Rattle.mod_layout.specs.declared.Module.{Module}
use Rattle.mod_layout.specs.Table.{module_of}
use Rattle.mod_keys.specs.Mac.{short_hmac}
use Rattle.image_text.specs.Image.{Image, IsImage}
use Rattle.image_text.specs.ImageText.{image_text}
use Rattle.schedule_file.specs.declared.Entry.{Entry}
use Rattle.linker.specs.Laws.{AreBytes}
use Rattle.vendor_tool.specs.declared.Challenge.{Challenge}
use Rattle.vendor_tool.specs.Laws.{StandsInPlace}
use Rattle.written_machine.specs.Peers.{DifferInData, Peers}
use Rattle.written_machine.specs.Trace.{trace}
use Rattle.written_machine.specs.View.{boot}
use Rattle.machine_replies.specs.Laws.{sent_after}
use Rattle.cli_files.specs.declared.answers.Status.TheVariants.{Done}
use Rattle.cli_files.specs.Files.{IsScheduleOf, Holds, need, image_with, an_image, challenges_file, the_challenges}
use Rattle.cli_calls.specs.Words.{Text}
use Rattle.cli_calls.specs.Command.{Answer, Command, IsAnswer, trace_answer}
use Rattle.sm_cli.specs.BalanceCommand.{balance_command}
use Rattle.sm_cli.specs.CheckCommand.{check_command}
use Rattle.sm_cli.specs.ImageCommand.{image_command}
use Rattle.sm_cli.specs.LinkCommand.{link_command, text_answer}
use Rattle.sm_cli.specs.RunCommand.{run_command}
use Rattle.sm_cli.specs.VendorCommand.{vendor_command, key_under}

-- every file is bytes
abbrev pub AreFiles : FileMap → Type 0
AreFiles files = (name bytes : List ℕ) → files name ≡ Some bytes → AreBytes bytes

-- ---- objects, their image, and its check

-- what `link` wrote is the text of this image, and `run` of the same files tells its trace, on every schedule
pub record IsLinkedText (files : FileMap) (layout : Text) (objects : List Text) (written : Answer) : Type 0 where
  pub value : Image
  pub image : IsImage value
  pub text : written ≡ text_answer value
  pub runs : (schedule : Option Text) (cycles : ℕ) (entries : List Entry) → IsScheduleOf (Some files) schedule entries →
      IsAnswer (Some files) (run_command layout schedule cycles objects) (trace_answer value entries cycles)

-- What `link` writes of files is the text of an image, which `run` of them runs.
abbrev pub LinkWritesImages : Type 0
LinkWritesImages = (files : FileMap) (layout : Text) (objects : List Text) (written : Answer) → AreFiles files →
    IsAnswer (Some files) (link_command layout objects) written → IsLinkedText files layout objects written

-- the command is answered Done
abbrev pub EndsDone : FileMap → Command → Type 0
EndsDone files command = (answer : Answer) × IsAnswer (Some files) command answer × (answer.status ≡ Done)

-- `check` says yes of a module of an image, or `balance` does by some file of certificates
abbrev pub SaysYes : FileMap → Text → ℕ → Type 0
SaysYes files name id = EndsDone files (check_command name id) ⊎ ((arms : Text) × EndsDone files (balance_command name id arms))

-- `run` of objects and `image` of a file that is this image's text have one answer
abbrev pub RunsAlike : FileMap → Text → List Text → Image → Type 0
RunsAlike files layout objects other = (name : Text) (schedule : Option Text) (cycles : ℕ) (ran shown : Answer) → files name ≡ Some (image_text other) →
    IsAnswer (Some files) (run_command layout schedule cycles objects) ran → IsAnswer (Some files) (image_command name schedule cycles) shown → ran ≡ shown

-- Where a file is what `link` wrote, and a check says yes of a module of it, every image that differs in that module's data
-- alone is a peer, and runs as the objects do.
abbrev pub CommandsJoin : Type 0
CommandsJoin = (files : FileMap) (layout : Text) (objects : List Text) (name : Text) (id : ℕ) (value other : Image) (owner : Module) → AreFiles files →
    IsAnswer (Some files) (link_command layout objects) (text_answer value) → files name ≡ Some (image_text value) → SaysYes files name id →
    DifferInData value other id owner → Peers value other id × RunsAlike files layout objects other

-- ---- a vendor and a machine

-- in the place of each challenge stands the tag of its nonce under the key
abbrev pub AreTagged : List ℕ → List ℕ → List Challenge → Type 0
AreTagged key sent list = (i : ℕ) (challenge : Challenge) → slice_get list i ≡ Some challenge → StandsInPlace sent i (short_hmac key challenge.nonce)

-- Of the trace of a machine, on any schedule, the vendor's answer is Done exactly where the machine sent, in the place of each
-- challenge, the tag of its nonce under the key of the identity that the module has in the vendor's image.
abbrev pub VendorTells : Type 0
VendorTells = (files : FileMap) (image challenges replies : Text) (id : ℕ) (provider : List ℕ) (value ran : Image) (owner : Module)
    (list : List Challenge) (schedule : List Entry) (cycles : ℕ) (told : Answer) →
    Holds (Some files) (need image (image_with id)) (an_image value) → module_of id value.table ≡ Some owner →
    Holds (Some files) (need challenges challenges_file) (the_challenges list) →
    IsImage ran → cycles < 2 ^ 64 → files replies ≡ Some (trace ran schedule cycles) →
    IsAnswer (Some files) (vendor_command image challenges replies id provider) told →
    (told.status ≡ Done) ↔ AreTagged (key_under provider value owner) (sent_after (boot ran schedule) cycles) list
