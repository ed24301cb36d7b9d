-- The files that a command needs: what they hold, and why one does not serve.
use Rattle.std.specs.Prelude.{◌≡◌, ℕ, ◌<◌, ◌≤◌, List, [], ◌∷◌, length, map, Option, Some, None, option_to_list, IfSome, IsSomeAnd, is_some, true, ◌⊎◌, Ok, Err}
use Rattle.sm_io.specs.Files.{FileMap}
use Rattle.mod_layout.specs.Table.{module_of}
use Rattle.image_text.specs.Image.{Image, IsImage}
use Rattle.image_text.specs.ImageText.{image_text}
use Rattle.image_text.specs.Refusal.{refusal_of}
use Rattle.schedule_file.specs.declared.Entry.{Entry}
use Rattle.schedule_file.specs.Reading.{schedule_of}
use Rattle.vendor_tool.specs.declared.Challenge.{Challenge}
use Rattle.vendor_tool.specs.ChallengeText.{challenges_of}
use Rattle.vendor_tool.specs.Replies.{replies_of}
use Rattle.arm_balance.specs.declared.Arm.{Arm}
use Rattle.arm_balance.specs.Certificates.{arms_of}
use Rattle.terms_file.specs.declared.Term.{Term}
use Rattle.terms_file.specs.Terms.{terms_of}
use Rattle.layout_file.specs.Layout.{LayoutOf}
use Rattle.layout_file.specs.Values.{LayoutValue}
use Rattle.elf_objects.specs.Object.{ObjectValue, IsObject, elf_fault_of}
use Rattle.written_machine.specs.declared.ScriptLine.{ScriptLine}
use Rattle.script_file.specs.Reading.{script_of}
use Rattle.asm_text.specs.Assembly.{assembled}
use Rattle.asm_text.specs.Parts.{UnitValue}
use Rattle.cli_files.specs.declared.answers.FileFault.{FileFault}
use Rattle.cli_files.specs.declared.answers.FileFault.TheVariants as fault

-- what a command needs a file to be
pub data Kind : Type 0 where
  image_file : Kind
  -- an image that holds a module with this id
  image_with : (id : ℕ) → Kind
  schedule_file : Kind
  challenges_file : Kind
  trace_file : Kind
  -- certificates of balanced branches
  arms_file : Kind
  -- what a module may answer, and which of its data are public
  terms_file : Kind
  layout_file : Kind
  object_file : Kind
  script_file : Kind
  -- a program for the assembler
  source_file : Kind

-- what a file that serves holds
pub data Held : Type 0 where
  an_image : (value : Image) → Held
  a_schedule : (entries : List Entry) → Held
  the_challenges : (list : List Challenge) → Held
  -- the bytes that a trace says were sent
  the_replies : (sent : List ℕ) → Held
  certificates : (arms : List Arm) → Held
  the_terms : (terms : List Term) → Held
  a_layout : (layout : LayoutValue) → Held
  an_object : (object : ObjectValue) → Held
  a_script : (script : List ScriptLine) → Held
  a_unit : (unit : UnitValue) → Held

-- the bytes are the text of this image
pub record IsTextOf (bytes : List ℕ) (value : Image) : Type 0 where
  pub image : IsImage value
  pub text : bytes ≡ image_text value

-- bytes of this kind hold this
abbrev pub IsHeld : Kind → List ℕ → Held → Type 0
IsHeld image_file bytes (an_image value) = IsTextOf bytes value
IsHeld (image_with id) bytes (an_image value) = IsTextOf bytes value × (is_some (module_of id value.table) ≡ true)
IsHeld schedule_file bytes (a_schedule entries) = schedule_of bytes ≡ Ok entries
IsHeld challenges_file bytes (the_challenges list) = challenges_of bytes ≡ Ok list
IsHeld trace_file bytes (the_replies sent) = replies_of bytes ≡ Ok sent
IsHeld arms_file bytes (certificates arms) = arms_of bytes ≡ Ok arms
IsHeld terms_file bytes (the_terms terms) = terms_of bytes ≡ Ok terms
IsHeld layout_file bytes (a_layout layout) = LayoutOf bytes ≡ Ok layout
IsHeld object_file bytes (an_object object) = IsObject object × (object.file ≡ bytes)
IsHeld script_file bytes (a_script script) = script_of bytes ≡ Ok script
IsHeld source_file bytes (a_unit unit) = assembled bytes ≡ Ok unit
IsHeld _ bytes _ = ⊥

-- an image's bytes hold no module with this id
pub record HasNoModule (bytes : List ℕ) (id : ℕ) : Type 0 where
  pub value : Image
  pub is : IsTextOf bytes value
  pub none : module_of id value.table ≡ None

-- bytes are none of this kind, and this is why
abbrev pub IsRefused : Kind → List ℕ → FileFault → Type 0
IsRefused image_file bytes (fault.Image refusal) = refusal_of bytes ≡ Some refusal
IsRefused (image_with id) bytes (fault.Image refusal) = refusal_of bytes ≡ Some refusal
IsRefused (image_with id) bytes (fault.NoModule other) = (other ≡ id) × HasNoModule bytes id
IsRefused schedule_file bytes (fault.Schedule refusal) = schedule_of bytes ≡ Err refusal
IsRefused challenges_file bytes (fault.Challenges refusal) = challenges_of bytes ≡ Err refusal
IsRefused trace_file bytes (fault.Trace refusal) = replies_of bytes ≡ Err refusal
IsRefused arms_file bytes (fault.Arms refusal) = arms_of bytes ≡ Err refusal
IsRefused terms_file bytes (fault.Terms refusal) = terms_of bytes ≡ Err refusal
IsRefused layout_file bytes (fault.Layout refusal) = LayoutOf bytes ≡ Err refusal
IsRefused object_file bytes (fault.Object refusal) = elf_fault_of bytes ≡ Some refusal
IsRefused script_file bytes (fault.Script refusal) = script_of bytes ≡ Err refusal
IsRefused source_file bytes (fault.Source refusal) = assembled bytes ≡ Err refusal
IsRefused _ bytes _ = ⊥

-- a file has at most so many bytes
abbrev pub most_bytes : ℕ
most_bytes = 1048576

-- a file, or its absence, has this fault as this kind
abbrev pub HasFault : Kind → Option (List ℕ) → FileFault → Type 0
HasFault kind file fault.Absent = file ≡ None
HasFault kind file fault.TooLong = IsSomeAnd file (λ bytes. most_bytes < length bytes)
HasFault kind file fault = IsSomeAnd file (λ bytes. (length bytes ≤ most_bytes) × IsRefused kind bytes fault)

pub record Need : Type 0 where
  pub name : List ℕ
  pub kind : Kind

abbrev pub need : List ℕ → Kind → Need
need name kind = record { name = name; kind = kind }

-- the file that is needed serves, as far as files are told, and holds this
pub record Holds (files : Option FileMap) (wanted : Need) (held : Held) : Type 0 where
  pub bytes : List ℕ
  pub file : IfSome files (λ map. map wanted.name ≡ Some bytes)
  pub short : length bytes ≤ most_bytes
  pub is : IsHeld wanted.kind bytes held

abbrev pub IsServed : Option FileMap → Need → Type 0
IsServed files wanted = (held : Held) × Holds files wanted held

-- the files that are needed serve, and hold these, one each
abbrev pub HoldAll : Option FileMap → List Need → List Held → Type 0
HoldAll files [] [] = Unit {0}
HoldAll files (wanted ∷ needs) (held ∷ helds) = Holds files wanted held × HoldAll files needs helds
HoldAll files _ _ = ⊥

-- the first file that does not serve has this name and this fault
abbrev pub IsFirstFault : Option FileMap → List Need → List ℕ → FileFault → Type 0
IsFirstFault files [] name fault = ⊥
IsFirstFault files (wanted ∷ needs) name fault =
    ((wanted.name ≡ name) × IfSome files (λ map. HasFault wanted.kind (map name) fault))
    ⊎ (IsServed files wanted × IsFirstFault files needs name fault)

-- a file of this name is needed, and every file before it serves
abbrev pub IsReached : Option FileMap → List Need → List ℕ → Type 0
IsReached files [] name = ⊥
IsReached files (wanted ∷ needs) name = (wanted.name ≡ name) ⊎ (IsServed files wanted × IsReached files needs name)

-- the file of a schedule; none where no name is given
abbrev pub schedule_needs : Option (List ℕ) → List Need
schedule_needs name = map (λ n. need n schedule_file) (option_to_list name)

-- the file of a schedule holds these entries; with no file there are none
abbrev pub IsScheduleOf : Option FileMap → Option (List ℕ) → List Entry → Type 0
IsScheduleOf files None entries = entries ≡ []
IsScheduleOf files (Some name) entries = Holds files (need name schedule_file) (a_schedule entries)

-- the files of objects
abbrev pub object_needs : List (List ℕ) → List Need
object_needs names = map (λ name. need name object_file) names
