-- Something comes of the files of a command.
use Rattle.std.proofs.Common.{◌≡◌, ℕ, Bool, true, false, if◌then◌else◌, List, [], ◌∷◌, Option, Some, None, option_map, ◌∙◌, subst}
use Rattle.std.specs.Prelude.{cond, find, option_and_then}
use Rattle.std.specs.Str.{bytes_eq}
use Rattle.sm_io.specs.Files.{FileMap}
use Rattle.image_text.specs.Image.{Image}
use Rattle.schedule_file.specs.declared.Entry.{Entry}
use Rattle.layout_file.specs.Values.{LayoutValue}
use Rattle.elf_objects.specs.Object.{ObjectValue}
use Rattle.link_symbols.specs.declared.fault.LinkFault.{LinkFault}
use Rattle.linker.specs.Refusals.{link_fault_of}
use Rattle.cli_files.specs.Files.{Held, a_layout, a_schedule, an_image, HoldAll}
use Rattle.cli_calls.specs.Command.{Command, Outcome, Comes, done, nothing}
use Rattle.cli_calls.specs.ImageRuns.{image_run_command, read_image_run}
use Rattle.cli_calls.specs.Linking.{linked, objects_command, read_objects}
use Rattle.cli_calls.specs.CommandNames.{NamedCommand, command_of}
use Rattle.cli_calls.specs.Values.{read_cycles, file_named}
use Rattle.cli_calls.specs.Words.{Text, values_within}
use Rattle.cli_calls.proofs.Given.{linked_by, some_objects}

-- what files that serve the command hold comes to something
abbrev pub Sound : Command → Type 0
Sound command = (map : FileMap) (helds : List Held) → HoldAll (Some map) command.needs helds → command.outcome helds ≡ nothing → ⊥

-- objects link, or they do not
pub some_linked : (layout : LayoutValue) (objects : List ObjectValue) (outcome : Image → Outcome) (fault : Option LinkFault) → ((image : Image) → outcome image ≡ nothing → ⊥)
    → linked_by layout objects outcome fault ≡ nothing → ⊥
some_linked layout objects outcome None s e = s _ e
some_linked layout objects outcome (Some fault) s e = cc

-- a text of a layout and objects
sound_objects : (text : LayoutValue → List ObjectValue → List ℕ) (layout : Text) (objects : List Text) → Sound (objects_command text layout objects)
sound_objects text name objects map [] h e = h
sound_objects text name objects map (a_layout layout ∷ more) h e =
    some_objects (Some map) (λ own. linked layout own (λ image. done (text layout own))) objects more h.1
    (λ own. some_linked layout own (λ image. done (text layout own)) (link_fault_of layout own) (λ image e. cc)) e
sound_objects text name objects map (held ∷ more) h e = h.0.is

-- what is told of an image
abbrev pub IsSomething : (Image → List Entry → ℕ → Outcome) → Type 0
IsSomething told = (value : Image) (entries : List Entry) (cycles : ℕ) → told value entries cycles ≡ nothing → ⊥

sound_image_run : (told : Image → List Entry → ℕ → Outcome) → IsSomething told → (name : Text) (schedule : Option Text) (cycles : ℕ) → Sound (image_run_command told name schedule cycles)
sound_image_run told some name schedule cycles map [] h e = h
sound_image_run told some name schedule cycles map (an_image value ∷ []) h e = some value [] cycles e
sound_image_run told some name schedule cycles map (an_image value ∷ a_schedule entries ∷ more) h e = some value entries cycles e
sound_image_run told some name None cycles map (an_image value ∷ second ∷ more) h e = h.1
sound_image_run told some name (Some own) cycles map (an_image value ∷ second ∷ more) h e = h.1.0.is
sound_image_run told some name schedule cycles map (held ∷ more) h e = h.0.is

-- ---- the command of words

abbrev pub IfSound : Option Command → Type 0
IfSound o = (command : Command) → o ≡ Some command → Sound command

pub if_none : IfSound None
if_none command e = absurd cc

pub if_some : (own : Command) → Sound own → IfSound (Some own)
if_some own s command e = let same : own ≡ command = cc in subst Sound same s

pub if_map : {A : Type 0} (f : A → Command) (o : Option A) → ((a : A) → Sound (f a)) → IfSound (option_map f o)
if_map f None s = if_none
if_map f (Some a) s = if_some (f a) (s a)

pub if_then : {A : Type 0} (f : A → Option Command) (o : Option A) → ((a : A) → IfSound (f a)) → IfSound (option_and_then f o)
if_then f None s = if_none
if_then f (Some a) s = s a

pub if_else : (b : Bool) (x y : Option Command) → IfSound x → IfSound y → IfSound (if b then x else y)
if_else true x y s t = s
if_else false x y s t = t

pub of_objects : (text : LayoutValue → List ObjectValue → List ℕ) (vs : List Text) → IfSound (read_objects text vs)
of_objects text (layout ∷ objects) = if_some (objects_command text layout objects) (sound_objects text layout objects)
of_objects text [] = if_none

pub of_image_run : (told : Image → List Entry → ℕ → Outcome) → IsSomething told → (vs : List Text) → IfSound (read_image_run told vs)
of_image_run told some (name ∷ schedule ∷ cycles ∷ []) = if_map (image_run_command told name (file_named schedule)) (read_cycles cycles) (sound_image_run told some name (file_named schedule))
of_image_run told some _ = if_none

-- ---- the commands of a program

-- what each of these is given is sound
abbrev pub AllSound : List NamedCommand → Type 0
AllSound [] = Unit {0}
AllSound (command ∷ commands) = ((vs : List Text) → IfSound (command.asks vs)) × AllSound commands

-- what a command is, of the words after its name
abbrev asked_by : List Text → NamedCommand → Option Command
asked_by words command = option_and_then command.asks (values_within command.least command.most words)

by_name : (commands : List NamedCommand) (name : Text) (words : List Text) → AllSound commands
    → IfSound (option_and_then (asked_by words) (find (λ command. bytes_eq name command.name) commands))
by_name [] name words s = if_none
by_name (command ∷ commands) name words s = by (bytes_eq name command.name) (by_name commands name words s.1)
  where
    more : Option NamedCommand
    more = find (λ other. bytes_eq name other.name) commands

    by : (b : Bool) → IfSound (option_and_then (asked_by words) more)
        → IfSound (option_and_then (asked_by words) (cond b (Some command) more))
    by true rest = if_then command.asks (values_within command.least command.most words) s.0
    by false rest = rest

-- what comes of the files of a command line is something
pub something_comes : (commands : List NamedCommand) → AllSound commands → (words : List Text) (map : FileMap)
    (command : Command) (outcome : Outcome)
    → command_of commands words ≡ Some command → Comes (Some map) command outcome → outcome ≡ nothing → ⊥
unfolding command_of
something_comes commands s [] map command outcome c h e = cc
something_comes commands s (name ∷ words) map command outcome c h e =
    by_name commands name words s command c map h.helds h.hold (h.is ∙ e)
