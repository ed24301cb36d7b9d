-- The answers of commands.
use Rattle.std.proofs.Common.{◌≡◌, ℕ, List, [], ◌∷◌, map, Option, Some, None, refl, sym, ◌∙◌, ap}
use Rattle.sm_io.specs.Files.{FileMap}
use Rattle.image_text.specs.Image.{Image}
use Rattle.schedule_file.specs.declared.Entry.{Entry}
use Rattle.layout_file.specs.Values.{LayoutValue}
use Rattle.elf_objects.specs.Object.{ObjectValue}
use Rattle.linker.specs.Image.{linked_image}
use Rattle.linker.specs.Refusals.{link_fault_of}
use Rattle.written_machine.specs.declared.ScriptLine.{ScriptLine}
use Rattle.cli_files.specs.Files.{image_file, need, an_image, a_schedule, a_script, Holds, IsScheduleOf, script_file, layout_file, object_needs, a_layout, an_object, Held, HoldAll}
use Rattle.cli_calls.specs.Command.{gives, runs, Comes, Outcome}
use Rattle.cli_calls.specs.ImageRuns.{with_schedule}
use Rattle.cli_calls.specs.Linking.{with_objects, linked}
use Rattle.cli_calls.proofs.Given.{linked_gives}
use Rattle.sm_cli.specs.MonitorCommand.{monitor_command, script_answer}
use Rattle.sm_cli.specs.RunCommand.{run_command}

-- what a script writes on the machine of an image
pub monitor_comes : (files : Option FileMap) (name : List ℕ) (schedule : Option (List ℕ)) (script_name : List ℕ) (value : Image) (entries : List Entry) (script : List ScriptLine)
    → Holds files (need name image_file) (an_image value) → IsScheduleOf files schedule entries → Holds files (need script_name script_file) (a_script script)
    → Comes files (monitor_command name schedule script_name) (gives (script_answer value entries script))
monitor_comes files name None script_name value entries script h s k =
    record { helds = an_image value ∷ a_script script ∷ []; hold = (h, (k, tt)); is = ap (λ es. gives (script_answer value es script)) (sym s) }
monitor_comes files name (Some own) script_name value entries script h s k =
    record { helds = an_image value ∷ a_schedule entries ∷ a_script script ∷ []; hold = (h, (s, (k, tt))); is = refl }

-- objects are no schedule
pub objects_unscheduled : (outcome : List Entry → List Held → Outcome) (objects : List ObjectValue)
    → with_schedule outcome (map an_object objects) ≡ outcome [] (map an_object objects)
objects_unscheduled outcome [] = refl
objects_unscheduled outcome (object ∷ more) = refl

module _ (files : Option FileMap) (name : List ℕ) (names : List (List ℕ)) (layout : LayoutValue) (objects : List ObjectValue) where
  -- what comes of a layout, a schedule and objects
  pub run_comes : (schedule : Option (List ℕ)) (cycles : ℕ) (entries : List Entry) (outcome : Outcome) → Holds files (need name layout_file) (a_layout layout) → IsScheduleOf files schedule entries
      → HoldAll files (object_needs names) (map an_object objects)
      → with_objects (λ l. linked layout l (λ image. runs image entries cycles)) (map an_object objects) ≡ outcome
      → Comes files (run_command name schedule cycles names) outcome
  run_comes None cycles entries outcome h s hs e =
      let linked_on : List Entry → List Held → Outcome =
      λ es. with_objects (λ l. linked layout l (λ image. runs image es cycles)) in
      record {
        helds = a_layout layout ∷ map an_object objects;
        hold = (h, hs);
        is = objects_unscheduled linked_on objects
            ∙ (ap (λ (es : List Entry). linked_on es (map an_object objects)) (sym s) ∙ e);
      }
  run_comes (Some own) cycles entries outcome h s hs e = record { helds = a_layout layout ∷ (a_schedule entries ∷ map an_object objects); hold = (h, (s, hs)); is = e }

  -- the run of the image that objects link to
  pub linked_runs : (schedule : Option (List ℕ)) (cycles : ℕ) (entries : List Entry) → Holds files (need name layout_file) (a_layout layout) → IsScheduleOf files schedule entries
      → HoldAll files (object_needs names) (map an_object objects) → link_fault_of layout objects ≡ None
      → Comes files (run_command name schedule cycles names) (runs (linked_image layout objects) entries cycles)
  linked_runs schedule cycles entries h s hs e =
      run_comes schedule cycles entries (runs (linked_image layout objects) entries cycles) h s hs (linked_gives layout objects (λ image. runs image entries cycles) e)
