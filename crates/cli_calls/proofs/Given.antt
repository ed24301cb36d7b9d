-- What commands are answered, and why they are refused.
use Rattle.std.proofs.Common.{◌≡◌, false, ℕ, List, [], ◌∷◌, ◌++◌, map, Option, Some, None, Result, Ok, Err, inl, inr, refl, sym, ◌∙◌, ap, ap₂, subst}
use Rattle.std.specs.Option.{option_map_or}
use Rattle.sm_io.specs.Faults.{HasCause}
use Rattle.sm_io.specs.Files.{FileMap}
use Rattle.sm_io.specs.Sink.{Took, CutOff, Puts}
use Rattle.sm_io.specs.declared.sink.Failed.{Failed}
use Rattle.image_text.specs.Image.{Image}
use Rattle.schedule_file.specs.declared.Entry.{Entry}
use Rattle.layout_file.specs.Values.{LayoutValue}
use Rattle.elf_objects.specs.Object.{ObjectValue}
use Rattle.link_symbols.specs.declared.fault.LinkFault.{LinkFault}
use Rattle.linker.specs.Image.{linked_image}
use Rattle.linker.specs.Refusals.{link_fault_of}
use Rattle.cli_files.specs.Causes.{IsNeedCause}
use Rattle.cli_files.specs.Files.{need, a_layout, a_schedule, an_image, Holds, HoldAll, image_file, IsScheduleOf, layout_file, object_file, object_needs, schedule_file, Need, schedule_needs, Held, an_object}
use Rattle.cli_files.specs.StatusNumbers.{status_after}
use Rattle.cli_files.specs.SymbolNames.{symbol_name}
use Rattle.cli_files.specs.Unlinked.{IsUnlinked}
use Rattle.cli_files.specs.declared.answers.Refusal.{Refusal}
use Rattle.cli_files.specs.declared.answers.Refusal.TheVariants as refusal
use Rattle.cli_files.specs.declared.answers.Status.{Status}
use Rattle.cli_files.specs.declared.answers.Status.TheVariants as status
use Rattle.cli_calls.specs.Command.{Command, Answer, done, gives, runs, Comes, IsAnswer, Outcome, nothing, refuses, trace_answer}
use Rattle.cli_calls.specs.ImageRuns.{image_run_command}
use Rattle.cli_calls.specs.Linking.{objects_command, with_objects, linked}
use Rattle.cli_calls.specs.Runs.{IsCommandCause, EndsAs, IsRun}

-- what a command gives is its answer
abbrev pub gives_answer : (files : Option FileMap) (command : Command) (answer : Answer) → Comes files command (gives answer) → IsAnswer files command answer
gives_answer files command answer comes = record { outcome = gives answer; comes = comes; is = refl }

-- an output that is put is the answer
module _ {S : Type 0} (taken : S → Option (List ℕ)) (faults sure : S → ℕ) (old new : S) where
  ends_after : (answer : Answer) → answer.status ≡ status.Done → (put : Result (Unit {0}) Failed) → Puts taken faults sure old new answer.text put
      → EndsAs (status_after put) answer (Took taken faults sure old new) (CutOff taken faults sure old new)
  ends_after answer e (Ok x) h = (h, e)
  ends_after answer e (Err x) h = h

  pub put_answer : (files : Option FileMap) (command : Command) (answer : Answer) (own : List ℕ) (put : Result (Unit {0}) Failed) (ended : Status) → Comes files command (gives answer) → answer.status ≡ status.Done
      → own ≡ answer.text → Puts taken faults sure old new own put → ended ≡ status_after put → IsRun files command ended (Took taken faults sure old new) (CutOff taken faults sure old new)
  put_answer files command answer own put ended comes e same puts ends = record {
    answer = answer;
    served = gives_answer files command answer comes;
    sound = tt;
    ends = subst (λ s. EndsAs s answer (Took taken faults sure old new) (CutOff taken faults sure old new)) (sym ends) (ends_after answer e put (subst (λ l. Puts taken faults sure old new l put) same puts));
  }

-- what comes to a run is its trace
abbrev pub runs_answer : (files : Option FileMap) (command : Command) (value : Image) (entries : List Entry) (cycles : ℕ) → Comes files command (runs value entries cycles)
    → IsAnswer files command (trace_answer value entries cycles)
runs_answer files command value entries cycles comes = record { outcome = runs value entries cycles; comes = comes; is = refl }

-- what comes of an image and a schedule
pub image_run_comes : (files : Option FileMap) (told : Image → List Entry → ℕ → Outcome) (name : List ℕ) (schedule : Option (List ℕ)) (cycles : ℕ) (value : Image) (entries : List Entry)
    → Holds files (need name image_file) (an_image value) → IsScheduleOf files schedule entries → Comes files (image_run_command told name schedule cycles) (told value entries cycles)
image_run_comes files told name None cycles value entries h s = record { helds = an_image value ∷ []; hold = (h, tt); is = ap (λ es. told value es cycles) (sym s) }
image_run_comes files told name (Some own) cycles value entries h s = record { helds = an_image value ∷ a_schedule entries ∷ []; hold = (h, (s, tt)); is = refl }

-- Objects

-- the outcome of files that hold these objects
pub with_these : (outcome : List ObjectValue → Outcome) (objects : List ObjectValue)
    → with_objects outcome (map an_object objects) ≡ outcome objects
with_these outcome [] = refl
with_these outcome (object ∷ more) = with_these (λ objects. outcome (object ∷ objects)) more

-- files that are needed as objects hold objects
module _ (files : Option FileMap) where
  object_of : (name : List ℕ) (held : Held) → Holds files (need name object_file) held
      → (object : ObjectValue) × (held ≡ an_object object)
  object_of name (an_object object) h = (object, refl)
  object_of name _ h = absurd h.is

  pub objects_of : (names : List (List ℕ)) (helds : List Held) → HoldAll files (object_needs names) helds
      → (objects : List ObjectValue) × (helds ≡ map an_object objects)
  objects_of [] [] h = ([], refl)
  objects_of [] (x ∷ xs) h = absurd h
  objects_of (name ∷ names) [] h = absurd h
  objects_of (name ∷ names) (x ∷ xs) h =
      let object = object_of name x h.0 in
      let more = objects_of names xs h.1 in
      (object.0 ∷ more.0, ap₂ (λ (y : Held) (ys : List Held). y ∷ ys) object.1 more.1)

  -- so what comes of them is the outcome of some objects
  pub some_objects : (outcome : List ObjectValue → Outcome) (names : List (List ℕ)) (helds : List Held)
      → HoldAll files (object_needs names) helds → ((objects : List ObjectValue) → outcome objects ≡ nothing → ⊥)
      → with_objects outcome helds ≡ nothing → ⊥
  some_objects outcome names helds h some e =
      let objects = objects_of names helds h in
      some objects.0 (sym (ap (with_objects outcome) objects.1 ∙ with_these outcome objects.0) ∙ e)

-- what comes of linking, by the first refusal
abbrev pub linked_by : LayoutValue → List ObjectValue → (Image → Outcome) → Option LinkFault → Outcome
linked_by layout objects outcome fault = option_map_or (λ own. refuses own (symbol_name layout objects own)) fault (outcome (linked_image layout objects))

module _ (layout : LayoutValue) (objects : List ObjectValue) (outcome : Image → Outcome) where
  -- objects that link come to what their image comes to
  pub linked_gives : link_fault_of layout objects ≡ None
      → with_objects (λ l. linked layout l outcome) (map an_object objects) ≡ outcome (linked_image layout objects)
  linked_gives e = with_these (λ l. linked layout l outcome) objects ∙ ap (linked_by layout objects outcome) e

  -- and others to a refusal
  pub linked_refuses : (fault : LinkFault) → link_fault_of layout objects ≡ Some fault
      → with_objects (λ l. linked layout l outcome) (map an_object objects)
      ≡ refuses fault (symbol_name layout objects fault)
  linked_refuses fault e = with_these (λ l. linked layout l outcome) objects ∙ ap (linked_by layout objects outcome) e

-- the same of a text that is written of the layout and the objects
pub text_given : (layout : LayoutValue) (objects : List ObjectValue) (text : LayoutValue → List ObjectValue → List ℕ) (fault : Option LinkFault) → link_fault_of layout objects ≡ fault
    → with_objects (λ own. linked layout own (λ image. done (text layout own))) (map an_object objects)
    ≡ linked_by layout objects (λ image. done (text layout objects)) fault
text_given layout objects text fault e =
    with_these (λ own. linked layout own (λ image. done (text layout own))) objects
    ∙ ap (linked_by layout objects (λ image. done (text layout objects))) e

-- what comes of a layout and objects
pub objects_comes : (files : Option FileMap) (text : LayoutValue → List ObjectValue → List ℕ) (name : List ℕ) (names : List (List ℕ)) (layout : LayoutValue) (objects : List ObjectValue) (outcome : Outcome)
    → Holds files (need name layout_file) (a_layout layout) → HoldAll files (object_needs names) (map an_object objects)
    → with_objects (λ own. linked layout own (λ image. done (text layout own))) (map an_object objects) ≡ outcome
    → Comes files (objects_command text name names) outcome
objects_comes files text name names layout objects outcome h hs e = record { helds = a_layout layout ∷ map an_object objects; hold = (h, hs); is = e }

-- Refusals

-- what the files that a command needs call for, the command calls for
pub by_needs : (files : Option FileMap) (before after : ℕ) (command : Command) (r : Refusal) (name : List ℕ) → IsNeedCause files before after command.needs r name → IsCommandCause files before after command r name
by_needs files before after command (refusal.Link fault) name f = absurd f
by_needs files before after command _ name f = f

module _ (files : Option FileMap) (before after : ℕ) (refused : Refusal) (told : List ℕ) where
  -- a refusal of the first file
  pub cause_first : (wanted : Need) (more : List Need) → IsNeedCause files before after (wanted ∷ []) refused told → IsNeedCause files before after (wanted ∷ more) refused told
  cause_first wanted more k = by refused k
    where
      by : (r : Refusal) → IsNeedCause files before after (wanted ∷ []) r told → IsNeedCause files before after (wanted ∷ more) r told
      by (refusal.BadFile f) (inl h, quiet) = (inl h, quiet)
      by (refusal.BadFile f) (inr h, quiet) = absurd h.1
      by refusal.CannotRead (inl h, rose) = (inl h, rose)
      by refusal.CannotRead (inr h, rose) = absurd h.1
      by _ h = h

  -- a refusal behind a file that serves
  pub cause_next : (wanted : Need) (held : Held) (more : List Need) → Holds files wanted held → IsNeedCause files before after more refused told → IsNeedCause files before after (wanted ∷ more) refused told
  cause_next wanted held more h k = by refused k
    where
      by : (r : Refusal) → IsNeedCause files before after more r told → IsNeedCause files before after (wanted ∷ more) r told
      by (refusal.BadFile f) x = (inr ((held, h), x.0), x.1)
      by refusal.CannotRead x = (inr ((held, h), x.0), x.1)
      by _ x = x

  -- a refusal of a schedule's file, and one behind it
  pub cause_schedule : (schedule : Option (List ℕ)) (more : List Need) → IsNeedCause files before after (schedule_needs schedule) refused told → IsNeedCause files before after (schedule_needs schedule ++ more) refused told
  cause_schedule None more k = by refused k
    where
      by : (r : Refusal) → IsNeedCause files before after [] r told → IsNeedCause files before after more r told
      by (refusal.BadFile f) h = absurd h.0
      by refusal.CannotRead h = absurd h.0
      by _ h = h
  cause_schedule (Some name) more k = cause_first (need name schedule_file) more k

  pub cause_scheduled : (schedule : Option (List ℕ)) (entries : List Entry) (more : List Need) → IsScheduleOf files schedule entries → IsNeedCause files before after more refused told → IsNeedCause files before after (schedule_needs schedule ++ more) refused told
  cause_scheduled None entries more s k = k
  cause_scheduled (Some name) entries more s k = cause_next (need name schedule_file) (a_schedule entries) more s k

  -- a refusal to link
  pub cause_unlinked : (command : Command) (layout : LayoutValue) (objects : List ObjectValue) → ((fault : LinkFault) → link_fault_of layout objects ≡ Some fault → Comes files command (refuses fault (symbol_name layout objects fault)))
      → HasCause before after false → IsUnlinked layout objects refused told → IsCommandCause files before after command refused told
  cause_unlinked command layout objects comes quiet u = by refused u
    where
      by : (r : Refusal) → IsUnlinked layout objects r told → IsCommandCause files before after command r told
      by (refusal.Link f) h = (subst (λ n. Comes files command (refuses f n)) (sym h.1) (comes f h.0), quiet)
      by refusal.NoMemory h = quiet
      by _ h = absurd h
