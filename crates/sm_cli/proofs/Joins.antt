-- Objects, the image that they link to, and its peers.
use Rattle.std.proofs.Common.{◌≡◌, ℕ, Bool, is_some, List, [], ◌∷◌, map, Option, Some, None, refl, sym, ◌∙◌, ap, ap₂, subst, inl, inr}
use Rattle.std.specs.Prelude.{All, IfOk}
use Rattle.std.proofs.lemmas.List.Elements.{All-nil, All-cons}
use Rattle.sm_io.specs.Files.{FileMap}
use Rattle.mod_layout.specs.declared.Module.{Module}
use Rattle.image_text.specs.Image.{Image, IsImage}
use Rattle.image_text.specs.ImageText.{image_text}
use Rattle.image_text.proofs.OneText.{images_of_one_text}
use Rattle.schedule_file.specs.declared.Entry.{Entry}
use Rattle.layout_file.specs.Sound.{IsLayout}
use Rattle.layout_file.specs.Values.{LayoutValue}
use Rattle.layout_file.proofs.SoundLemmas.{IsLayout-LayoutOf}
use Rattle.elf_objects.specs.Object.{ObjectValue, IsObject}
use Rattle.link_symbols.specs.declared.fault.LinkFault.{LinkFault}
use Rattle.linker.specs.Image.{linked_image}
use Rattle.linker.specs.Laws.{AreBytes, LinkedIsImage}
use Rattle.linker.specs.Refusals.{link_fault_of}
use Rattle.written_machine.specs.Peers.{DifferInData, Peers}
use Rattle.written_machine.specs.View.{View, view_of}
use Rattle.isolation.specs.Laws.{SameTraces, SameViews}
use Rattle.peer_rows.specs.Laws.{AcceptedArePeers}
use Rattle.cli_files.specs.Files.{Held, an_image, a_schedule, a_layout, an_object, layout_file, image_file, need, object_needs, schedule_needs, Holds, HoldAll, IsScheduleOf}
use Rattle.cli_calls.specs.Command.{Answer, Answers, IsAnswer, done, run_status, runs, trace_answer}
use Rattle.sm_cli.specs.ImageCommand.{image_command}
use Rattle.sm_cli.specs.Joins.{AreFiles, IsLinkedText, SaysYes, RunsAlike}
use Rattle.sm_cli.specs.LinkCommand.{link_command, linked_image_text, text_answer}
use Rattle.cli_calls.specs.Linking.{linked, objects_outcome}
use Rattle.sm_cli.specs.RunCommand.{run_command}
use Rattle.sm_cli.proofs.Checking.{check_accepted, balance_accepted}
use Rattle.sm_cli.proofs.KeyBytes.{key_bytes}
use Rattle.cli_calls.proofs.Outcomes.{one_answer}
use Rattle.sm_cli.proofs.Running.{linked_runs}
use Rattle.cli_calls.proofs.Given.{image_run_comes, linked_by, objects_of, runs_answer, with_these}
use Rattle.sm_cli.proofs.ShortText.{short_text}

module _ (files : FileMap) (layout_name : List ℕ) (names : List (List ℕ)) where
  -- ---- what `link` read

  record Read (written : Answer) : Type 0 where
    layout : LayoutValue
    layout_is : Holds (Some files) (need layout_name layout_file) (a_layout layout)
    objects : List ObjectValue
    objects_are : HoldAll (Some files) (object_needs names) (map an_object objects)
    links : link_fault_of layout objects ≡ None
    text : written ≡ text_answer (linked_image layout objects)

  read_of : (written : Answer) → IsAnswer (Some files) (link_command layout_name names) written → Read written
  read_of written a = by a.comes.helds a.comes.hold (subst (λ o. Answers o written) (sym a.comes.is) a.is)
    where
      linked_as : (layout : LayoutValue) (objects : List ObjectValue) (fault : Option LinkFault) → link_fault_of layout objects ≡ fault → Answers (linked_by layout objects (λ image. done (linked_image_text layout objects)) fault) written
          → Holds (Some files) (need layout_name layout_file) (a_layout layout) → HoldAll (Some files) (object_needs names) (map an_object objects) → Read written
      linked_as layout objects None links told h hs = record { layout = layout; layout_is = h; objects = objects; objects_are = hs; links = links; text = sym told }
      linked_as layout objects (Some fault) links told h hs = absurd told

      by : (helds : List Held) → HoldAll (Some files) (need layout_name layout_file ∷ object_needs names) helds → Answers (objects_outcome linked_image_text helds) written → Read written
      by [] h told = absurd h
      by (a_layout layout ∷ helds) h told =
          let objects = objects_of (Some files) names helds h.1 in
          let outcome = ap (λ (l : List Held). objects_outcome linked_image_text (a_layout layout ∷ l)) objects.1 ∙ with_these (λ own. linked layout own (λ image. done (linked_image_text layout own))) objects.0 in
          linked_as layout objects.0 (link_fault_of layout objects.0) refl (subst (λ o. Answers o written) outcome told) h.0 (subst (λ l. HoldAll (Some files) (object_needs names) l) objects.1 h.1)
      by (held ∷ helds) h told = absurd h.0.is

  -- ---- the image

  objects_sound : AreFiles files → (names : List (List ℕ)) (objects : List ObjectValue) → HoldAll (Some files) (object_needs names) (map an_object objects)
      → All IsObject objects × All (λ (o : ObjectValue). AreBytes o.file) objects
  objects_sound are [] [] h = (All-nil IsObject, All-nil (λ (o : ObjectValue). AreBytes o.file))
  objects_sound are [] (o ∷ os) h = absurd h
  objects_sound are (name ∷ names) [] h = absurd h
  objects_sound are (name ∷ names) (o ∷ os) h =
      let more = objects_sound are names os h.1 in (
        All-cons IsObject o os h.0.is.0 more.0,
        All-cons (λ (x : ObjectValue). AreBytes x.file) o os (subst AreBytes (sym h.0.is.1) (are name h.0.bytes h.0.file)) more.1,
      )

  pub link_writes : LinkedIsImage → AreFiles files → (written : Answer) → IsAnswer (Some files) (link_command layout_name names) written → IsLinkedText files layout_name names written
  link_writes law are written a =
      let r = read_of written a in
      let objects = objects_sound are names r.objects r.objects_are in
      let layout = subst (λ x. IfOk x IsLayout) r.layout_is.is (IsLayout-LayoutOf r.layout_is.bytes) in
      record {
        value = linked_image r.layout r.objects;
        image = law r.layout r.objects layout (key_bytes r.layout_is.bytes r.layout r.layout_is.is) objects.0 objects.1 r.links;
        text = r.text;
        runs = λ schedule cycles entries scheduled.
            runs_answer (Some files) (run_command layout_name schedule cycles names) (linked_image r.layout r.objects) entries cycles
            (linked_runs (Some files) layout_name names r.layout r.objects schedule cycles entries r.layout_is scheduled r.objects_are r.links);
      }

  -- ---- its peers

  abbrev Scheduled : Option (List ℕ) → Type 0
  Scheduled schedule = (entries : List Entry) × IsScheduleOf (Some files) schedule entries

  scheduled : (name : List ℕ) (schedule : Option (List ℕ)) (helds : List Held) → HoldAll (Some files) (need name image_file ∷ schedule_needs schedule) helds → Scheduled schedule
  scheduled name None helds h = ([], refl)
  scheduled name (Some own) [] h = absurd h
  scheduled name (Some own) (x ∷ []) h = absurd h.1
  scheduled name (Some own) (x ∷ a_schedule entries ∷ more) h = (entries, h.1.0)
  scheduled name (Some own) (x ∷ y ∷ more) h = absurd h.1.0.is

  image_holds : (name : List ℕ) (value : Image) → IsImage value → files name ≡ Some (image_text value) → Holds (Some files) (need name image_file) (an_image value)
  image_holds name value image file = record { bytes = image_text value; file = file; short = short_text value image; is = record { image = image; text = refl } }

  told_as : List ℕ → Bool → Answer
  told_as text stopped = record { text = text; status = run_status stopped }

  pub runs_alike : SameTraces → SameViews → (written : Answer) (linked : IsLinkedText files layout_name names written) (other : Image) (id : ℕ) → Peers linked.value other id → IsImage other → RunsAlike files layout_name names other
  unfolding told_as view_of
  runs_alike traces views written linked other id peers image name schedule cycles ran shown file r s =
      let helds = s.comes.helds in
      let entries = scheduled name schedule helds s.comes.hold in
      let own = one_answer files (run_command layout_name schedule cycles names) ran _ r (linked.runs schedule cycles entries.0 entries.1) in
      let theirs = one_answer files (image_command name schedule cycles) shown _ s (runs_answer (Some files) (image_command name schedule cycles) other entries.0 cycles (image_run_comes (Some files) runs name schedule cycles other entries.0 (image_holds name other image file) entries.1)) in
      let stop = ap (λ (v : View). is_some v.stop) (views linked.value other id entries.0 cycles peers) in
      let same : trace_answer linked.value entries.0 cycles ≡ trace_answer other entries.0 cycles = ap₂ told_as (traces linked.value other id entries.0 cycles peers) stop in
      own ∙ same ∙ sym theirs

  pub joined : LinkedIsImage → AcceptedArePeers → SameTraces → SameViews → (name : List ℕ) (id : ℕ) (value other : Image) (owner : Module) → AreFiles files
      → IsAnswer (Some files) (link_command layout_name names) (text_answer value) → files name ≡ Some (image_text value) → SaysYes files name id
      → DifferInData value other id owner → Peers value other id × RunsAlike files layout_name names other
  joined law accepted traces views name id value other owner are links file said d =
      let linked = link_writes law are (text_answer value) links in
      let same : linked.value ≡ value = images_of_one_text linked.value value linked.image d.images.0 (ap (λ (a : Answer). a.text) (sym linked.text)) in
      let peers = accepted_by said in
      (peers, runs_alike traces views (text_answer value) linked other id (subst (λ v. Peers v other id) (sym same) peers) d.images.1)
    where
      accepted_by : SaysYes files name id → Peers value other id
      accepted_by (inl check) = accepted value other id owner [] d (check_accepted files name value id owner d.images.0 file d.owned check.0 check.2 check.1)
      accepted_by (inr balance) =
          let verdict = balance_accepted files name value id owner d.images.0 file d.owned balance.0 balance.1.0 balance.1.2 balance.1.1 in
          accepted value other id owner verdict.0 d verdict.1
