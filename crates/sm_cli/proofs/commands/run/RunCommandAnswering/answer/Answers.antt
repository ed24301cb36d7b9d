use Rattle.std.proofs.Common.{◌≡◌, None, List, ℕ, ◌++◌, map, Bor, ◌∙◌, ap, subst}
use Rattle.std.specs.Option.{option_copied}
use Rattle.layout_file.specs.Layout.{layout_of}
use Rattle.elf_objects.specs.Object.{ObjectValue}
use Rattle.image_text.specs.Image.{Image, IsImage}
use Rattle.linker.specs.Refusals.{link_fault_of}
use Rattle.written_machine.specs.Marks.{Marked}
use Rattle.sm_io.specs.Sink.{Took, CutOff}
use Rattle.cli_calls.specs.Command.{runs, refuses, trace_answer}
use Rattle.cli_calls.specs.Runs.{EndsAs}
use Rattle.cli_files.specs.Causes.{IsNeedCause}
use Rattle.cli_files.specs.SymbolNames.{symbol_name}
use Rattle.cli_files.specs.Unlinked.{IsUnlinked}
use Rattle.cli_files.specs.NameText.{name_text}
use Rattle.cli_files.specs.Files.{need, layout_file, a_layout, an_object, schedule_needs, object_needs, HoldAll, IsScheduleOf}
use Rattle.sm_cli.specs.internal.ImageCommand.{answer_from}
use Rattle.linker.specs.Image.{linked_image}
use Rattle.sm_cli.specs.internal.RunCommand.{run_asked}
use Rattle.cli_files.proofs.Objects.{cause_moved}
use Rattle.sm_cli.proofs.Running.{run_comes, linked_runs}
use Rattle.cli_calls.proofs.Given.{runs_answer, linked_refuses, cause_first, cause_next, cause_schedule, cause_scheduled, cause_unlinked}
use Rattle.cli_calls.proofs.Given.{by_needs}
use Rattle.sm_cli.proofs.commands.run.RunCommandAnswering.answer.Goals as goal

abbrev text_of : Bor (List ℕ) → List ℕ
text_of name = name.now

pub returns-in-Err-clause-refused : goal.returns-in-Err-clause-refused
returns-in-Err-clause-refused g c =
    let own = c.args.self.now in
    let r = c.in-Err.refused in
    by_needs _ _ _ (run_asked own) r.refusal (name_text r.name)
    (cause_first _ _ _ r.refusal (name_text r.name) (need own.layout.now layout_file) (schedule_needs (option_copied own.schedule) ++ object_needs (map text_of own.objects.items)) c.in-Err.ensures.refused)

pub returns-in-Err-load_schedule-clause-refused : goal.returns-in-Err-load_schedule-clause-refused
returns-in-Err-load_schedule-clause-refused g c =
    let own = c.args.self.now in
    let r = c.in-Err-load_schedule.refused in
    let told = name_text r.name in
    let files = g.F.Files.content c.args.files.now in
    let before = g.F.Files.faults c.args.files.now in
    let after = g.F.Files.faults c.load_schedule.new.files in
    let objects = object_needs (map text_of own.objects.items) in
    let schedule = option_copied own.schedule in
    by_needs files before after (run_asked own) r.refusal told
    (cause_next files before after r.refusal told (need own.layout.now layout_file) (a_layout (layout_of c.in-Ok.layout)) (schedule_needs schedule ++ objects) c.in-Ok.ensures.holds
    (cause_schedule files before after r.refusal told schedule objects
    (cause_moved _ files _ before after (schedule_needs schedule) r.refusal told c.in-Ok.ensures.same_files c.in-Ok.ensures.quiet c.in-Err-load_schedule.ensures.refused)))

pub returns-in-Err-load_objects-clause-refused : goal.returns-in-Err-load_objects-clause-refused
returns-in-Err-load_objects-clause-refused g c =
    let own = c.args.self.now in
    let r = c.in-Err-load_objects.refused in
    let told = name_text r.name in
    let files = g.F.Files.content c.args.files.now in
    let before = g.F.Files.faults c.args.files.now in
    let after = g.F.Files.faults c.load_objects.new.files in
    let names = map text_of own.objects.items in
    let schedule = option_copied own.schedule in
    let entries = c.in-Ok-load_schedule.schedule.entries.items in
    let read = subst (λ o. IsScheduleOf o schedule entries) c.in-Ok.ensures.same_files c.in-Ok-load_schedule.ensures.entries in
    let cause = subst (λ (l : List (Bor (List ℕ))). IsNeedCause (g.F.Files.content c.load_schedule.new.files) (g.F.Files.faults c.load_schedule.new.files) after (object_needs (map text_of l)) r.refusal told) c.as_slice.ensures.value c.in-Err-load_objects.ensures.refused in
    by_needs files before after (run_asked own) r.refusal told
    (cause_next files before after r.refusal told (need own.layout.now layout_file) (a_layout (layout_of c.in-Ok.layout)) (schedule_needs schedule ++ object_needs names) c.in-Ok.ensures.holds
    (cause_scheduled files before after r.refusal told schedule entries (object_needs names) read
    (cause_moved _ files _ before after (object_needs names) r.refusal told (c.in-Ok-load_schedule.ensures.same_files ∙ c.in-Ok.ensures.same_files) (c.in-Ok-load_schedule.ensures.quiet ∙ c.in-Ok.ensures.quiet) cause)))

pub returns-in-Err-linked_image-clause-refused : goal.returns-in-Err-linked_image-clause-refused
returns-in-Err-linked_image-clause-refused g c =
    let own = c.args.self.now in
    let files = g.F.Files.content c.args.files.now in
    let layout = layout_of c.in-Ok.layout in
    let objects = c.in-Ok-load_objects.objects.items in
    let names = map text_of own.objects.items in
    let schedule = option_copied own.schedule in
    let entries = c.in-Ok-load_schedule.schedule.entries.items in
    let scheduled = subst (λ o. IsScheduleOf o schedule entries) c.in-Ok.ensures.same_files c.in-Ok-load_schedule.ensures.entries in
    let read = subst (λ (l : List (Bor (List ℕ))). HoldAll (g.F.Files.content c.load_schedule.new.files) (object_needs (map text_of l)) (map an_object objects)) c.as_slice.ensures.value c.in-Ok-load_objects.ensures.hold in
    let hold = subst (λ f. HoldAll f (object_needs names) (map an_object objects)) (c.in-Ok-load_schedule.ensures.same_files ∙ c.in-Ok.ensures.same_files) read in
    let r = c.in-Err-linked_image.refused in
    let unlinked = subst (λ (l : List ObjectValue). IsUnlinked layout l r.refusal (name_text r.name)) c.as_slice-2.ensures.value c.in-Err-linked_image.ensures.refused in
    cause_unlinked files _ _ r.refusal (name_text r.name) (run_asked own) layout objects
    (λ fault e. run_comes files own.layout.now names layout objects schedule own.cycles entries (refuses fault (symbol_name layout objects fault)) c.in-Ok.ensures.holds scheduled hold
    (linked_refuses layout objects (λ (image : Image). runs image entries own.cycles) fault e))
    (c.in-Ok-load_objects.ensures.quiet ∙ c.in-Ok-load_schedule.ensures.quiet ∙ c.in-Ok.ensures.quiet) unlinked

pub returns-in-Ok-new-clause-ok : goal.returns-in-Ok-new-clause-ok
returns-in-Ok-new-clause-ok g c =
    let own = c.args.self.now in
    let files = g.F.Files.content c.args.files.now in
    let layout = layout_of c.in-Ok.layout in
    let objects = c.in-Ok-load_objects.objects.items in
    let names = map text_of own.objects.items in
    let schedule = option_copied own.schedule in
    let entries = c.in-Ok-load_schedule.schedule.entries.items in
    let scheduled = subst (λ o. IsScheduleOf o schedule entries) c.in-Ok.ensures.same_files c.in-Ok-load_schedule.ensures.entries in
    let read = subst (λ (l : List (Bor (List ℕ))). HoldAll (g.F.Files.content c.load_schedule.new.files) (object_needs (map text_of l)) (map an_object objects)) c.as_slice.ensures.value c.in-Ok-load_objects.ensures.hold in
    let hold = subst (λ f. HoldAll f (object_needs names) (map an_object objects)) (c.in-Ok-load_schedule.ensures.same_files ∙ c.in-Ok.ensures.same_files) read in
    let sound = subst (λ (l : List ObjectValue). link_fault_of layout l ≡ None) c.as_slice-2.ensures.value c.in-Ok-linked_image.ensures.sound in
    let image = c.in-Ok-linked_image.ensures.image ∙ ap (linked_image layout) c.as_slice-2.ensures.value in
    let took = Took g.O.Sink.taken g.O.Sink.faults g.O.Sink.sure c.args.out.now c.put.new.out in
    let cut = CutOff g.O.Sink.taken g.O.Sink.faults g.O.Sink.sure c.args.out.now c.put.new.out in
    let run = subst (λ (m : Marked). EndsAs c.put.result (answer_from m.present own.cycles) took cut) c.in-Ok-new.ensures.booted c.put.ensures in
    record {
      answer = trace_answer (linked_image layout objects) entries own.cycles;
      served = runs_answer files (run_asked own) (linked_image layout objects) entries own.cycles
          (linked_runs files own.layout.now names layout objects schedule own.cycles entries c.in-Ok.ensures.holds scheduled hold sound);
      sound = subst (λ (i : Image). IsImage i) image c.tell_image.ensures;
      ends = subst (λ (i : Image). EndsAs c.put.result (trace_answer i entries own.cycles) took cut) image run;
    }
