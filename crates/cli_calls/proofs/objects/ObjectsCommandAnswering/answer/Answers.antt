use Rattle.std.proofs.Common.{◌≡◌, None, List, ℕ, map, Bor, refl, ◌∙◌, ap, subst}
use Rattle.layout_file.specs.Layout.{layout_of}
use Rattle.elf_objects.specs.Object.{ObjectValue}
use Rattle.linker.specs.Refusals.{link_fault_of}
use Rattle.cli_files.specs.Causes.{IsNeedCause}
use Rattle.cli_files.specs.SymbolNames.{symbol_name}
use Rattle.cli_files.specs.Unlinked.{IsUnlinked}
use Rattle.cli_files.specs.NameText.{name_text}
use Rattle.cli_files.specs.Files.{need, layout_file, a_layout, an_object, object_needs, HoldAll}
use Rattle.cli_files.specs.declared.answers.Status.TheVariants as status
use Rattle.cli_files.proofs.Objects.{cause_moved}
use Rattle.cli_calls.specs.Command.{Answer, done, refuses}
use Rattle.cli_calls.specs.Linking.{objects_command}
use Rattle.cli_calls.proofs.Given.{by_needs, cause_first, cause_next, cause_unlinked, objects_comes, put_answer, text_given}
use Rattle.cli_calls.proofs.objects.ObjectsCommandAnswering.answer.Goals as goal

abbrev text_of : Bor (List ℕ) → List ℕ
text_of name = name.now

pub returns-in-Err-clause-refused : goal.returns-in-Err-clause-refused
returns-in-Err-clause-refused g c =
    let own = c.args.self.now in
    let r = c.in-Err.refused in
    let needed = object_needs (map text_of own.objects.items) in
    by_needs _ _ _ (objects_command g.T.ObjectsText.written own.layout.now (map text_of own.objects.items)) r.refusal (name_text r.name)
    (cause_first _ _ _ r.refusal (name_text r.name) (need own.layout.now layout_file) needed c.in-Err.ensures.refused)

pub returns-in-Err-load_objects-clause-refused : goal.returns-in-Err-load_objects-clause-refused
returns-in-Err-load_objects-clause-refused g c =
    let own = c.args.self.now in
    let r = c.in-Err-load_objects.refused in
    let told = name_text r.name in
    let files = g.F.Files.content c.args.files.now in
    let before = g.F.Files.faults c.args.files.now in
    let after = g.F.Files.faults c.load_objects.new.files in
    let names = map text_of own.objects.items in
    let cause = subst (λ (l : List (Bor (List ℕ))). IsNeedCause (g.F.Files.content c.load.new.files) (g.F.Files.faults c.load.new.files) after (object_needs (map text_of l)) r.refusal told) c.as_slice.ensures.value c.in-Err-load_objects.ensures.refused in
    by_needs files before after (objects_command g.T.ObjectsText.written own.layout.now names) r.refusal told
    (cause_next files before after r.refusal told (need own.layout.now layout_file) (a_layout (layout_of c.in-Ok.layout)) (object_needs names) c.in-Ok.ensures.holds
    (cause_moved _ files _ before after (object_needs names) r.refusal told c.in-Ok.ensures.same_files c.in-Ok.ensures.quiet cause))

pub returns-clause-refused : goal.returns-clause-refused
returns-clause-refused g c =
    let own = c.args.self.now in
    let r = c.in-Err-write.refused in
    let files = g.F.Files.content c.args.files.now in
    let written = g.T.ObjectsText.written in
    let layout = layout_of c.in-Ok.layout in
    let objects = c.in-Ok-load_objects.objects.items in
    let names = map text_of own.objects.items in
    let read = subst (λ (l : List (Bor (List ℕ))). HoldAll (g.F.Files.content c.load.new.files) (object_needs (map text_of l)) (map an_object objects)) c.as_slice.ensures.value c.in-Ok-load_objects.ensures.hold in
    let hold = subst (λ f. HoldAll f (object_needs names) (map an_object objects)) c.in-Ok.ensures.same_files read in
    let unlinked = subst (λ (l : List ObjectValue). IsUnlinked layout l r.refusal (name_text r.name)) c.as_slice-2.ensures.value c.in-Err-write.ensures.refused in
    cause_unlinked files _ _ r.refusal (name_text r.name) (objects_command written own.layout.now names) layout objects
    (λ fault e. objects_comes files written own.layout.now names layout objects (refuses fault (symbol_name layout objects fault)) c.in-Ok.ensures.holds hold (text_given layout objects written _ e))
    (c.in-Ok-load_objects.ensures.quiet ∙ c.in-Ok.ensures.quiet) unlinked

pub returns-in-Ok-write-clause-ok : goal.returns-in-Ok-write-clause-ok
returns-in-Ok-write-clause-ok g c =
    let own = c.args.self.now in
    let files = g.F.Files.content c.args.files.now in
    let written = g.T.ObjectsText.written in
    let layout = layout_of c.in-Ok.layout in
    let objects = c.in-Ok-load_objects.objects.items in
    let names = map text_of own.objects.items in
    let read = subst (λ (l : List (Bor (List ℕ))). HoldAll (g.F.Files.content c.load.new.files) (object_needs (map text_of l)) (map an_object objects)) c.as_slice.ensures.value c.in-Ok-load_objects.ensures.hold in
    let hold = subst (λ f. HoldAll f (object_needs names) (map an_object objects)) c.in-Ok.ensures.same_files read in
    let sound = subst (λ (l : List ObjectValue). link_fault_of layout l ≡ None) c.as_slice-2.ensures.value c.in-Ok-write.ensures.sound in
    let text : c.as_slice-in-Ok-write.result.now ≡ written layout objects = c.as_slice-in-Ok-write.ensures.value ∙ (c.in-Ok-write.ensures.text ∙ ap (written layout) c.as_slice-2.ensures.value) in
    let answer : Answer = record { text = written layout objects; status = status.Done } in
    let comes = objects_comes files written own.layout.now names layout objects (done (written layout objects)) c.in-Ok.ensures.holds hold (text_given layout objects written None sound) in
    put_answer g.O.Sink.taken g.O.Sink.faults g.O.Sink.sure _ _ files (objects_command written own.layout.now names) answer _ _ _ comes refl text c.put_all.ensures.put c.status_after.ensures
