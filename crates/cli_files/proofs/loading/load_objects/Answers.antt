use Rattle.std.proofs.Common.{◌≡◌, ◌+◌, List, ℕ, [], ◌∷◌, ◌++◌, get_or, map, drop, length, not, true, All, Bor, sym, ap, subst, ◌∙◌, arith, length-append}
use Rattle.std.proofs.lemmas.List.{map_push}
use Rattle.std.proofs.lemmas.List.Elements.{All-push}
use Rattle.std.specs.Result.{is_ok}
use Rattle.linker.specs.Room.{IsSmall}
use Rattle.cli_files.specs.NameText.{name_text}
use Rattle.cli_files.specs.Files.{an_object, object_file, need, object_needs, Holds, HoldAll}
use Rattle.cli_files.specs.Causes.{IsNeedCause}
use Rattle.cli_files.proofs.Objects.{at_name, past_name, cause_moved, small_object, hold_past, cause_past}
use Rattle.cli_files.proofs.loading.load_objects.Goals as goal

abbrev text_of : Bor (List ℕ) → List ℕ
text_of name = name.now

abbrev no_name : Bor (List ℕ)
no_name = record { ref_ptr = (0, 0); now = [] }

pub returns-in-Err-clause-refused : goal.returns-in-Err-clause-refused
returns-in-Err-clause-refused g c =
    let i = c.loop-name.invariant in
    let names = c.args.names.now in
    let at = c.loop-name.name-index in
    let name = text_of (get_or names at no_name) in
    let files = g.F.Files.content c.args.files.now in
    let before = g.F.Files.faults c.args.files.now in
    let after = g.F.Files.faults c.load.new.files in
    let refused = c.in-Err.refused.refusal in
    let told = name_text c.in-Err.refused.name in
    subst (λ l. IsNeedCause files before after (object_needs l) refused told) (at_name text_of names at no_name i.done (map text_of names) c.loop-name-test.true i.whole)
    (cause_past files before after i.done (map an_object c.loop-name.objects.items) name (map text_of (drop (at + 1) names)) refused told i.hold
    (cause_moved _ files _ before after (need name object_file ∷ []) refused told i.same_files i.quiet c.in-Err.ensures.refused))

pub loop-name-preserved : goal.loop-name-preserved
loop-name-preserved g c =
    let i = c.loop-name.invariant in
    let names = c.args.names.now in
    let at = c.loop-name.name-index in
    let name = text_of (get_or names at no_name) in
    let files = g.F.Files.content c.args.files.now in
    let objects = c.loop-name.objects.items in
    let object = c.in-Ok.object in
    let ok : is_ok c.push.result ≡ true = c.is_err.ensures.negation ∙ ap not c.if-is_err.false in
    let items : c.push.new.self.items ≡ objects ++ object ∷ [] = rw ok at c.push.ensures.items in
    let holds = subst (λ f. Holds f (need name object_file) (an_object object)) i.same_files c.in-Ok.ensures.holds in
    record {
      done = i.done ++ name ∷ [];
      whole = past_name text_of names at no_name i.done (map text_of names) c.loop-name-test.true i.whole;
      hold = subst (λ l. HoldAll files (object_needs (i.done ++ name ∷ [])) l) (sym (ap (map an_object) items ∙ map_push an_object objects object))
          (hold_past files i.done (map an_object objects) name (an_object object) i.hold holds);
      small = subst (λ l. All IsSmall l) (sym items) (All-push IsSmall objects object i.small (small_object files name object holds));
      count = omega (arith, ap length items, length-append objects (object ∷ []), i.count);
      quiet = c.in-Ok.ensures.quiet ∙ i.quiet;
      same_sound = c.in-Ok.ensures.same_sound ∙ i.same_sound;
      same_files = c.in-Ok.ensures.same_files ∙ i.same_files;
    }
