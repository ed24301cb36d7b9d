use Rattle.std.proofs.Common.{◌≡◌, List, subst, map, Some, None}
use Rattle.layout_file.specs.declared.parts.ModuleSpec.{ModuleSpec}
use Rattle.layout_file.specs.Layout.{layout_of}
use Rattle.layout_file.specs.Views.{module_value}
use Rattle.link_symbols.specs.Refusals.{no_place}
use Rattle.link_symbols.specs.internal.Groups.{names_fault}
use Rattle.link_symbols.specs.Parts.{section_items}
use Rattle.link_symbols.proofs.OrderLemmas.{skip, hit}
use Rattle.link_symbols.proofs.InputLemmas.{names_are, items_are, numbered_are}
use Rattle.link_symbols.proofs.OwnLemmas.{own_all}
use Rattle.link_symbols.proofs.resolved.read_input.Goals as goal

pub returns-in-Err-clause-refusal : goal.returns-in-Err-clause-refusal
unfolding names_fault
returns-in-Err-clause-refusal c = λ ne.
    hit _ _ c.in-Err.fault (subst (λ (ms : List ModuleSpec). no_place (map module_value ms) c.args.objects.now ≡ Some c.in-Err.fault) c.as_slice.ensures.value (c.in-Err.ensures.refusal ne))

pub returns-in-Ok-names_of-clause-names : goal.returns-in-Ok-names_of-clause-names
returns-in-Ok-names_of-clause-names c =
    let b = subst (λ (ms : List ModuleSpec). c.in-Ok.items.items ≡ section_items (map module_value ms) c.args.objects.now) c.as_slice.ensures.value c.in-Ok.ensures.items in
    names_are (layout_of c.args.layout.now) c.args.objects.now c.in-Ok-names_of.names c.in-Ok.items.items c.names_of.new.items.items b c.in-Ok-names_of.ensures.definitions c.in-Ok-names_of.ensures.commons

pub returns-in-Ok-names_of-clause-items : goal.returns-in-Ok-names_of-clause-items
returns-in-Ok-names_of-clause-items c =
    let b = subst (λ (ms : List ModuleSpec). c.in-Ok.items.items ≡ section_items (map module_value ms) c.args.objects.now) c.as_slice.ensures.value c.in-Ok.ensures.items in
    items_are (layout_of c.args.layout.now) c.args.objects.now c.in-Ok-names_of.names c.in-Ok.items.items c.names_of.new.items.items b c.in-Ok-names_of.ensures.definitions c.in-Ok-names_of.ensures.commons

pub returns-in-Ok-names_of-clause-sound : goal.returns-in-Ok-names_of-clause-sound
unfolding names_fault
returns-in-Ok-names_of-clause-sound c =
    skip _ _ None (subst (λ (ms : List ModuleSpec). no_place (map module_value ms) c.args.objects.now ≡ None) c.as_slice.ensures.value c.in-Ok.ensures.sound) c.in-Ok-names_of.ensures.sound

pub returns-clause-refusal : goal.returns-clause-refusal
unfolding names_fault
returns-clause-refusal c = λ ne.
    skip _ _ (Some c.in-Err-names_of.fault) (subst (λ (ms : List ModuleSpec). no_place (map module_value ms) c.args.objects.now ≡ None) c.as_slice.ensures.value c.in-Ok.ensures.sound) (c.in-Err-names_of.ensures.refusal ne)

pub returns-in-Ok-names_of-clause-own : goal.returns-in-Ok-names_of-clause-own
returns-in-Ok-names_of-clause-own c =
    let b = subst (λ (ms : List ModuleSpec). c.in-Ok.items.items ≡ section_items (map module_value ms) c.args.objects.now) c.as_slice.ensures.value c.in-Ok.ensures.items in
    own_all c.in-Ok-names_of.names c.args.objects.now c.in-Ok-names_of.ensures.sound
    (names_are (layout_of c.args.layout.now) c.args.objects.now c.in-Ok-names_of.names c.in-Ok.items.items c.names_of.new.items.items b c.in-Ok-names_of.ensures.definitions c.in-Ok-names_of.ensures.commons)

pub returns-in-Ok-names_of-clause-numbered : goal.returns-in-Ok-names_of-clause-numbered
returns-in-Ok-names_of-clause-numbered c =
    let b = subst (λ (ms : List ModuleSpec). c.in-Ok.items.items ≡ section_items (map module_value ms) c.args.objects.now) c.as_slice.ensures.value c.in-Ok.ensures.items in
    numbered_are (layout_of c.args.layout.now) c.args.objects.now c.in-Ok-names_of.names c.in-Ok.items.items c.names_of.new.items.items b c.in-Ok-names_of.ensures.definitions c.in-Ok-names_of.ensures.commons
