use Rattle.std.proofs.Common.{◌≡◌, ◌+◌, ◌*◌, ℕ, ap, sym, ◌∙◌, length, arith, List, Vec, refl, subst, map, Some, None}
use Rattle.std.specs.declared.alloc.Global.{Global}
use Rattle.std.proofs.lemmas.List.{length-map}
use Rattle.std.specs.Prelude.{slice_index}
use Rattle.layout_file.specs.Layout.{layout_of}
use Rattle.layout_file.specs.Views.{module_value}
use Rattle.link_symbols.specs.declared.item.Item.{Item}
use Rattle.mod_layout.specs.First.{first_in}
use Rattle.link_symbols.specs.Passes.{numbered_objects}
use Rattle.linker.specs.Placement.{starts_of, filled_end}
use Rattle.linker.specs.Refusals.{overfull}
use Rattle.linker.specs.internal.Groups.{fill_fault}
use Rattle.linker.specs.internal.Placed.{AreIn}
use Rattle.linker.specs.internal.Room.{ItemsFit}
use Rattle.linker.specs.Numbers.{Linking, numbers_in}
use Rattle.linker.specs.internal.Resolved.{linking_by}
use Rattle.linker.specs.Fields.{reloc_fault_in}
use Rattle.link_symbols.proofs.OrderLemmas.{skip, hit}
use Rattle.linker.proofs.LinkLemmas.{linking_same, ends_same, linked_is}
use Rattle.linker.proofs.FitLemmas.{all_fit}
use Rattle.linker.proofs.RegionLemmas.{items_are_in}
use Rattle.linker.proofs.CountLemmas.{items_few}
use Rattle.linker.proofs.linkage.linkage_by.Goals as goal

pub returns-in-Err-clause-refusal : goal.returns-in-Err-clause-refusal
unfolding fill_fault
returns-in-Err-clause-refusal c = λ ne.
    let l = layout_of c.args.layout.now in
    hit _ _ c.in-Err.fault (subst (λ (is : List Item). overfull l (filled_end (starts_of l) is) ≡ Some c.in-Err.fault) (c.items.ensures ∙ c.requires.items) (c.in-Err.ensures.refusal ne))

pub returns-in-Err-image_by-clause-refusal : goal.returns-in-Err-image_by-clause-refusal
unfolding fill_fault
returns-in-Err-image_by-clause-refusal c = λ ne.
    let l = layout_of c.args.layout.now in
    let k = linking_same c.args.resolved.objects c.in-Ok.placement.addresses.items l c.args.objects.now c.items.result.now (c.items.ensures ∙ c.requires.items) c.requires.resolved c.in-Ok.ensures.addresses in
    skip _ _ (Some c.in-Err-image_by.fault) (subst (λ (is : List Item). overfull l (filled_end (starts_of l) is) ≡ None) (c.items.ensures ∙ c.requires.items) c.in-Ok.ensures.sound)
    (subst (λ (x : Linking). first_in (reloc_fault_in x) (numbered_objects c.args.objects.now) ≡ Some c.in-Err-image_by.fault) k (c.in-Err-image_by.ensures.refusal ne))

pub returns-in-Ok-tell_linkage-clause-sound : goal.returns-in-Ok-tell_linkage-clause-sound
unfolding fill_fault
returns-in-Ok-tell_linkage-clause-sound c =
    let l = layout_of c.args.layout.now in
    let k = linking_same c.args.resolved.objects c.in-Ok.placement.addresses.items l c.args.objects.now c.items.result.now (c.items.ensures ∙ c.requires.items) c.requires.resolved c.in-Ok.ensures.addresses in
    skip _ _ None (subst (λ (is : List Item). overfull l (filled_end (starts_of l) is) ≡ None) (c.items.ensures ∙ c.requires.items) c.in-Ok.ensures.sound)
    (subst (λ (x : Linking). first_in (reloc_fault_in x) (numbered_objects c.args.objects.now) ≡ None) k c.in-Ok-image_by.ensures.sound)

pub returns-in-Ok-tell_linkage-clause-linked : goal.returns-in-Ok-tell_linkage-clause-linked
returns-in-Ok-tell_linkage-clause-linked c =
    let l = layout_of c.args.layout.now in
    let k = linking_same c.args.resolved.objects c.in-Ok.placement.addresses.items l c.args.objects.now c.items.result.now (c.items.ensures ∙ c.requires.items) c.requires.resolved c.in-Ok.ensures.addresses in
    let e = ends_same c.in-Ok.placement.ends.items l c.args.objects.now c.items.result.now (c.items.ensures ∙ c.requires.items) c.in-Ok.ensures.ends in
    c.in-Ok-tell_linkage.ensures.image ∙ linked_is c.in-Ok-image_by.image (linking_by c.args.resolved.objects c.in-Ok.placement.addresses.items) (slice_index c.in-Ok.placement.ends.items) l c.args.objects.now k e
    c.in-Ok-image_by.ensures.memory c.in-Ok-image_by.ensures.table c.in-Ok-image_by.ensures.key c.in-Ok-image_by.ensures.handler

pub returns-in-Ok-tell_linkage-clause-addresses : goal.returns-in-Ok-tell_linkage-clause-addresses
returns-in-Ok-tell_linkage-clause-addresses c =
    let l = layout_of c.args.layout.now in
    let k = linking_same c.args.resolved.objects c.in-Ok.placement.addresses.items l c.args.objects.now c.items.result.now (c.items.ensures ∙ c.requires.items) c.requires.resolved c.in-Ok.ensures.addresses in
    ap (λ (v : Vec ℕ Global). slice_index v.items) c.in-Ok-tell_linkage.ensures.addresses ∙ ap (λ (x : Linking). x.address) k

pub returns-in-Ok-tell_linkage-clause-ends : goal.returns-in-Ok-tell_linkage-clause-ends
returns-in-Ok-tell_linkage-clause-ends c =
    ap (λ (v : Vec ℕ Global). slice_index v.items) c.in-Ok-tell_linkage.ensures.ends
    ∙ ends_same c.in-Ok.placement.ends.items (layout_of c.args.layout.now) c.args.objects.now c.items.result.now (c.items.ensures ∙ c.requires.items) c.in-Ok.ensures.ends

pub returns-in-Ok-tell_linkage-clause-numbers : goal.returns-in-Ok-tell_linkage-clause-numbers
returns-in-Ok-tell_linkage-clause-numbers c =
    let l = layout_of c.args.layout.now in
    let k = linking_same c.args.objects.now c.in-Ok.placement.addresses.items l c.args.objects.now c.items.result.now (c.items.ensures ∙ c.requires.items) refl c.in-Ok.ensures.addresses in
    c.in-Ok-tell_linkage.ensures.numbers ∙ ap (λ (x : Linking). map (numbers_in x) (numbered_objects c.args.objects.now)) k

pub image_by-requires-clause-fits : goal.image_by-requires-clause-fits
image_by-requires-clause-fits c =
    let l = layout_of c.args.layout.now in
    all_fit l (slice_index c.in-Ok.placement.addresses.items) c.args.objects.now (λ k d h. (c.tell_laws.ensures k d h).is_one) c.requires.somewhere
    (subst (λ (is : List Item). ItemsFit (slice_index c.in-Ok.placement.addresses.items) is) (c.items.ensures ∙ c.requires.items) c.in-Ok.ensures.room)

pub placed-requires-clause-few : goal.placed-requires-clause-few
placed-requires-clause-few c =
    let e = ap length (c.items.ensures ∙ c.requires.items) in
    let f = items_few (layout_of c.args.layout.now) c.args.objects.now c.requires.few c.tell_laws.ensures c.requires.small in
    omega (arith, e, f)

pub placed-requires-clause-regions : goal.placed-requires-clause-regions
placed-requires-clause-regions c =
    let l = layout_of c.args.layout.now in
    let n : 2 + 2 * length l.modules ≡ 2 + 2 * length c.args.layout.now.modules.items = ap (λ (m : ℕ). 2 + 2 * m) (length-map c.args.layout.now.modules.items module_value) in
    subst (λ (k : ℕ). AreIn k c.items.result.now) n (subst (λ (is : List Item). AreIn (2 + 2 * length l.modules) is) (sym (c.items.ensures ∙ c.requires.items)) (items_are_in l c.args.objects.now))
