-- What objects link to is an image.
use Rattle.std.proofs.Common.{◌≡◌, ◌+◌, ◌*◌, List, length, None, refl, ap, ◌∙◌, sym, arith, subst}
use Rattle.std.specs.Prelude.{All}
use Rattle.elf_objects.specs.Object.{ObjectValue, IsObject}
use Rattle.image_text.specs.Image.{Image, IsImage}
use Rattle.layout_file.specs.Sound.{IsLayout}
use Rattle.layout_file.specs.Values.{LayoutValue}
use Rattle.linker.specs.Laws.{AreBytes}
use Rattle.linker.specs.Image.{Links, linked_image, linked_memory, linked_table, booted_table, memory_by, blank_memory}
use Rattle.linker.specs.Numbers.{linking_of, region_end}
use Rattle.linker.specs.Placement.{starts_of, address_at}
use Rattle.link_symbols.specs.Resolved.{items_of}
use Rattle.linker.specs.Fields.{reloc_fault_in}
use Rattle.linker.specs.Refusals.{link_fault_of, overfull}
use Rattle.mod_layout.specs.First.{first_in}
use Rattle.link_symbols.specs.Passes.{numbered_objects}
use Rattle.link_symbols.specs.Refusals.{no_place, unresolved}
use Rattle.linker.specs.internal.Groups.{fill_fault}
use Rattle.mod_layout.proofs.FirstLemmas.{both_none}
use Rattle.linker.proofs.ByteLemmas.{each_byte, memory_bytes}
use Rattle.linker.proofs.ClearLemmas.{memory_clear}
use Rattle.linker.proofs.FitLemmas.{items_fit, all_fit, starts_high, stubs_fit}
use Rattle.linker.proofs.LinkLemmas.{given_small}
use Rattle.linker.proofs.OrderLemmas.{in_groups}
use Rattle.linker.proofs.MadeLemmas.{table_made}
use Rattle.linker.proofs.RegionLemmas.{items_are_in, ends_kept, ends_low}
use Rattle.linker.proofs.TableLemmas.{table_fits, spans_of}

pub each_placed : (layout : LayoutValue) (os : List ObjectValue) → unresolved layout os ≡ None → no_place layout.modules os ≡ None
unfolding unresolved
each_placed layout os e = (both_none _ _ e).0

all_placed : (layout : LayoutValue) (os : List ObjectValue) → link_fault_of layout os ≡ None → no_place layout.modules os ≡ None
all_placed layout os e = each_placed layout os (both_none _ _ (sym (in_groups layout os) ∙ e)).0

pub none_over : (layout : LayoutValue) (os : List ObjectValue) → link_fault_of layout os ≡ None → overfull layout (region_end layout os) ≡ None
unfolding fill_fault
none_over layout os e = (both_none _ _ (both_none _ _ (sym (in_groups layout os) ∙ e)).1).0

none_refused : (layout : LayoutValue) (os : List ObjectValue) → link_fault_of layout os ≡ None → first_in (reloc_fault_in (linking_of layout os)) (numbered_objects os) ≡ None
unfolding fill_fault
none_refused layout os e = (both_none _ _ (both_none _ _ (sym (in_groups layout os) ∙ e)).1).1

pub memory_is : (layout : LayoutValue) (os : List ObjectValue) (image : Image) → Links layout os image → image.memory ≡ memory_by (linking_of layout os) (region_end layout os) layout os blank_memory
unfolding linked_image linked_memory
memory_is layout os image h = ap (λ (i : Image). i.memory) h.linked

pub linked_is_image : (layout : LayoutValue) (os : List ObjectValue) → IsLayout layout → AreBytes layout.key → All IsObject os → All (λ o. AreBytes o.file) os
    → link_fault_of layout os ≡ None → IsImage (linked_image layout os)
unfolding linked_image linked_memory linked_table
linked_is_image layout os s key are bytes e =
    let end = region_end layout os in
    let over = none_over layout os e in
    let kept = ends_kept layout os s over in
    let room = items_fit (starts_of layout) (items_of layout os) (2 + 2 * length layout.modules) (address_at (starts_of layout) (items_of layout os)) (items_are_in layout os) (starts_high layout s) kept (λ k. refl) in
    let fit = all_fit layout (address_at (starts_of layout) (items_of layout os)) os are (all_placed layout os e) room in
    let stubs = stubs_fit layout (items_of layout os) end s (λ r. refl) kept in
    let clear = memory_clear (linking_of layout os) end layout os fit (none_refused layout os e) (ends_low layout os s over) stubs s.vectors_kept.below_16 in
    let made = table_made end layout s (table_fits end layout s (spans_of layout end over stubs)) in
    let sp = s.small_handler_sp in
    record {
      full = clear.full;
      bytes = each_byte _ (memory_bytes (linking_of layout os) end layout os bytes);
      low = clear.low;
      sixteen = s.key_bytes;
      key_bytes = each_byte layout.key key;
      table_ok = made.0;
      numbered = made.1.numbered_from_1;
      all_held = made.1.all_held;
      given_small = given_small (booted_table end layout) made.0 made.1;
      even_sp = s.even_handler_sp;
      small_sp = omega (arith, sp);
    }

pub links_is_image : (layout : LayoutValue) (os : List ObjectValue) (image : Image) → IsLayout layout → AreBytes layout.key → All IsObject os → All (λ o. AreBytes o.file) os
    → Links layout os image → IsImage image
links_is_image layout os image s key are bytes h = subst IsImage (sym h.linked) (linked_is_image layout os s key are bytes h.unrefused)
