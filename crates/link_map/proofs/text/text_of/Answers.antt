use Rattle.std.proofs.Common.{◌≡◌, ◌++◌, ℕ, List, Vec, ap, ◌∙◌, map, codes}
use Rattle.std.specs.Prelude.{slice_index}
use Rattle.std.specs.List.{flat_map}
use Rattle.std.specs.declared.alloc.Global.{Global}
use Rattle.image_text.specs.Image.{Image}
use Rattle.layout_file.specs.Layout.{layout_of}
use Rattle.layout_file.specs.Views.{vector_of}
use Rattle.layout_file.specs.declared.parts.VectorName.{VectorName}
use Rattle.linker.specs.Image.{linked_image}
use Rattle.linker.specs.Linkage.{listed_numbers}
use Rattle.link_symbols.specs.Commons.{commons_of}
use Rattle.link_symbols.specs.Names.{count_sections}
use Rattle.linker.specs.Numbers.{linking_of, region_end}
use Rattle.link_symbols.specs.Passes.{numbered_objects}
use Rattle.link_symbols.specs.Symbols.{named_symbols}
use Rattle.mod_layout.specs.Table.{Table}
use Rattle.link_map.specs.declared.modules.Booted.{Booted}
use Rattle.link_map.specs.Lines.{numbered_text}
use Rattle.link_map.specs.Map.{map_text, map_module_line, part_line, common_line, entry_lines, vector_line, symbol_lines}
use Rattle.link_map.specs.Modules.{PlacedModule, by_id}
use Rattle.link_map.specs.Parts.{parts_of}
use Rattle.link_map.specs.internal.Values.{booted_value}
use Rattle.link_map.proofs.Steps.{eight, linked_commons}
use Rattle.link_map.proofs.text.text_of.Goals as goal

pub put_commons-requires-clause-commons : goal.put_commons-requires-clause-commons
put_commons-requires-clause-commons c =
    (commons_of (named_symbols c.args.objects.now), linked_commons (layout_of c.args.layout.now) c.args.objects.now _ _ _ c.requires.commons c.requires.items c.section_count-first_common.ensures.count)

pub returns : goal.returns
unfolding map_text
returns c =
    let l = layout_of c.args.layout.now in let os = c.args.objects.now in
    let k = linking_of l os in let end = region_end l os in let image = linked_image l os in
    let view = c.image.view_is ∙ c.requires.image in
    let table : c.image.inside.table ≡ image.table = ap (λ (i : Image). i.table) view in
    let memory : c.image.inside.memory.items ≡ image.memory = ap (λ (i : Image). i.memory) view in
    let ends : slice_index c.as_slice.result.now ≡ end = ap (λ (xs : List ℕ). slice_index xs) c.as_slice.ensures.value ∙ c.requires.ends in
    let addresses : slice_index c.as_slice-addresses.result.now ≡ k.address = ap (λ (xs : List ℕ). slice_index xs) c.as_slice-addresses.ensures.value ∙ c.requires.addresses in
    let order : map booted_value c.as_slice-2.result.now ≡ by_id l = ap (λ (bs : List Booted). map booted_value bs) c.as_slice-2.ensures.value ∙ c.in_ok-order.ensures.values in
    let again : map booted_value c.as_slice-4.result.now ≡ by_id l = ap (λ (bs : List Booted). map booted_value bs) c.as_slice-4.ensures.value ∙ c.in_ok-order.ensures.values in
    let vectors : map vector_of c.as_slice-6.result.now ≡ l.vectors = ap (λ (vs : List VectorName). map vector_of vs) c.as_slice-6.ensures.value in
    let numbers = ap (λ (ns : List (Vec ℕ Global)). listed_numbers ns) c.as_slice-7.ensures.value ∙ c.requires.numbers in
    let t1 = c.put.new.self.text.items in let t2 = c.put_modules.new.out.text.items in let t3 = c.put_parts.new.out.text.items in let t4 = c.put_commons.new.out.text.items in
    let t5 = c.put_entries.new.out.text.items in let t6 = c.put_vectors.new.out.text.items in let t7 = c.put_symbols.new.out.text.items in
    let first = c.section_count-first_common.result in let commons = commons_of (named_symbols os) in
    eight (codes "sancus-map 1\n") (numbered_text (map_module_line end) 1 (by_id l)) (flat_map (part_line image.table) (parts_of k.address os))
    (numbered_text (common_line k.address (count_sections os)) 0 commons) (numbered_text (entry_lines image.memory) 1 (by_id l))
    (flat_map (vector_line image.memory) l.vectors) (flat_map (symbol_lines k image.table) (numbered_objects os)) (codes "end\n")
    t1 t2 t3 t4 t5 t6 t7 c.put-2.new.self.text.items
    (c.in_ok-put.ensures ∙ ap (λ (t : List ℕ). t ++ codes "sancus-map 1\n") c.new-out.ensures)
    (c.in_ok-put_modules.ensures ∙ (ap (λ (f : ℕ → ℕ). t1 ++ numbered_text (map_module_line f) 1 (map booted_value c.as_slice-2.result.now)) ends
    ∙ ap (λ (ps : List PlacedModule). t1 ++ numbered_text (map_module_line end) 1 ps) order))
    (c.in_ok-put_parts.ensures ∙ (ap (λ (t : Table). t2 ++ flat_map (part_line t) (parts_of (slice_index c.as_slice-addresses.result.now) os)) table
    ∙ ap (λ (f : ℕ → ℕ). t2 ++ flat_map (part_line image.table) (parts_of f os)) addresses))
    (c.in_ok-put_commons.ensures commons (linked_commons l os _ _ _ c.requires.commons c.requires.items c.section_count-first_common.ensures.count) ∙ (ap (λ (f : ℕ → ℕ). t3 ++ numbered_text (common_line f first) 0 commons) c.requires.addresses
    ∙ ap (λ (n : ℕ). t3 ++ numbered_text (common_line k.address n) 0 commons) c.section_count-first_common.ensures.count))
    (c.in_ok-put_entries.ensures ∙ (ap (λ (m : List ℕ). t4 ++ numbered_text (entry_lines m) 1 (map booted_value c.as_slice-4.result.now)) (c.as_slice-3.ensures.value ∙ memory)
    ∙ ap (λ (ps : List PlacedModule). t4 ++ numbered_text (entry_lines image.memory) 1 ps) again))
    (c.in_ok-put_vectors.ensures ∙ (ap (λ (m : List ℕ). t5 ++ flat_map (vector_line m) (map vector_of c.as_slice-6.result.now)) (c.as_slice-5.ensures.value ∙ memory)
    ∙ ap (λ vs. t5 ++ flat_map (vector_line image.memory) vs) vectors))
    (c.in_ok-put_symbols.ensures k numbers ∙ ap (λ (t : Table). t6 ++ flat_map (symbol_lines k t) (numbered_objects os)) table)
    c.in_ok-put-2.ensures
