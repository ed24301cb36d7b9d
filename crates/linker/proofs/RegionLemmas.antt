-- Each item is in a region of the layout, and each region ends below the vectors.
use Rattle.std.proofs.Common.{◌≡◌, ◌⊎◌, inl, inr, ℕ, ◌+◌, ◌*◌, ◌<◌, ◌≤◌, List, [], ◌∷◌, map, length, Bool, true, false, Option, Some, None, arith}
use Rattle.std.specs.Prelude.{if◌then◌else◌}
use Rattle.std.specs.List.{flat_map}
use Rattle.std.proofs.lemmas.Bool.{cases_lt}
use Rattle.std.proofs.lemmas.List.Elements.{All-nil, All-append, All-map}
use Rattle.elf_objects.specs.declared.object.SectionHead.{SectionHead}
use Rattle.elf_objects.specs.Object.{ObjectValue}
use Rattle.layout_file.specs.Sound.{IsLayout}
use Rattle.layout_file.specs.Values.{ModuleValue, LayoutValue}
use Rattle.link_symbols.specs.declared.item.Item.{Item}
use Rattle.link_symbols.specs.declared.item.Part.{Part}
use Rattle.link_symbols.specs.Passes.{first_at, part}
use Rattle.std.specs.Option.{option_or}
use Rattle.link_symbols.specs.Parts.{part_at, code_part, data_part, part_in, part_of, item_of, is_loaded_head, items_in, section_items}
use Rattle.link_symbols.specs.Commons.{commons_of}
use Rattle.link_symbols.specs.Symbols.{named_symbols}
use Rattle.linker.specs.internal.Placed.{AreIn, IsInBy}
use Rattle.link_symbols.specs.Resolved.{items_of}
use Rattle.linker.specs.Placement.{starts_of, module_starts}
use Rattle.linker.specs.Numbers.{region_end}
use Rattle.linker.specs.Refusals.{overfull}
use Rattle.linker.proofs.BoundLemmas.{ends_within}
use Rattle.linker.proofs.ImageLemmas.{common_in}
use Rattle.linker.proofs.PlaceLemmas.{start_none, filled_is}

-- ---- where sections go

three_in : (n : ℕ) (a b c : Bool) (p q r : Part) → IsInBy n (Some p) → IsInBy n (Some q) → IsInBy n (Some r) → IsInBy n (if a then Some p else if b then Some q else if c then Some r else None)
three_in n true b c p q r h i j = h
three_in n false true c p q r h i j = i
three_in n false false true p q r h i j = j
three_in n false false false p q r h i j = tt

named_in : (n i : ℕ) (m : ModuleValue) (name : List ℕ) → 4 + 2 * i ≤ n → IsInBy n (part_in i m name)
unfolding part_in
named_in n i m name l = three_in n _ _ _ (code_part i) (data_part i 0) (data_part i 1) (omega arith, omega arith) (omega arith, omega arith) (omega arith, omega arith)

either_in : (n : ℕ) (a b : Option Part) → IsInBy n a → IsInBy n b → IsInBy n (option_or a b)
either_in n (Some p) b h i = h
either_in n None b h i = i

first_part : (n i : ℕ) (ms : List ModuleValue) (name : List ℕ) → 2 + 2 * (i + length ms) ≤ n → IsInBy n (first_at (λ j m. part_in j m name) i ms)
first_part n i [] name l = tt
first_part n i (m ∷ ms) name l = either_in n (part_in i m name) (first_at (λ j x. part_in j x name) (i + 1) ms) (named_in n i m name (omega arith)) (first_part n (i + 1) ms name (omega arith))

flags_in : (n : ℕ) (a b c : Bool) (named : Option Part) → 2 ≤ n → IsInBy n named → IsInBy n (if a then named else if b then Some (part_at 0 0) else Some (part_at 1 (if c then 1 else 0)))
flags_in n true b c named l h = h
flags_in n false true c named l h = (omega arith, omega arith)
flags_in n false false true named l h = (omega arith, omega arith)
flags_in n false false false named l h = (omega arith, omega arith)

section_part : (ms : List ModuleValue) (name : List ℕ) (head : SectionHead) → IsInBy (2 + 2 * length ms) (part_of ms name head)
unfolding part_of
section_part ms name head = flags_in (2 + 2 * length ms) _ _ _ (first_at (λ i m. part_in i m name) 0 ms) (omega arith) (first_part (2 + 2 * length ms) 0 ms name (omega arith))

loaded_in : (n : ℕ) (b : Bool) (o : Option Part) → IsInBy n o → IsInBy n (if b then o else None)
loaded_in n true o h = h
loaded_in n false o h = tt

item_in : (ms : List ModuleValue) (o : ObjectValue) (head : SectionHead) → IsInBy (2 + 2 * length ms) (item_of ms o head).part
unfolding item_of
item_in ms o head = loaded_in (2 + 2 * length ms) (is_loaded_head head) (part_of ms (part o head.name) head) (section_part ms (part o head.name) head)

sections_in : (ms : List ModuleValue) (os : List ObjectValue) → AreIn (2 + 2 * length ms) (section_items ms os)
sections_in ms [] = All-nil (λ (i : Item). IsInBy (2 + 2 * length ms) i.part)
sections_in ms (o ∷ os) =
    let In = λ (i : Item). IsInBy (2 + 2 * length ms) i.part in
    All-append In (items_in ms o) (section_items ms os) (All-map In (item_of ms o) o.sections (λ k d l. item_in ms o _)) (sections_in ms os)

pub items_are_in : (layout : LayoutValue) (os : List ObjectValue) → AreIn (2 + 2 * length layout.modules) (items_of layout os)
items_are_in layout os =
    All-append (λ (i : Item). IsInBy (2 + 2 * length layout.modules) i.part) (section_items layout.modules os) (map _ (commons_of (named_symbols os)))
    (sections_in layout.modules os) (common_in (2 + 2 * length layout.modules) (commons_of (named_symbols os)) (omega arith))

-- ---- where regions end

starts_more : (ms : List ModuleValue) → length (flat_map module_starts ms) ≡ 2 * length ms
starts_more [] = omega arith
starts_more (m ∷ ms) = omega (arith, starts_more ms)

pub starts_count : (layout : LayoutValue) → length (starts_of layout) ≡ 2 + 2 * length layout.modules
unfolding starts_of
starts_count layout = omega (arith, starts_more layout.modules)

pub ends_kept : (layout : LayoutValue) (os : List ObjectValue) → IsLayout layout → overfull layout (region_end layout os) ≡ None → (r : ℕ) → r < 2 + 2 * length layout.modules → region_end layout os r ≤ 65504
ends_kept layout os s e =
    ends_within layout (region_end layout os) e s.text_region.below_vectors s.ram_region.below_vectors
    (λ k d l. ((s.modules_kept k d l).text_region.below_vectors, (s.modules_kept k d l).ram_region.below_vectors))

end_by : (layout : LayoutValue) (os : List ObjectValue) → IsLayout layout → overfull layout (region_end layout os) ≡ None → (r : ℕ) → (r < 2 + 2 * length layout.modules) ⊎ (2 + 2 * length layout.modules ≤ r) → region_end layout os r ≤ 65504
end_by layout os s e r (inl l) = ends_kept layout os s e r l
end_by layout os s e r (inr l) =
    let none = start_none (starts_of layout) (items_of layout os) (2 + 2 * length layout.modules) r 3 (items_are_in layout os) (omega (arith, starts_count layout)) l in
    let w = filled_is (starts_of layout) (items_of layout os) r in
    omega (arith, none, w)

pub ends_low : (layout : LayoutValue) (os : List ObjectValue) → IsLayout layout → overfull layout (region_end layout os) ≡ None → (r : ℕ) → region_end layout os r ≤ 65504
ends_low layout os s e r = end_by layout os s e r (cases_lt r (2 + 2 * length layout.modules))
