-- Values of the code's own records.
use Rattle.std.specs.Prelude.{◌≡◌, ℕ, suc, List, [], ◌∷◌, ◌++◌, length, map, nat_lt, if◌then◌else◌}
use Rattle.std.specs.Fmt.{decimal}
use Rattle.layout_file.specs.Views.{module_value}
use Rattle.link_map.specs.declared.lines.Piece.{Piece}
use Rattle.link_map.specs.declared.lines.Piece.TheVariants.{Word, Number, Address, Name}
use Rattle.link_map.specs.declared.modules.Booted.{Booted}
use Rattle.link_map.specs.declared.parts.Numbered.{Numbered}
use Rattle.link_map.specs.declared.parts.Part.{Part}
use Rattle.link_symbols.specs.declared.item.Item.{Item}
use Rattle.link_symbols.specs.CommonNames.{common_name}
use Rattle.link_symbols.specs.Commons.{Common, common_item}
use Rattle.link_symbols.specs.Passes.{NumberedObject}
use Rattle.link_map.specs.Lines.{address_text, name_shown}
use Rattle.link_map.specs.Modules.{PlacedModule}
use Rattle.link_map.specs.Parts.{PartValue}

-- the text of a word of a line
abbrev pub piece_text : Piece → List ℕ
piece_text (Word word) = word.now
piece_text (Number n) = decimal n
piece_text (Address a) = address_text a
piece_text (Name name) = name_shown name.now

abbrev pub booted_value : Booted → PlacedModule
booted_value b = record { number = b.number; value = module_value b.spec.now }

abbrev pub part_value : Part → PartValue
part_value p = record { at = p.at; end = p.end; object = p.object; section = p.section; name = p.name.now }

abbrev pub numbered_value : Numbered → NumberedObject
numbered_value x = record { number = x.number; first = x.first; object = x.object.now }

-- where a part at this address comes: before the first that stands higher
abbrev pub insertion_place : List PartValue → ℕ → ℕ
insertion_place [] at = 0
insertion_place (q ∷ qs) at = if nat_lt at q.at then 0 else suc (insertion_place qs at)

-- these commons have these names, and their items come after so many others
pub record HasCommons (names : List (List ℕ)) (items : List Item) (first : ℕ) (commons : List Common) : Type 0 where
  pub named : names ≡ map common_name commons
  pub front : List Item
  pub count : first ≡ length front
  pub placed : items ≡ front ++ map common_item commons
