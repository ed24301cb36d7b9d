-- Modules, their places in the address space, and the table that holds them.
use Rattle.std.specs.Prelude.{ℕ, ◌+◌, ◌-◌, ◌%◌, List, [], ◌∷◌, ◌++◌, max, min, map, filter, ◌==◌, nat_lt, nat_le, if◌then◌else◌, Bool, ◌&&◌, ◌||◌, not, find, Option, is_none, option_map, option_and_then, length}
use Rattle.std.specs.Bool.{then_some}
use Rattle.std.specs.List.{reduce}
use Rattle.mod_layout.specs.First.{first_of}
use Rattle.mod_layout.specs.declared.TheConstants.{DEVICES_END, FIRST_VECTOR}
use Rattle.mod_layout.specs.declared.Section.{Section}
use Rattle.mod_layout.specs.declared.Module.{Module}
use Rattle.mod_layout.specs.declared.Place.{Place}
use Rattle.mod_layout.specs.declared.Place.TheVariants.{Open, Entry, Text, Data}
use Rattle.mod_layout.specs.declared.TableFault.{TableFault}
use Rattle.mod_layout.specs.declared.TableFault.TheVariants.{Empty, Odd, Overlap, Reserved, Full, Spent}

-- the modules in the order in which they came, the number of ids given so far, and how many modules there may be
pub record Table : Type 0 where
  pub modules : List Module
  pub given : ℕ
  pub room : ℕ

-- ---- places

-- whether a section has this address: from its start on, below its end
abbrev pub holds : Section → ℕ → Bool
holds s a = nat_le s.start a && nat_lt a s.end

-- whether an address is in the first word of a text, its entry
abbrev pub is_entry : Section → ℕ → Bool
is_entry text a = (a == text.start) || (a == text.start + 1)

-- how many bytes a section has
abbrev pub size_of : Section → ℕ
size_of s = s.end - s.start

-- what an address is to these modules, the first that fits: entry word, rest of a text, data, or open
abbrev pub place_in : List Module → ℕ → Place
place_in [] a = Open
place_in (m ∷ ms) a =
    if is_entry m.text a then Entry m.id
    else (if holds m.text a then Text m.id else (if holds m.ram a then Data m.id else place_in ms a))

-- what an address is to a table
unfoldable pub place_of : Table → ℕ → Place
place_of t a = place_in t.modules a

-- the id of the module that a place is of, else 0
abbrev pub place_id : Place → ℕ
place_id Open = 0
place_id (Entry id) = id
place_id (Text id) = id
place_id (Data id) = id

-- ---- look-ups by id

-- the module with this id
abbrev pub module_of : ℕ → Table → Option Module
module_of id t = find (λ m. m.id == id) t.modules

-- the active module of a table
abbrev pub own_of : Option ℕ → Table → Option Module
own_of active t = option_and_then (λ id. module_of id t) active

-- ---- a new module

-- whether two sections have a byte in common
abbrev pub share_byte : Section → Section → Bool
share_byte a b = nat_lt (max a.start b.start) (min a.end b.end)

-- whether one of two sections has a byte in common with a section of this module
abbrev pub meets : Section → Section → Module → Bool
meets text ram m = share_byte text m.text || share_byte text m.ram || share_byte ram m.text || share_byte ram m.ram

-- whether a section's start is not below its end
abbrev pub is_empty : Section → Bool
is_empty s = not (nat_lt s.start s.end)

-- whether a section's start or end is odd
abbrev pub is_odd : Section → Bool
is_odd s = not ((s.start % 2 == 0) && (s.end % 2 == 0))

-- whether a section reaches the devices below, or the vectors above
abbrev pub is_reserved : Section → Bool
is_reserved s = nat_lt s.start DEVICES_END || nat_lt FIRST_VECTOR s.end

-- the lowest id of a module that these sections meet
abbrev pub lowest_met : Section → Section → List Module → Option ℕ
lowest_met text ram ms = reduce min (map (λ m. m.id) (filter (meets text ram) ms))

-- why a table refuses a module with these sections: the first that applies; they overlap a held module, or each other
abbrev pub fault_of : Table → Section → Section → Option TableFault
fault_of t text ram = first_of (
    then_some (is_empty text || is_empty ram) Empty
    ∷ then_some (is_odd text || is_odd ram) Odd
    ∷ option_map Overlap (lowest_met text ram t.modules)
    ∷ then_some (share_byte text ram) (Overlap 0)
    ∷ then_some (is_reserved text || is_reserved ram) Reserved
    ∷ then_some (not (nat_lt (length t.modules) t.room)) Full
    ∷ then_some (not (nat_lt t.given 0xFFFF)) Spent ∷ [])

-- whether a table takes a module with these sections
abbrev pub takes : Table → Section → Section → Bool
takes t text ram = is_none (fault_of t text ram)

-- the table with one module more, whose id is the next that was never given
abbrev pub with_module : Table → ℕ → Section → Section → Table
with_module t vendor text ram =
    record { modules = t.modules ++ record { id = t.given + 1; vendor = vendor; text = text; ram = ram } ∷ []; given = t.given + 1; room = t.room }

-- ---- a module goes

-- these modules but the one with this id
abbrev pub drop_module : ℕ → List Module → List Module
drop_module id [] = []
drop_module id (m ∷ ms) = if m.id == id then ms else m ∷ drop_module id ms

-- the table without this module; the number of ids given stays
abbrev pub without : ℕ → Table → Table
without id t = record { modules = drop_module id t.modules; given = t.given; room = t.room }

-- a table with no module, of this room
abbrev pub empty_table : ℕ → Table
empty_table room = record { modules = []; given = 0; room = room }
