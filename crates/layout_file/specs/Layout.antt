-- The layout of a text, or the first refusal.
--
-- A layout is a TOML document. Its top table is examined first, then the table of each module in order. In a table a
-- key that is not listed comes first, then each listed key in the order of the rows below.
use Rattle.std.specs.Prelude.{ℕ, ◌+◌, ◌==◌, false, true, if◌then◌else◌, List, [], ◌∷◌, Option, Some, None, Ok, Err}
use Rattle.std.specs.Str.{bytes_eq, is_utf8}
use Rattle.toml.specs.Data.{Members}
use Rattle.toml.specs.Parse.{parse_document}
use Rattle.mod_layout.specs.declared.TheConstants.{DEVICES_END, FIRST_VECTOR}
use Rattle.layout_file.specs.Checked.{Checked, ◌>>=◌, map_ok, gather, one}
use Rattle.layout_file.specs.Rows as rows
use Rattle.layout_file.specs.Rows.{listed, integer, section_member, key_member, vectors, tables}
use Rattle.mod_layout.specs.Table.{share_byte}
use Rattle.layout_file.specs.Clashes.{first_clash}
use Rattle.layout_file.specs.Values.{ModuleValue, LayoutValue, regions, module_names, boots_of}
use Rattle.layout_file.specs.Views.{vectors_of, modules_of}
use Rattle.layout_file.specs.declared.fault.Key.{Key as LayoutKey}
use Rattle.layout_file.specs.declared.fault.Key.TheVariants.{Version, Key, HandlerSp, Text, Data, Vectors, Module, Name, Vendor, Stack, Entries, Boot}
use Rattle.layout_file.specs.declared.fault.Spot.{Spot}
use Rattle.layout_file.specs.declared.fault.LayoutFault.{LayoutFault}
use Rattle.layout_file.specs.declared.fault.LayoutFault.TheVariants.{Utf8OrToml, Overlap, SameName, SameBoot}
use Rattle.mod_layout.specs.declared.Section.{Section}
use Rattle.layout_file.specs.declared.layout.Layout.{Layout}
use Rattle.layout_file.specs.declared.rows.Bounds.{Bounds}

-- ---- places and bounds

abbrev pub at_top : LayoutKey → Spot
at_top key = record { «module» = None; key = key }

abbrev pub in_module : ℕ → LayoutKey → Spot
in_module n key = record { «module» = Some n; key = key }

-- each integer from `least` to `most`
abbrev pub between : ℕ → ℕ → Bounds
between least most = record { least = least; most = most; even = false }

-- each even integer from `least` to `most`
abbrev pub evens : ℕ → ℕ → Bounds
evens least most = record { least = least; most = most; even = true }

-- a region lies above the devices and below the vectors
abbrev pub region : Bounds
region = evens DEVICES_END FIRST_VECTOR

-- version 1 allows 8 modules, version 2 allows 32
abbrev pub room_of : ℕ → ℕ
room_of version = if version == 1 then 8 else 32

-- ---- the table of a module

-- in version 1 a module's boot is its number plus 1
abbrev pub module_boot : ℕ → ℕ → Members → Checked ℕ
module_boot version n table = if version == 1 then Ok (n + 1) else integer (in_module n Boot) (between 1 32) table

abbrev pub module_keys : ℕ → List LayoutKey
module_keys version =
    if version == 1 then Name ∷ Vendor ∷ Text ∷ Data ∷ Stack ∷ Entries ∷ []
    else Name ∷ Vendor ∷ Text ∷ Data ∷ Stack ∷ Entries ∷ Boot ∷ []

abbrev pub module_row : ℕ → ℕ → Members → Checked ModuleValue
module_row version n table = do
  known ← listed (module_keys version) (Some n) table
  name ← rows.name (in_module n Name) 32 table
  vendor ← integer (in_module n Vendor) (between 0 65535) table
  text ← section_member (in_module n Text) region table
  ram ← section_member (in_module n Data) region table
  stack ← integer (in_module n Stack) (evens 2 32768) table
  entries ← rows.entries (in_module n Entries) 64 table
  boot ← module_boot version n table
  Ok (record { name = name; vendor = vendor; text = text; ram = ram; stack = stack; entries = entries; boot = boot })

abbrev pub modules_in : ℕ → List Members → Checked (List ModuleValue)
modules_in version = gather (λ n table. map_ok one (module_row version n table)) 0

-- ---- regions, names and boots

abbrev pub no_pair : (ℕ → ℕ → LayoutFault) → Option (ℕ × ℕ) → Checked (Unit {0})
no_pair fault None = Ok tt
no_pair fault (Some p) = Err (fault p.0 p.1)

-- no two regions share a byte, no two names and no two boots are the same
abbrev pub clear : Section → Section → List ModuleValue → Checked (Unit {0})
clear text ram modules = do
  apart ← no_pair Overlap (first_clash share_byte (regions text ram modules))
  named ← no_pair SameName (first_clash bytes_eq (module_names modules))
  no_pair SameBoot (first_clash (λ a b. a == b) (boots_of modules))

-- ---- the top table

abbrev pub top_keys : List LayoutKey
top_keys = Version ∷ Key ∷ HandlerSp ∷ Text ∷ Data ∷ Vectors ∷ Module ∷ []

abbrev pub layout_in : Members → Checked LayoutValue
layout_in top = do
  known ← listed top_keys None top
  version ← integer (at_top Version) (between 1 2) top
  key ← key_member (at_top Key) top
  handler_sp ← integer (at_top HandlerSp) (evens 0 65534) top
  text ← section_member (at_top Text) region top
  ram ← section_member (at_top Data) region top
  vectors ← vectors (at_top Vectors) top
  tables ← tables (at_top Module) (room_of version) top
  modules ← modules_in version tables
  apart ← clear text ram modules
  Ok (record {
    room = room_of version;
    key = key;
    handler_sp = handler_sp;
    text = text;
    ram = ram;
    vectors = vectors;
    modules = modules;
  })

-- ---- the text

abbrev pub of_document : Option Members → Checked LayoutValue
of_document None = Err Utf8OrToml
of_document (Some top) = layout_in top

-- text that is no UTF-8 or no TOML document is refused as such
unfoldable pub LayoutOf : List ℕ → Checked LayoutValue
LayoutOf bytes = if is_utf8 bytes then of_document (parse_document bytes) else Err Utf8OrToml

-- ---- the code's layout

abbrev pub layout_of : Layout → LayoutValue
layout_of l = record {
  room = l.room;
  key = l.key;
  handler_sp = l.handler_sp;
  text = l.text;
  ram = l.ram;
  vectors = vectors_of l.vectors;
  modules = modules_of l.modules;
}
