-- The key of a layout that was read is bytes.
use Rattle.std.proofs.Common.{◌≡◌, ℕ, ◌<◌, Bool, true, List, Option, Some, None, Result, Ok, Err, sym, ◌∙◌, ap, subst}
use Rattle.std.specs.Prelude.{if◌then◌else◌}
use Rattle.std.specs.Result.{result_ok}
use Rattle.std.specs.Str.{is_utf8}
use Rattle.std.proofs.lemmas.List.Elements.{All-from_get_or}
use Rattle.hex.specs.Hex.{IsBytes}
use Rattle.hex.specs.declared.error.FromHexError.{FromHexError}
use Rattle.hex.proofs.HexLemmas.{decode_sized-ok, decode_sized-twice, decode_of-ok}
use Rattle.toml.specs.Data.{Members, as_str}
use Rattle.toml.specs.Parse.{parse_document}
use Rattle.layout_file.proofs.SoundLemmas.{bind-ok}
use Rattle.layout_file.specs.Checked.{Checked}
use Rattle.layout_file.specs.Layout as layout
use Rattle.layout_file.specs.Layout.{LayoutOf}
use Rattle.layout_file.specs.Rows as rows
use Rattle.layout_file.specs.Rows.{needed, of_kind}
use Rattle.layout_file.specs.Values.{LayoutValue}
use Rattle.layout_file.specs.declared.fault.Key.TheVariants.{Version, Key, HandlerSp, Text, Data, Vectors, Module}
use Rattle.layout_file.specs.declared.fault.LayoutFault.TheVariants.{Utf8OrToml}
use Rattle.layout_file.specs.declared.fault.Spot.{Spot}
use Rattle.linker.specs.Laws.{AreBytes}

decoded : (spot : Spot) (r : Result (List ℕ) FromHexError) (key : List ℕ) → of_kind spot (result_ok r) ≡ Ok key → r ≡ Ok key
decoded spot (Ok bytes) key h = let same : bytes ≡ key = cc in ap Ok same
decoded spot (Err e) key h = absurd cc

row_bytes : (spot : Spot) (table : Members) (key : List ℕ) → rows.key_member spot table ≡ Ok key → IsBytes key
row_bytes spot table key h =
    let value = bind-ok (needed spot table) _ key h in
    let text = bind-ok (of_kind spot (as_str value.0)) _ key value.2 in
    let read = decoded spot _ key text.2 in
    let long = decode_sized-ok text.0 16 key read in
    (decode_of-ok text.0 key (sym (decode_sized-twice text.0 16 long) ∙ read)).3

same_key : (a b : LayoutValue) → ◌≡◌ {A = Checked LayoutValue} (Ok a) (Ok b) → a.key ≡ b.key
same_key a b h = let same : a ≡ b = cc in ap (λ (l : LayoutValue). l.key) same

table_bytes : (top : Members) (l : LayoutValue) → layout.layout_in top ≡ Ok l → IsBytes l.key
table_bytes top l h =
    let known = bind-ok (rows.listed layout.top_keys None top) _ l h in
    let version = bind-ok (rows.integer (layout.at_top Version) (layout.between 1 2) top) _ l known.2 in
    let key = bind-ok (rows.key_member (layout.at_top Key) top) _ l version.2 in
    let handler_sp = bind-ok (rows.integer (layout.at_top HandlerSp) (layout.evens 0 65534) top) _ l key.2 in
    let text = bind-ok (rows.section_member (layout.at_top Text) layout.region top) _ l handler_sp.2 in
    let ram = bind-ok (rows.section_member (layout.at_top Data) layout.region top) _ l text.2 in
    let vectors = bind-ok (rows.vectors (layout.at_top Vectors) top) _ l ram.2 in
    let tables = bind-ok (rows.tables (layout.at_top Module) (layout.room_of version.0) top) _ l vectors.2 in
    let modules = bind-ok (layout.modules_in version.0 tables.0) _ l tables.2 in
    let clear = bind-ok (layout.clear text.0 ram.0 modules.0) _ l modules.2 in
    subst IsBytes (same_key _ l clear.2) (row_bytes (layout.at_top Key) top key.0 key.1)

read_bytes : (bytes : List ℕ) (l : LayoutValue) → LayoutOf bytes ≡ Ok l → IsBytes l.key
unfolding LayoutOf
read_bytes bytes l h = by (is_utf8 bytes) (parse_document bytes) h
  where
    by : (utf8 : Bool) (document : Option Members) → (if utf8 then layout.of_document document else Err Utf8OrToml) ≡ Ok l → IsBytes l.key
    by true (Some top) h = table_bytes top l h
    by _ _ h = absurd cc

pub key_bytes : (bytes : List ℕ) (l : LayoutValue) → LayoutOf bytes ≡ Ok l → AreBytes l.key
key_bytes bytes l h = All-from_get_or (λ b. b < 256) l.key 0 (λ i within. read_bytes bytes l h i)
