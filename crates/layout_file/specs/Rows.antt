-- The refusals of a key, and one function for each kind of value that a key may have.
use Rattle.std.specs.Prelude.{ℕ, ℤ, pos, negsuc, ◌%◌, ◌==◌, ◌&&◌, ◌||◌, not, Bool, true, false, nat_le, if◌then◌else◌, List, [], ◌∷◌, length, codes, Option, Some, None, option_map, option_and_then, Ok, Err}
use Rattle.std.specs.List.{list_all, list_any}
use Rattle.std.specs.Option.{ok_or, option_map_or}
use Rattle.std.specs.Result.{result_ok}
use Rattle.std.specs.Str.{bytes_eq}
use Rattle.std.specs.Char.{is_ascii_alphanumeric}
use Rattle.hex.specs.Hex.{decode_sized}
use Rattle.toml.specs.Data.{Data, Items, no_items, item, Members, no_members, member, get_member, as_integer, as_str, as_array, as_table}
use Rattle.layout_file.specs.Checked.{Checked, ◌>>=◌, map_ok, gather, one}
use Rattle.layout_file.specs.Keys.{key_name}
use Rattle.layout_file.specs.Values.{VectorValue}
use Rattle.layout_file.specs.declared.fault.Key.{Key as LayoutKey}
use Rattle.layout_file.specs.declared.fault.Spot.{Spot}
use Rattle.layout_file.specs.declared.fault.LayoutFault.TheVariants.{MissingKey, WrongKind, OutOfRange, UnknownKey, TooMany}
use Rattle.mod_layout.specs.declared.Section.{Section}
use Rattle.layout_file.specs.declared.rows.Bounds.{Bounds}

-- ---- the refusals of a key, in order

-- MissingKey: a key that is not optional is absent
abbrev pub present : Spot → Option Data → Checked Data
present spot found = ok_or found (MissingKey spot)

-- WrongKind: the value's type, or the form of a key, name or array, is another
abbrev pub of_kind : {A : Type 0} → Spot → Option A → Checked A
of_kind spot found = ok_or found (WrongKind spot)

-- TooMany: there are more than `most`
abbrev pub at_most : {A : Type 0} → Spot → ℕ → List A → Checked (List A)
at_most spot most xs = if nat_le (length xs) most then Ok xs else Err (TooMany spot)

-- from `least` to `most`, and even where the bounds say so
abbrev pub is_within : Bounds → ℕ → Bool
is_within b n = (nat_le b.least n && nat_le n b.most) && (not b.even || n % 2 == 0)

-- OutOfRange: an integer is outside its bounds
abbrev pub in_bounds : Spot → Bounds → ℤ → Checked ℕ
in_bounds spot b (pos n) = if is_within b n then Ok n else Err (OutOfRange spot (pos n))
in_bounds spot b (negsuc n) = Err (OutOfRange spot (negsuc n))

-- OutOfRange: the second of a pair is below the first
abbrev pub in_order : Spot → ℕ → ℕ → Checked Section
in_order spot start end =
    if nat_le start end then Ok (record { start = start; end = end }) else Err (OutOfRange spot (pos end))

-- OutOfRange: there are none
abbrev pub at_least_one : {A : Type 0} → Spot → List A → Checked (List A)
at_least_one spot [] = Err (OutOfRange spot (pos 0))
at_least_one spot (x ∷ xs) = Ok (x ∷ xs)

-- ---- the refusal of a table: UnknownKey, it has a key that is not listed

abbrev pub is_known_key : List LayoutKey → List ℕ → Bool
is_known_key keys name = list_any (λ key. bytes_eq (key_name key) name) keys

abbrev pub all_keys : (List ℕ → Bool) → Members → Bool
all_keys is_known no_members = true
all_keys is_known (member k d ms) = is_known k && all_keys is_known ms

abbrev pub known : Bool → Option ℕ → Checked (Unit {0})
known true «module» = Ok tt
known false «module» = Err (UnknownKey «module»)

abbrev pub listed : List LayoutKey → Option ℕ → Members → Checked (Unit {0})
listed keys «module» table = known (all_keys (is_known_key keys) table) «module»

-- ---- the value at a key

abbrev pub member_at : Spot → Members → Option Data
member_at spot table = get_member (key_name spot.key) table

abbrev pub needed : Spot → Members → Checked Data
needed spot table = present spot (member_at spot table)

-- what f makes of a value, and nothing where an optional one is absent
abbrev pub if_there : {A B : Type 0} → (A → Checked (List B)) → Option A → Checked (List B)
if_there f found = option_map_or f found (Ok [])

-- ---- an integer

abbrev pub integer : Spot → Bounds → Members → Checked ℕ
integer spot b table = do
  d ← needed spot table
  z ← of_kind spot (as_integer d)
  in_bounds spot b z

-- ---- an array of two integers, the first not above the second

abbrev pub two : Items → Option (Data × Data)
two (item a (item b no_items)) = Some (a, b)
two _ = None

abbrev pub two_integers : Data × Data → Option (ℤ × ℤ)
two_integers p = option_and_then (λ a. option_map (λ b. (a, b)) (as_integer p.1)) (as_integer p.0)

abbrev pub as_pair : Data → Option (ℤ × ℤ)
as_pair d = option_and_then two_integers (option_and_then two (as_array d))

abbrev pub section_member : Spot → Bounds → Members → Checked Section
section_member spot b table = do
  d ← needed spot table
  p ← of_kind spot (as_pair d)
  start ← in_bounds spot b p.0
  end ← in_bounds spot b p.1
  in_order spot start end

-- ---- a string of 32 hexadecimal digits of either case

abbrev pub key_member : Spot → Members → Checked (List ℕ)
key_member spot table = do
  d ← needed spot table
  s ← of_kind spot (as_str d)
  of_kind spot (result_ok (decode_sized s 16))

-- ---- a string of 1 to `most` letters, digits and `_`

-- `_` is 95
abbrev pub is_layout_name_byte : ℕ → Bool
is_layout_name_byte c = is_ascii_alphanumeric c || c == 95

abbrev pub is_layout_name : ℕ → List ℕ → Bool
is_layout_name most s = nat_le 1 (length s) && (nat_le (length s) most && list_all is_layout_name_byte s)

abbrev pub layout_name : ℕ → List ℕ → Option (List ℕ)
layout_name most s = if is_layout_name most s then Some s else None

abbrev pub name : Spot → ℕ → Members → Checked (List ℕ)
name spot most table = do
  d ← needed spot table
  s ← of_kind spot (as_str d)
  of_kind spot (layout_name most s)

-- ---- an array of 1 to `most` strings

abbrev pub item_list : Items → List Data
item_list no_items = []
item_list (item d ds) = d ∷ item_list ds

abbrev pub string : Spot → Data → Checked (List ℕ)
string spot d = of_kind spot (as_str d)

abbrev pub strings : Spot → List Data → Checked (List (List ℕ))
strings spot = gather (λ _ d. map_ok one (string spot d)) 0

abbrev pub entries : Spot → ℕ → Members → Checked (List (List ℕ))
entries spot most table = do
  d ← needed spot table
  ds ← of_kind spot (as_array d)
  names ← strings spot (item_list ds)
  few ← at_most spot most names
  at_least_one spot few

-- ---- an optional table of strings, by the names of vectors

abbrev pub vector_keys : List (List ℕ)
vector_keys = codes "v0" ∷ codes "v1" ∷ codes "v2" ∷ codes "v3" ∷ codes "v4" ∷ codes "v5" ∷ codes "v6" ∷ codes "v7"
    ∷ codes "v8" ∷ codes "v9" ∷ codes "v10" ∷ codes "v11" ∷ codes "v12" ∷ codes "v13" ∷ codes "v14" ∷ codes "v15" ∷ []

abbrev pub is_vector_key : List ℕ → Bool
is_vector_key name = list_any (λ key. bytes_eq key name) vector_keys

-- the name at a vector's key, if the key is there
abbrev pub vector_of_value : Spot → ℕ → Data → Checked (List VectorValue)
vector_of_value spot n d = map_ok (λ s. one (record { vector = n; name = s })) (string spot d)

abbrev pub vector_at : Spot → Members → ℕ → List ℕ → Checked (List VectorValue)
vector_at spot table n key = if_there (vector_of_value spot n) (get_member key table)

abbrev pub inner_table : Spot → Data → Checked Members
inner_table spot d = of_kind spot (as_table d)

-- the names in rising order of the vectors
abbrev pub named_vectors : Spot → Members → Checked (List VectorValue)
named_vectors spot table = gather (vector_at spot table) 0 vector_keys

abbrev pub vectors_in : Spot → Members → Checked (List VectorValue)
vectors_in spot table = do
  ok ← known (all_keys is_vector_key table) None
  named_vectors spot table

abbrev pub vectors : Spot → Members → Checked (List VectorValue)
vectors spot table = if_there (λ d. inner_table spot d >>= vectors_in spot) (member_at spot table)

-- ---- an optional array of at most `most` tables

abbrev pub inner_tables : Spot → List Data → Checked (List Members)
inner_tables spot = gather (λ _ d. map_ok one (inner_table spot d)) 0

abbrev pub tables_in : Spot → ℕ → Data → Checked (List Members)
tables_in spot most d = do
  ds ← of_kind spot (as_array d)
  found ← inner_tables spot (item_list ds)
  at_most spot most found

abbrev pub tables : Spot → ℕ → Members → Checked (List Members)
tables spot most table = if_there (tables_in spot most) (member_at spot table)
