-- Who may do what where.
use Rattle.std.specs.Prelude.{◌≡◌, ℕ, ◌+◌, ◌%◌, List, [], ◌∷◌, ◌==◌, nat_lt, Bool, true, false, not, Option, None}
use Rattle.std.specs.Bool.{then_some}
use Rattle.std.specs.List.{list_all, list_any}
use Rattle.std.specs.Option.{option_or, option_map_or}
use Rattle.sm_words.specs.declared.width.Width.{Width}
use Rattle.sm_words.specs.declared.width.Width.TheVariants.{Byte, Word}
use Rattle.mod_layout.specs.declared.TheConstants.{DEVICES_END}
use Rattle.mod_layout.specs.declared.Place.{Place}
use Rattle.mod_layout.specs.declared.Place.TheVariants.{Open, Entry, Text, Data}
use Rattle.mod_layout.specs.Table.{Table, place_of}
use Rattle.pc_access.specs.declared.Kind.{Kind}
use Rattle.pc_access.specs.declared.Kind.TheVariants.{Fetch, Read, Write}
use Rattle.pc_access.specs.declared.Access.{Access}
use Rattle.pc_access.specs.declared.Rule.{Rule}
use Rattle.pc_access.specs.declared.Rule.TheVariants.{FetchNotEntry, FetchData, ReadData, WriteData, WriteText, Reenter, Misaligned, FetchDevice}
use Rattle.pc_access.specs.declared.Denied.{Denied}

-- ---- the table of rights

-- what the module's own text may do (true), and what is done from anywhere else (false), a row for each place
abbrev pub grants : Bool → Place → Kind → Bool
-- the entry word: read, execute
grants own (Entry id) Read = true
grants own (Entry id) Fetch = true
grants own (Entry id) Write = false
-- the rest of the text: the module's own text reads and executes, anything else reads
grants own (Text id) Read = true
grants true (Text id) Fetch = true
grants false (Text id) Fetch = false
grants own (Text id) Write = false
-- data: the module's own text reads and writes, anything else does nothing
grants true (Data id) Read = true
grants true (Data id) Write = true
grants true (Data id) Fetch = false
grants false (Data id) kind = false
-- unprotected: read, write, execute
grants own Open kind = true

-- whether this module is active
abbrev pub is_id : ℕ → Option ℕ → Bool
is_id id active = option_map_or (λ x. x == id) active false

-- whether the module to which a place belongs is active
abbrev pub is_own : Option ℕ → Place → Bool
is_own active Open = false
is_own active (Entry id) = is_id id active
is_own active (Text id) = is_id id active
is_own active (Data id) = is_id id active

-- what the table of rights says of one address while this module, or none, is active
abbrev pub is_granted : Table → Option ℕ → Kind → ℕ → Bool
is_granted t active kind a = grants (is_own active (place_of t a)) (place_of t a) kind

-- ---- the rules

-- whether this module is among those held in frames
abbrev pub is_held : ℕ → List ℕ → Bool
is_held id held = list_any (λ x. x == id) held

abbrev pub refuse_if : Bool → Rule → ℕ → ℕ → Option Denied
refuse_if refused rule addr id = then_some refused record { rule = rule; addr = addr; «module» = id }

-- a word access at an odd address
abbrev pub misaligned : Width → ℕ → Bool
misaligned Byte a = false
misaligned Word a = a % 2 == 1

-- the bytes of a width from an address on
abbrev pub bytes_of : Width → ℕ → List ℕ
bytes_of Byte a = a ∷ []
bytes_of Word a = a ∷ (a + 1) ∷ []

-- the rule that refuses an access at a place, with the address and the id of the module concerned, or 0; held are
-- the ids of the modules in frames
abbrev pub right_at : Place → Option ℕ → List ℕ → Kind → ℕ → Option Denied
right_at (Entry id) active held Fetch a = refuse_if (is_held id held) Reenter a id
right_at (Text id) active held Fetch a = refuse_if (not (is_id id active)) FetchNotEntry a id
right_at (Data id) active held Fetch a = refuse_if true FetchData a id
right_at Open active held Fetch a = refuse_if (nat_lt a DEVICES_END) FetchDevice a 0
right_at (Data id) active held Read a = refuse_if (not (is_id id active)) ReadData a id
right_at _ active held Read a = None
right_at Open active held Write a = None
right_at (Data id) active held Write a = refuse_if (not (is_id id active)) WriteData a id
right_at (Entry id) active held Write a = refuse_if true WriteText a id
right_at (Text id) active held Write a = refuse_if true WriteText a id

-- whether an access is a word at an odd address; alignment concerns reads and writes alone
abbrev pub is_misaligned : Access → Bool
is_misaligned x =
    elim x.kind [ Fetch ↦ false | Read ↦ misaligned x.width x.addr | Write ↦ misaligned x.width x.addr ]

-- why an access is refused, or none: Misaligned comes before every other rule
unfoldable pub right : Table → Option ℕ → List ℕ → Access → Option Denied
right t active held x = option_or (refuse_if (is_misaligned x) Misaligned x.addr 0) (right_at (place_of t x.addr) active held x.kind x.addr)

-- an access of this kind, at this address, of this width
abbrev pub access_of : Kind → ℕ → Width → Access
access_of kind addr width = record { kind = kind; addr = addr; width = width }

-- ---- the rules against the table of rights

-- the addresses that an access touches: a word has two bytes; of a fetch, the start of the instruction
abbrev pub touched : Access → List ℕ
touched x =
    elim x.kind [ Fetch ↦ x.addr ∷ [] | Read ↦ bytes_of x.width x.addr | Write ↦ bytes_of x.width x.addr ]

-- whether an instruction starts at the entry of a held module, or among the devices
abbrev pub is_barred_at : Place → List ℕ → Kind → ℕ → Bool
is_barred_at (Entry id) held Fetch a = is_held id held
is_barred_at Open held Fetch a = nat_lt a DEVICES_END
is_barred_at place held kind a = false

-- an access is aligned, the table of rights grants each byte that it touches, and no instruction starts where it is barred
pub record IsRightful (t : Table) (active : Option ℕ) (held : List ℕ) (x : Access) : Type 0 where
  pub aligned : is_misaligned x ≡ false
  pub granted : list_all (λ a. is_granted t active x.kind a) (touched x) ≡ true
  pub free : is_barred_at (place_of t x.addr) held x.kind x.addr ≡ false
