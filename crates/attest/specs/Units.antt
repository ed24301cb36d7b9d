-- The unit instructions: protect and unprotect modules, tags and attestation, ids.
use Rattle.std.specs.Prelude.{ℕ, zero, suc, ◌+◌, ◌-◌, ◌*◌, ◌/◌, List, [], ◌∷◌, ◌++◌, nat_le, if◌then◌else◌, Bool, true, false, ◌&&◌, Option, Some, None, is_some, take, drop, replicate, bytes_eq}
use Rattle.std.specs.Option.{option_map_or}
use Rattle.sm_words.specs.Words.{reg, put, add16}
use Rattle.sm_words.specs.declared.registers.TheConstants.{PC}
use Rattle.sm_words.specs.declared.width.Width.TheVariants.{Byte}
pub use Rattle.insn_decode.specs.declared.insn.UnitName.{UnitName}
pub use Rattle.insn_decode.specs.declared.insn.UnitName.TheVariants.{Unprotect, Protect, Attest, Tag, IdOf, OwnId, CallerId}
use Rattle.mod_layout.specs.declared.TheConstants.{DEVICES_END}
use Rattle.mod_layout.specs.declared.Section.{Section}
use Rattle.mod_layout.specs.declared.Module.{Module}
use Rattle.mod_layout.specs.declared.Place.{Place}
use Rattle.mod_layout.specs.declared.Place.TheVariants.{Entry, Text}
use Rattle.mod_layout.specs.Table.{Table, place_id, place_of, module_of, size_of, takes, with_module}
use Rattle.mod_keys.specs.Keys.{identity, tag_of}
use Rattle.mod_keys.specs.declared.keys.TheConstants.{IDENTITY_TAIL}
use Rattle.mod_keys.specs.declared.mac.TheConstants.{TAG_LENGTH}
use Rattle.attest.specs.declared.instruction.TheConstants.{SHORT_CYCLES, BLOCK_CYCLES}
use Rattle.pc_access.specs.declared.Kind.{Kind}
use Rattle.pc_access.specs.declared.Kind.TheVariants.{Read, Write}
use Rattle.pc_access.specs.declared.Access.{Access}

-- the one who does it: its module, or none outside; its caller's id; the table; and the node's key
pub record Doer : Type 0 where
  pub own : Option Module
  pub caller : ℕ
  pub table : Table
  pub key : List ℕ

-- ---- the accesses

-- n accesses of a byte each, from an address on
abbrev pub each_byte : Kind → ℕ → ℕ → List Access
each_byte kind a zero = []
each_byte kind a (suc n) = record { kind = kind; addr = a; width = Byte } ∷ each_byte kind (a + 1) n

-- whether the range from a, below b, can be accessed: neither a device's nor past the last address
abbrev pub in_range : ℕ → ℕ → Bool
in_range a b = nat_le DEVICES_END a && nat_le b 0x10000 && nat_le a b

-- the sections that protect is given: R12 and R13, R14 and R15
abbrev pub new_text : List ℕ → Section
new_text core = record { start = reg core 12; end = reg core 13 }

abbrev pub new_ram : List ℕ → Section
new_ram core = record { start = reg core 14; end = reg core 15 }

-- the module whose text holds an address
abbrev pub text_at : Table → Place → Option Module
text_at t (Text id) = module_of id t
text_at t (Entry id) = module_of id t
text_at t _ = None

-- the module that attest is asked about, by an address in R12
abbrev pub attested : Doer → List ℕ → Option Module
attested who core = text_at who.table (place_of who.table (reg core 12))

-- Reads of a text are refused to no one. They come after the accesses that are checked one by
-- one, and give the bytes from which an identity and the running module's key are made.
abbrev pub text_reads : Module → List Access
text_reads m = each_byte Read m.text.start (size_of m.text)

-- the bytes of the expected tag
abbrev pub attest_plan : Option Module → Option Module → ℕ → List Access
attest_plan (Some own) (Some other) a =
    if in_range a (a + TAG_LENGTH) then each_byte Read a TAG_LENGTH ++ text_reads other ++ text_reads own else []
attest_plan _ _ a = []

-- the message from a, below b, and then the place of its tag
abbrev pub tag_plan : Option Module → ℕ → ℕ → ℕ → List Access
tag_plan (Some own) a b out =
    if in_range a b && in_range out (out + TAG_LENGTH) then each_byte Read a (b - a) ++ each_byte Write out TAG_LENGTH ++ text_reads own else []
tag_plan None a b out = []

-- the accesses of a unit instruction, in order
unfoldable pub unit_plan : Doer → UnitName → List ℕ → List Access
unit_plan who Protect core = if takes who.table (new_text core) (new_ram core) then each_byte Write (reg core 14) (size_of (new_ram core)) else []
unit_plan who Attest core = attest_plan who.own (attested who core) (reg core 13)
unit_plan who Tag core = tag_plan who.own (reg core 12) (reg core 13) (reg core 14)
unit_plan who _ core = []

-- ---- the effect

-- what an instruction leaves, but for the table
pub record Effect : Type 0 where
  pub core : List ℕ
  pub stored : List ℕ
  pub cycles : ℕ
  pub closing : Bool

-- the blocks of SHA-256 in a HMAC over n bytes under a key of 16
abbrev pub blocks : ℕ → ℕ
blocks n = 3 + (n + 72) / 64

-- the cycles of an instruction that hashes so many blocks
abbrev pub hash_cycles : ℕ → ℕ
hash_cycles n = SHORT_CYCLES + BLOCK_CYCLES * n

-- PC moves past the one word of the instruction
abbrev pub next : List ℕ → List ℕ
next core = put core PC (add16 (reg core PC) 2)

-- R15 takes the answer
abbrev pub answer : List ℕ → ℕ → ℕ → Effect
answer core v cycles = record { core = put (next core) 15 v; stored = []; cycles = cycles; closing = false }

abbrev pub unprotected : Option Module → List ℕ → Effect
unprotected None core = answer core 0 SHORT_CYCLES
unprotected (Some own) core = record { core = next core; stored = []; cycles = SHORT_CYCLES + size_of own.ram / 2; closing = true }

-- whether the first values are the tag of the other's identity; its text and the own text follow
abbrev pub genuine : List ℕ → Module → Module → List ℕ → Bool
genuine key own other values =
    let n = size_of other.text in
    bytes_eq (take TAG_LENGTH values) (tag_of key own (drop (TAG_LENGTH + n) values) (identity other (take n (drop TAG_LENGTH values))))

-- the id of the other where its tag is genuine
abbrev pub attest_answer : List ℕ → Option Module → Option Module → List ℕ → List ℕ → Effect
attest_answer key (Some own) (Some other) core values =
    if in_range (reg core 13) (reg core 13 + TAG_LENGTH)
    then answer core (if genuine key own other values then other.id else 0) (hash_cycles (blocks (size_of other.text + IDENTITY_TAIL)))
    else answer core 0 SHORT_CYCLES
attest_answer key _ _ core values = answer core 0 SHORT_CYCLES

-- the tag of the message; the values are the message and the own text
abbrev pub tag_answer : List ℕ → Option Module → List ℕ → List ℕ → Effect
tag_answer key (Some own) core values =
    let n = reg core 13 - reg core 12 in
    if in_range (reg core 12) (reg core 13) && in_range (reg core 14) (reg core 14 + TAG_LENGTH)
    then record (answer core 1 (hash_cycles (blocks n))) { stored = tag_of key own (drop n values) (take n values) }
    else answer core 0 SHORT_CYCLES
tag_answer key None core values = answer core 0 SHORT_CYCLES

-- what a unit instruction leaves, once its reads gave these values
unfoldable pub unit_effect : Doer → UnitName → List ℕ → List ℕ → Effect
unit_effect who Unprotect core values = unprotected who.own core
unit_effect who Protect core values =
    let text = new_text core in let ram = new_ram core in
    if takes who.table text ram
    then record (answer core (who.table.given + 1) (hash_cycles (blocks 2 + blocks (size_of text + IDENTITY_TAIL)))) { stored = replicate (size_of ram) 0 }
    else answer core 0 SHORT_CYCLES
unit_effect who Attest core values = attest_answer who.key who.own (attested who core) core values
unit_effect who Tag core values = tag_answer who.key who.own core values
unit_effect who IdOf core values = answer core (place_id (place_of who.table (reg core 12))) SHORT_CYCLES
unit_effect who OwnId core values = answer core (option_map_or (λ m. m.id) who.own 0) SHORT_CYCLES
unit_effect who CallerId core values = answer core (if is_some who.own then who.caller else 0) SHORT_CYCLES

-- the table after a unit instruction: only protect changes it
abbrev pub table_by : UnitName → Table → List ℕ → Table
table_by Protect t core = if takes t (new_text core) (new_ram core) then with_module t (reg core 11) (new_text core) (new_ram core) else t
table_by _ t core = t
