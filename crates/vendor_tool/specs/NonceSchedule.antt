-- The schedule that sends challenges: byte i of a nonce comes i byte steps after the challenge's cycle.
use Rattle.std.specs.Prelude.{ℕ, ◌+◌, ◌*◌, List, [], ◌∷◌, ◌++◌, codes}
use Rattle.std.specs.List.{flat_map}
use Rattle.schedule_file.specs.declared.Entry.{Entry}
use Rattle.schedule_file.specs.declared.What.TheVariants.{Serial}
use Rattle.schedule_file.specs.Line.{entry_text}
use Rattle.vendor_tool.specs.declared.Challenge.{Challenge}
use Rattle.vendor_tool.specs.Challenges.{byte_step}

-- the bytes of a nonce from byte i on
abbrev pub bytes_from : ℕ → ℕ → List ℕ → List Entry
bytes_from cycle i [] = []
bytes_from cycle i (byte ∷ bytes) = record { cycle = cycle + byte_step * i; what = Serial byte } ∷ bytes_from cycle (i + 1) bytes

abbrev pub nonce_entries : Challenge → List Entry
nonce_entries c = bytes_from c.cycle 0 c.nonce

-- the entries of the schedule
abbrev pub schedule_entries : List Challenge → List Entry
schedule_entries cs = flat_map nonce_entries cs

-- an entry's line
abbrev pub schedule_line : Entry → List ℕ
schedule_line e = entry_text e ++ codes "\n"

-- the text of a schedule
abbrev pub entries_text : List Entry → List ℕ
entries_text es = flat_map schedule_line es
