-- What a script does and shows.
use Rattle.std.specs.Prelude.{ℕ, zero, suc, ◌+◌, List, [], ◌∷◌, ◌++◌, length, nat_lt, if◌then◌else◌, Option, Some, None, codes}
use Rattle.std.specs.Fmt.{decimal}
use Rattle.std.specs.List.{flat_map}
use Rattle.mod_layout.specs.Table.{Table, place_of}
use Rattle.mod_layout.specs.declared.Place.{Place}
use Rattle.mod_layout.specs.declared.Place.TheVariants.{Data}
use Rattle.texts.specs.Hexadecimals.{hex_byte, hex_word}
use Rattle.tracer.specs.Lines.{registers_from}
use Rattle.written_machine.specs.Cycle.{cycle, after_cycles}
use Rattle.written_machine.specs.Marks.{Marked, at_state, marked, back_to, last_at}
use Rattle.written_machine.specs.Standing.{cycles_until}
use Rattle.written_machine.specs.Trace.{event_lines, end_line_of}
use Rattle.written_machine.specs.View.{View, view_of}
use Rattle.written_machine.specs.declared.Hidden.TheVariants.{All as AllHidden}
use Rattle.written_machine.specs.declared.ScriptLine.{ScriptLine}
use Rattle.written_machine.specs.declared.ScriptLine.TheVariants.{Go, Until, Regs, Mem, Mark, Back, Last}

-- ---- what is shown

-- an id in decimal
abbrev pub id_text : Option ℕ → List ℕ
id_text None = []
id_text (Some id) = decimal id

-- the registers outside, or the active module
abbrev pub registers_text : Option (List ℕ) → Option ℕ → List ℕ
registers_text (Some core) active = codes "outside" ++ registers_from core 0 16
registers_text None active = codes "inside " ++ id_text active

-- two hexadecimal digits
abbrev pub byte_text : Option ℕ → List ℕ
byte_text None = []
byte_text (Some b) = hex_byte b

-- the next n bytes from an address
abbrev pub bytes_text : View → ℕ → ℕ → List ℕ
bytes_text v a zero = []
bytes_text v a (suc n) = byte_text (v.byte a) ++ bytes_text v (a + 1) n

-- what a read of these bytes shows, by the first that lies in a module's data
abbrev pub refused_by : Place → ℕ → List ℕ → List ℕ
refused_by (Data id) a rest = codes "refused ReadData addr " ++ hex_word a ++ codes " module " ++ decimal id
refused_by _ a rest = rest

-- the first of the next n bytes that lies in data, or else the rest
abbrev pub refused_or : Table → ℕ → ℕ → List ℕ → List ℕ
refused_or t a zero rest = rest
refused_or t a (suc n) rest = refused_by (place_of t a) a (refused_or t (a + 1) n rest)

-- the line of regs
unfoldable pub regs_text : View → List ℕ
regs_text v = codes "regs " ++ decimal v.cycle ++ codes " " ++ registers_text v.registers v.active ++ codes "\n"

-- the line of mem
unfoldable pub mem_text : View → ℕ → ℕ → List ℕ
mem_text v a n = refused_or v.table a n (hex_word a ++ codes ": " ++ bytes_text v a n) ++ codes "\n"

-- where a command about a mark or an address came to
abbrev pub at_cycle : Marked → List ℕ
at_cycle g = codes " at " ++ decimal g.present.cycle ++ codes "\n"

-- the line of a mark, which has the number of the marks before it
unfoldable pub mark_text : ℕ → Marked → List ℕ
mark_text k after = codes "mark " ++ decimal k ++ at_cycle after

-- there are so many marks, and no room for one more
unfoldable pub full_text : ℕ → List ℕ
full_text most = codes "refused MarksFull " ++ decimal most ++ codes "\n"

-- the line of a return to a mark
unfoldable pub back_text : ℕ → Marked → List ℕ
back_text k after = codes "back " ++ decimal k ++ at_cycle after

-- there is no such mark
unfoldable pub no_mark_text : ℕ → List ℕ
no_mark_text k = codes "refused NoMark " ++ decimal k ++ codes "\n"

-- the line of a return to an address
unfoldable pub last_text : ℕ → Marked → List ℕ
last_text addr after = codes "last " ++ hex_word addr ++ at_cycle after

-- it did not stand there
unfoldable pub not_there_text : ℕ → List ℕ
not_there_text addr = codes "refused NotThere " ++ hex_word addr ++ codes "\n"

-- ---- what is done

-- a cycle or a command: what it writes, and where it leads
pub record Move : Type 0 where
  pub text : List ℕ
  pub after : Marked

-- a command that changes nothing
abbrev pub shown : List ℕ → Marked → Move
shown text g = record { text = text; after = g }

-- one cycle, with its lines
abbrev pub cycle_move : Marked → Move
cycle_move g = let t = cycle g.present in record { text = event_lines g.present.cycle t.events; after = at_state g t.state }

-- the next n cycles
abbrev pub cycle_moves : Marked → ℕ → List Move
cycle_moves g zero = []
cycle_moves g (suc n) = cycle_moves g n ++ cycle_move (at_state g (after_cycles g.present n)) ∷ []

-- a mark, or its refusal
abbrev pub mark_move : Marked → Option Marked → Move
mark_move g (Some after) = record { text = mark_text (length g.marks) after; after = after }
mark_move g None = shown (full_text g.most) g

-- a return to mark k, or its refusal
abbrev pub back_move : ℕ → Marked → Option Marked → Move
back_move k g (Some after) = record { text = back_text k after; after = after }
back_move k g None = shown (no_mark_text k) g

-- a return to an address, or its refusal: for want of the mark, or since it did not stand there
abbrev pub last_move : ℕ → ℕ → Marked → Option Marked → Move
last_move addr k g (Some after) = record { text = last_text addr after; after = after }
last_move addr k g None = shown (if nat_lt k (length g.marks) then not_there_text addr else no_mark_text k) g

-- one line, on what is seen of the machine where all modules are hidden
abbrev pub line_moves : Marked → ScriptLine → List Move
line_moves g (Go n) = cycle_moves g n
line_moves g (Until addr n) = cycle_moves g (cycles_until addr g.present n)
line_moves g Regs = shown (regs_text (view_of g.present AllHidden)) g ∷ []
line_moves g (Mem addr n) = shown (mem_text (view_of g.present AllHidden) addr n) g ∷ []
line_moves g Mark = mark_move g (marked g) ∷ []
line_moves g (Back k) = back_move k g (back_to k g) ∷ []
line_moves g (Last addr k) = last_move addr k g (last_at addr k g) ∷ []

-- where moves lead
abbrev pub led : Marked → List Move → Marked
led g [] = g
led g (m ∷ ms) = led m.after ms

-- the moves of a script, and the end line as the last
abbrev pub moves : Marked → List ScriptLine → List Move
moves g [] = shown (end_line_of g.present) g ∷ []
moves g (l ∷ ls) = let ms = line_moves g l in ms ++ moves (led g ms) ls

-- what moves write
abbrev pub moves_text : List Move → List ℕ
moves_text ms = flat_map (λ m. m.text) ms

-- what a script writes
abbrev pub play : Marked → List ScriptLine → List ℕ
play g ls = moves_text (moves g ls)
