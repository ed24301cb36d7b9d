-- What a trace says that the machine sent: the bytes of its `out` lines up to the end line, or the first refusal.
use Rattle.std.specs.Prelude.{ℕ, ◌+◌, ◌-◌, Bool, true, false, List, [], ◌∷◌, length, drop, Option, Some, None, option_and_then, Result, Ok, Err}
use Rattle.std.specs.Option.{option_to_list}
use Rattle.texts.specs.Hexadecimals.{read_hex_byte}
use Rattle.texts.specs.Lines.{ended_lines, unended}
use Rattle.texts.specs.Rows.{after_these}
use Rattle.vendor_tool.specs.declared.TraceFault.{TraceFault}
use Rattle.vendor_tool.specs.declared.TraceFault.TheVariants.{Line, NoEnd}
use Rattle.vendor_tool.specs.declared.trace_line.Kind.{Kind}
use Rattle.vendor_tool.specs.declared.trace_line.Kind.TheVariants.{Out, Stopped, Inside, Outside}
use Rattle.vendor_tool.specs.TraceLines.{kind_of}

-- the byte that a line's last two digits write
abbrev pub last_byte : List ℕ → Option ℕ
last_byte line = read_hex_byte (drop (length line - 2) line)

-- whether a line of this kind tells of a byte that was sent
abbrev pub tells_byte : Kind → Bool
tells_byte Out = true
tells_byte _ = false

-- a line of this kind, with the byte at its end where the kind tells one
abbrev pub with_byte : Kind → Bool → Option ℕ → Option (Kind × Option ℕ)
with_byte kind false byte = Some (kind, None)
with_byte kind true None = None
with_byte kind true (Some byte) = Some (kind, Some byte)

-- the kind of a line, and the byte that it says was sent
unfoldable pub told_by : List ℕ → Option (Kind × Option ℕ)
told_by line = option_and_then (λ kind. with_byte kind (tells_byte kind) (last_byte line)) (kind_of line)

abbrev pub ends : Kind → Bool
ends Stopped = true
ends Inside = true
ends Outside = true
ends _ = false

-- after the end line, nothing may follow as line n
abbrev pub at_end : ℕ → List (List ℕ) → List ℕ → Result (List ℕ) TraceFault
at_end n [] [] = Ok []
at_end n _ _ = Err (Line n)

-- by whether a line ends the trace, where `last` is what may follow an end line and `more` what other lines give
abbrev pub by_end : Bool → Option ℕ → Result (List ℕ) TraceFault → Result (List ℕ) TraceFault → Result (List ℕ) TraceFault
by_end true byte last more = last
by_end false byte last more = after_these (option_to_list byte) more

-- line n, by what it tells
abbrev pub from_told : ℕ → Option (Kind × Option ℕ) → Result (List ℕ) TraceFault → Result (List ℕ) TraceFault → Result (List ℕ) TraceFault
from_told n None last more = Err (Line n)
from_told n (Some told) last more = by_end (ends told.0) told.1 last more

-- the lines from line n on, with what stands behind the last LF
abbrev pub replies_from : ℕ → List (List ℕ) → List ℕ → Result (List ℕ) TraceFault
replies_from n [] [] = Err NoEnd
replies_from n [] (b ∷ tail) = Err (Line n)
replies_from n (line ∷ lines) tail = from_told n (told_by line) (at_end (n + 1) lines tail) (replies_from (n + 1) lines tail)

-- what a text gives, line by line from 1
unfoldable pub replies_of : List ℕ → Result (List ℕ) TraceFault
replies_of text = replies_from 1 (ended_lines text) (unended text)
