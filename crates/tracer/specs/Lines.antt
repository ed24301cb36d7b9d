-- The lines of the outside trace, as bytes.
use Rattle.std.specs.Prelude.{ℕ, zero, suc, ◌+◌, List, [], ◌++◌, codes}
use Rattle.std.specs.Fmt.{decimal}
use Rattle.texts.specs.Hexadecimals.{hex_byte, hex_word}
use Rattle.sm_words.specs.Words.{reg}
use Rattle.pc_access.specs.declared.Rule.{Rule}
use Rattle.pc_access.specs.declared.Rule.TheVariants.{FetchNotEntry, FetchData, ReadData, WriteData, WriteText, Reenter, RetiInside, Straddle, Misaligned, Illegal, FetchDevice}
use Rattle.tracer.specs.declared.EndState.{EndState}
use Rattle.tracer.specs.declared.EndState.TheVariants.{Stopped, Inside, Outside}
use Rattle.tracer.specs.declared.Event.{Event}
use Rattle.tracer.specs.declared.Event.TheVariants.{Resume, Close, Handler, Leave, Hide, Irq, Enter, Reti, Protect, Out, Stop}

-- the name of a rule
abbrev pub rule_name : Rule → List ℕ
rule_name FetchNotEntry = codes "FetchNotEntry"
rule_name FetchData = codes "FetchData"
rule_name ReadData = codes "ReadData"
rule_name WriteData = codes "WriteData"
rule_name WriteText = codes "WriteText"
rule_name Reenter = codes "Reenter"
rule_name RetiInside = codes "RetiInside"
rule_name Straddle = codes "Straddle"
rule_name Misaligned = codes "Misaligned"
rule_name Illegal = codes "Illegal"
rule_name FetchDevice = codes "FetchDevice"

-- what a line says of its event: module ids and vectors in decimal, words and bytes in hexadecimal digits
abbrev pub event_text : Event → List ℕ
event_text (Resume id) = codes "resume " ++ decimal id
event_text (Close id) = codes "close " ++ decimal id
event_text (Handler pc) = codes "handler pc " ++ hex_word pc
event_text (Leave id pc) = codes "leave " ++ decimal id ++ codes " pc " ++ hex_word pc
event_text (Hide id vector) = codes "hide " ++ decimal id ++ codes " vector " ++ decimal vector
event_text (Irq vector) = codes "irq " ++ decimal vector
event_text (Enter id from) = codes "enter " ++ decimal id ++ codes " from " ++ decimal from
event_text Reti = codes "reti"
event_text (Protect id) = codes "protect " ++ decimal id
event_text (Out byte) = codes "out " ++ hex_byte byte
event_text (Stop stop) = codes "stop " ++ rule_name stop.rule ++ codes " pc " ++ hex_word stop.pc ++ codes " addr " ++ hex_word stop.addr ++ codes " module " ++ decimal stop.module

-- the line of one event of cycle c
unfoldable pub event_line : ℕ → Event → List ℕ
event_line c event = decimal c ++ codes " " ++ event_text event ++ codes "\n"

-- the next n registers from number k on
abbrev pub registers_from : List ℕ → ℕ → ℕ → List ℕ
registers_from core k zero = []
registers_from core k (suc n) = codes " " ++ hex_word (reg core k) ++ registers_from core (k + 1) n

-- what the end line says: the registers are told outside alone
abbrev pub end_text : EndState → List ℕ
end_text Stopped = codes "stopped"
end_text (Inside id) = codes "inside " ++ decimal id
end_text (Outside core) = codes "outside" ++ registers_from core 0 16

-- the end line after c cycles
unfoldable pub end_line_at : ℕ → EndState → List ℕ
end_line_at c e = codes "end " ++ decimal c ++ codes " " ++ end_text e ++ codes "\n"
