-- What is told of refusals.
use Rattle.std.specs.Prelude.{ℕ, List, ◌++◌, Option, Some, None, codes}
use Rattle.std.specs.Fmt.{decimal}
use Rattle.texts.specs.Hexadecimals.{hex_word}
use Rattle.written_machine.specs.Script.{no_mark_text, not_there_text}
use Rattle.board.specs.declared.marks.LastFault.{LastFault}
use Rattle.board.specs.declared.marks.LastFault.TheVariants.{NoMark, NotThere}
use Rattle.monitor.specs.declared.showing.Refusal.{Refusal}

-- that a byte is refused
abbrev pub refused_text : Refusal → List ℕ
refused_text refusal = codes "refused ReadData addr " ++ hex_word refusal.addr ++ codes " module " ++ decimal refusal.id

-- where one is, or else the rest
abbrev pub refusal_or : Option Refusal → List ℕ → List ℕ
refusal_or None rest = rest
refusal_or (Some refusal) rest = refused_text refusal

-- why it does not go back to an address
abbrev pub last_fault_text : LastFault → List ℕ
last_fault_text (NoMark k) = no_mark_text k
last_fault_text (NotThere addr) = not_there_text addr
