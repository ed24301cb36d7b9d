-- The forms of a trace's lines, word by word, and the kind of a line.
use Rattle.std.specs.Prelude.{ℕ, Bool, true, false, ◌&&◌, List, [], ◌∷◌, codes, replicate, Option, is_some, find}
use Rattle.std.specs.List.{list_any}
use Rattle.std.specs.Str.{bytes_eq}
use Rattle.pc_access.specs.declared.Rule.{Rule}
use Rattle.pc_access.specs.declared.Rule.TheVariants.{FetchNotEntry, FetchData, ReadData, WriteData, WriteText, Reenter, RetiInside, Straddle, Misaligned, Illegal, FetchDevice}
use Rattle.texts.specs.Decimals.{is_decimal}
use Rattle.texts.specs.Hexadecimals.{read_hex_byte, read_hex_word}
use Rattle.texts.specs.Words.{words}
use Rattle.tracer.specs.Lines.{rule_name}
use Rattle.vendor_tool.specs.declared.trace_line.Kind.{Kind}
use Rattle.vendor_tool.specs.declared.trace_line.Kind.TheVariants.{Resume, Close, Handler, Leave, Hide, Irq, Enter, Reti, Protect, Out, Stop, Stopped, Inside, Outside}
use Rattle.vendor_tool.specs.declared.trace_line.Label.{Label}
use Rattle.vendor_tool.specs.declared.trace_line.Label.TheVariants.{End, Pc, Vector, From, Addr, Module}
use Rattle.vendor_tool.specs.declared.trace_line.Word.{Word}
use Rattle.vendor_tool.specs.declared.trace_line.Word.TheVariants.{Number, Byte, Address, RuleName, Keyword, Mark}

-- the word that names a kind of line
abbrev pub keyword : Kind → List ℕ
keyword Resume = codes "resume"
keyword Close = codes "close"
keyword Handler = codes "handler"
keyword Leave = codes "leave"
keyword Hide = codes "hide"
keyword Irq = codes "irq"
keyword Enter = codes "enter"
keyword Reti = codes "reti"
keyword Protect = codes "protect"
keyword Out = codes "out"
keyword Stop = codes "stop"
keyword Stopped = codes "stopped"
keyword Inside = codes "inside"
keyword Outside = codes "outside"

-- the word before a field, and before an end line's cycle
abbrev pub label_text : Label → List ℕ
label_text End = codes "end"
label_text Pc = codes "pc"
label_text Vector = codes "vector"
label_text From = codes "from"
label_text Addr = codes "addr"
label_text Module = codes "module"

-- the words of each kind of line: an event's cycle comes first, and an end line begins with `end`
abbrev pub kind_form : Kind → List Word
kind_form Resume = Number ∷ Keyword Resume ∷ Number ∷ []
kind_form Close = Number ∷ Keyword Close ∷ Number ∷ []
kind_form Handler = Number ∷ Keyword Handler ∷ Mark Pc ∷ Address ∷ []
kind_form Leave = Number ∷ Keyword Leave ∷ Number ∷ Mark Pc ∷ Address ∷ []
kind_form Hide = Number ∷ Keyword Hide ∷ Number ∷ Mark Vector ∷ Number ∷ []
kind_form Irq = Number ∷ Keyword Irq ∷ Number ∷ []
kind_form Enter = Number ∷ Keyword Enter ∷ Number ∷ Mark From ∷ Number ∷ []
kind_form Reti = Number ∷ Keyword Reti ∷ []
kind_form Protect = Number ∷ Keyword Protect ∷ Number ∷ []
kind_form Out = Number ∷ Keyword Out ∷ Byte ∷ []
kind_form Stop = Number ∷ Keyword Stop ∷ RuleName ∷ Mark Pc ∷ Address ∷ Mark Addr ∷ Address ∷ Mark Module ∷ Number ∷ []
kind_form Stopped = Mark End ∷ Number ∷ Keyword Stopped ∷ []
kind_form Inside = Mark End ∷ Number ∷ Keyword Inside ∷ Number ∷ []
kind_form Outside = Mark End ∷ Number ∷ Keyword Outside ∷ replicate 16 Address

abbrev pub line_kinds : List Kind
line_kinds = Resume ∷ Close ∷ Handler ∷ Leave ∷ Hide ∷ Irq ∷ Enter ∷ Reti ∷ Protect ∷ Out ∷ Stop ∷ Stopped ∷ Inside ∷ Outside ∷ []

abbrev pub rules : List Rule
rules = FetchNotEntry ∷ FetchData ∷ ReadData ∷ WriteData ∷ WriteText ∷ Reenter ∷ RetiInside ∷ Straddle ∷ Misaligned ∷ Illegal ∷ FetchDevice ∷ []

-- whether a text is such a word; a number may be of any size
abbrev pub fits_word : Word → List ℕ → Bool
fits_word Number text = is_decimal text
fits_word Byte text = is_some (read_hex_byte text)
fits_word Address text = is_some (read_hex_word text)
fits_word RuleName text = list_any (λ rule. bytes_eq text (rule_name rule)) rules
fits_word (Keyword kind) text = bytes_eq text (keyword kind)
fits_word (Mark label) text = bytes_eq text (label_text label)

-- whether these are all the words of a form
abbrev pub all_fit : List Word → List (List ℕ) → Bool
all_fit [] [] = true
all_fit (word ∷ form) (text ∷ texts) = fits_word word text && all_fit form texts
all_fit _ _ = false

abbrev pub is_of_kind : List ℕ → Kind → Bool
is_of_kind line kind = all_fit (kind_form kind) (words line)

-- the kind of a line, where it has one of the forms
unfoldable pub kind_of : List ℕ → Option Kind
kind_of line = find (is_of_kind line) line_kinds
