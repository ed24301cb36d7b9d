-- The instruction that a cycle begins, and its lines.
use Rattle.std.specs.Prelude.{ℕ, nat_lt, if◌then◌else◌, Bool, true, false, List, [], ◌++◌, Option, Some, None, option_map, unwrap_or, codes}
use Rattle.std.specs.Fmt.{decimal}
use Rattle.std.specs.List.{flat_map}
use Rattle.texts.specs.Hexadecimals.{hex_byte, hex_word}
use Rattle.sm_words.specs.Words.{add16, low_byte, word_at}
use Rattle.sm_words.specs.declared.width.Width.{Width}
use Rattle.sm_words.specs.declared.width.Width.TheVariants.{Byte, Word}
use Rattle.insn_decode.specs.Code.{length_of}
use Rattle.insn_decode.specs.Text.{insn_text}
use Rattle.insn_decode.specs.declared.insn.Insn.{Insn}
use Rattle.pc_access.specs.declared.Stop.{Stop}
use Rattle.irq_padding.specs.Turns.{Turn, Begins}
use Rattle.cpu_step.specs.Plan.{past}
use Rattle.written_machine.specs.Checks.{entered, first_word, insn_at_pc}
use Rattle.written_machine.specs.Cycle.{byte_of, case_of, cycle, pc_of, settle, ticked}
use Rattle.written_machine.specs.State.{State}
use Rattle.owner_steps.specs.Touched.{shown_touches}
use Rattle.owner_steps.specs.declared.touching.Touch.{Touch}

-- ---- its line

abbrev pub word_text : ℕ → List ℕ
word_text w = hex_word w ++ codes " "

-- the n words at PC
abbrev pub words_text : State → ℕ → List ℕ
words_text s n =
    word_text (first_word s)
    ++ (if nat_lt 1 n then word_text (word_at (byte_of s) (add16 (pc_of s) 2)) else [])
    ++ (if nat_lt 2 n then word_text (word_at (byte_of s) (add16 (pc_of s) 4)) else [])

-- `CYCLE ID PPPP: `, where ID is that of the active module, or 0
abbrev pub place_text : State → List ℕ
place_text s = decimal s.cycle ++ codes " " ++ decimal (unwrap_or s.active 0) ++ codes " " ++ hex_word (pc_of s) ++ codes ": "

-- with its words and its text
abbrev pub insn_line : State → Insn → List ℕ
insn_line s insn = place_text s ++ words_text s (length_of insn) ++ insn_text insn (pc_of s) ++ codes "\n"

-- ---- the lines of what it touches

abbrev pub value_text : Width → ℕ → List ℕ
value_text Byte v = hex_byte (low_byte v)
value_text Word v = hex_word v

abbrev pub label_of : Bool → List ℕ
label_of true = codes "  write "
label_of false = codes "  read "

-- `  read AAAA VV` or `  write AAAA VV`
abbrev pub touch_line : Touch → List ℕ
touch_line t = label_of t.is_write ++ hex_word t.addr ++ codes " " ++ value_text t.width t.value ++ codes "\n"

-- ---- what begins

-- an instruction that begins: the registers before it, the same with PC behind it, and its lines
pub record Begun : Type 0 where
  pub core : List ℕ
  pub past : List ℕ
  pub lines : List ℕ

abbrev pub begun_as : State → Insn → Begun
begun_as s insn = record { core = s.core; past = past insn s.core; lines = insn_line s insn ++ flat_map touch_line (shown_touches insn s) }

-- the instruction at PC, where one begins
abbrev pub begun_in : Turn → State → Option Begun
begun_in Begins s = option_map (begun_as s) (insn_at_pc s)
begun_in _ s = None

-- a refused one did not begin
abbrev pub begun_unless : Option Stop → Turn → State → Option Begun
begun_unless None turn s = begun_in turn s
begun_unless (Some stop) turn s = None

-- the state in which a cycle ends in what it is
abbrev pub settled_state : State → State
settled_state s = (settle (ticked s)).state

-- what the next cycle begins, done for the module that it enters
abbrev pub begun : State → Option Begun
begun s = begun_unless (cycle s).state.stop (case_of (settled_state s)) (entered (settled_state s))
