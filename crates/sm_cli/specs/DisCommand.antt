-- `dis IMAGE START END`: the instructions of an image, one a line.
use Rattle.std.specs.Prelude.{ℕ, zero, suc, ◌+◌, ◌-◌, ◌*◌, ◌%◌, ◌==◌, ◌&&◌, nat_lt, nat_le, List, [], ◌∷◌, ◌++◌, Option, Some, None, option_and_then, codes, slice_index, if◌then◌else◌}
use Rattle.std.specs.Option.{option_map_or}
use Rattle.texts.specs.Hexadecimals.{hex_word, read_hex_word}
use Rattle.sm_words.specs.Words.{word_at}
use Rattle.insn_decode.specs.declared.insn.Insn.{Insn}
use Rattle.insn_decode.specs.Code.{insn_of, length_at, length_or_one}
use Rattle.insn_decode.specs.Text.{insn_text}
use Rattle.cli_calls.specs.Words.{Text}
use Rattle.cli_files.specs.Files.{Held, an_image, image_file, need}
use Rattle.cli_calls.specs.Command.{Outcome, done, nothing, Command}

-- the instruction at an address, where its words do not go past the last address
unfoldable pub dis_insn : List ℕ → ℕ → Option Insn
dis_insn memory at =
    if nat_le (at + 2 * length_at (word_at (slice_index memory) at)) 65536
    then insn_of (word_at (slice_index memory) at) (word_at (slice_index memory) (at + 2)) (word_at (slice_index memory) (at + 4))
    else None

-- a word and a space
abbrev pub memory_word_text : List ℕ → ℕ → List ℕ
memory_word_text memory at = hex_word (word_at (slice_index memory) at) ++ codes " "

-- one to three words
abbrev pub memory_words_text : List ℕ → ℕ → ℕ → List ℕ
memory_words_text memory at count =
    memory_word_text memory at
    ++ (if nat_lt 1 count then memory_word_text memory (at + 2) else [])
    ++ (if nat_lt 2 count then memory_word_text memory (at + 4) else [])

-- an instruction's text, or that of a word that is none
abbrev pub dis_text : Option Insn → ℕ → List ℕ
dis_text insn at = option_map_or (λ i. insn_text i at) insn (codes "?")

-- the line of what stands at an address
unfoldable pub line_at : List ℕ → ℕ → List ℕ
line_at memory at =
    let insn = dis_insn memory at in
    (((hex_word at ++ codes ": ") ++ memory_words_text memory at (length_or_one insn)) ++ dis_text insn at)
    ++ codes "\n"

-- the lines from an address on while it is below the end, no more than this many
unfoldable pub lines_below : ℕ → List ℕ → ℕ → ℕ → List ℕ
lines_below zero memory at end = []
lines_below (suc more) memory at end =
    if nat_lt at end then line_at memory at ++ lines_below more memory (at + 2 * length_or_one (dis_insn memory at)) end else []

abbrev pub listing : List ℕ → ℕ → ℕ → List ℕ
listing memory start end = lines_below (end - start) memory start end

abbrev pub dis_outcome : ℕ → ℕ → List Held → Outcome
dis_outcome start end (an_image value ∷ []) = done (listing value.memory start end)
dis_outcome start end _ = nothing

abbrev pub dis_command : Text → ℕ → ℕ → Command
dis_command name start end = record { needs = need name image_file ∷ []; outcome = dis_outcome start end }

-- an even start that is not above the end
abbrev pub range_command : Text → ℕ → ℕ → Option Command
range_command name start end = if (start % 2 == 0) && nat_le start end then Some (dis_command name start end) else None

abbrev pub read_dis : List Text → Option Command
read_dis (name ∷ start ∷ end ∷ []) = option_and_then (λ s. option_and_then (λ e. range_command name s e) (read_hex_word end)) (read_hex_word start)
read_dis _ = None
