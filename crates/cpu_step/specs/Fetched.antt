-- The instruction at an address, over any memory that gives the byte at an address.
use Rattle.std.specs.Prelude.{ℕ, ◌+◌, ◌*◌, nat_lt, if◌then◌else◌, Bool, ◌&&◌, ◌||◌, not, Option, Some, None}
use Rattle.sm_words.specs.Words.{word_at}
use Rattle.insn_decode.specs.Code.{insn_of, begun_by, length_of}
use Rattle.insn_decode.specs.declared.insn.Insn.{Insn}
use Rattle.mod_layout.specs.declared.Section.{Section}
use Rattle.mod_layout.specs.Table.{holds}

-- the k-th word of an instruction of n words; words past its length are not looked at
abbrev pub later_word : (ℕ → ℕ) → ℕ → ℕ → ℕ → ℕ
later_word byte pc n k = if nat_lt k n then word_at byte (pc + 2 * k) else 0

-- whether word k of an instruction of n words at pc, if there is one, is in a section
abbrev pub word_in : Section → ℕ → ℕ → ℕ → Bool
word_in s pc n k = not (nat_lt k n) || holds s (pc + 2 * k)

-- the instruction of n words at an address
abbrev pub insn_at : (ℕ → ℕ) → ℕ → ℕ → Option Insn
insn_at byte pc n = insn_of (word_at byte pc) (later_word byte pc n 1) (later_word byte pc n 2)

-- by what the first word means: it tells whether there is an instruction, and the number of its words
abbrev pub insn_from : Option Insn → (ℕ → ℕ) → Section → ℕ → Option Insn
insn_from None byte s pc = None
insn_from (Some first) byte s pc =
    let n = length_of first in if word_in s pc n 1 && word_in s pc n 2 then insn_at byte pc n else None

-- the instruction at an address of a section, where all its words are in the section
abbrev pub insn_in : (ℕ → ℕ) → Section → ℕ → Option Insn
insn_in byte s pc = insn_from (begun_by (word_at byte pc)) byte s pc
