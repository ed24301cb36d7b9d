-- The instruction at an address of a text.
use Rattle.std.specs.Prelude.{ℕ, ◌-◌, List, slice_index, Option}
use Rattle.insn_decode.specs.declared.insn.Insn.{Insn}
use Rattle.mod_layout.specs.declared.Section.{Section}
use Rattle.cpu_step.specs.Fetched.{insn_in}

-- the byte of the text at an address
abbrev pub text_byte : Section → List ℕ → ℕ → ℕ
text_byte s text a = slice_index text (a - s.start)

-- the instruction at an address of the text, where it lies wholly in it
unfoldable pub met : Section → List ℕ → ℕ → Option Insn
met s text pc = insn_in (text_byte s text) s pc
