-- The bounds of the numbers of a script's lines.
use Rattle.std.specs.Prelude.{◌≡◌, ℕ, ◌+◌, ◌<◌, Bool, true, ◌&&◌, nat_le, List, [], ◌∷◌}
use Rattle.mod_layout.specs.declared.TheConstants.{DEVICES_END}
use Rattle.written_machine.specs.declared.ScriptLine.{ScriptLine}
use Rattle.written_machine.specs.declared.ScriptLine.TheVariants.{Go, Until, Regs, Mem, Mark, Back, Last}
use Rattle.script_file.specs.declared.TheConstants.{MAX_CYCLES, MAX_BYTES, MEMORY_END, MAX_MARK}

-- whether the numbers of a line are in their bounds: bytes are shown from past the devices to the end of memory
abbrev pub is_bounded : ScriptLine → Bool
is_bounded (Go n) = nat_le n MAX_CYCLES
is_bounded (Until addr n) = nat_le n MAX_CYCLES
is_bounded Regs = true
is_bounded (Mem addr n) = nat_le DEVICES_END addr && nat_le 1 n && nat_le n MAX_BYTES && nat_le (addr + n) MEMORY_END
is_bounded Mark = true
is_bounded (Back k) = nat_le k MAX_MARK
is_bounded (Last addr k) = nat_le k MAX_MARK

abbrev pub IsBounded : ScriptLine → Type 0
IsBounded l = is_bounded l ≡ true

-- an address is a word
abbrev pub IsAddressed : ScriptLine → Type 0
IsAddressed (Until addr n) = addr < MEMORY_END
IsAddressed (Mem addr n) = addr < MEMORY_END
IsAddressed (Last addr k) = addr < MEMORY_END
IsAddressed _ = Unit {0}

-- a line that a script may have
pub record IsLine (l : ScriptLine) : Type 0 where
  pub addressed : IsAddressed l
  pub bounded : IsBounded l

-- the most cycles that a line can take
abbrev pub most_cycles : ScriptLine → ℕ
most_cycles (Go n) = n
most_cycles (Until addr n) = n
most_cycles _ = 0

-- and all lines together
abbrev pub all_cycles : List ScriptLine → ℕ
all_cycles [] = 0
all_cycles (l ∷ ls) = most_cycles l + all_cycles ls
