-- The bits of the status register (MSP430x1xx Family User's Guide SLAU049, section 3.2.3).
use Rattle.std.specs.Prelude.{ℕ, ◌+◌, ◌-◌, ◌*◌, ◌/◌, ◌%◌, ◌==◌, List, Bool, ◌&&◌}
use Rattle.sm_words.specs.Words.{bit, reg}
use Rattle.sm_words.specs.Sums.{one_if}
use Rattle.sm_words.specs.declared.registers.TheConstants.{SR}
use Rattle.sm_words.specs.declared.status.TheConstants.{CARRY, ZERO, NEGATIVE, GIE, CPU_OFF, SCG0, OVERFLOW}
use Rattle.sm_words.specs.declared.width.Sum.{Sum}

-- whether the bit with this worth is set
abbrev pub is_set : ℕ → ℕ → Bool
is_set mask sr = bit mask sr == 1

-- whether the bits of all four flags are set: those below GIE, and V
abbrev pub has_all_flags : ℕ → Bool
has_all_flags sr = (sr % GIE == GIE - 1) && is_set OVERFLOW sr

-- whether interrupts are enabled
abbrev pub is_gie : List ℕ → Bool
is_gie core = is_set GIE (reg core SR)

-- whether the processor is off
abbrev pub is_cpu_off : List ℕ → Bool
is_cpu_off core = is_set CPU_OFF (reg core SR)

-- the bits that are no flags: those from GIE on, below V
abbrev pub controls : ℕ → ℕ
controls sr = GIE * ((sr / GIE) % (OVERFLOW / GIE))

-- SR with the flags of a result
abbrev pub sr_with_flags : Sum → ℕ → ℕ
sr_with_flags s sr = CARRY * one_if s.c + ZERO * one_if s.z + NEGATIVE * one_if s.n + controls sr + OVERFLOW * one_if s.v

-- inside a module SR keeps all bits but C, Z, N and V
abbrev pub confined_sr : ℕ → ℕ → ℕ
confined_sr old new = new % GIE + controls old + OVERFLOW * bit OVERFLOW new

-- an interrupt clears all bits but SCG0
abbrev pub interrupted_sr : ℕ → ℕ
interrupted_sr sr = SCG0 * bit SCG0 sr
