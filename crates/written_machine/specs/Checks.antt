-- The checks of a cycle in their order, and the stop by the first that is refused.
use Rattle.std.specs.Prelude.{ℕ, List, [], ◌∷◌, map, Bool, true, false, not, Option, Some, None, is_none}
use Rattle.sm_words.specs.Words.{word_at}
use Rattle.insn_decode.specs.Code.{begun_by, length_at}
use Rattle.insn_decode.specs.declared.insn.Insn.{Insn}
use Rattle.insn_decode.specs.declared.insn.Insn.TheVariants.{Reti}
use Rattle.mod_layout.specs.First.{first_of}
use Rattle.mod_layout.specs.Table.{place_of}
use Rattle.mod_layout.specs.declared.Place.{Place}
use Rattle.mod_layout.specs.declared.Place.TheVariants.{Entry}
use Rattle.pc_access.specs.Rights.{right, refuse_if}
use Rattle.pc_access.specs.declared.Access.{Access}
use Rattle.pc_access.specs.declared.Denied.{Denied}
use Rattle.pc_access.specs.declared.Rule.TheVariants.{RetiInside, Straddle, Illegal}
use Rattle.pc_access.specs.declared.Stop.{Stop}
use Rattle.irq_padding.specs.Turns.{Turn, InterruptsOutside, Begins}
use Rattle.reg_backup.specs.Held.{held_ids}
use Rattle.reg_backup.specs.declared.frames.Frame.{Frame}
use Rattle.reg_backup.specs.declared.frames.Frame.TheVariants.{Module as Held}
use Rattle.cpu_step.specs.Asked.{asks}
use Rattle.cpu_step.specs.Fetched.{insn_at}
use Rattle.written_machine.specs.Cycle.{pc_of, byte_of, ticked, settle, case_of, pushes, is_home, who_of, fetch}
use Rattle.written_machine.specs.State.{State}

-- ---- an instruction

-- the module that an instruction is done for: the active one, and where none is, the one at whose entry it stands
abbrev pub active_at : Option ℕ → Place → Option ℕ
active_at (Some id) place = Some id
active_at None (Entry id) = Some id
active_at None _ = None

-- the state in which that module is active
abbrev pub entered : State → State
entered s = record s { active = active_at s.active (place_of s.table (pc_of s)) }

-- the word at PC
abbrev pub first_word : State → ℕ
first_word s = word_at (byte_of s) (pc_of s)

-- the instruction at PC
abbrev pub insn_at_pc : State → Option Insn
insn_at_pc s = insn_at (byte_of s) (pc_of s) (length_at (first_word s))

-- RETI asks for no access where it resumes a module
abbrev pub asked_to_return : List Frame → State → List Access
asked_to_return (Held b ∷ fs) s = []
asked_to_return _ s = asks (who_of s) Reti s.core

-- the accesses that an instruction asks for, in their order
abbrev pub asked_by : Option Insn → State → List Access
asked_by None s = []
asked_by (Some Reti) s = asked_to_return s.frames s
asked_by (Some insn) s = asks (who_of s) insn s.core

-- whether it is RETI inside a module
abbrev pub returns_inside : Option Insn → Option ℕ → Bool
returns_inside (Some Reti) (Some id) = true
returns_inside _ _ = false

-- the check of one access by this module, or by the outside
abbrev pub check_of : Option ℕ → State → Access → Option Denied
check_of active s x = right s.table active (held_ids s.frames) x

-- the first word is in the code table, the later words are where it is, and RETI is outside; then the accesses
abbrev pub later_checks : State → List (Option Denied)
later_checks s =
    refuse_if (is_none (begun_by (first_word s))) Illegal (pc_of s) 0
    ∷ refuse_if (not (is_home s.table s.active (pc_of s) (length_at (first_word s)))) Straddle (pc_of s) 0
    ∷ refuse_if (returns_inside (insn_at_pc s) s.active) RetiInside (pc_of s) 0
    ∷ map (check_of s.active s) (asked_by (insn_at_pc s) s)

-- the fetch is checked before a module is entered, all else after it
abbrev pub insn_checks : State → List (Option Denied)
insn_checks s = check_of s.active s (fetch s) ∷ later_checks (entered s)

-- ---- a cycle

-- by what it ends in: the pushes of an interrupt of the outside, or an instruction that begins
abbrev pub checks_by : Turn → State → List (Option Denied)
checks_by (InterruptsOutside vector) s = map (check_of None s) (pushes s)
checks_by Begins s = insn_checks s
checks_by _ s = []

-- the checks of a settled cycle
abbrev pub checks : State → List (Option Denied)
checks s = checks_by (case_of s) s

-- the stop by a refusal, with the PC as it stands
abbrev pub stop_at : Option Denied → State → Option Stop
stop_at None s = None
stop_at (Some d) s = Some record { rule = d.rule; pc = pc_of s; addr = d.addr; «module» = d.module }

-- by the first refusal of a settled cycle
abbrev pub stop_of : State → Option Stop
stop_of s = stop_at (first_of (checks s)) s

-- the stop of a cycle, if one of its checks is refused
unfoldable pub refused_in : State → Option Stop
refused_in s = stop_of (settle (ticked s)).state
