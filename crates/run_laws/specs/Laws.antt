-- The laws of a run of the written machine. Each is what a function of this crate ensures.
use Rattle.std.specs.Prelude.{◌≡◌, ℕ, suc, ◌+◌, ◌<◌, ◌≤◌, List, length, slice_index, true, Option, Some, None}
use Rattle.sm_words.specs.Sums.{one_if}
use Rattle.sm_words.specs.Words.{IsCore}
use Rattle.schedule_file.specs.declared.Entry.{Entry}
use Rattle.mod_layout.specs.Table.{Table, module_of, size_of, takes}
use Rattle.mod_layout.specs.Tables.{IsTable}
use Rattle.mod_layout.specs.declared.Module.{Module}
use Rattle.mod_layout.specs.declared.Section.{Section}
use Rattle.mod_layout.specs.First.{first_in}
use Rattle.pc_access.specs.Rights.{right, is_id}
use Rattle.pc_access.specs.declared.Kind.TheVariants.{Write}
use Rattle.image_text.specs.Image.{Image, IsImage}
use Rattle.reg_backup.specs.declared.frames.TheConstants.{MOST_FRAMES}
use Rattle.irq_padding.specs.declared.TheConstants.{PADDING}
use Rattle.attest.specs.Units.{each_byte, text_reads}
use Rattle.written_machine.specs.Checks.{refused_in}
use Rattle.written_machine.specs.Cycle.{cycle, after_cycles}
use Rattle.written_machine.specs.Passing.{OnlyPass, Leads, passed}
use Rattle.written_machine.specs.State.{State}
use Rattle.written_machine.specs.View.{at}
use Rattle.run_laws.specs.Events.{Hides, Handles, stop_in}
use Rattle.run_laws.specs.Frames.{times}

-- ---- padding

-- A handler begins 12 cycles after a hide: once the cycle of the hide and the padding have passed,
abbrev pub HandlerAfterHide : Type 0
HandlerAfterHide = (a : Image) (schedule : List Entry) (k : ℕ) → Hides (cycle (at a schedule k)).events →
    Handles (cycle (after_cycles (at a schedule (suc k)) PADDING)).events

-- and at no other time.
abbrev pub HideBeforeHandler : Type 0
HideBeforeHandler = (a : Image) (schedule : List Entry) (k : ℕ) → Handles (cycle (at a schedule k)).events →
    (hid : ℕ) × (k ≡ hid + (1 + PADDING)) × Hides (cycle (at a schedule hid)).events

-- ---- what every state of a run keeps

-- A machine that has not stopped after k cycles has the number k.
abbrev pub Numbered : Type 0
Numbered = (a : Image) (schedule : List Entry) (k : ℕ) → (at a schedule k).stop ≡ None → (at a schedule k).cycle ≡ k

-- The registers keep their rules.
abbrev pub CoreKept : Type 0
CoreKept = (a : Image) (schedule : List Entry) (k : ℕ) → IsImage a → IsCore (at a schedule k).core

-- The memory has all its bytes.
abbrev pub MemoryFull : Type 0
MemoryFull = (a : Image) (schedule : List Entry) (k : ℕ) → IsImage a → length (at a schedule k).memory ≡ 65536

-- Each of them is a byte.
abbrev pub MemoryBytes : Type 0
MemoryBytes = (a : Image) (schedule : List Entry) (k n : ℕ) → IsImage a → slice_index (at a schedule k).memory n < 256

-- The table keeps its rules.
abbrev pub TableKept : Type 0
TableKept = (a : Image) (schedule : List Entry) (k : ℕ) → IsImage a → IsTable (at a schedule k).table

-- A module is active or in one frame, and never both.
abbrev pub ModuleOnce : Type 0
ModuleOnce = (a : Image) (schedule : List Entry) (k m : ℕ) → one_if (is_id m (at a schedule k).active) + times m (at a schedule k).frames ≤ 1

-- There are at most eight frames.
abbrev pub FramesFew : Type 0
FramesFew = (a : Image) (schedule : List Entry) (k : ℕ) → length (at a schedule k).frames ≤ MOST_FRAMES

-- ---- cycles and rights

-- Cycles that only pass, and the first m of them, lead to the state with devices, padding and rest moved on, and tell nothing.
abbrev pub Passing : Type 0
Passing = (s : State) (n m : ℕ) → s.stop ≡ None → OnlyPass n s → 0 < m → m ≤ n → Leads m s (passed m s)

-- A cycle tells at most four events.
abbrev pub EventsFew : Type 0
EventsFew = (s : State) → length (cycle s).events ≤ 4

-- A cycle of a machine that runs tells a stop exactly where the machine is stopped after it, and then that stop: the rule, the PC, the
-- address and the module of the first check that was refused.
abbrev pub StopTold : Type 0
StopTold = (s : State) → s.stop ≡ None → stop_in (cycle s).events ≡ (cycle s).state.stop

-- A machine that runs is stopped after a cycle exactly where a check of that cycle is refused, by the first one refused, with the PC as
-- the settled cycle finds it: nothing else stops a run.
abbrev pub StopRefused : Type 0
StopRefused = (s : State) → s.stop ≡ None → (cycle s).state.stop ≡ refused_in s

-- Reads of a module's text are refused to no one: so of a unit instruction's accesses only those are refused that its registers name.
abbrev pub TextReadable : Type 0
TextReadable = (t : Table) (m : ℕ) (owner : Module) (active : Option ℕ) (held : List ℕ) → IsTable t → module_of m t ≡ Some owner →
    first_in (right t active held) (text_reads owner) ≡ None

-- The zeros that a new module's data begin with are refused to no one, where the table takes the module.
abbrev pub ZerosWritable : Type 0
ZerosWritable = (t : Table) (text ram : Section) (active : Option ℕ) (held : List ℕ) → IsTable t → takes t text ram ≡ true →
    first_in (right t active held) (each_byte Write ram.start (size_of ram)) ≡ None
