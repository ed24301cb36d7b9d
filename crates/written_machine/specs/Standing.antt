-- Where the outside stands: the moments at which it is about to begin the instruction at an address.
use Rattle.std.specs.Prelude.{ℕ, zero, suc, ◌+◌, ◌==◌, Bool, true, false, ◌&&◌, not, Option, Some, None, is_none}
use Rattle.reg_backup.specs.declared.backup.After.{After}
use Rattle.reg_backup.specs.declared.backup.After.TheVariants.{Resume}
use Rattle.reg_backup.specs.declared.backup.Phase.{Phase}
use Rattle.reg_backup.specs.declared.backup.Phase.TheVariants.{Run}
use Rattle.written_machine.specs.Cycle.{pc_of, cycle, after_cycles}
use Rattle.written_machine.specs.State.{State}

-- no cycle of an instruction or of padding is left
abbrev pub is_ready : Phase → Bool
is_ready (Run zero) = true
is_ready _ = false

-- a module goes on next
abbrev pub is_resume : After → Bool
is_resume Resume = true
is_resume _ = false

-- outside, before an instruction at this address
unfoldable pub stands_at : ℕ → State → Bool
stands_at addr s = is_none s.active && is_ready s.phase && not (is_resume s.after) && (pc_of s == addr)

-- none where it stands there, or else one more
abbrev pub one_more_unless : Bool → ℕ → ℕ
one_more_unless true n = 0
one_more_unless false n = n + 1

-- how many of the next n cycles pass until, before a cycle, it stands there
abbrev pub cycles_until : ℕ → State → ℕ → ℕ
cycles_until addr s zero = 0
cycles_until addr s (suc n) = one_more_unless (stands_at addr s) (cycles_until addr (cycle s).state n)

-- this state where it stands there, or else one before it
abbrev pub this_or : Bool → State → Option State → Option State
this_or true s before = Some s
this_or false s before = before

-- of the first n states from this one on, the last that stands there
abbrev pub last_standing : ℕ → State → ℕ → Option State
last_standing addr s zero = None
last_standing addr s (suc n) = let t = after_cycles s n in this_or (stands_at addr t) t (last_standing addr s n)
