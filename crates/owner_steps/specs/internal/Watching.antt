-- What the code's own invariants say of: Watching.
use Rattle.std.specs.Prelude.{◌≡◌, Option, None, option_map}
use Rattle.mod_layout.specs.First.{first_of}
use Rattle.written_machine.specs.Checks.{checks, entered}
use Rattle.written_machine.specs.Cycle.{case_of}
use Rattle.written_machine.specs.State.{State}
use Rattle.owner_steps.specs.Begun.{Begun, begun_in}
use Rattle.owner_steps.specs.declared.watching.Found.{Found}

-- what it stands for
abbrev pub begun_of : Found → Begun
begun_of f = record { core = f.core; past = f.past; lines = f.lines.bytes }

-- where nothing is refused, it is what begins in a settled state
abbrev pub Sees : State → Option Found → Type 0
Sees s o = first_of (checks s) ≡ None → option_map begun_of o ≡ begun_in (case_of s) (entered s)
