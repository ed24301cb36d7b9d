-- A look at each settled cycle.
use Rattle.std.specs.Prelude.{◌≡◌, List, ◌∷◌, Bool, true, false, Option, Some, None}
use Rattle.pc_access.specs.declared.Stop.{Stop}
use Rattle.reg_backup.specs.declared.frames.Frame.{Frame}
use Rattle.reg_backup.specs.declared.frames.Frame.TheVariants.{Module as Held}
use Rattle.irq_padding.specs.declared.turn.Turn.{Turn}
use Rattle.irq_padding.specs.declared.turn.Turn.TheVariants.{Begin}
use Rattle.written_machine.specs.Cycle.{settle, ticked}
use Rattle.written_machine.specs.State.{State}

-- whether an instruction begins
abbrev pub is_begin : Turn → Bool
is_begin Begin = true
is_begin _ = false

-- whether the newest frame is a module's
abbrev pub is_held_first : List Frame → Bool
is_held_first (Held b ∷ fs) = true
is_held_first _ = false

-- by this look at the settled state; a machine that is stopped is not looked at
abbrev pub watched_by : {W : Type 0} → (W → State → W → Type 0) → Option Stop → State → W → W → Type 0
watched_by looks (Some stop) s old new = new ≡ old
watched_by looks None s old new = looks old (settle (ticked s)).state new

abbrev pub Watched : {W : Type 0} → (W → State → W → Type 0) → State → W → W → Type 0
Watched looks s old new = watched_by looks s.stop s old new
