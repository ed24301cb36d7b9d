-- What the events of a cycle tell.
use Rattle.std.specs.Prelude.{◌≡◌, ◌≢◌, ◌⊎◌, ℕ, List, [], ◌∷◌, Bool, false, ◌==◌, Option, Some, None}
use Rattle.pc_access.specs.declared.Stop.{Stop}
use Rattle.tracer.specs.declared.Event.{Event}
use Rattle.tracer.specs.declared.Event.TheVariants.{Close as Closed, Handler as Handling, Leave as Left, Hide as Hid, Enter as Entered, Stop as Stopped}

-- module m is entered, called by the module from, or by the outside where that is 0
abbrev pub Enters : ℕ → ℕ → List Event → Type 0
Enters m from [] = ⊥
Enters m from (e ∷ es) = (e ≡ Entered m from) ⊎ Enters m from es

-- module m is neither left nor closed
abbrev pub NoEnd : ℕ → List Event → Type 0
NoEnd m [] = Unit {0}
NoEnd m (Left id pc ∷ es) = (id ≢ m) × NoEnd m es
NoEnd m (Closed id ∷ es) = (id ≢ m) × NoEnd m es
NoEnd m (_ ∷ es) = NoEnd m es

-- module m is left or closed
abbrev pub EndsCall : ℕ → List Event → Type 0
EndsCall m [] = ⊥
EndsCall m (Left id pc ∷ es) = (id ≡ m) ⊎ EndsCall m es
EndsCall m (Closed id ∷ es) = (id ≡ m) ⊎ EndsCall m es
EndsCall m (_ ∷ es) = EndsCall m es

-- whether an event ends a call of module m
abbrev pub ends_call : ℕ → Event → Bool
ends_call m (Left id pc) = id == m
ends_call m (Closed id) = id == m
ends_call m _ = false

-- some module is hidden
abbrev pub Hides : List Event → Type 0
Hides [] = ⊥
Hides (Hid id v ∷ es) = Unit {0}
Hides (_ ∷ es) = Hides es

-- a handler begins
abbrev pub Handles : List Event → Type 0
Handles [] = ⊥
Handles (Handling pc ∷ es) = Unit {0}
Handles (_ ∷ es) = Handles es

-- the stop that they tell, if they tell one
abbrev pub stop_in : List Event → Option Stop
stop_in [] = None
stop_in (Stopped stop ∷ es) = Some stop
stop_in (_ ∷ es) = stop_in es
