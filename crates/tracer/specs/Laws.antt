-- The law of the trace's lines. It is what a function of this crate ensures.
use Rattle.std.specs.Prelude.{◌≡◌, ℕ, ◌<◌, ◌^◌}
use Rattle.pc_access.specs.declared.Stop.{Stop as StopValue}
use Rattle.tracer.specs.declared.Event.{Event}
use Rattle.tracer.specs.declared.Event.TheVariants.{Resume, Close, Handler, Leave, Hide, Irq, Enter, Reti, Protect, Out, Stop}
use Rattle.tracer.specs.Lines.{event_line}

-- ids and addresses are words
abbrev pub IsWord : ℕ → Type 0
IsWord n = n < 65536

pub record IsStop (stop : StopValue) : Type 0 where
  pub pc : IsWord stop.pc
  pub addr : IsWord stop.addr
  pub «module» : IsWord stop.«module»

-- what a machine can tell: words and bytes where an event has them
abbrev pub IsEvent : Event → Type 0
IsEvent (Resume id) = IsWord id
IsEvent (Close id) = IsWord id
IsEvent (Handler pc) = IsWord pc
IsEvent (Leave id pc) = IsWord id × IsWord pc
IsEvent (Hide id vector) = IsWord id × (vector < 256)
IsEvent (Irq vector) = vector < 256
IsEvent (Enter id from) = IsWord id × IsWord from
IsEvent Reti = Unit {0}
IsEvent (Protect id) = IsWord id
IsEvent (Out byte) = byte < 256
IsEvent (Stop stop) = IsStop stop

-- Each event's line is told from every other's: equal lines are those of one cycle and one event.
abbrev pub LinesAreTold : Type 0
LinesAreTold = (c d : ℕ) (e f : Event) → c < 2 ^ 64 → d < 2 ^ 64 → IsEvent e → IsEvent f → event_line c e ≡ event_line d f → (c ≡ d) × (e ≡ f)
