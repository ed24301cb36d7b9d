-- What putting the text of some moves does.
use Rattle.std.specs.Prelude.{ℕ, List, Option, Result, Ok, Err}
use Rattle.sm_io.specs.declared.sink.Failed.{Failed}
use Rattle.written_machine.specs.Marks.{Marked}
use Rattle.written_machine.specs.Script.{Move}
use Rattle.monitor.specs.Played.{Whole, CutShort}

module _ {S : Type 0} (taken : S → Option (List ℕ)) (faults sure : S → ℕ) where
  -- moves that are put to a sink
  abbrev pub Does : Marked → Marked → S → S → List Move → Result (Unit {0}) Failed → Type 0
  Does old new before after ms (Ok done) = Whole taken faults sure old new before after ms
  Does old new before after ms (Err failed) = CutShort taken faults sure new before after ms
