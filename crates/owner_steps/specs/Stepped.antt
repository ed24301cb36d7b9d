-- What a run on a sink does.
use Rattle.std.specs.Prelude.{ℕ, List, Option}
use Rattle.sm_io.specs.Sink.{Took, CutOff}
use Rattle.board.specs.declared.Ran.{Ran}
use Rattle.board.specs.Ran.{WholeOrCut}
use Rattle.written_machine.specs.Cycle.{after_cycles}
use Rattle.written_machine.specs.State.{State}
use Rattle.owner_steps.specs.Steps.{owner_lines, text_with}

module _ {S : Type 0} (taken : S → Option (List ℕ)) (faults sure : S → ℕ) where
  -- the sink took the text of n cycles, after which the machine is stopped or not; or it failed within the text
  abbrev pub Stepped : ℕ → State → S → S → Ran → Type 0
  Stepped n s before after ended =
      let text = text_with owner_lines s n in
      WholeOrCut (after_cycles s n).stop (Took taken faults sure before after text) (CutOff taken faults sure before after text) ended
