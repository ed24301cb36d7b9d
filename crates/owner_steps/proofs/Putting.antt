-- The lines of a cycle as they are put, and how a run ends.
use Rattle.std.proofs.Common.{◌≡◌, ℕ, List, drop, take, Option, Some, None, refl, sym, ◌∙◌, ap, subst}
use Rattle.sm_io.specs.Sink.{Took}
use Rattle.pc_access.specs.declared.Stop.{Stop}
use Rattle.tracer.specs.declared.Event.{Event}
use Rattle.written_machine.specs.Cycle.{after_cycles, cycle}
use Rattle.written_machine.specs.State.{State}
use Rattle.written_machine.specs.Trace.{event_lines}
use Rattle.board.specs.Ran.{ran_of}
use Rattle.board.specs.declared.Ran.{Ran}
use Rattle.owner_steps.specs.Begun.{Begun, begun}
use Rattle.owner_steps.specs.Stepped.{Stepped}
use Rattle.owner_steps.specs.Steps.{lines_between, early_count, owner_lines, text_with}

-- the lines before an instruction, and those behind it
abbrev pub early_lines : State → List ℕ
early_lines s = event_lines s.cycle (take (early_count (cycle s).events) (cycle s).events)

abbrev pub late_lines : State → List ℕ
late_lines s = event_lines s.cycle (drop (early_count (cycle s).events) (cycle s).events)

pub early_is : (s : State) (number : ℕ) (events xs : List Event) → number ≡ s.cycle → events ≡ (cycle s).events → xs ≡ take (early_count events) events → event_lines number xs ≡ early_lines s
early_is s number events xs at are is = ap (λ (k : ℕ). event_lines k xs) at ∙ ap (event_lines s.cycle) (is ∙ ap (λ (es : List Event). take (early_count es) es) are)

pub late_is : (s : State) (number : ℕ) (events xs : List Event) → number ≡ s.cycle → events ≡ (cycle s).events → xs ≡ drop (early_count events) events → event_lines number xs ≡ late_lines s
late_is s number events xs at are is = ap (λ (k : ℕ). event_lines k xs) at ∙ ap (event_lines s.cycle) (is ∙ ap (λ (es : List Event). drop (early_count es) es) are)

pub own_is : (s t : State) (old new : List ℕ) (o : Option Begun) → old ≡ s.core → t ≡ (cycle s).state → new ≡ t.core → o ≡ begun s → lines_between old o new ≡ owner_lines s
own_is s t old new o before state after begins =
    ap (λ (c : List ℕ). lines_between c o new) before
    ∙ ap (λ (b : Option Begun). lines_between s.core b new) begins
    ∙ ap (λ (c : List ℕ). lines_between s.core (begun s) c) (after ∙ ap (λ (u : State). u.core) state)

-- how a run ends whose text was taken
pub stepped : {S : Type 0} (taken : S → Option (List ℕ)) (faults sure : S → ℕ) (n : ℕ) (s t : State) (before after : S) (r : Ran) → Took taken faults sure before after (text_with owner_lines s n)
    → t ≡ after_cycles s n → r ≡ ran_of t.stop → Stepped taken faults sure n s before after r
stepped taken faults sure n s t before after r took is e =
    subst (λ x. Stepped taken faults sure n s before after x) (sym (e ∙ ap (λ (u : State). ran_of u.stop) is)) (by (after_cycles s n).stop refl)
  where
    by : (o : Option Stop) → (after_cycles s n).stop ≡ o → Stepped taken faults sure n s before after (ran_of o)
    by None h = (took, h)
    by (Some stop) h = (took, h)
