-- What holds of a board's machine and marks, step by step.
use Rattle.std.proofs.Common.{◌≡◌, ℕ, ◌+◌, ◌<◌, ◌≤◌, ◌^◌, List, length, Option, Some, None, is_some, refl, sym, ◌∙◌, ap, subst, arith}
use Rattle.sm_words.specs.Sums.{one_if}
use Rattle.pc_access.specs.declared.Stop.{Stop}
use Rattle.written_machine.specs.Cycle.{Step, cycle, after_cycles}
use Rattle.written_machine.specs.Marks.{Marked, at_state}
use Rattle.written_machine.specs.State.{State}
use Rattle.run_laws.proofs.Tame.{cycle_number}
use Rattle.board.specs.declared.machine.Machine.{Machine}
use Rattle.board.specs.declared.moment.Moment.{Moment}
use Rattle.board.specs.internal.Sound.{Chained, IsSound, Keeps, MachineStands}
use Rattle.board.specs.internal.Standing.{Lasting, lasting_of, marked_of, marks_of, state_of, states_at}
use Rattle.board.proofs.Leading.{stop_number}
use Rattle.board.proofs.MarkedStates.{chained_on}
use Rattle.board.proofs.Runs.{stays, stopped_state}
use Rattle.std.specs.List.{All}

-- marks stay where what lasts stays
pub marks_same : (m n : Machine) (ts : List Moment) → lasting_of n ≡ lasting_of m → marks_of n ts ≡ marks_of m ts
marks_same m n ts e = ap (λ (l : Lasting). states_at l.fixed ts l.marked) e

pub marked_same : (m n : Machine) (ts : List Moment) (g : Marked) → marked_of m ts ≡ g → lasting_of n ≡ lasting_of m → marked_of n ts ≡ at_state g (state_of n)
marked_same m n ts g seen e =
    ap (λ (l : Lasting). let r : Marked = record { present = state_of n; most = l.room; marks = states_at l.fixed ts l.marked } in r) e
    ∙ ap (λ (x : Marked). at_state x (state_of n)) seen

-- some cycles later
pub keeps_on : (k : ℕ) (m n : Machine) (ts : List Moment) → Keeps m ts → state_of n ≡ after_cycles (state_of m) k → MachineStands n → n.cycle + one_if (is_some n.stop) ≤ 2 ^ 62 →
    lasting_of n ≡ lasting_of m → Keeps n ts
keeps_on k m n ts h is stands number e = record {
  stands = stands;
  number = number;
  level = h.level ∙ ap (λ (l : Lasting). length l.marked) (sym e);
  few = subst (λ (l : Lasting). length ts ≤ l.room) (sym e) h.few;
  steady = h.steady;
  sound = subst (All IsSound) (sym (marks_same m n ts e)) h.sound;
  chain = subst (Chained (marks_of n ts)) (sym is) (subst (λ ms. Chained ms (after_cycles (state_of m) k)) (sym (marks_same m n ts e)) (chained_on k (marks_of m ts) (state_of m) h.chain));
}

-- the number after a cycle
next_number : (s t : State) (o p : Option Stop) → s.stop ≡ o → t.stop ≡ p → t ≡ (cycle s).state → s.cycle < 2 ^ 62 → s.cycle + one_if (is_some o) ≤ 2 ^ 62 → t.cycle + one_if (is_some p) ≤ 2 ^ 62
next_number s t (Some stop) p e f is few h =
    most p
  where
    most : (p : Option Stop) → t.cycle + one_if (is_some p) ≤ 2 ^ 62
    most None = let number : t.cycle ≡ s.cycle = ap (λ (u : State). u.cycle) (is ∙ ap (λ (u : Step). u.state) (stays s stop e)) in omega (arith, number, few)
    most (Some x) = let number : t.cycle ≡ s.cycle = ap (λ (u : State). u.cycle) (is ∙ ap (λ (u : Step). u.state) (stays s stop e)) in omega (arith, number, few)
next_number s t None None e f is few h =
    let number : t.cycle ≡ s.cycle + 1 = ap (λ (u : State). u.cycle) is ∙ (cycle_number s.stop s refl (ap (λ (u : State). u.stop) (sym is) ∙ f)).1 in
    omega (arith, number, few)
next_number s t None (Some stop) e f is few h =
    let number : t.cycle ≡ s.cycle = ap (λ (u : State). u.cycle) is ∙ stop_number s stop (ap (λ (u : State). u.stop) (sym is) ∙ f) in
    omega (arith, number, few)

pub number_next : (s t : State) → t ≡ (cycle s).state → s.cycle < 2 ^ 62 → s.cycle + one_if (is_some s.stop) ≤ 2 ^ 62 → t.cycle + one_if (is_some t.stop) ≤ 2 ^ 62
number_next s t is few h = next_number s t s.stop t.stop refl refl is few h

-- the number after cycles that pass
passed_number : (k most : ℕ) (s t : State) (o : Option Stop) → s.stop ≡ o → t.stop ≡ s.stop → t ≡ after_cycles s k → t.cycle ≡ s.cycle + k → k ≤ most → s.cycle + most ≤ 2 ^ 62 → s.cycle + one_if (is_some o) ≤ 2 ^ 62 →
    t.cycle + one_if (is_some o) ≤ 2 ^ 62
passed_number k most s t None e same is number few within h = omega (arith, number, few, within)
passed_number k most s t (Some stop) e same is number few within h =
    let here : t.cycle ≡ s.cycle = ap (λ (u : State). u.cycle) (is ∙ stopped_state k s stop e) in
    omega (arith, here, h)

pub number_passed : (k most : ℕ) (s t : State) → t.stop ≡ s.stop → t ≡ after_cycles s k → t.cycle ≡ s.cycle + k → k ≤ most → s.cycle + most ≤ 2 ^ 62 → s.cycle + one_if (is_some s.stop) ≤ 2 ^ 62 →
    t.cycle + one_if (is_some t.stop) ≤ 2 ^ 62
number_passed k most s t same is number few within h =
    subst (λ (o : Option Stop). t.cycle + one_if (is_some o) ≤ 2 ^ 62) (sym same) (passed_number k most s t s.stop refl same is number few within h)
