-- What moves write, and where they lead.
use Rattle.std.proofs.Common.{◌≡◌, ℕ, zero, suc, ◌+◌, List, [], ◌∷◌, ◌++◌, refl, sym, ap, ◌∙◌, arith}
use Rattle.std.proofs.lemmas.List.{append_assoc, append-nil}
use Rattle.written_machine.specs.Cycle.{cycle, after_cycles}
use Rattle.written_machine.specs.State.{State}
use Rattle.written_machine.specs.Trace.{event_lines, lines_after}
use Rattle.std.proofs.lemmas.Grind.{flat_map-append}
use Rattle.written_machine.specs.Marks.{Marked, at_state}
use Rattle.written_machine.specs.Script.{Move, cycle_move, cycle_moves, led, moves_text}

-- moves one after another
pub led_append : (g : Marked) (ms ns : List Move) → led g (ms ++ ns) ≡ led (led g ms) ns
led_append g [] ns = refl
led_append g (m ∷ ms) ns = led_append m.after ms ns

pub text_append : (ms ns : List Move) → moves_text (ms ++ ns) ≡ moves_text ms ++ moves_text ns
text_append ms ns = flat_map-append (λ (m : Move). m.text) ms ns

-- cycles lead to the state after them, under the same marks
pub led_cycles : (g : Marked) (n : ℕ) → led g (cycle_moves g n) ≡ at_state g (after_cycles g.present n)
led_cycles g zero = refl
led_cycles g (suc n) = led_append g (cycle_moves g n) (cycle_move (at_state g (after_cycles g.present n)) ∷ [])

-- and write their lines
pub text_cycles : (g : Marked) (n : ℕ) → moves_text (cycle_moves g n) ≡ lines_after g.present n
text_cycles g zero = refl
text_cycles g (suc n) =
    let t = after_cycles g.present n in
    rw (text_append (cycle_moves g n) (cycle_move (at_state g t) ∷ []), text_cycles g n, append-nil (event_lines t.cycle (cycle t).events)) refl

-- n cycles and m more
pub cycles_split : (g : Marked) (n m : ℕ) → cycle_moves g (n + m) ≡ cycle_moves g n ++ cycle_moves (at_state g (after_cycles g.present n)) m
cycles_split g n zero = (let e : n + 0 ≡ n = omega arith in ap (cycle_moves g) e) ∙ sym (append-nil (cycle_moves g n))
cycles_split g n (suc m) =
    let e : n + suc m ≡ suc (n + m) = omega arith in
    let h = at_state g (after_cycles g.present n) in
    rw (e, cycles_split g n m, state_split g.present n m) (append_assoc (cycle_moves g n) (cycle_moves h m) (cycle_move (at_state g (after_cycles h.present m)) ∷ []))
  where
    state_split : (s : State) (n m : ℕ) → after_cycles s (n + m) ≡ after_cycles (after_cycles s n) m
    state_split s n zero = let e : n + 0 ≡ n = omega arith in ap (after_cycles s) e
    state_split s n (suc m) = let e : n + suc m ≡ suc (n + m) = omega arith in ap (after_cycles s) e ∙ ap (λ (t : State). (cycle t).state) (state_split s n m)
