-- A run, one cycle more, and its end.
use Rattle.std.proofs.Common.{◌≡◌, ℕ, suc, ◌+◌, List, ◌++◌, sym, ◌∙◌, ap, arith}
use Rattle.image_text.specs.Image.{Image}
use Rattle.written_machine.specs.Cycle.{cycle, after_cycles}
use Rattle.written_machine.specs.State.{State}
use Rattle.written_machine.specs.Trace.{end_line_of, event_lines, lines_after}
use Rattle.written_machine.specs.View.{boot}
use Rattle.pulse_sweep.specs.Columns.{columns_after}
use Rattle.pulse_sweep.specs.Sweep.{columns_at, lone_pulse, trace_at}
use Rattle.pulse_sweep.specs.declared.Pulses.{Pulses}
use Rattle.pulse_sweep.specs.declared.columns.Columns.{Columns}
use Rattle.pulse_sweep.specs.internal.Told.{joined_columns, columns_of}
use Rattle.pulse_sweep.proofs.Firsts.{columns_more}

pub state_next : (s t u : State) (n : ℕ) → t ≡ after_cycles s n → u ≡ (cycle t).state → u ≡ after_cycles s (n + 1)
state_next s t u n at is = let e : n + 1 ≡ suc n = omega arith in is ∙ ap (λ (x : State). (cycle x).state) at ∙ sym (ap (after_cycles s) e)

pub columns_next : (c : ℕ) (s t : State) (n : ℕ) (x y : Columns) → t ≡ after_cycles s n → x ≡ columns_after c s n
    → y ≡ joined_columns x (columns_of c t.cycle (cycle t).events) → y ≡ columns_after c s (n + 1)
columns_next c s t n x y at so is =
    is ∙ ap (λ (z : Columns). joined_columns z (columns_of c t.cycle (cycle t).events)) so
    ∙ ap (λ (u : State). joined_columns (columns_after c s n) (columns_of c u.cycle (cycle u).events)) at
    ∙ sym (columns_more c s n)

pub lines_next : (s t : State) (n : ℕ) (text more : List ℕ) → t ≡ after_cycles s n → text ≡ lines_after s n
    → more ≡ text ++ event_lines t.cycle (cycle t).events → more ≡ lines_after s (n + 1)
lines_next s t n text more at so is =
    let e : n + 1 ≡ suc n = omega arith in
    is ∙ ap (λ (l : List ℕ). l ++ event_lines t.cycle (cycle t).events) so
    ∙ ap (λ (u : State). lines_after s n ++ event_lines u.cycle (cycle u).events) at
    ∙ sym (ap (lines_after s) e)

pub columns_whole : (p : Pulses) (image : Image) (c n : ℕ) (x : Columns) → n ≡ p.cycles → x ≡ columns_after c (boot image (lone_pulse p.line c)) n → x ≡ columns_at p image c
unfolding columns_at
columns_whole p image c n x all is = is ∙ ap (columns_after c (boot image (lone_pulse p.line c))) all

pub trace_whole : (p : Pulses) (image : Image) (c n : ℕ) (t : State) (text whole : List ℕ) → n ≡ p.cycles → t ≡ after_cycles (boot image (lone_pulse p.line c)) n
    → text ≡ lines_after (boot image (lone_pulse p.line c)) n → whole ≡ text ++ end_line_of t → whole ≡ trace_at p image c
unfolding trace_at
trace_whole p image c n t text whole all at is more =
    let s = boot image (lone_pulse p.line c) in
    more ∙ ap (λ (l : List ℕ). l ++ end_line_of t) is ∙ ap (λ (u : State). lines_after s n ++ end_line_of u) at
    ∙ ap (λ k. lines_after s k ++ end_line_of (after_cycles s k)) all
