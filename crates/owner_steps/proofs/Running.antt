-- The lines of a run, cycle by cycle.
use Rattle.std.proofs.Common.{◌≡◌, ℕ, zero, suc, ◌+◌, ◌-◌, ◌<◌, ◌≤◌, ◌==◌, true, List, [], ◌∷◌, ◌++◌, drop, take, Bool, Option, Some, None, is_some, refl, sym, ◌∙◌, ap, arith}
use Rattle.std.proofs.lemmas.Bool.{false≢true}
use Rattle.std.proofs.lemmas.Grind.{flat_map-append}
use Rattle.std.proofs.lemmas.List.{append_assoc, append-nil, take-append-drop}
use Rattle.std.specs.List.{flat_map, range_with_len}
use Rattle.sm_words.specs.Words.{reg}
use Rattle.pc_access.specs.declared.Stop.{Stop}
use Rattle.image_text.specs.Image.{Image}
use Rattle.schedule_file.specs.declared.Entry.{Entry}
use Rattle.tracer.specs.Lines.{event_line}
use Rattle.tracer.specs.declared.Event.{Event}
use Rattle.written_machine.specs.Cycle.{Step, cycle, after_cycles}
use Rattle.written_machine.specs.State.{State}
use Rattle.written_machine.specs.Trace.{end_line_of, event_lines, lines_after, trace}
use Rattle.written_machine.specs.View.{at, boot}
use Rattle.board.proofs.Runs.{state_more, state_split, stays, stopped_state}
use Rattle.owner_steps.specs.Begun.{begun}
use Rattle.owner_steps.specs.Registers.{line_if, register_text, register_unless, registers_line}
use Rattle.owner_steps.specs.Steps.{lines_between, early_count, lines_with, owner_lines, run_with, text_with}
use Rattle.owner_steps.proofs.Finding.{none_begun}

-- ---- the trace

lines_parted : (c n : ℕ) (es : List Event) → (event_lines c (take n es) ++ []) ++ event_lines c (drop n es) ≡ event_lines c es
lines_parted c n es =
    ap (λ (l : List ℕ). l ++ event_lines c (drop n es)) (append-nil (event_lines c (take n es)))
    ∙ sym (flat_map-append (event_line c) (take n es) (drop n es)) ∙ ap (event_lines c) (take-append-drop n es)

traced : (s : State) (n : ℕ) → run_with (λ t. []) s n ≡ lines_after s n
traced s zero = refl
traced s (suc n) =
    let t = after_cycles s n in
    ap (λ (l : List ℕ). l ++ lines_with (λ t. []) t) (traced s n)
    ∙ ap (λ (l : List ℕ). lines_after s n ++ l) (lines_parted t.cycle (early_count (cycle t).events) (cycle t).events)

-- with nothing among its lines the text is the trace
pub trace_there : (image : Image) (schedule : List Entry) (n : ℕ) → text_with (λ s. []) (boot image schedule) n ≡ trace image schedule n
trace_there image schedule n = ap (λ (l : List ℕ). l ++ end_line_of (at image schedule n)) (traced (boot image schedule) n)

-- ---- a longer run

pub run_more : (n : ℕ) (s : State) → run_with owner_lines s (n + 1) ≡ run_with owner_lines s n ++ lines_with owner_lines (after_cycles s n)
run_more n s = let e : n + 1 ≡ suc n = omega arith in ap (run_with owner_lines s) e

pub run_split : (n m : ℕ) (s : State) → run_with owner_lines s (n + m) ≡ run_with owner_lines s n ++ run_with owner_lines (after_cycles s n) m
run_split n zero s = (let e : n + 0 ≡ n = omega arith in ap (run_with owner_lines s) e) ∙ sym (append-nil (run_with owner_lines s n))
run_split n (suc m) s =
    (let e : n + suc m ≡ suc (n + m) = omega arith in ap (run_with owner_lines s) e)
    ∙ ap (λ (t : State). run_with owner_lines s (n + m) ++ lines_with owner_lines t) (state_split n m s)
    ∙ ap (λ (l : List ℕ). l ++ lines_with owner_lines (after_cycles (after_cycles s n) m)) (run_split n m s)
    ∙ append_assoc (run_with owner_lines s n) (run_with owner_lines (after_cycles s n) m) (lines_with owner_lines (after_cycles (after_cycles s n) m))

-- a run begins with a shorter one, and the lines of the next cycle
pub run_within : (n all : ℕ) (s t : State) → n < all → t ≡ after_cycles s n →
    run_with owner_lines s n ++ (lines_with owner_lines t ++ run_with owner_lines (after_cycles s (n + 1)) (all - (n + 1))) ≡ run_with owner_lines s all
run_within n all s t h e =
    let rest = run_with owner_lines (after_cycles s (n + 1)) (all - (n + 1)) in
    let whole : (n + 1) + (all - (n + 1)) ≡ all = omega arith in
    ap (λ (u : State). run_with owner_lines s n ++ (lines_with owner_lines u ++ rest)) e
    ∙ sym (append_assoc (run_with owner_lines s n) (lines_with owner_lines (after_cycles s n)) rest)
    ∙ ap (λ (l : List ℕ). l ++ rest) (sym (run_more n s))
    ∙ sym (run_split (n + 1) (all - (n + 1)) s)
    ∙ ap (run_with owner_lines s) whole

-- one cycle more
pub run_next : (n : ℕ) (s t : State) → t ≡ after_cycles s n → run_with owner_lines s n ++ lines_with owner_lines t ≡ run_with owner_lines s (n + 1)
run_next n s t e = ap (λ (u : State). run_with owner_lines s n ++ lines_with owner_lines u) e ∙ sym (run_more n s)

pub state_next : (n : ℕ) (s t u : State) → t ≡ after_cycles s n → u ≡ (cycle t).state → u ≡ after_cycles s (n + 1)
state_next n s t u e f = f ∙ ap (λ (v : State). (cycle v).state) e ∙ sym (state_more n s)

-- ---- a stopped machine

no_register : (core : List ℕ) (ns : List ℕ) → flat_map (register_text core core) ns ≡ []
no_register core [] = refl
no_register core (n ∷ ns) =
    let same : (reg core n == reg core n) ≡ true = grind arith in
    ap (λ (b : Bool). register_unless b n (reg core n) ++ flat_map (register_text core core) ns) same
    ∙ no_register core ns

no_line : (core : List ℕ) → registers_line core core ≡ []
no_line core = ap line_if (no_register core (range_with_len 0 16))

silent : (s : State) (stop : Stop) → s.stop ≡ Some stop → lines_with owner_lines s ≡ []
silent s stop e =
    let rests = stays s stop e in
    let none : begun s ≡ None = none_begun s (cycle s).state refl (ap (λ (t : Step). is_some t.state.stop) rests ∙ ap is_some e) in
    ap (λ (t : Step). (event_lines s.cycle (take (early_count t.events) t.events) ++ lines_between s.core (begun s) t.state.core) ++ event_lines s.cycle (drop (early_count t.events) t.events)) rests
    ∙ ap (λ o. lines_between s.core o s.core ++ []) none
    ∙ append-nil (registers_line s.core s.core)
    ∙ no_line s.core

stopped_lines : (m : ℕ) (s : State) (stop : Stop) → s.stop ≡ Some stop → run_with owner_lines s m ≡ []
stopped_lines zero s stop e = refl
stopped_lines (suc m) s stop e =
    ap (λ (t : State). run_with owner_lines s m ++ lines_with owner_lines t) (stopped_state m s stop e)
    ∙ ap (λ (l : List ℕ). run_with owner_lines s m ++ l) (silent s stop e)
    ∙ append-nil (run_with owner_lines s m)
    ∙ stopped_lines m s stop e

-- a run that leaves the machine stopped before its last cycle is the whole run
pub stopped_early : (n all : ℕ) (old new : State) → n ≤ all → new ≡ after_cycles old n → is_some new.stop ≡ true →
    (new ≡ after_cycles old all) × (run_with owner_lines old n ≡ run_with owner_lines old all)
stopped_early n all old new h is e = by new.stop refl e
  where
    by : (o : Option Stop) → new.stop ≡ o → is_some o ≡ true → (new ≡ after_cycles old all) × (run_with owner_lines old n ≡ run_with owner_lines old all)
    by None has some = absurd (false≢true some)
    by (Some stop) has some =
        let m = all - n in
        let whole : all ≡ n + m = omega arith in
        let at : (after_cycles old n).stop ≡ Some stop = ap (λ (s : State). s.stop) (sym is) ∙ has in (
          is ∙ sym (ap (after_cycles old) whole ∙ state_split n m old ∙ stopped_state m (after_cycles old n) stop at),
          sym (ap (run_with owner_lines old) whole ∙ run_split n m old ∙ ap (λ (l : List ℕ). run_with owner_lines old n ++ l) (stopped_lines m (after_cycles old n) stop at) ∙ append-nil (run_with owner_lines old n)),
        )
