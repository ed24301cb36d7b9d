-- A run stops in the cycle in which a check is refused, and tells it.
use Rattle.std.proofs.Common.{◌≡◌, ⊎_elim, ℕ, zero, suc, ◌<◌, is_some, List, [], ◌∷◌, ◌++◌, append_assoc, Option, Some, None, refl, sym, ◌∙◌, ap, subst, arith}
use Rattle.std.specs.Prelude.{◌↔◌}
use Rattle.std.proofs.lemmas.Bool.{cases_lt}
use Rattle.schedule_file.specs.declared.Entry.{Entry}
use Rattle.pc_access.specs.declared.Stop.{Stop}
use Rattle.image_text.specs.Image.{Image}
use Rattle.tracer.specs.Lines.{event_line}
use Rattle.tracer.specs.declared.Event.{Event}
use Rattle.tracer.specs.declared.Event.TheVariants.{Stop as StopEvent}
use Rattle.written_machine.specs.Checks.{refused_in}
use Rattle.written_machine.specs.Cycle.{cycle, after_cycles}
use Rattle.written_machine.specs.State.{State}
use Rattle.written_machine.specs.Trace.{event_lines, lines_after, end_line_of}
use Rattle.written_machine.specs.View.{at, boot}
use Rattle.written_machine.proofs.Stops.{cycle_by}
use Rattle.run_laws.specs.Events.{stop_in}
use Rattle.run_laws.specs.Laws.{StopTold, StopRefused}
use Rattle.cli_files.specs.declared.answers.Status.TheVariants.{Stopped}
use Rattle.cli_calls.specs.Command.{run_status, trace_answer}
use Rattle.sm_cli.specs.Laws.{StopsIn, RunsStop}

-- a text has this part
abbrev Has : List ℕ → List ℕ → Type 0
Has text part = (before : List ℕ) × (after : List ℕ) × (text ≡ before ++ (part ++ after))

has_first : (part more : List ℕ) → Has (part ++ more) part
has_first part more = ([], more, refl)

has_after : (first text part : List ℕ) → Has text part → Has (first ++ text) part
has_after first text part h = (first ++ h.0, h.1, ap (λ t. first ++ t) h.2 ∙ sym (append_assoc first h.0 (part ++ h.1)))

has_before : (text more part : List ℕ) → Has text part → Has (text ++ more) part
has_before text more part h =
    (h.0, h.1 ++ more, ap (λ t. t ++ more) h.2 ∙ append_assoc h.0 (part ++ h.1) more ∙ ap (λ t. h.0 ++ t) (append_assoc part h.1 more))

-- the events that tell a stop have its line
stop_line : (c : ℕ) (events : List Event) (stop : Stop) → stop_in events ≡ Some stop → Has (event_lines c events) (event_line c (StopEvent stop))
stop_line c [] stop e = cc
stop_line c (StopEvent own ∷ es) stop e =
    let same : own ≡ stop = cc in
    subst (λ s. Has (event_lines c (StopEvent own ∷ es)) (event_line c (StopEvent s))) same (has_first (event_line c (StopEvent own)) (event_lines c es))
stop_line c (event ∷ es) stop e = has_after (event_line c event) (event_lines c es) (event_line c (StopEvent stop)) (stop_line c es stop e)

-- the lines of a cycle are among those of a run past it
cycle_lines : (s : State) (n k : ℕ) (part : List ℕ) → k < n → Has (event_lines (after_cycles s k).cycle (cycle (after_cycles s k)).events) part → Has (lines_after s n) part
cycle_lines s zero k part lt h = absurd (omega arith)
cycle_lines s (suc n) k part lt h =
    let t = after_cycles s n in
    ⊎_elim
    (λ below. has_before (lines_after s n) (event_lines t.cycle (cycle t).events) part (cycle_lines s n k part below h))
    (λ here.
    let same : k ≡ n = omega arith in
    has_after (lines_after s n) (event_lines t.cycle (cycle t).events) part (subst (λ i. Has (event_lines (after_cycles s i).cycle (cycle (after_cycles s i)).events) part) same h))
    (cases_lt k n)

-- a stopped machine stays so
stays : (s : State) (stop : Stop) → s.stop ≡ Some stop → (cycle s).state ≡ s
stays s stop e = ap (λ o. (cycle_by o s).state) e

stopped_by : (s : State) (k n : ℕ) (stop : Stop) → k < n → (after_cycles s (suc k)).stop ≡ Some stop → (after_cycles s n).stop ≡ Some stop
stopped_by s k zero stop lt e = absurd (omega arith)
stopped_by s k (suc n) stop lt e =
    ⊎_elim
    (λ below. let before = stopped_by s k n stop below e in ap (λ (t : State). t.stop) (stays (after_cycles s n) stop before) ∙ before)
    (λ here. let same : k ≡ n = omega arith in subst (λ i. (after_cycles s (suc i)).stop ≡ Some stop) same e)
    (cases_lt k n)

module _ (told : StopTold) (refused : StopRefused) (value : Image) (entries : List Entry) where
  -- the first cycle whose stop this is
  abbrev First : ℕ → Stop → Type 0
  First n stop = (k : ℕ) × (k < n) × ((at value entries k).stop ≡ None) × (refused_in (at value entries k) ≡ Some stop)

  first_in : (n : ℕ) (stop : Stop) → (at value entries n).stop ≡ Some stop → First n stop
  first_in zero stop e = cc
  first_in (suc n) stop e = by (at value entries n).stop refl (first_in n)
    where
      by : (o : Option Stop) → (at value entries n).stop ≡ o → ((own : Stop) → (at value entries n).stop ≡ Some own → First n own) → First (suc n) stop
      by None running more = (n, omega arith, running, sym (refused (at value entries n) running) ∙ e)
      by (Some own) stops more =
          let one : Some own ≡ Some stop = sym (ap (λ (t : State). t.stop) (stays (at value entries n) own stops) ∙ stops) ∙ e in
          let same : own ≡ stop = cc in
          let f = more own stops in
          (f.0, omega (arith, f.1), f.2, subst (λ s. refused_in (at value entries f.0) ≡ Some s) same f.3)

  stops_in : (cycles : ℕ) (stop : Stop) → First cycles stop → (k : ℕ) × StopsIn value entries cycles k
  stops_in cycles stop f =
      let s = at value entries f.0 in
      let tells : stop_in (cycle s).events ≡ Some stop = told s f.2 ∙ refused s f.2 ∙ f.3 in
      let lines = cycle_lines (boot value entries) cycles f.0 (event_line s.cycle (StopEvent stop)) f.1 (stop_line s.cycle (cycle s).events stop tells) in
      let whole = has_before (lines_after (boot value entries) cycles) (end_line_of (at value entries cycles)) (event_line s.cycle (StopEvent stop)) lines in
      (f.0, record { within = f.1; running = f.2; stop = stop; refused = f.3; before = whole.0; after = whole.1; line = whole.2 })

  by_status : (cycles : ℕ) (o : Option Stop) → (at value entries cycles).stop ≡ o → run_status (is_some o) ≡ Stopped → (k : ℕ) × StopsIn value entries cycles k
  by_status cycles None e s = cc
  by_status cycles (Some stop) e s = stops_in cycles stop (first_in cycles stop e)

  pub stopped : (cycles : ℕ) → ((trace_answer value entries cycles).status ≡ Stopped) ↔ ((k : ℕ) × StopsIn value entries cycles k)
  stopped cycles = (
    λ s. by_status cycles (at value entries cycles).stop refl s,
    λ x.
        let i = x.1 in
        let next = refused (at value entries x.0) i.running ∙ i.refused in
        ap (λ o. run_status (is_some o)) (stopped_by (boot value entries) x.0 cycles i.stop i.within next),
  )

pub runs_stop : StopTold → StopRefused → RunsStop
runs_stop told refused value entries cycles = stopped told refused value entries cycles
