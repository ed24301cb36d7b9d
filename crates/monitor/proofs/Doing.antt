-- What is done and put, one move after another.
use Rattle.std.proofs.Common.{◌≡◌, ℕ, suc, ◌+◌, ◌-◌, ◌<◌, ◌≤◌, true, false, cond, nat_lt, List, [], ◌∷◌, ◌++◌, length, take, drop, get_or, Option, Some, None, Result, Ok, Err, refl, sym, ◌∙◌, ap, subst, arith}
use Rattle.std.specs.Option.{option_map, option_and_then}
use Rattle.std.proofs.lemmas.Bool.Decides.{nat_tests}
use Rattle.std.proofs.lemmas.List.{append_assoc, append-nil, at_drop_more}
use Rattle.std.proofs.lemmas.Option.{slice_get_past}
use Rattle.pc_access.specs.declared.Stop.{Stop}
use Rattle.sm_io.specs.Sink.{Took, CutOff, Puts}
use Rattle.sm_io.specs.declared.sink.Failed.{Failed}
use Rattle.sm_io.proofs.Putting.{appends_then, appends_same, took_nothing, took_then, took_same, cut_later, cut_first, cut_same}
use Rattle.isolation.proofs.Moves.{led_append, text_append, led_cycles, text_cycles, cycles_split}
use Rattle.isolation.specs.Laws.{SamePlays}
use Rattle.written_machine.specs.Cycle.{after_cycles}
use Rattle.written_machine.specs.Marks.{Marked, at_state, cut_at, last_from, last_at}
use Rattle.written_machine.specs.Script.{Move, shown, cycle_move, cycle_moves, line_moves, last_move, not_there_text, no_mark_text, led, moves, moves_text, play}
use Rattle.written_machine.specs.Trace.{end_line_of, lines_after}
use Rattle.written_machine.specs.declared.ScriptLine.{ScriptLine}
use Rattle.board.specs.Alike.{TookLines}
use Rattle.board.specs.Faults.{IsLastFault}
use Rattle.board.specs.declared.marks.LastFault.{LastFault}
use Rattle.board.specs.declared.marks.LastFault.TheVariants as fault
use Rattle.monitor.specs.internal.Shown.{last_fault_text}
use Rattle.board.specs.Ran.{RanWhole, RanCutOff}
use Rattle.board.specs.Ran.{ran_of}
use Rattle.board.specs.declared.Ran.{Ran}
use Rattle.board.specs.declared.Ran.TheVariants as ran
use Rattle.board.proofs.Runs.{state_more}
use Rattle.script_file.specs.Bounds.{most_cycles, all_cycles}
use Rattle.monitor.specs.Played.{Whole, CutShort, Plays, PeersPlay}
use Rattle.monitor.specs.internal.Played.{Does}

-- what is told of a fault of `last`
last_refused : (addr k : ℕ) (g : Marked) (fault : LastFault) → IsLastFault addr k g fault → last_move addr k g (last_at addr k g) ≡ shown (last_fault_text fault) g
last_refused addr k g (fault.NoMark j) h =
    let none : last_at addr k g ≡ None = ap (λ o. option_map (cut_at k g) (option_and_then (last_from addr g) o)) (slice_get_past g.marks k h.1) in
    let test : nat_lt k (length g.marks) ≡ false = grind (arith, nat_tests) in
    ap (last_move addr k g) none ∙ ap (λ c. shown (cond c (not_there_text addr) (no_mark_text k)) g) test ∙ ap (λ i. shown (no_mark_text i) g) (sym h.0)
last_refused addr k g (fault.NotThere a) h =
    let test : nat_lt k (length g.marks) ≡ true = grind (arith, nat_tests) in
    ap (last_move addr k g) h.2 ∙ ap (λ c. shown (cond c (not_there_text addr) (no_mark_text k)) g) test ∙ ap (λ b. shown (not_there_text b) g) (sym h.0)

pub last_refused_text : (addr k : ℕ) (g : Marked) (fault : LastFault) (text : List ℕ) → IsLastFault addr k g fault → text ≡ last_fault_text fault → text ≡ (last_move addr k g (last_at addr k g)).text
last_refused_text addr k g fault text h is = is ∙ sym (ap (λ (m : Move). m.text) (last_refused addr k g fault h))

pub last_refused_after : (addr k : ℕ) (g new : Marked) (fault : LastFault) → IsLastFault addr k g fault → new ≡ g → new ≡ (last_move addr k g (last_at addr k g)).after
last_refused_after addr k g new fault h is = is ∙ sym (ap (λ (m : Move). m.after) (last_refused addr k g fault h))

-- the i-th line, and what its cycles leave for the lines after it
pub line_at : (script items : List ScriptLine) (i : ℕ) (d : ScriptLine) → items ≡ script → i < length items → drop i script ≡ get_or items i d ∷ drop (i + 1) script
line_at script items i d is h = subst (λ ls. i < length ls → drop i script ≡ get_or ls i d ∷ drop (i + 1) script) (sym is) (λ low. at_drop_more (λ ls. ls) script i d low) h

pub cycles_left : (script : List ScriptLine) (i : ℕ) (l : ScriptLine) (now most : ℕ) → drop i script ≡ l ∷ drop (i + 1) script → now + all_cycles (drop i script) ≤ most → now + (most_cycles l + all_cycles (drop (i + 1) script)) ≤ most
cycles_left script i l now most at h = subst (λ ls. now + all_cycles ls ≤ most) at h

module _ {S : Type 0} (taken : S → Option (List ℕ)) (faults sure : S → ℕ) where
  -- ---- moves one after another
  pub whole_none : (a : Marked) (s : S) → Whole taken faults sure a a s s []
  whole_none a s = record { state = refl; text = took_nothing taken faults sure s }

  pub whole_then : (a b c : Marked) (s t u : S) (ms ns : List Move) → Whole taken faults sure a b s t ms → Whole taken faults sure b c t u ns → Whole taken faults sure a c s u (ms ++ ns)
  whole_then a b c s t u ms ns x y = record {
    state = y.state ∙ ap (λ g. led g ns) x.state ∙ sym (led_append a ms ns);
    text = took_same taken faults sure s u (moves_text ms ++ moves_text ns) (moves_text (ms ++ ns)) (sym (text_append ms ns)) (took_then taken faults sure s t u (moves_text ms) (moves_text ns) x.text y.text);
  }

  pub cut_after : (a b c : Marked) (s t u : S) (ms ns : List Move) → Whole taken faults sure a b s t ms → CutShort taken faults sure c t u ns → CutShort taken faults sure c s u (ms ++ ns)
  cut_after a b c s t u ms ns x y = record {
    earlier = ms ++ y.earlier;
    move = y.move;
    later = y.later;
    parts = ap (λ l. ms ++ l) y.parts ∙ sym (append_assoc ms y.earlier (y.move ∷ y.later));
    state = y.state;
    front = y.front;
    shorter = y.shorter;
    bytes = appends_same (taken s) (taken u) (moves_text ms ++ (moves_text y.earlier ++ take y.front y.move.text)) (moves_text (ms ++ y.earlier) ++ take y.front y.move.text)
        (sym (append_assoc (moves_text ms) (moves_text y.earlier) (take y.front y.move.text)) ∙ ap (λ l. l ++ take y.front y.move.text) (sym (text_append ms y.earlier)))
        (appends_then (taken s) (taken t) (taken u) (moves_text ms) (moves_text y.earlier ++ take y.front y.move.text) x.text.whole y.bytes);
    cut = cut_same taken faults sure s u (moves_text ms ++ moves_text ns) (moves_text (ms ++ ns)) (sym (text_append ms ns)) (cut_later taken faults sure s t u (moves_text ms) (moves_text ns) x.text y.cut);
  }

  pub cut_before : (c : Marked) (s u : S) (ms ns : List Move) → CutShort taken faults sure c s u ms → CutShort taken faults sure c s u (ms ++ ns)
  cut_before c s u ms ns y = record {
    earlier = y.earlier;
    move = y.move;
    later = y.later ++ ns;
    parts = ap (λ l. l ++ ns) y.parts ∙ append_assoc y.earlier (y.move ∷ y.later) ns;
    state = y.state;
    front = y.front;
    shorter = y.shorter;
    bytes = y.bytes;
    cut = cut_same taken faults sure s u (moves_text ms ++ moves_text ns) (moves_text (ms ++ ns)) (sym (text_append ms ns)) (cut_first taken faults sure s u (moves_text ms) (moves_text ns) y.cut);
  }

  -- ---- one command, whose text was put
  pub does_one : (old new : Marked) (before after : S) (m : Move) (text : List ℕ) (r : Result (Unit {0}) Failed) → text ≡ m.text → new ≡ m.after → Puts taken faults sure before after text r → Does taken faults sure old new before after (m ∷ []) r
  does_one old new before after m text (Ok done) e is t = record {
    state = is;
    text = took_same taken faults sure before after text (m.text ++ []) (e ∙ sym (append-nil m.text)) t;
  }
  does_one old new before after m text (Err failed) e is t =
      let u = cut_same taken faults sure before after text m.text e t in
      record {
        earlier = [];
        move = m;
        later = [];
        parts = refl;
        state = is;
        front = u.front.0;
        shorter = u.shorter;
        bytes = u.front.1;
        cut = cut_same taken faults sure before after m.text (m.text ++ []) (sym (append-nil m.text)) u;
      }

  pub does_line : (line : ScriptLine) (old new : Marked) (before after : S) (m : Move) (text : List ℕ) (r : Result (Unit {0}) Failed) → line_moves old line ≡ m ∷ [] → text ≡ m.text → new ≡ m.after → Puts taken faults sure before after text r → Does taken faults sure old new before after (line_moves old line) r
  does_line line old new before after m text r one e is t = subst (λ ms. Does taken faults sure old new before after ms r) (sym one) (does_one old new before after m text r e is t)

  -- ---- cycles
  pub cycles_done : (n : ℕ) (old new : Marked) (before after : S) → RanWhole taken faults sure n old.present new.present before after → new ≡ at_state old new.present → Whole taken faults sure old new before after (cycle_moves old n)
  cycles_done n old new before after x keeps = record {
    state = keeps ∙ ap (at_state old) x.state ∙ sym (led_cycles old n);
    text = took_same taken faults sure before after (lines_after old.present n) (moves_text (cycle_moves old n)) (sym (text_cycles old n)) x.lines;
  }

  pub cycles_cut : (n : ℕ) (old new : Marked) (before after : S) → RanCutOff taken faults sure n old.present new.present before after → new ≡ at_state old new.present → CutShort taken faults sure new before after (cycle_moves old n)
  cycles_cut n old new before after x keeps =
      let s = old.present in
      let c = x.cycles in
      let m = cycle_move (at_state old (after_cycles s c)) in
      let rest = cycle_moves (at_state old (after_cycles s (c + 1))) (n - (c + 1)) in
      let whole : (c + 1) + (n - (c + 1)) ≡ n = omega (arith, x.within) in
      let more : c + 1 ≡ suc c = omega arith in
      record {
        earlier = cycle_moves old c;
        move = m;
        later = rest;
        parts = ap (cycle_moves old) (sym whole) ∙ cycles_split old (c + 1) (n - (c + 1)) ∙ ap (λ k. cycle_moves old k ++ rest) more ∙ append_assoc (cycle_moves old c) (m ∷ []) rest;
        state = keeps ∙ ap (at_state old) (x.state ∙ state_more c s);
        front = x.front;
        shorter = x.shorter;
        bytes = appends_same (taken before) (taken after) (lines_after s c ++ take x.front m.text) (moves_text (cycle_moves old c) ++ take x.front m.text) (ap (λ l. l ++ take x.front m.text) (sym (text_cycles old c))) x.bytes;
        cut = cut_same taken faults sure before after (lines_after s n) (moves_text (cycle_moves old n)) (sym (text_cycles old n)) x.cut;
      }

  -- ---- a script
  -- the lines before the i-th are done, and what is left goes on from here
  pub record Playing (script : List ScriptLine) (old now : Marked) (before after : S) (i : ℕ) : Type 0 where
    pub done : List Move
    pub whole : Whole taken faults sure old now before after done
    pub left : moves old script ≡ done ++ moves now (drop i script)

  pub playing_start : (script : List ScriptLine) (old : Marked) (before : S) → Playing script old old before before 0
  playing_start script old before = record { done = []; whole = whole_none old before; left = refl }

  next_line : (script : List ScriptLine) (old now : Marked) (before after : S) (i : ℕ) (l : ScriptLine) (p : Playing script old now before after i) → drop i script ≡ l ∷ drop (i + 1) script
      → moves old script ≡ p.done ++ (line_moves now l ++ moves (led now (line_moves now l)) (drop (i + 1) script))
  next_line script old now before after i l p at = p.left ∙ ap (λ ls. p.done ++ moves now ls) at

  pub playing_next : (script : List ScriptLine) (old now new : Marked) (before after then : S) (i : ℕ) (l : ScriptLine) → Playing script old now before after i → drop i script ≡ l ∷ drop (i + 1) script
      → Whole taken faults sure now new after then (line_moves now l) → Playing script old new before then (i + 1)
  playing_next script old now new before after then i l p at w = record {
    done = p.done ++ line_moves now l;
    whole = whole_then old now new before after then p.done (line_moves now l) p.whole w;
    left = next_line script old now before after i l p at
        ∙ sym (append_assoc p.done (line_moves now l) (moves (led now (line_moves now l)) (drop (i + 1) script)))
        ∙ ap (λ g. (p.done ++ line_moves now l) ++ moves g (drop (i + 1) script)) (sym w.state);
  }

  pub playing_cut : (script : List ScriptLine) (old now new : Marked) (before after then : S) (i : ℕ) (l : ScriptLine) → Playing script old now before after i → drop i script ≡ l ∷ drop (i + 1) script
      → CutShort taken faults sure new after then (line_moves now l) → CutShort taken faults sure new before then (moves old script)
  playing_cut script old now new before after then i l p at w =
      let rest = moves (led now (line_moves now l)) (drop (i + 1) script) in
      subst (CutShort taken faults sure new before then) (sym (next_line script old now before after i l p at))
      (cut_after old now new before after then p.done (line_moves now l ++ rest) p.whole (cut_before new after then (line_moves now l) rest w))

  end_line : (script : List ScriptLine) (old now : Marked) (before after : S) (i : ℕ) (p : Playing script old now before after i) → drop i script ≡ [] → moves old script ≡ p.done ++ shown (end_line_of now.present) now ∷ []
  end_line script old now before after i p at = p.left ∙ ap (λ ls. p.done ++ moves now ls) at

  pub playing_ended : (script : List ScriptLine) (old now : Marked) (before after then : S) (i : ℕ) (r : Ran) → Playing script old now before after i → drop i script ≡ []
      → Took taken faults sure after then (end_line_of now.present) → r ≡ ran_of now.present.stop → Plays taken faults sure script old now before then r
  playing_ended script old now before after then i r p at t is = subst (Plays taken faults sure script old now before then) (sym is) (by now.present.stop refl)
    where
      one : Whole taken faults sure now now after then (shown (end_line_of now.present) now ∷ [])
      one = does_one now now after then (shown (end_line_of now.present) now) (end_line_of now.present) (Ok tt) refl refl t

      all : Whole taken faults sure old now before then (moves old script)
      all = subst (Whole taken faults sure old now before then) (sym (end_line script old now before after i p at)) (whole_then old now now before after then p.done (shown (end_line_of now.present) now ∷ []) p.whole one)

      by : (o : Option Stop) → now.present.stop ≡ o → Plays taken faults sure script old now before then (ran_of o)
      by None e = (all, e)
      by (Some stop) e = (all, e)

  pub playing_end_cut : (script : List ScriptLine) (old now : Marked) (before after then : S) (i : ℕ) → Playing script old now before after i → drop i script ≡ []
      → CutOff taken faults sure after then (end_line_of now.present) → CutShort taken faults sure now before then (moves old script)
  playing_end_cut script old now before after then i p at t =
      subst (CutShort taken faults sure now before then) (sym (end_line script old now before after i p at))
      (cut_after old now now before after then p.done (shown (end_line_of now.present) now ∷ []) p.whole (does_one now now after then (shown (end_line_of now.present) now) (end_line_of now.present) (Err record {}) refl refl t))

  -- ---- peers
  took_text : (script : List ScriptLine) (old new : Marked) (before after : S) (r : Ran) → Plays taken faults sure script old new before after r → TookLines taken faults sure r before after (play old script)
  took_text script old new before after ran.Done h = h.0.text
  took_text script old new before after (ran.Stopped stop) h = h.0.text
  took_text script old new before after ran.SinkFailed h = h.cut

  pub peers_play : SamePlays → (script : List ScriptLine) (old new : Marked) (before after : S) (r : Ran) → Plays taken faults sure script old new before after r → PeersPlay taken faults sure script old before after r
  peers_play law script old new before after r h a b m schedule most k ks peers is =
      subst (TookLines taken faults sure r before after) (ap (λ g. play g script) is ∙ law a b m schedule most k ks script peers) (took_text script old new before after r h)
