-- One more mark, and the ways back to one.
use Rattle.std.proofs.Common.{◌≡◌, ℕ, zero, suc, ◌+◌, ◌-◌, ◌<◌, ◌≤◌, ◌^◌, List, [], ◌∷◌, ◌++◌, length, take, get_or, Bool, true, false, cond, nat_lt, Option, Some, None, IfSome, is_some, sym, ◌∙◌, ap, subst, arith}
use Rattle.std.specs.List.{All, slice_get}
use Rattle.std.specs.Option.{option_map, option_and_then}
use Rattle.std.proofs.lemmas.Bool.Decides.{nat_tests}
use Rattle.std.proofs.lemmas.List.{length-append, length-take-le}
use Rattle.std.proofs.lemmas.List.Elements.{All-append, All-take}
use Rattle.std.proofs.lemmas.Option.{same_Some, slice_get-get_or, slice_get_past}
use Rattle.sm_words.specs.Sums.{one_if}
use Rattle.mem_map.specs.Contents.{Contents}
use Rattle.written_machine.specs.Cycle.{after_cycles}
use Rattle.written_machine.specs.Marks.{Marked, marked, cut_at, back_to, last_from, last_at}
use Rattle.written_machine.specs.Standing.{last_standing}
use Rattle.written_machine.specs.State.{State}
use Rattle.board.specs.declared.machine.Machine.{Machine}
use Rattle.board.specs.declared.moment.Moment.{Moment}
use Rattle.board.specs.internal.Sound.{Chained, IsInStep, IsSound, Keeps, LeadsTo, RunsTo, MachineStands, last_number, state_number}
use Rattle.board.specs.internal.Standing.{Lasting, cut, mark_state, lasting_of, marked_of, marks_of, moment_state, state_of, states_at}
use Rattle.board.proofs.Leading.{found_by_number, leads_number, none_numbered, some_numbered}
use Rattle.board.proofs.MarkedStates.{chained_cut, chained_more, states_get, states_length, states_more, states_take}

-- ---- one more mark

abbrev with_memory : Machine → Contents → Machine
with_memory m mem = record m { port = record m.port { memory = mem } }

-- the contents with the present bytes marked
abbrev more : Machine → Contents
more m = record m.port.memory { marked = m.port.memory.marked ++ m.port.memory.bytes ∷ [] }

all_one : {X : Type 0} (P : X → Type 0) (x : X) → P x → All P (x ∷ [])
all_one P x h zero d within = h
all_one P x h (suc i) d within = absurd (omega (arith, within))

-- the marked states then
more_states : (m : Machine) (ts : List Moment) (t : Moment) → Keeps m ts → moment_state (lasting_of m).fixed t m.port.memory.bytes ≡ state_of m →
    marks_of (with_memory m (more m)) (ts ++ t ∷ []) ≡ marks_of m ts ++ state_of m ∷ []
more_states m ts t h is =
    states_more (lasting_of m).fixed ts (lasting_of m).marked t m.port.memory.bytes h.level
    ∙ ap (λ (s : State). marks_of m ts ++ s ∷ []) is

keeps_more : (m : Machine) (ts : List Moment) (t : Moment) → Keeps m ts → moment_state (lasting_of m).fixed t m.port.memory.bytes ≡ state_of m → IsInStep t → length ts < (lasting_of m).room →
    Keeps (with_memory m (more m)) (ts ++ t ∷ [])
keeps_more m ts t h is steady less =
    let states = more_states m ts t h is in
    record {
      stands = record { sound = h.stands.sound; in_step = h.stands.in_step };
      number = h.number;
      level = length-append ts (t ∷ []) ∙ ap (λ n. n + 1) h.level ∙ sym (length-append (lasting_of m).marked (m.port.memory.bytes ∷ []));
      few = let n = length-append ts (t ∷ []) in omega (arith, n, less);
      steady = All-append IsInStep ts (t ∷ []) h.steady (all_one IsInStep t steady);
      sound = subst (All IsSound) (sym states) (All-append IsSound (marks_of m ts) (state_of m ∷ []) h.sound (all_one IsSound (state_of m) h.stands.sound));
      chain = subst (λ ms. Chained ms (state_of m)) (sym states) (chained_more (marks_of m ts) (state_of m) h.chain);
    }

-- the moment is in step
moment_in_step : (m : Machine) (ts : List Moment) (t : Moment) → Keeps m ts → moment_state (lasting_of m).fixed t m.port.memory.bytes ≡ state_of m → t.bus.ticks ≡ m.port.bus.ticks → IsInStep t
moment_in_step m ts t h is ticks runs = ticks ∙ h.stands.in_step (ap (λ (s : State). s.stop) (sym is) ∙ runs) ∙ ap (λ (s : State). s.cycle) (sym is)

pub keeps_mark : (m : Machine) (mem : Contents) (ts us : List Moment) (t : Moment) → Keeps m ts → mem ≡ more m → moment_state (lasting_of m).fixed t mem.bytes ≡ state_of (with_memory m mem) →
    t.bus.ticks ≡ m.port.bus.ticks → length ts < (lasting_of m).room → us ≡ ts ++ t ∷ [] → Keeps (with_memory m mem) us
keeps_mark m mem ts us t h e is ticks less items =
    let here : moment_state (lasting_of m).fixed t m.port.memory.bytes ≡ state_of m = subst (λ (x : Contents). moment_state (lasting_of m).fixed t x.bytes ≡ state_of (with_memory m x)) e is in
    subst (Keeps (with_memory m mem)) (sym items)
    (subst (λ (x : Contents). Keeps (with_memory m x) (ts ++ t ∷ [])) (sym e) (keeps_more m ts t h here (moment_in_step m ts t h here ticks) less))

-- how many marks there are
pub marks_length : (m : Machine) (ts : List Moment) → Keeps m ts → length (marks_of m ts) ≡ length ts
marks_length m ts h = states_length (lasting_of m).fixed ts (lasting_of m).marked h.level

marked_by : (b : Bool) (g : Marked) → nat_lt (length g.marks) g.most ≡ b → marked g ≡ cond b (Some (record g { marks = g.marks ++ g.present ∷ [] })) None
marked_by b g e = ap (λ (c : Bool). cond c (Some (record g { marks = g.marks ++ g.present ∷ [] })) None) e

pub mark_made : (m : Machine) (mem : Contents) (ts us : List Moment) (t : Moment) (g : Marked) → marked_of m ts ≡ g → Keeps m ts → mem ≡ more m →
    moment_state (lasting_of m).fixed t mem.bytes ≡ state_of (with_memory m mem) → length ts < (lasting_of m).room → us ≡ ts ++ t ∷ [] →
    marked g ≡ Some (marked_of (with_memory m mem) us)
mark_made m mem ts us t g seen h e is less items =
    let here : moment_state (lasting_of m).fixed t m.port.memory.bytes ≡ state_of m = subst (λ (x : Contents). moment_state (lasting_of m).fixed t x.bytes ≡ state_of (with_memory m x)) e is in
    let n = marks_length m ts h in
    let room : nat_lt (length (marks_of m ts)) (lasting_of m).room ≡ true = grind (arith, nat_tests, n, less) in
    ap marked (sym seen)
    ∙ marked_by true (marked_of m ts) room
    ∙ ap (λ (ms : List State). Some (record (marked_of m ts) { marks = ms })) (sym (more_states m ts t h here))
    ∙ ap (λ (x : Contents). Some (marked_of (with_memory m x) (ts ++ t ∷ []))) (sym e)
    ∙ ap (λ (us : List Moment). Some (marked_of (with_memory m mem) us)) (sym items)

pub mark_full : (m : Machine) (ts : List Moment) (g : Marked) → marked_of m ts ≡ g → Keeps m ts → length (lasting_of m).marked ≡ (lasting_of m).room → marked g ≡ None
mark_full m ts g seen h full =
    let n = marks_length m ts h in
    let level = h.level in
    let room : nat_lt (length (marks_of m ts)) (lasting_of m).room ≡ false = grind (arith, nat_tests, n, level, full) in
    ap marked (sym seen) ∙ marked_by false (marked_of m ts) room

-- ---- the state at a mark

moment_is : (m : Machine) (ts : List Moment) (k : ℕ) (t : Moment) → Keeps m ts → k < length ts → t ≡ get_or ts k t →
    moment_state (lasting_of m).fixed t (get_or (lasting_of m).marked k []) ≡ get_or (marks_of m ts) k (state_of m)
moment_is m ts k t h live e =
    let l = lasting_of m in
    ap (λ (x : Moment). moment_state l.fixed x (get_or l.marked k [])) e ∙ sym (states_get l.fixed ts l.marked k (state_of m) t h.level live)

-- it is that of its moment
pub mark_is : (m : Machine) (ts : List Moment) (k : ℕ) (t : Moment) → Keeps m ts → k < length ts → t ≡ get_or ts k t →
    mark_state (lasting_of m) k t ≡ Some (get_or (marks_of m ts) k (state_of m))
mark_is m ts k t h live e =
    let l = lasting_of m in
    let level = h.level in
    ap (option_map (moment_state l.fixed t)) (slice_get-get_or l.marked k [] (omega (arith, level, live))) ∙ ap Some (moment_is m ts k t h live e)

-- so is what goes there
pub gone_is : (m n : Machine) (ts : List Moment) (k : ℕ) (t : Moment) → Keeps m ts → k < length ts → t ≡ get_or ts k t →
    mark_state (lasting_of m) k t ≡ Some (state_of n) → state_of n ≡ get_or (marks_of m ts) k (state_of m)
gone_is m n ts k t h live e is = same_Some (state_of n) (get_or (marks_of m ts) k (state_of m)) (sym is ∙ mark_is m ts k t h live e)

pub mark_sound : (m : Machine) (ts : List Moment) (k : ℕ) (t : Moment) → Keeps m ts → k < length ts → t ≡ get_or ts k t → IfSome (mark_state (lasting_of m) k t) IsSound
mark_sound m ts k t h live e =
    let n = marks_length m ts h in
    subst (λ o. IfSome o IsSound) (sym (mark_is m ts k t h live e)) (h.sound k (state_of m) (omega (arith, n, live)))

pub mark_leads : (m : Machine) (ts : List Moment) (k : ℕ) (t : Moment) → Keeps m ts → k < length ts → t ≡ get_or ts k t →
    IfSome (mark_state (lasting_of m) k t) (λ s. LeadsTo s (state_of m))
mark_leads m ts k t h live e =
    let n = marks_length m ts h in
    subst (λ o. IfSome o (λ s. LeadsTo s (state_of m))) (sym (mark_is m ts k t h live e)) (h.chain.onward k (state_of m) (omega (arith, n, live)))

pub mark_in_step : (m : Machine) (ts : List Moment) (k : ℕ) (t : Moment) → Keeps m ts → k < length ts → t ≡ get_or ts k t → IsInStep t
mark_in_step m ts k t h live e = subst IsInStep (sym e) (h.steady k t live)

-- a machine that stands at a mark
pub stands_back : (m n : Machine) (ts : List Moment) (k : ℕ) (t : Moment) → Keeps m ts → k < length ts → t ≡ get_or ts k t →
    mark_state (lasting_of m) k t ≡ Some (state_of n) → n.port.bus.ticks ≡ t.bus.ticks → MachineStands n
stands_back m n ts k t h live e is ticks =
    let same = gone_is m n ts k t h live e is ∙ sym (moment_is m ts k t h live e) in
    record {
      sound = subst (λ o. IfSome o IsSound) is (mark_sound m ts k t h live e);
      in_step = λ runs. ticks ∙ mark_in_step m ts k t h live e (ap (λ (s : State). s.stop) (sym same) ∙ runs) ∙ ap (λ (s : State). s.cycle) (sym same);
    }

-- ---- going there

cut_marks : (m n : Machine) (ts : List Moment) (k : ℕ) → lasting_of n ≡ cut k (lasting_of m) → marks_of n (take (k + 1) ts) ≡ take (k + 1) (marks_of m ts)
cut_marks m n ts k e =
    ap (λ (l : Lasting). states_at l.fixed (take (k + 1) ts) l.marked) e
    ∙ states_take (lasting_of m).fixed (k + 1) ts (lasting_of m).marked

cut_marked : (m n : Machine) (ts us : List Moment) (k : ℕ) → lasting_of n ≡ cut k (lasting_of m) → us ≡ take (k + 1) ts → marked_of n us ≡ cut_at k (marked_of m ts) (state_of n)
cut_marked m n ts us k e items =
    ap (marked_of n) items
    ∙ ap (λ (l : Lasting). let r : Marked = record { present = state_of n; most = l.room; marks = marks_of n (take (k + 1) ts) } in r) e
    ∙ ap (λ (ms : List State). let r : Marked = record { present = state_of n; most = (lasting_of m).room; marks = ms } in r) (cut_marks m n ts k e)

-- some cycles after mark k
pub keeps_cut : (j k : ℕ) (m n : Machine) (ts us : List Moment) → Keeps m ts → k < length ts → lasting_of n ≡ cut k (lasting_of m) → us ≡ take (k + 1) ts →
    state_of n ≡ after_cycles (get_or (marks_of m ts) k (state_of m)) j → MachineStands n → n.cycle + one_if (is_some n.stop) ≤ 2 ^ 62 → Keeps n us
keeps_cut j k m n ts us h live e items is stands number =
    let marks = cut_marks m n ts k e in
    let count = marks_length m ts h in
    subst (Keeps n) (sym items) record {
      stands = stands;
      number = number;
      level =
          let a = length-take-le (k + 1) ts (omega (arith, live)) in
          let b = length-take-le (k + 1) (lasting_of m).marked (let l = h.level in omega (arith, live, l)) in
          a ∙ sym b ∙ ap (λ (l : Lasting). length l.marked) (sym e);
      few =
          let a = length-take-le (k + 1) ts (omega (arith, live)) in
          let r : (lasting_of n).room ≡ (lasting_of m).room = ap (λ (l : Lasting). l.room) e in
          let f = h.few in
          omega (arith, a, r, f, live);
      steady = All-take IsInStep (k + 1) ts h.steady;
      sound = subst (All IsSound) (sym marks) (All-take IsSound (k + 1) (marks_of m ts) h.sound);
      chain =
          subst (λ ms. Chained ms (state_of n)) (sym marks)
          (subst (Chained (take (k + 1) (marks_of m ts))) (sym is) (chained_cut j k (marks_of m ts) (state_of m) (state_of m) h.chain (omega (arith, count, live))));
    }

mark_there : (m : Machine) (ts : List Moment) (k : ℕ) → Keeps m ts → k < length ts → slice_get (marks_of m ts) k ≡ Some (get_or (marks_of m ts) k (state_of m))
mark_there m ts k h live = let n = marks_length m ts h in slice_get-get_or (marks_of m ts) k (state_of m) (omega (arith, n, live))

-- back to mark k
pub gone_back : (m n : Machine) (ts us : List Moment) (k : ℕ) (t : Moment) (g : Marked) → marked_of m ts ≡ g → Keeps m ts → k < length ts → t ≡ get_or ts k t → lasting_of n ≡ cut k (lasting_of m) → us ≡ take (k + 1) ts →
    mark_state (lasting_of m) k t ≡ Some (state_of n) → back_to k g ≡ Some (marked_of n us)
gone_back m n ts us k t g seen h live at e items is =
    ap (back_to k) (sym seen)
    ∙ ap (option_map (cut_at k (marked_of m ts))) (mark_there m ts k h live ∙ sym (mark_is m ts k t h live at) ∙ is)
    ∙ ap Some (sym (cut_marked m n ts us k e items))

-- its number, and that it may be counted on
pub back_number : (m n : Machine) (ts : List Moment) (k : ℕ) (t : Moment) → Keeps m ts → k < length ts → t ≡ get_or ts k t → mark_state (lasting_of m) k t ≡ Some (state_of n) →
    (n.cycle ≤ m.cycle) × (n.cycle + one_if (is_some n.stop) ≤ 2 ^ 62)
back_number m n ts k t h live e is =
    let leads = subst (λ o. IfSome o (λ s. LeadsTo s (state_of m))) is (mark_leads m ts k t h live e) in
    let number = leads_number (state_of n) (state_of m) leads in
    (leads.runs_to.rises, let most = h.number in omega (arith, number, most))

no_mark : (m : Machine) (ts : List Moment) (k : ℕ) (g : Marked) → marked_of m ts ≡ g → Keeps m ts → length ts ≤ k → slice_get g.marks k ≡ None
no_mark m ts k g seen h past =
    let n = marks_length m ts h in
    ap (λ (x : Marked). slice_get x.marks k) (sym seen) ∙ slice_get_past (marks_of m ts) k (omega (arith, n, past))

pub back_none : (m : Machine) (ts : List Moment) (k : ℕ) (g : Marked) → marked_of m ts ≡ g → Keeps m ts → length ts ≤ k → back_to k g ≡ None
back_none m ts k g seen h past = ap (option_map (cut_at k g)) (no_mark m ts k g seen h past)

-- ---- the last that stands at an address

abbrev last_of : ℕ → ℕ → Machine → List Moment → Option State
last_of addr k m ts = let s = get_or (marks_of m ts) k (state_of m) in last_standing addr s (m.cycle - s.cycle)

last_is : (addr k : ℕ) (m : Machine) (ts : List Moment) (g : Marked) → marked_of m ts ≡ g → Keeps m ts → k < length ts → last_at addr k g ≡ option_map (cut_at k (marked_of m ts)) (last_of addr k m ts)
last_is addr k m ts g seen h live =
    ap (last_at addr k) (sym seen)
    ∙ ap (λ (o : Option State). option_map (cut_at k (marked_of m ts)) (option_and_then (last_from addr (marked_of m ts)) o)) (mark_there m ts k h live)

-- by the number that was found, from the moment's state
last_found : (addr k : ℕ) (m : Machine) (ts : List Moment) (t : Moment) (o : Option ℕ) → Keeps m ts → k < length ts → t ≡ get_or ts k t →
    IfSome (mark_state (lasting_of m) k t) (λ s. o ≡ last_number addr s m.cycle) → o ≡ state_number (last_of addr k m ts)
last_found addr k m ts t o h live at e = subst (λ x. IfSome x (λ s. o ≡ last_number addr s m.cycle)) (mark_is m ts k t h live at) e

pub last_none : (addr k : ℕ) (m : Machine) (ts : List Moment) (t : Moment) (g : Marked) → marked_of m ts ≡ g → Keeps m ts → k < length ts → t ≡ get_or ts k t →
    IfSome (mark_state (lasting_of m) k t) (λ s. None ≡ last_number addr s m.cycle) → last_at addr k g ≡ None
last_none addr k m ts t g seen h live at e =
    last_is addr k m ts g seen h live
    ∙ ap (option_map (cut_at k (marked_of m ts))) (none_numbered (last_of addr k m ts) (last_found addr k m ts t None h live at e))

-- where it is: so many cycles after mark k, and before the present one
pub record Found (addr k number : ℕ) (m : Machine) (ts : List Moment) : Type 0 where
  pub state : State
  pub last : last_of addr k m ts ≡ Some state
  pub numbered : number ≡ state.cycle
  pub after : state ≡ after_cycles (get_or (marks_of m ts) k (state_of m)) (number - (get_or (marks_of m ts) k (state_of m)).cycle)
  pub runs : RunsTo number (get_or (marks_of m ts) k (state_of m))
  pub before : number < m.cycle

pub last_some : (addr k number : ℕ) (m : Machine) (ts : List Moment) (t : Moment) → Keeps m ts → k < length ts → t ≡ get_or ts k t →
    IfSome (mark_state (lasting_of m) k t) (λ s. Some number ≡ last_number addr s m.cycle) → Found addr k number m ts
last_some addr k number m ts t h live at e =
    let s = get_or (marks_of m ts) k (state_of m) in
    let count = marks_length m ts h in
    let some = some_numbered (last_of addr k m ts) number (last_found addr k m ts t (Some number) h live at e) in
    let found = found_by_number addr m.cycle s some.0 (h.chain.onward k (state_of m) (omega (arith, count, live))).runs_to some.1 in
    record {
      state = some.0;
      last = some.1;
      numbered = some.2;
      after = found.0 ∙ ap (λ c. after_cycles s (c - s.cycle)) (sym some.2);
      runs = subst (λ c. RunsTo c s) (sym some.2) found.1;
      before = subst (λ c. c < m.cycle) (sym some.2) found.2;
    }

-- the board that went there
pub last_gone : (addr k number : ℕ) (m n : Machine) (ts us : List Moment) (g : Marked) → marked_of m ts ≡ g → Keeps m ts → k < length ts → (found : Found addr k number m ts) → lasting_of n ≡ cut k (lasting_of m) → us ≡ take (k + 1) ts →
    state_of n ≡ after_cycles (get_or (marks_of m ts) k (state_of m)) (number - (get_or (marks_of m ts) k (state_of m)).cycle) → last_at addr k g ≡ Some (marked_of n us)
last_gone addr k number m n ts us g seen h live found e items is =
    last_is addr k m ts g seen h live
    ∙ ap (option_map (cut_at k (marked_of m ts))) found.last
    ∙ ap (λ (s : State). Some (cut_at k (marked_of m ts) s)) (sym (is ∙ sym found.after))
    ∙ ap Some (sym (cut_marked m n ts us k e items))

pub gone_number : (addr k number : ℕ) (m n : Machine) (ts : List Moment) → Keeps m ts → (found : Found addr k number m ts) →
    state_of n ≡ after_cycles (get_or (marks_of m ts) k (state_of m)) (number - (get_or (marks_of m ts) k (state_of m)).cycle) → (number ≡ n.cycle) × (n.cycle ≤ m.cycle) × (n.cycle + one_if (is_some n.stop) ≤ 2 ^ 62)
gone_number addr k number m n ts h found is =
    let same : number ≡ n.cycle = found.numbered ∙ ap (λ (s : State). s.cycle) (sym (is ∙ sym found.after)) in
    let before = found.before in
    let most = h.number in
    let one = at_most_one (is_some n.stop) in
    (same, omega (arith, same, before), omega (arith, same, before, most, one))
  where
    at_most_one : (b : Bool) → one_if b ≤ 1
    at_most_one true = omega arith
    at_most_one false = omega arith

-- the way from the mark, whose marks of memory stand as they did
pub went : (k number : ℕ) (m n : Machine) (ts : List Moment) (t : Moment) (l : Lasting) → Keeps m ts → k < length ts → t ≡ get_or ts k t → l ≡ lasting_of m →
    IfSome (mark_state l k t) (λ s. state_of n ≡ after_cycles s (number - s.cycle)) →
    state_of n ≡ after_cycles (get_or (marks_of m ts) k (state_of m)) (number - (get_or (marks_of m ts) k (state_of m)).cycle)
went k number m n ts t l h live at e is =
    subst (λ o. IfSome o (λ s. state_of n ≡ after_cycles s (number - s.cycle))) (ap (λ (x : Lasting). mark_state x k t) e ∙ mark_is m ts k t h live at) is
