-- What a look at a settled cycle finds is what begins.
use Rattle.std.proofs.Common.{◌≡◌, ℕ, List, [], ◌∷◌, map, Bool, true, false, not, Option, Some, None, is_none, is_some, option_map, refl, sym, ◌∙◌, ap, arith}
use Rattle.std.specs.Option.{option_or}
use Rattle.sm_words.specs.Words.{add16, word_at}
use Rattle.insn_decode.specs.Code.{insn_of, length_at, length_of}
use Rattle.insn_decode.specs.declared.insn.Insn.{Insn}
use Rattle.insn_decode.specs.declared.insn.Insn.TheVariants.{Reti, Unit as UnitOp}
use Rattle.insn_decode.proofs.Unread.{length_same, none_outside, outside_none}
use Rattle.mod_layout.specs.First.{first_in, first_of}
use Rattle.mod_layout.proofs.FirstLemmas.{both_none, first_of_map}
use Rattle.pc_access.specs.Rights.{refuse_if, right}
use Rattle.pc_access.specs.declared.Denied.{Denied}
use Rattle.pc_access.specs.declared.Rule.{Rule}
use Rattle.pc_access.specs.declared.Rule.TheVariants.{Illegal, RetiInside, Straddle}
use Rattle.pc_access.specs.declared.Stop.{Stop}
use Rattle.reg_backup.specs.Held.{held_ids}
use Rattle.reg_backup.specs.declared.frames.Frame.{Frame}
use Rattle.reg_backup.specs.declared.frames.Frame.TheVariants.{Module as Held}
use Rattle.irq_padding.specs.Turns.{Turn, Begins, turn_kind}
use Rattle.cpu_step.specs.Asked.{asks}
use Rattle.cpu_step.specs.Fetched.{insn_at, later_word}
use Rattle.cpu_step.specs.Plan.{past}
use Rattle.cpu_step.specs.Through.{AreAligned}
use Rattle.written_machine.specs.Checks.{asked_by, asked_to_return, check_of, checks, checks_by, entered, first_word, insn_at_pc, later_checks, refused_in, returns_inside, stop_at}
use Rattle.written_machine.specs.Cycle.{Step, byte_of, case_of, cycle, fetch, is_home, pc_of}
use Rattle.written_machine.specs.State.{State}
use Rattle.run_laws.specs.Laws.{StopRefused}
use Rattle.board.specs.Watched.{Watched, is_begin, watched_by}
use Rattle.board.proofs.Aligned.{plan_aligned}
use Rattle.board.proofs.Runs.{stays}
use Rattle.board.proofs.Whole.{home_whole}
use Rattle.owner_steps.specs.Begun.{Begun, begun, begun_as, begun_unless, begun_in, settled_state}
use Rattle.owner_steps.specs.internal.Touching.{plan_shown}
use Rattle.owner_steps.specs.internal.Watching.{Sees, begun_of}
use Rattle.owner_steps.specs.declared.watching.Found.{Found}
use Rattle.owner_steps.specs.declared.watching.Watcher.{Watcher}

-- ---- an instruction of which nothing is refused

not_refused : (b : Bool) (rule : Rule) (a id : ℕ) → refuse_if (not b) rule a id ≡ None → b ≡ true
not_refused true rule a id e = refl
not_refused false rule a id e = absurd cc

no_access : AreAligned []
no_access k d i = absurd (omega arith)

reti_aligned : (fs : List Frame) (s : State) → first_in (right s.table s.active (held_ids s.frames)) (asked_to_return fs s) ≡ None → AreAligned (plan_shown Reti fs s.core)
unfolding asks
reti_aligned (Held b ∷ fs) s e = no_access
reti_aligned _ s e = plan_aligned s.table s.active (held_ids s.frames) Reti s.core e

shown_aligned : (insn : Insn) (s : State) → first_in (right s.table s.active (held_ids s.frames)) (asked_by (Some insn) s) ≡ None → AreAligned (plan_shown insn s.frames s.core)
unfolding asks
shown_aligned (UnitOp n) s e = no_access
shown_aligned Reti s e = reti_aligned s.frames s e
shown_aligned insn s e = plan_aligned s.table s.active (held_ids s.frames) insn s.core e

-- no word of it is away from home, and no access is refused
record Unrefused (s : State) : Type 0 where
  home : is_home s.table s.active (pc_of s) (length_at (first_word s)) ≡ true
  accesses : first_in (right s.table s.active (held_ids s.frames)) (asked_by (insn_at_pc s) s) ≡ None

unrefused : (s : State) → first_of (later_checks s) ≡ None → Unrefused s
unrefused s e =
    let home = is_home s.table s.active (pc_of s) (length_at (first_word s)) in
    let no_code = refuse_if (is_none (insn_of (first_word s) 0 0)) Illegal (pc_of s) 0 in
    let away = refuse_if (not home) Straddle (pc_of s) 0 in
    let inside = refuse_if (returns_inside (insn_at_pc s) s.active) RetiInside (pc_of s) 0 in
    let accesses = first_of (map (check_of s.active s) (asked_by (insn_at_pc s) s)) in
    let second : option_or away (option_or inside accesses) ≡ None = (both_none no_code (option_or away (option_or inside accesses)) e).1 in
    let third : option_or inside accesses ≡ None = (both_none away (option_or inside accesses) second).1 in
    record {
      home = not_refused home Straddle (pc_of s) 0 (both_none away (option_or inside accesses) second).0;
      accesses = sym (first_of_map (right s.table s.active (held_ids s.frames)) (asked_by (insn_at_pc s) s)) ∙ (both_none inside accesses third).1;
    }

-- ---- a look

begins_is : (turn : Turn) → is_begin (turn_kind turn) ≡ true → turn ≡ Begins
begins_is Begins e = refl
begins_is _ e = absurd cc

none_in : (turn : Turn) (s : State) → is_begin (turn_kind turn) ≡ false → begun_in turn s ≡ None
none_in Begins s e = absurd cc
none_in _ s e = refl

-- none begins
pub none_begins : (s : State) → is_begin (turn_kind (case_of s)) ≡ false → Sees s None
none_begins s e refused = sym (none_in (case_of s) (entered s) e)

-- there is none
pub none_there : (s : State) (v1 v2 : ℕ) → is_begin (turn_kind (case_of s)) ≡ true → insn_of (word_at (byte_of s) (pc_of s)) v1 v2 ≡ None → Sees s None
none_there s v1 v2 b e refused =
    let w0 : ℕ = first_word s in
    let t = entered s in
    let n : ℕ = length_at w0 in
    let none : insn_at_pc t ≡ None = outside_none w0 (later_word (byte_of s) (pc_of s) n 1) (later_word (byte_of s) (pc_of s) n 2) (none_outside w0 v1 v2 e) in
    sym (ap (λ (turn : Turn). begun_in turn t) (begins_is (case_of s) b) ∙ ap (λ (o : Option Insn). option_map (begun_as t) o) none)

abbrev of_parts : List ℕ → List ℕ → List ℕ → Begun
of_parts core past lines = record { core = core; past = past; lines = lines }

-- there is one
pub one_there : (s : State) (insn : Insn) (f : Found) → is_begin (turn_kind (case_of s)) ≡ true
    → insn_of (word_at (byte_of s) (pc_of s)) (word_at (byte_of s) (add16 (pc_of s) 2)) (word_at (byte_of s) (add16 (pc_of s) 4)) ≡ Some insn
    → f.core ≡ s.core → f.past ≡ past insn s.core → (AreAligned (plan_shown insn s.frames s.core) → f.lines.bytes ≡ (begun_as (entered s) insn).lines)
    → Sees s (Some f)
one_there s insn f b e core_is past_is lines_are refused =
    let t = entered s in
    let turn : case_of s ≡ Begins = begins_is (case_of s) b in
    let all : first_of (checks_by Begins s) ≡ None = ap (λ (x : Turn). first_of (checks_by x s)) (sym turn) ∙ refused in
    let un : Unrefused t = unrefused t (both_none (check_of s.active s (fetch s)) (first_of (later_checks t)) all).1 in
    let long : length_of insn ≡ length_at (first_word t) = length_same (word_at (byte_of s) (pc_of s)) (word_at (byte_of s) (add16 (pc_of s) 2)) (word_at (byte_of s) (add16 (pc_of s) 4)) insn e in
    let home : is_home t.table t.active (pc_of t) (length_of insn) ≡ true = ap (λ (n : ℕ). is_home t.table t.active (pc_of t) n) long ∙ un.home in
    let at : insn_at_pc t ≡ Some insn = ap (λ (n : ℕ). insn_at (byte_of t) (pc_of t) n) (sym long) ∙ home_whole t insn e home in
    let accesses : first_in (right t.table t.active (held_ids t.frames)) (asked_by (Some insn) t) ≡ None =
    ap (λ (o : Option Insn). first_in (right t.table t.active (held_ids t.frames)) (asked_by o t)) (sym at) ∙ un.accesses
    in
    let lines : f.lines.bytes ≡ (begun_as t insn).lines = lines_are (shown_aligned insn t accesses) in
    let same : begun_of f ≡ begun_as t insn =
    ap (λ (c : List ℕ). of_parts c f.past f.lines.bytes) core_is
    ∙ ap (λ (p : List ℕ). of_parts s.core p f.lines.bytes) past_is
    ∙ ap (λ (l : List ℕ). of_parts s.core (past insn s.core) l) lines
    in
    ap (λ (x : Begun). Some x) same
    ∙ sym (ap (λ (x : Turn). begun_in x t) turn ∙ ap (λ (o : Option Insn). option_map (begun_as t) o) at)

-- the same by the words that were read
pub none_read : (s : State) (w0 w1 w2 : ℕ) (o : Option Insn) → is_begin (turn_kind (case_of s)) ≡ true → w0 ≡ word_at (byte_of s) (pc_of s) → o ≡ insn_of w0 w1 w2 → o ≡ None → Sees s None
none_read s w0 w1 w2 o b first is none = none_there s w1 w2 b (ap (λ (w : ℕ). insn_of w w1 w2) (sym first) ∙ sym is ∙ none)

pub one_read : (s : State) (w0 w1 w2 : ℕ) (o : Option Insn) (insn : Insn) (f : Found) → is_begin (turn_kind (case_of s)) ≡ true
    → w0 ≡ word_at (byte_of s) (pc_of s) → w1 ≡ word_at (byte_of s) (add16 (pc_of s) 2) → w2 ≡ word_at (byte_of s) (add16 (pc_of s) 4) → o ≡ insn_of w0 w1 w2 → o ≡ Some insn
    → f.core ≡ s.core → f.past ≡ past insn s.core → (AreAligned (plan_shown insn s.frames s.core) → f.lines.bytes ≡ (begun_as (entered s) insn).lines) → Sees s (Some f)
one_read s w0 w1 w2 o insn f b first second third is some core_is past_is lines_are =
    let next = word_at (byte_of s) (add16 (pc_of s) 2) in
    one_there s insn f b
    (ap (λ (w : ℕ). insn_of w next (word_at (byte_of s) (add16 (pc_of s) 4))) (sym first)
    ∙ ap (λ (w : ℕ). insn_of w0 w (word_at (byte_of s) (add16 (pc_of s) 4))) (sym second)
    ∙ ap (λ (w : ℕ). insn_of w0 w1 w) (sym third) ∙ sym is ∙ some) core_is past_is lines_are

-- ---- a cycle

no_refusal : (o : Option Denied) (s : State) → stop_at o s ≡ None → o ≡ None
no_refusal None s e = refl
no_refusal (Some d) s e = absurd cc

none_refused : (s : State) → refused_in s ≡ None → first_of (checks (settled_state s)) ≡ None
unfolding refused_in
none_refused s e = no_refusal (first_of (checks (settled_state s))) (settled_state s) e

stop_none : (o : Option Stop) → is_some o ≡ false → o ≡ None
stop_none None e = refl
stop_none (Some stop) e = absurd cc

stop_some : (o : Option Stop) (turn : Turn) (s : State) → is_some o ≡ true → begun_unless o turn s ≡ None
stop_some None turn s e = absurd cc
stop_some (Some stop) turn s e = refl

-- a cycle that stops the machine, or finds it stopped, begins nothing
pub none_begun : (s t : State) → t ≡ (cycle s).state → is_some t.stop ≡ true → begun s ≡ None
none_begun s t is stopped =
    stop_some (cycle s).state.stop (case_of (settled_state s)) (entered (settled_state s)) (ap (λ (u : State). is_some u.stop) (sym is) ∙ stopped)

abbrev pub looks : Watcher → State → Watcher → Type 0
looks old s new = Sees s new.found

-- another begins what was found
pub begun_found : StopRefused → (s t : State) (old new : Watcher) → t ≡ (cycle s).state → is_some t.stop ≡ false → Watched looks s old new → option_map begun_of new.found ≡ begun s
begun_found law s t old new is runs watched = by s.stop refl watched
  where
    stop : (cycle s).state.stop ≡ None
    stop = ap (λ (u : State). u.stop) (sym is) ∙ stop_none t.stop runs

    by : (o : Option Stop) → s.stop ≡ o → watched_by looks o s old new → option_map begun_of new.found ≡ begun s
    by (Some x) e w =
        let still : (cycle s).state.stop ≡ Some x = ap (λ (u : Step). u.state.stop) (stays s x e) ∙ e in
        absurd (let clash : None ≡ Some x = sym stop ∙ still in cc)
    by None e sees =
        let refused : refused_in s ≡ None = sym (law s e) ∙ stop in
        sees (none_refused s refused)
        ∙ sym (ap (λ (o : Option Stop). begun_unless o (case_of (settled_state s)) (entered (settled_state s))) stop)
