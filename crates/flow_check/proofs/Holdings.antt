-- The states that an exploration holds.
use Rattle.std.proofs.Common.{◌≡◌, ◌≢◌, ℕ, ◌+◌, ◌-◌, nat_lt, zero, suc, ◌<◌, List, [], ◌∷◌, ◌++◌, length, take, drop, append-nil, refl, ◌≤◌, arith, ◌||◌, sym, ap, ◌∙◌, ◌==◌, Bool, true, false, cond, ◌&&◌, Option, Some, None, not}
use Rattle.std.proofs.Math.ListN.{drop_of_length-le}
use Rattle.std.proofs.lemmas.List.{take_all}
use Rattle.std.specs.Prelude.{slice_get, slice_index_or}
use Rattle.insn_decode.specs.declared.insn.Insn.{Insn}
use Rattle.insn_decode.specs.declared.insn.Insn.TheVariants.{Jump}
use Rattle.insn_decode.specs.Code.{is_always, distance}
use Rattle.sm_words.specs.Words.{add16}
use Rattle.mod_layout.specs.declared.Module.{Module}
use Rattle.arm_balance.specs.Met.{met}
use Rattle.flow_rule.specs.declared.AbstractState.{AbstractState}
use Rattle.flow_rule.specs.declared.Val.{Val}
use Rattle.flow_rule.specs.Values.{is_secret, val}
use Rattle.flow_rule.specs.Iterations.{PointState, RuleViolation, FlowStep}
use Rattle.flow_rule.specs.Arms.{step_arms, step_arms_by, step_branch}
use Rattle.flow_laws.specs.Exploring.{says_less, say_less, is_known, on_top, within, unless_wrong, Taken, Goes, Fails, Overflows, take_state, Explored, Complete, Unfinished, explore_on, explore, most_states}
use Rattle.flow_check.specs.declared.exploring.Held.{Held}
use Rattle.flow_check.specs.internal.Points.{points_at}
use Rattle.flow_check.specs.declared.violation.Violation.{Violation}
use Rattle.flow_check.specs.internal.Violations.{noted}
use Rattle.flow_check.specs.internal.Exploring.{held_point, stacked, IsLeast}
use Rattle.flow_check.proofs.Successors.{none_found}

-- at a place, and from there on
less_of : (b : Bool) (us vs : List Val) (u v : Val) → says_less u v ≡ b → say_less (u ∷ us) (v ∷ vs) ≡ (b && say_less us vs)
less_of b us vs u v e = ap (λ c. c && say_less us vs) e

pub less_here : (i : ℕ) (us vs : List Val) (d v : Val) → i < length us → slice_get vs i ≡ Some v →
    say_less (drop i us) (drop i vs) ≡ (says_less (slice_index_or us i d) v && say_less (drop (suc i) us) (drop (suc i) vs))
less_here zero (u ∷ us) (w ∷ vs) d v lt e = let f : w ≡ v = cc in ap (λ x. says_less u x && say_less us vs) f
less_here (suc i) (u ∷ us) (w ∷ vs) d v lt e = less_here i us vs d v (omega (arith, lt)) e
less_here i [] vs d v lt e = absurd (omega (arith, lt))
less_here zero (u ∷ us) [] d v lt e = absurd cc
less_here (suc i) (u ∷ us) [] d v lt e = absurd cc

pub less_none : (i : ℕ) (us vs : List Val) → i < length us → length vs ≤ i → say_less (drop i us) (drop i vs) ≡ false
less_none zero (u ∷ us) [] lt h = refl
less_none zero (u ∷ us) (w ∷ vs) lt h = absurd (omega (arith, h))
less_none (suc i) (u ∷ us) (w ∷ vs) lt h = less_none i us vs (omega (arith, lt)) (omega (arith, h))
less_none (suc i) (u ∷ us) [] lt h = shorter (drop i us) (more i us (omega (arith, lt)))
  where
    more : (i : ℕ) (us : List Val) → i < length us → 0 < length (drop i us)
    more zero us lt = lt
    more (suc i) (u ∷ us) lt = more i us (omega (arith, lt))
    more i [] lt = absurd (omega (arith, lt))

    shorter : (us : List Val) → 0 < length us → say_less us [] ≡ false
    shorter [] lt = absurd (omega (arith, lt))
    shorter (u ∷ us) lt = refl
less_none i [] vs lt h = absurd (omega (arith, lt))

-- a state more on top
pub stacked_push : (hs : List Held) (h : Held) (rest : List PointState) → stacked (hs ++ h ∷ []) rest ≡ held_point h ∷ stacked hs rest
stacked_push [] h rest = refl
stacked_push (x ∷ hs) h rest = stacked_push hs h (held_point x ∷ rest)

pub push_more : (hs ks : List Held) (h : Held) (to : ℕ) (rest rs : List ℕ) (s : AbstractState) → ks ≡ hs ++ h ∷ [] → held_point h ∷ [] ≡ points_at (to ∷ []) rs s →
    on_top (points_at (to ∷ rest) rs s) (stacked hs []) ≡ on_top (points_at rest rs s) (stacked ks [])
push_more hs ks h to rest rs s e at =
    ap (λ xs. on_top (points_at rest rs s) (xs ++ stacked hs [])) (sym at) ∙ ap (on_top (points_at rest rs s)) (sym (ap (λ l. stacked l []) e ∙ stacked_push hs h []))

pub push_alone : (hs ks : List Held) (h : Held) (to : ℕ) (rs : List ℕ) (s : AbstractState) → ks ≡ hs ++ h ∷ [] → held_point h ∷ [] ≡ points_at (to ∷ []) rs s →
    stacked ks [] ≡ on_top (points_at (to ∷ []) rs s) (stacked hs [])
push_alone hs ks h to rs s e at = sym (push_more hs ks h to [] rs s e at)

pub keep_one : (hs ks : List Held) (h : Held) (x : PointState) → ks ≡ hs ++ h ∷ [] → held_point h ≡ x → stacked ks [] ≡ x ∷ stacked hs []
keep_one hs ks h x e at = ap (λ l. stacked l []) e ∙ stacked_push hs h [] ∙ ap (λ y. y ∷ stacked hs []) at

-- without certificates the step is the rule's own
pub no_arms : (step : PointState → FlowStep) (m : Module) (text : List ℕ) (x : PointState) → step_arms step [] m text x ≡ step x
unfolding step_arms
no_arms step m text x = by (met m.text text x.point.addr)
  where
    branch : (b : Bool) (insn : Insn) (target : ℕ) → cond b (step_branch None step m text insn x target) (step x) ≡ step x
    branch true insn target = refl
    branch false insn target = refl

    by : (o : Option Insn) → step_arms_by o step [] m text x ≡ step x
    by (Some (Jump condition off)) = branch (not (is_always condition) && is_secret (val x.state.core 2)) (Jump condition off) (add16 (add16 x.point.addr 2) (distance off))
    by _ = refl

-- whether one of the states is above another, the last first
pub known_stacked : (hs : List Held) (rest : List PointState) (x : PointState) → is_known (stacked hs rest) x ≡ (is_known (stacked hs []) x || is_known rest x)
known_stacked [] rest x = refl
known_stacked (h ∷ hs) rest x =
    known_stacked hs (held_point h ∷ rest) x ∙ ap (λ b. is_known (stacked hs []) x || b) (known_one (held_point h) rest x)
    ∙ sym (ap (λ b. b || is_known rest x) (known_stacked hs (held_point h ∷ []) x)
    ∙ or_assoc (is_known (stacked hs []) x) (is_known (held_point h ∷ []) x) (is_known rest x))
  where
    or_false : (b : Bool) → (b || false) ≡ b
    or_false true = refl
    or_false false = refl

    known_one : (k : PointState) (rest : List PointState) (x : PointState) → is_known (k ∷ rest) x ≡ (is_known (k ∷ []) x || is_known rest x)
    known_one k rest x = ap (λ b. b || is_known rest x) (sym (or_false ((k.point.addr == x.point.addr) && say_less k.state.core x.state.core && say_less k.state.words x.state.words)))

    or_assoc : (a b c : Bool) → ((a || b) || c) ≡ (a || (b || c))
    or_assoc true b c = refl
    or_assoc false b c = refl

pub known_here : (h : Held) (hs : List Held) (x : PointState) → is_known (held_point h ∷ []) x ≡ true → is_known (stacked (h ∷ hs) []) x ≡ true
known_here h hs x e = known_stacked hs (held_point h ∷ []) x ∙ ap (λ b. is_known (stacked hs []) x || b) e ∙ or_true (is_known (stacked hs []) x)
  where
    or_true : (b : Bool) → (b || true) ≡ true
    or_true true = refl
    or_true false = refl

pub known_later : (h : Held) (hs : List Held) (x : PointState) → is_known (held_point h ∷ []) x ≡ false → is_known (stacked (h ∷ hs) []) x ≡ is_known (stacked hs []) x
known_later h hs x e = known_stacked hs (held_point h ∷ []) x ∙ ap (λ b. is_known (stacked hs []) x || b) e ∙ or_false (is_known (stacked hs []) x)
  where
    or_false : (b : Bool) → (b || false) ≡ b
    or_false true = refl
    or_false false = refl

-- a slice as long as its vector is the vector's items again
pub whole_again : (n : ℕ) (a b : List Val) → length a ≡ n → length b ≡ n → take n (a ++ drop (length a) b) ≡ a
whole_again n a b e f =
    let h : length b ≤ length a = omega arith in
    ap (λ l. take n (a ++ l)) (drop_of_length-le b h) ∙ (ap (take n) (append-nil a) ∙ take_all n a (omega arith))

pub only_one : (l : List ℕ) (d : ℕ) → length l ≡ 1 → l ≡ slice_index_or l 0 d ∷ []
only_one (x ∷ []) d e = refl
only_one [] d e = absurd (omega (arith, e))
only_one (x ∷ y ∷ l) d e = absurd (omega (arith, e))

long_stack : (hs : List Held) (rest : List PointState) → length (stacked hs rest) ≡ length hs + length rest
long_stack [] rest = omega arith
long_stack (h ∷ hs) rest = let e = long_stack hs (held_point h ∷ rest) in omega (arith, e)

pub stack_length : (hs : List Held) → length (stacked hs []) ≡ length hs
stack_length hs = let e = long_stack hs [] in omega (arith, e)

-- ---- what becomes of a state
module _ (step : PointState → FlowStep) (keeps : PointState → Bool) (x : PointState) (to_come kept : List PointState) where
  abbrev on : List PointState → List PointState → Taken
  on xs ks = within most_states xs ks

  pub take_known : is_known kept x ≡ true → take_state step keeps most_states x to_come kept ≡ Goes to_come kept
  take_known e = ap (λ b. cond b (Goes to_come kept) (unless_wrong (step x).violations (on (on_top (step x).gives to_come) (cond (keeps x) (x ∷ kept) kept)))) e

  take_other : (vs : List RuleViolation) → is_known kept x ≡ false → (step x).violations ≡ vs →
      take_state step keeps most_states x to_come kept ≡ unless_wrong vs (on (on_top (step x).gives to_come) (cond (keeps x) (x ∷ kept) kept))
  take_other vs e f =
      ap (λ b. cond b (Goes to_come kept) (unless_wrong (step x).violations (on (on_top (step x).gives to_come) (cond (keeps x) (x ∷ kept) kept)))) e
      ∙ ap (λ vs. unless_wrong vs (on (on_top (step x).gives to_come) (cond (keeps x) (x ∷ kept) kept))) f

  pub take_wrong : (v : Violation) → is_known kept x ≡ false → noted (step x).violations None ≡ Some v →
      (violations : List RuleViolation) × IsLeast v violations × (take_state step keeps most_states x to_come kept ≡ Fails violations)
  take_wrong v e f = by (step x).violations refl f
    where
      by : (vs : List RuleViolation) → (step x).violations ≡ vs → noted vs None ≡ Some v →
          (violations : List RuleViolation) × IsLeast v violations × (take_state step keeps most_states x to_come kept ≡ Fails violations)
      by [] g h = absurd cc
      by (r ∷ rs) g h = (r ∷ rs, h, take_other (r ∷ rs) e g)

  pub take_on : (b : Bool) (hs ks : List Held) → is_known kept x ≡ false → noted (step x).violations None ≡ None → stacked hs [] ≡ on_top (step x).gives to_come →
      stacked ks [] ≡ cond (keeps x) (x ∷ kept) kept → nat_lt most_states (length hs + length ks) ≡ b →
      take_state step keeps most_states x to_come kept ≡ cond b Overflows (Goes (stacked hs []) (stacked ks []))
  take_on b hs ks e f g h l =
      take_other [] e (none_found (step x).violations f)
      ∙ sym (ap (λ xs. on xs (cond (keeps x) (x ∷ kept) kept)) g) ∙ sym (ap (λ ys. on (stacked hs []) ys) h)
      ∙ ap (λ n. cond (nat_lt most_states n) Overflows (Goes (stacked hs []) (stacked ks []))) (ap (λ n. n + length (stacked ks [])) (stack_length hs) ∙ ap (λ n. length hs + n) (stack_length ks))
      ∙ ap (λ b. cond b Overflows (Goes (stacked hs []) (stacked ks []))) l

-- ---- a state taken from those to come
module _ (step : PointState → FlowStep) (keeps : PointState → Bool) (hs ks kept : List Held) (n : ℕ) where
  abbrev run : List PointState → ℕ → Explored
  run xs m = explore step keeps most_states xs (stacked kept []) m

  pub explore_pop : (h : Held) (t : Taken) → hs ≡ ks ++ h ∷ [] → n ≢ 0 → take_state step keeps most_states (held_point h) (stacked ks []) (stacked kept []) ≡ t →
      run (stacked hs []) n ≡ explore_on (λ xs ys. explore step keeps most_states xs ys (n - 1)) (n - 1) h.addr t
  explore_pop h t e some f =
      let one : n ≡ suc (n - 1) = omega (arith, some) in
      ap (λ l. run (stacked l []) n) e ∙ ap (λ l. run l n) (stacked_push ks h []) ∙ ap (run (held_point h ∷ stacked ks [])) one
      ∙ ap (explore_on (λ xs ys. explore step keeps most_states xs ys (n - 1)) (n - 1) h.addr) f

  pub explore_out : (h : Held) → hs ≡ ks ++ h ∷ [] → n ≡ 0 → run (stacked hs []) n ≡ Unfinished n h.addr
  explore_out h e f = ap (λ l. run (stacked l []) n) e ∙ ap (λ l. run l n) (stacked_push ks h []) ∙ ap (run (held_point h ∷ stacked ks [])) f ∙ ap (λ m. Unfinished m h.addr) (sym f)

  pub explore_end : hs ≡ [] → run (stacked hs []) n ≡ Complete n (stacked kept [])
  explore_end e = ap (λ l. run (stacked l []) n) e

pub none_of : (hs : List Held) → length hs ≡ 0 → hs ≡ []
none_of [] e = refl
none_of (h ∷ hs) e = absurd (omega (arith, e))
