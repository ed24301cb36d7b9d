-- The walks along a branch's arms, from a point and from one whose state it absorbs.
use Rattle.std.proofs.Common.{◌≡◌, ℕ, zero, suc, ◌%◌, List, [], ◌∷◌, ◌++◌, map, refl, sym, ap, ◌∙◌, subst, arith, Bool, true, false, cond, nat_lt, ◌==◌, ◌&&◌, not, Option, Some, None, ℤ}
use Rattle.std.proofs.lemmas.Bool.{eqb-true}
use Rattle.sm_words.specs.Words.{nth, kept, add16, word_at}
use Rattle.insn_decode.specs.Code.{insn_of, is_always}
use Rattle.sm_words.specs.declared.width.Width.{Width}
use Rattle.sm_words.specs.declared.width.Width.TheVariants.{Word}
use Rattle.insn_decode.specs.declared.insn.TwoOp.{TwoOp}
use Rattle.insn_decode.specs.declared.insn.TwoOp.TheVariants.{Mov}
use Rattle.insn_decode.specs.declared.insn.OneOp.{OneOp}
use Rattle.insn_decode.specs.declared.insn.OneOp.TheVariants.{Call}
use Rattle.insn_decode.specs.declared.insn.Operand.{Operand}
use Rattle.insn_decode.specs.declared.insn.Operand.TheVariants.{Reg, Increment}
use Rattle.insn_decode.specs.declared.insn.Condition.{Condition}
use Rattle.insn_decode.specs.declared.insn.Insn.{Insn}
use Rattle.insn_decode.specs.declared.insn.Insn.TheVariants.{Two, One, Jump, Reti, Unit as UnitOp}
use Rattle.mod_layout.specs.declared.Module.{Module}
use Rattle.mod_layout.specs.Table.{holds}
use Rattle.cpu_step.specs.Fetched.{insn_at, later_word, word_in, insn_from}
use Rattle.arm_balance.specs.declared.Arm.{Arm}
use Rattle.arm_balance.specs.Met.{text_byte, met}
use Rattle.arm_balance.specs.Balance.{arm_next, arm_on}
use Rattle.flow_rule.proofs.Walks.{met_words, MeetsJoin, met_rest, on_time, walked_alike, if_always}
use Rattle.flow_rule.specs.Terms.{Terms}
use Rattle.flow_rule.specs.declared.Val.{Val}
use Rattle.flow_rule.specs.declared.Val.TheVariants.{Known, Secret}
use Rattle.flow_rule.specs.declared.AbstractState.{AbstractState}
use Rattle.flow_rule.specs.declared.Reach.{Reach}
use Rattle.flow_rule.specs.declared.Reason.TheVariants.{Arm as ArmInsn, SecretBranch}
use Rattle.flow_rule.specs.Values.{is_secret, val, blurred_flags}
use Rattle.flow_rule.specs.Iterations.{PointState, RuleViolation, FlowStep}
use Rattle.flow_rule.specs.Does.{plan_val, read_val, writes_val, read_reaches, write_reaches, does_val, past_val}
use Rattle.flow_rule.specs.Violations.{violation_if, reach_violations}
use Rattle.flow_rule.specs.Going.{goes_by, goes, both, also}
use Rattle.flow_rule.specs.CallStrings.{ReturnTurn, return_turn, pop_call, last_is}
use Rattle.flow_rule.specs.Steps.{step_plain, step_jump, step_insn, step_of}
use Rattle.flow_rule.proofs.Goes.{goes_in, goes_unless}
use Rattle.flow_rule.specs.Stub.{word_number, is_open, shut_violations, shut_if, step_entries, step_stub, has_stub}
use Rattle.flow_rule.specs.Verdict.{flow_step}
use Rattle.flow_rule.specs.Arms.{Walk, Meets, written_words, walked, walk_on, walk, arm_start, first_walk, second_walk, arm_violations, step_arm}
use Rattle.flow_rule.specs.Absorbs.{Absorbs}
use Rattle.flow_rule.proofs.Plans.{none_left, none_right}
use Rattle.flow_rule.proofs.Stub.{place_of_word, stub_facts}
use Rattle.flow_rule.proofs.Absorbing.{AbsorbsVal, AbsorbsEach, of_joins, nth_keeps, past_keeps, EvenPc}
use Rattle.flow_rule.proofs.AbsorbingDone.{same_plan, reads_keep, writes_keep, does_keeps}

abbrev point_state : ℕ → List ℕ → AbstractState → PointState
point_state a call_string state = record { point = record { addr = a; call_string = call_string }; state = state }

-- a state that knows no more than another
record Over (top low : AbstractState) : Type 0 where
  core : AbsorbsEach top.core low.core
  words : AbsorbsEach top.words low.words

-- two points of an even address, the first with the state that knows less
record Near (y z : PointState) : Type 0 where
  addr : z.point.addr ≡ y.point.addr
  even : y.point.addr % 2 ≡ 0
  over : Over y.state z.state

-- a step that goes to one place, and one that goes there too, with a state that knows no less
record Leads (s q : FlowStep) : Type 0 where
  y : PointState
  z : PointState
  to_y : s.gives ≡ y ∷ []
  to_z : q.gives ≡ z ∷ []
  none : q.violations ≡ []
  near : Near y z

-- the step goes to some place
record Some_gives (s : FlowStep) : Type 0 where
  first : PointState
  rest : List PointState
  gives : s.gives ≡ first ∷ rest

module _ (terms : Terms) (m : Module) (pc : ℕ) where
  in_keeps : (t : Bool) (to : ℕ) (r q : List ℕ) (ts ws vs us : List Val) → to % 2 ≡ 0 → AbsorbsEach ts vs →
      AbsorbsEach ws us → Some_gives (goes_in terms t m to pc r ts ws) →
      Leads (goes_in terms t m to pc r ts ws) (goes_in terms t m to pc q vs us)
  in_keeps true to r q ts ws vs us even p d g =
      record {
        y = point_state to r (record { core = ts; words = ws });
        z = point_state to q (record { core = vs; words = us });
        to_y = refl;
        to_z = refl;
        none = refl;
        near = record { addr = refl; even = even; over = record { core = p; words = d } };
      }
  in_keeps false to r q ts ws vs us even p d g = let e = g.gives in absurd cc

  by_keeps : (t v : Val) (r q : List ℕ) (ts ws vs us : List Val) → AbsorbsVal t v →
      ((a : ℕ) → t ≡ Known a → a % 2 ≡ 0) → AbsorbsEach ts vs → AbsorbsEach ws us →
      Some_gives (goes_by terms t m pc r ts ws) →
      Leads (goes_by terms t m pc r ts ws) (goes_by terms v m pc q vs us)
  by_keeps (Known to) (Known b) r q ts ws vs us h even p d g =
      subst (λ b. Leads (goes_by terms (Known to) m pc r ts ws) (goes_by terms (Known b) m pc q vs us)) (sym h)
      (in_keeps (holds m.text to) to r q ts ws vs us (even to refl) p d g)
  by_keeps (Known to) _ r q ts ws vs us h even p d g = absurd h
  by_keeps _ v r q ts ws vs us h even p d g = let e = g.gives in absurd cc

  goes_keeps : (r q : List ℕ) (ts ws vs us : List Val) → EvenPc ts → AbsorbsEach ts vs → AbsorbsEach ws us →
      Some_gives (goes terms m pc r ts ws) → Leads (goes terms m pc r ts ws) (goes terms m pc q vs us)
  goes_keeps r q ts ws vs us even p d g =
      by_keeps (val ts 0) (val vs 0) r q ts ws vs us (nth_keeps ts vs 0 p) even p d g

-- ---- an instruction of an arm leaves the call string as it is
abbrev quiet : List ℕ → ReturnTurn
quiet call_string = record { violations = []; call_string = call_string; stops = false }

if_first : (a b : Bool) (to next : ℕ) → cond (a && b) (Some to) None ≡ Some next → a ≡ true
if_first true b to next e = refl
if_first false b to next e = absurd cc

two_quiet : (join pc next : ℕ) (op : TwoOp) (w : Width) (s d : Operand) (r : List ℕ) (vs : List Val) →
    arm_next join pc (Some (Two op w s d)) ≡ Some next → return_turn (Two op w s d) pc r vs ≡ quiet r
two_quiet join pc next Mov Word (Increment n) (Reg d) r vs on =
    by (n == 1) (d == 0) (if_first (not (d == 0)) _ _ next on)
  where
    returned : ReturnTurn
    returned = record { violations = []; call_string = pop_call r; stops = not (last_is (nth 0 vs Secret) r) }

    by : (a b : Bool) → not b ≡ true → cond (a && b) returned (quiet r) ≡ quiet r
    by true true e = absurd cc
    by true false e = refl
    by false b e = refl
two_quiet join pc next op w s d r vs on = refl

one_quiet : (join pc next : ℕ) (op : OneOp) (w : Width) (a : Operand) (r : List ℕ) (vs : List Val) →
    arm_next join pc (Some (One op w a)) ≡ Some next → return_turn (One op w a) pc r vs ≡ quiet r
one_quiet join pc next Call w a r vs on = absurd cc
one_quiet join pc next op w a r vs on = refl

no_more : (xs ys : List RuleViolation) → xs ≡ [] → ys ≡ [] → (xs ++ []) ++ ys ≡ []
no_more xs ys p q = ap (λ i. (i ++ []) ++ ys) p ∙ q

-- ---- one instruction of an arm
module _ (terms : Terms) (m : Module) (text : List ℕ) where
  -- what is read, over these accesses
  abbrev given : AbstractState → List Reach → List Val
  given l xs = map (read_val m text l.words) (read_reaches xs)

  -- a plain step, over its accesses and what it makes of the call string
  abbrev plain : Insn → ℕ → AbstractState → List Reach → ReturnTurn → FlowStep
  plain insn pc l xs t =
      let d = does_val blurred_flags insn pc l.core (given l xs) in
      also (reach_violations m pc xs ++ t.violations)
      (goes_unless terms t.stops m pc t.call_string d.core (writes_val m l.words (write_reaches xs) d.stored))

  is_plain : (insn : Insn) (pc : ℕ) (r : List ℕ) (l : AbstractState) (xs : List Reach) → plan_val insn pc l.core ≡ xs →
      ((vs : List Val) → return_turn insn pc r vs ≡ quiet r) →
      step_plain blurred_flags terms m text insn (point_state pc r l) ≡ plain insn pc l xs (quiet r)
  is_plain insn pc r l xs e turn =
      ap (λ t. plain insn pc l (plan_val insn pc l.core) t) (turn (given l (plan_val insn pc l.core)))
      ∙ ap (λ xs. plain insn pc l xs (quiet r)) e

  plain_leads : (insn : Insn) (pc : ℕ) (r q : List ℕ) (top low : AbstractState) (xs : List Reach) → Over top low →
      reach_violations m pc xs ≡ [] → Some_gives (plain insn pc top xs (quiet r)) →
      Leads (plain insn pc top xs (quiet r)) (plain insn pc low xs (quiet q))
  plain_leads insn pc r q top low xs o e g =
      let k = does_keeps insn pc top.core low.core (given top xs) (given low xs) o.core
      (reads_keep m text (read_reaches xs) top.words low.words o.words) in
      let h = goes_keeps terms m pc r q _ _ _ _ k.even_pc k.core_kept
      (writes_keep m (write_reaches xs) top.words low.words _ _ o.words k.stored_kept)
      (record { first = g.first; rest = g.rest; gives = g.gives }) in
      record { y = h.y; z = h.z; to_y = h.to_y; to_z = h.to_z; none = no_more _ _ e h.none; near = h.near }

  -- a step, and the accesses that it is told by
  record Goes (o : Option Insn) (pc : ℕ) (top low : AbstractState) (s q : FlowStep) : Type 0 where
    leads : Leads s q
    same_words : (r r' : List ℕ) → met_words o m (point_state pc r' low) ≡ met_words o m (point_state pc r top)

  plain_goes : (insn : Insn) (pc : ℕ) (r q : List ℕ) (top low : AbstractState) →
      ((r : List ℕ) (vs : List Val) → return_turn insn pc r vs ≡ quiet r) → Over top low →
      (step_plain blurred_flags terms m text insn (point_state pc r top)).violations ≡ [] → Some_gives (step_plain blurred_flags terms m text insn (point_state pc r top)) →
      Goes (Some insn) pc top low (step_plain blurred_flags terms m text insn (point_state pc r top)) (step_plain blurred_flags terms m text insn (point_state pc q low))
  plain_goes insn pc r q top low turn o none g =
      let xs = plan_val insn pc top.core in
      let free : reach_violations m pc xs ≡ [] = none_left _ _ (none_left _ _ none) in
      let same = same_plan m pc insn top.core low.core o.core free in
      let a = is_plain insn pc r top xs refl (turn r) in
      let b = is_plain insn pc q low xs same (turn q) in
      let P : FlowStep → Type 0 = λ s. Some_gives s in
      let k = plain_leads insn pc r q top low xs o free (subst P a g) in
      record {
        leads = subst (λ s. Leads s (step_plain blurred_flags terms m text insn (point_state pc q low))) (sym a)
            (subst (λ s. Leads (plain insn pc top xs (quiet r)) s) (sym b) k);
        same_words = λ r r'. ap (λ xs. written_words m (write_reaches xs)) same;
      }

  jump_goes : (cn : Condition) (off : ℤ) (pc : ℕ) (r q : List ℕ) (top low : AbstractState) → is_always cn ≡ true → Over top low →
      Some_gives (step_jump blurred_flags terms m text (Jump cn off) cn (point_state pc r top)) →
      Goes (Some (Jump cn off)) pc top low (step_jump blurred_flags terms m text (Jump cn off) cn (point_state pc r top))
      (step_jump blurred_flags terms m text (Jump cn off) cn (point_state pc q low))
  unfolding plan_val
  jump_goes cn off pc r q top low always o g = record { leads = by (is_always cn) always g; same_words = λ r r'. refl }
    where
      taken : List ℕ → AbstractState → FlowStep
      taken r l = goes terms m pc r (does_val blurred_flags (Jump cn off) pc l.core []).core l.words

      other : List ℕ → AbstractState → FlowStep
      other r l = also (violation_if (is_secret (val l.core 2)) pc SecretBranch 0)
          (both (taken r l) (goes terms m pc r (past_val (Jump cn off) pc l.core) l.words))

      by : (c : Bool) → c ≡ true → Some_gives (cond c (taken r top) (other r top)) →
          Leads (cond c (taken r top) (other r top)) (cond c (taken q low) (other q low))
      by false e g = absurd cc
      by true e g = let k = does_keeps (Jump cn off) pc top.core low.core [] [] o.core tt in
          goes_keeps terms m pc r q _ _ _ _ k.even_pc k.core_kept o.words g

  insn_goes : (o : Option Insn) (join next pc : ℕ) (r q : List ℕ) (top low : AbstractState) → arm_next join pc o ≡ Some next →
      Over top low → (step_insn blurred_flags terms m text o (point_state pc r top)).violations ≡ [] →
      Some_gives (step_insn blurred_flags terms m text o (point_state pc r top)) →
      Goes o pc top low (step_insn blurred_flags terms m text o (point_state pc r top)) (step_insn blurred_flags terms m text o (point_state pc q low))
  insn_goes None join next pc r q top low on p none g = absurd cc
  insn_goes (Some (Two op w s d)) join next pc r q top low on p none g =
      plain_goes (Two op w s d) pc r q top low (λ r vs. two_quiet join pc next op w s d r vs on) p none g
  insn_goes (Some (One op w a)) join next pc r q top low on p none g =
      plain_goes (One op w a) pc r q top low (λ r vs. one_quiet join pc next op w a r vs on) p none g
  insn_goes (Some (Jump cn off)) join next pc r q top low on p none g =
      jump_goes cn off pc r q top low (if_always (is_always cn) _ _ _ next on) p g
  insn_goes (Some Reti) join next pc r q top low on p none g = absurd cc
  insn_goes (Some (UnitOp n)) join next pc r q top low on p none g = absurd cc

  -- ---- the steps of a text: each goes on alike from an address of an arm
  abbrev Alike : (PointState → FlowStep) → Type 0
  Alike S = (join next pc : ℕ) (r q : List ℕ) (top low : AbstractState) → pc % 2 ≡ 0 → holds m.text pc ≡ true →
      arm_next join pc (met m.text text pc) ≡ Some next → Over top low → (S (point_state pc r top)).violations ≡ [] →
      Some_gives (S (point_state pc r top)) →
      Goes (met m.text text pc) pc top low (S (point_state pc r top)) (S (point_state pc q low))

  plain_alike : Alike (step_of blurred_flags terms m text)
  plain_alike join next pc r q top low even inn on o none g =
      insn_goes (met m.text text pc) join next pc r q top low on o none g

  -- the stub's CALL is none of an arm
  call_stops : (join next pc : ℕ) → word_at (text_byte m.text text) pc ≡ 4758 →
      arm_next join pc (met m.text text pc) ≡ Some next → ⊥
  unfolding met insn_of
  call_stops join next pc e on =
      by (word_in m.text pc 2 1 && word_in m.text pc 2 2)
      (subst (λ w. arm_next join pc (insn_from (insn_of w 0 0) (text_byte m.text text) m.text pc) ≡ Some next) e on)
    where
      by : (b : Bool) → arm_next join pc (cond b (insn_at (text_byte m.text text) pc 2) None) ≡ Some next → ⊥
      by false on = absurd cc
      by true on =
          let f : arm_next join pc (insn_of 4758 (later_word (text_byte m.text text) pc 2 1)
          (later_word (text_byte m.text text) pc 2 2)) ≡ Some next =
          subst (λ w. arm_next join pc
          (insn_of w (later_word (text_byte m.text text) pc 2 1) (later_word (text_byte m.text text) pc 2 2))
          ≡ Some next) e on in absurd cc

  stub_alike : m.text.start % 2 ≡ 0 → has_stub m text ≡ true → Alike (step_stub blurred_flags terms m text)
  stub_alike start stub join next pc r q top low even inn on o none g =
      by (word_number m pc == 17) (is_open (word_number m pc)) refl none g
    where
      from_top : FlowStep
      from_top = step_of blurred_flags terms m text (point_state pc r top)

      from_low : FlowStep
      from_low = step_of blurred_flags terms m text (point_state pc q low)

      by : (a b : Bool) → (word_number m pc == 17) ≡ a →
          (cond a (step_entries m text (point_state pc r top)) (shut_if b m pc from_top)).violations ≡ [] →
          Some_gives (cond a (step_entries m text (point_state pc r top)) (shut_if b m pc from_top)) →
          Goes (met m.text text pc) pc top low (cond a (step_entries m text (point_state pc r top)) (shut_if b m pc from_top))
          (cond a (step_entries m text (point_state pc q low)) (shut_if b m pc from_low))
      by true b e none g =
          let f = stub_facts m text stub in
          absurd (call_stops join next pc
          (ap (word_at (text_byte m.text text)) (place_of_word m pc 17 start (eqb-true (word_number m pc) 17 e) even inn) ∙ f.words 17 (omega arith)) on)
      by false true e none g = plain_alike join next pc r q top low even inn on o none g
      by false false e none g =
          let k = plain_alike join next pc r q top low even inn on o
          (none_left from_top.violations (shut_violations m pc from_top.gives) none)
          (record { first = g.first; rest = g.rest; gives = g.gives }) in
          let l = k.leads in
          record {
            leads = record {
              y = l.y;
              z = l.z;
              to_y = l.to_y;
              to_z = l.to_z;
              none = ap (λ i. i ++ shut_violations m pc from_low.gives) l.none ∙ shut l;
              near = l.near;
            };
            same_words = k.same_words;
          }
        where
          shut : Leads from_top from_low → shut_violations m pc from_low.gives ≡ []
          shut l =
              ap (shut_violations m pc) l.to_z
              ∙ ap (λ a. shut_violations m pc (point_state a l.z.point.call_string l.z.state ∷ [])) l.near.addr
              ∙ sym (ap (shut_violations m pc) l.to_y)
              ∙ none_right from_top.violations (shut_violations m pc from_top.gives) none

  -- ---- walks
  module _ (S : PointState → FlowStep) (alike : Alike S) (join : ℕ) where
    -- to the join, in so many steps
    abbrev onward : ℕ → PointState → Walk
    onward fuel x = walk S m text join fuel x

    abbrev Same : ℕ → Type 0
    Same fuel = (y z : PointState) → Near y z → MeetsJoin (onward fuel y) → onward fuel z ≡ onward fuel y

    -- after this step of a point
    abbrev further : ℕ → ℕ → FlowStep → PointState → Walk
    further fuel next s x = walk_on (Some next) s.violations s.gives m text x (onward fuel)

    walk_more : (fuel next pc : ℕ) (r q : List ℕ) (top low : AbstractState) → pc % 2 ≡ 0 → holds m.text pc ≡ true →
        arm_next join pc (met m.text text pc) ≡ Some next → Over top low → Same fuel →
        (s : FlowStep) → S (point_state pc r top) ≡ s → MeetsJoin (further fuel next s (point_state pc r top)) →
        further fuel next (S (point_state pc q low)) (point_state pc q low) ≡ further fuel next s (point_state pc r top)
    walk_more fuel next pc r q top low even here on o go s es meets =
        by s.violations s.gives (ap (λ s. s.violations) es) (ap (λ s. s.gives) es) meets
      where
        it : Option Insn
        it = met m.text text pc

        first_same : (a b : PointState) (bs : List PointState) → a ∷ [] ≡ b ∷ bs → a ≡ b
        first_same a b bs e = cc

        by : (rs : List RuleViolation) (gs : List PointState) →
            (S (point_state pc r top)).violations ≡ rs → (S (point_state pc r top)).gives ≡ gs →
            MeetsJoin (further fuel next (record { violations = rs; gives = gs }) (point_state pc r top)) →
            further fuel next (S (point_state pc q low)) (point_state pc q low)
            ≡ further fuel next (record { violations = rs; gives = gs }) (point_state pc r top)
        by (x ∷ rs) gs er eg meets = absurd meets
        by [] [] er eg meets = absurd meets
        by [] (y ∷ ys) er eg meets =
            let k = alike join next pc r q top low even here on o er (record { first = y; rest = ys; gives = eg }) in
            let l = k.leads in
            let e : l.y ≡ y = first_same _ _ _ (sym l.to_y ∙ eg) in
            let near : Near y l.z = subst (λ y. Near y l.z) e l.near in
            ap (λ rs. further fuel next (record {
              violations = rs;
              gives = (S (point_state pc q low)).gives;
            }) (point_state pc q low))
            l.none
            ∙ ap (λ gs. further fuel next (record { violations = []; gives = gs }) (point_state pc q low)) l.to_z
            ∙ ap (walked it m (point_state pc q low)) (go y l.z near (met_rest it m (point_state pc r top) (onward fuel y) meets))
            ∙ walked_alike it m (point_state pc q low) (point_state pc r top) (onward fuel y) refl (k.same_words r q)

    -- a step more, by whether the join is here and by where an instruction of an arm goes on
    abbrev onward_by : ℕ → Bool → Option ℕ → PointState → Walk
    onward_by fuel c n x = cond c (Meets 0 [] []) (walk_on n (S x).violations (S x).gives m text x (onward fuel))

    walk_at : (fuel pc : ℕ) (r q : List ℕ) (top low : AbstractState) → pc % 2 ≡ 0 → Over top low → Same fuel →
        MeetsJoin (onward (suc fuel) (point_state pc r top)) →
        onward (suc fuel) (point_state pc q low) ≡ onward (suc fuel) (point_state pc r top)
    walk_at fuel pc r q top low even o go meets = by (pc == join) (arm_on m.text text join pc) refl meets
      where
        on : (a b : Bool) (next : ℕ) → holds m.text pc ≡ a →
            arm_next join pc (cond (a && b) (met m.text text pc) None) ≡ Some next →
            MeetsJoin (onward_by fuel false (Some next) (point_state pc r top)) →
            onward_by fuel false (Some next) (point_state pc q low) ≡ onward_by fuel false (Some next) (point_state pc r top)
        on true true next here e meets = walk_more fuel next pc r q top low even here e o go _ refl meets
        on true false next here e meets = absurd cc
        on false b next here e meets = absurd cc

        by : (c : Bool) (n : Option ℕ) → arm_on m.text text join pc ≡ n →
            MeetsJoin (onward_by fuel c n (point_state pc r top)) →
            onward_by fuel c n (point_state pc q low) ≡ onward_by fuel c n (point_state pc r top)
        by true n e meets = refl
        by false None e meets = absurd meets
        by false (Some next) e meets = on (holds m.text pc) (nat_lt pc join) next refl e meets

    walk_same : (fuel : ℕ) → Same fuel
    walk_same zero y z near meets = absurd meets
    walk_same (suc fuel) y z near meets =
        subst (λ a. onward (suc fuel) (point_state a z.point.call_string z.state) ≡ onward (suc fuel) y) (sym near.addr)
        (walk_at fuel y.point.addr y.point.call_string z.point.call_string y.state z.state near.even near.over
        (walk_same fuel) meets)

  -- ---- both arms of a branch
  abbrev Rests : (PointState → FlowStep) → Insn → ℕ → Arm → PointState → PointState → Type 0
  Rests S insn target arm top x =
      (first_walk S m text insn arm x ≡ first_walk S m text insn arm top)
      × (second_walk S m text insn target arm x ≡ second_walk S m text insn target arm top)

  kept_even : (a : ℕ) → kept 0 a % 2 ≡ 0
  kept_even a = omega arith

  arms_same : (S : PointState → FlowStep) → Alike S → (insn : Insn) (target : ℕ) (arm : Arm) (pc : ℕ) (r q : List ℕ) →
      (top low : AbstractState) → Over top low → (step_arm S m text insn target arm (point_state pc r top)).violations ≡ [] →
      Rests S insn target arm (point_state pc r top) (point_state pc q low)
  arms_same S alike insn target arm pc r q top low o none =
      let apart = violation_if (not (holds m.text arm.join)) pc ArmInsn arm.join in
      let w0 = first_walk S m text insn arm (point_state pc r top) in
      let w1 = second_walk S m text insn target arm (point_state pc r top) in
      let rs0 = arm_violations pc arm.cycles 0 w0 in
      let rs1 = arm_violations pc arm.cycles 1 w1 in
      let one : (apart ++ rs0) ≡ [] = none_left (apart ++ rs0) rs1 none in
      let k = does_keeps insn pc top.core low.core [] [] o.core tt in
      let first : Over _ _ = record { core = past_keeps insn pc top.core low.core o.core; words = o.words } in
      let second : Over _ _ = record { core = k.core_kept; words = o.words } in (
        walk_same S alike arm.join (suc arm.join)
            (arm_start insn (add16 pc 2) (point_state pc r top) (past_val insn pc top.core))
            (arm_start insn (add16 pc 2) (point_state pc q low) (past_val insn pc low.core))
            (record { addr = refl; even = kept_even (add16 pc 2); over = first })
            (on_time pc arm.cycles 0 w0 (none_right apart rs0 one)).0,
        walk_same S alike arm.join (suc arm.join)
            (arm_start insn target (point_state pc r top) (does_val blurred_flags insn pc top.core []).core)
            (arm_start insn target (point_state pc q low) (does_val blurred_flags insn pc low.core []).core)
            (record { addr = refl; even = kept_even target; over = second })
            (on_time pc arm.cycles 1 w1 (none_right (apart ++ rs0) rs1 none)).0,
      )

  pub arms_rest : (insn : Insn) (target : ℕ) (arm : Arm) (top x : PointState) → m.text.start % 2 ≡ 0 →
      x.point.addr ≡ top.point.addr → Absorbs top.state x.state →
      (step_arm (flow_step blurred_flags terms m text) m text insn target arm top).violations ≡ [] →
      Rests (flow_step blurred_flags terms m text) insn target arm top x
  arms_rest insn target arm top x even e a none =
      subst (λ pc. Rests (flow_step blurred_flags terms m text) insn target arm top (point_state pc x.point.call_string x.state)) (sym e)
      (by (has_stub m text) refl none)
    where
      low : PointState
      low = point_state top.point.addr x.point.call_string x.state

      of_step : (S : PointState → FlowStep) → Alike S → (step_arm S m text insn target arm top).violations ≡ [] →
          Rests S insn target arm top low
      of_step S alike none =
          arms_same S alike insn target arm top.point.addr top.point.call_string x.point.call_string top.state x.state
          (record { core = of_joins _ _ a.core; words = of_joins _ _ a.words }) none

      by : (b : Bool) → has_stub m text ≡ b →
          (step_arm (cond b (step_stub blurred_flags terms m text) (step_of blurred_flags terms m text))
          m text insn target arm top).violations ≡ [] →
          Rests (cond b (step_stub blurred_flags terms m text) (step_of blurred_flags terms m text)) insn target arm top low
      by true stub none = of_step (step_stub blurred_flags terms m text) (stub_alike even stub) none
      by false stub none = of_step (step_of blurred_flags terms m text) plain_alike none
