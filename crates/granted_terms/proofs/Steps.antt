-- The step under terms, from a point that is lower than one where the step under others has no violation.
use Rattle.std.proofs.Common.{◌≡◌, ℕ, zero, suc, ◌+◌, List, [], ◌∷◌, ◌++◌, map, refl, sym, ap, ◌∙◌, subst, Bool, true, false, cond, ◌==◌, ◌&&◌, not, Option, Some, None, ℤ}
use Rattle.std.proofs.lemmas.Bool.{not-false}
use Rattle.sm_words.specs.Words.{nth, add16}
use Rattle.sm_words.specs.declared.width.Width.TheVariants.{Word}
use Rattle.insn_decode.specs.Code.{is_always}
use Rattle.insn_decode.specs.declared.insn.TwoOp.TheVariants.{Mov}
use Rattle.insn_decode.specs.declared.insn.OneOp.TheVariants.{Call}
use Rattle.insn_decode.specs.declared.insn.Operand.TheVariants.{Reg, Increment}
use Rattle.insn_decode.specs.declared.insn.Condition.{Condition}
use Rattle.insn_decode.specs.declared.insn.Insn.{Insn}
use Rattle.insn_decode.specs.declared.insn.Insn.TheVariants.{Two, One, Jump, Reti, Unit as UnitOp}
use Rattle.pc_access.specs.declared.Kind.TheVariants.{Write}
use Rattle.mod_layout.specs.declared.Module.{Module}
use Rattle.mod_layout.specs.Table.{holds}
use Rattle.entry_stubs.specs.Stub.{front_words, call_word}
use Rattle.attest.specs.Units.{UnitName, Unprotect, OwnId, CallerId}
use Rattle.arm_balance.specs.Met.{met}
use Rattle.flow_rule.specs.Terms.{Terms}
use Rattle.flow_rule.specs.declared.Val.{Val}
use Rattle.flow_rule.specs.declared.Val.TheVariants.{Known, Away, Public, Secret}
use Rattle.flow_rule.specs.declared.AbstractState.{AbstractState}
use Rattle.flow_rule.specs.declared.Reach.{Reach}
use Rattle.flow_rule.specs.declared.Reason.TheVariants.{SecretBranch, UnknownTarget}
use Rattle.flow_rule.specs.Values.{is_secret, val, blurred_flags}
use Rattle.flow_rule.specs.Iterations.{ProgramPoint, PointState, RuleViolation, FlowStep}
use Rattle.flow_rule.specs.Does.{plan_val, read_val, writes_val, read_reaches, write_reaches, does_val, past_val, lowered_val}
use Rattle.flow_rule.specs.Violations.{violation_if, reach_violations}
use Rattle.flow_rule.specs.Going.{goes_by, goes, both, also}
use Rattle.flow_rule.specs.CallStrings.{ReturnTurn, calls, return_turn, pop_call, last_is}
use Rattle.flow_rule.specs.Steps.{step_plain, step_jump, step_unit, step_insn, step_of}
use Rattle.flow_rule.specs.Stub.{text_word, has_stub, word_number, is_open, is_shut, shut_violations, shut_if, to_entries, call_entry, entries_of, step_entries, step_stub}
use Rattle.flow_rule.specs.Verdict.{flow_step}
use Rattle.flow_rule.proofs.Goes.{goes_in, goes_unless}
use Rattle.flow_rule.proofs.Plans.{none_left, none_right, none_if}
use Rattle.flow_rule.proofs.Absorbing.{AbsorbsVal, AbsorbsEach, over_one_keeps, nth_keeps, put_keeps, past_keeps}
use Rattle.flow_rule.proofs.AbsorbingDone.{same_plan, reads_keep, writes_keep, does_keeps}
use Rattle.granted_terms.proofs.Forgiven.{EachForgiven, Lower, EachLower, Follows}
use Rattle.granted_terms.proofs.StepsEnds.{open_below, each_append, closes_follows, exit_follows}

abbrev point_state : ℕ → List ℕ → AbstractState → PointState
point_state pc call_string state = record { point = record { addr = pc; call_string = call_string }; state = state }

-- ---- call strings
last_same : (t v : Val) (r : List ℕ) → AbsorbsVal t v → last_is t r ≡ true → last_is v r ≡ last_is t r
last_same (Known a) (Known b) r p e = ap (λ i. last_is (Known i) r) p
last_same (Known a) _ r p e = absurd p
last_same _ v r p e = absurd cc

-- a return to the newest address, where a value that absorbs others is known
turn_same : (insn : Insn) (pc : ℕ) (r : List ℕ) (xs ys : List Val) → AbsorbsEach xs ys →
    (return_turn insn pc r xs).stops ≡ false → return_turn insn pc r ys ≡ return_turn insn pc r xs
turn_same (Two Mov Word (Increment n) (Reg d)) pc r xs ys p e = by ((n == 1) && (d == 0)) e
  where
    returned : Bool → ReturnTurn
    returned last = record { violations = []; call_string = pop_call r; stops = not last }

    stays : ReturnTurn
    stays = record { violations = []; call_string = r; stops = false }

    by : (b : Bool) → (cond b (returned (last_is (nth 0 xs Secret) r)) stays).stops ≡ false →
        cond b (returned (last_is (nth 0 ys Secret) r)) stays ≡ cond b (returned (last_is (nth 0 xs Secret) r)) stays
    by true e =
        ap returned (last_same (nth 0 xs Secret) (nth 0 ys Secret) r (nth_keeps xs ys 0 p)
        (not-false (last_is (nth 0 xs Secret) r) e))
    by false e = refl
turn_same (One Call w a) pc r xs ys p e = refl
turn_same insn pc r xs ys p e = refl

lower_append : (xs xs' ys ys' : List PointState) → EachLower xs ys → EachLower xs' ys' → EachLower (xs ++ xs') (ys ++ ys')
lower_append [] xs' [] ys' h k = k
lower_append (x ∷ xs) xs' (y ∷ ys) ys' h k = (h.0, lower_append xs xs' ys ys' h.1 k)
lower_append [] xs' (y ∷ ys) ys' h k = absurd h
lower_append (x ∷ xs) xs' [] ys' h k = absurd h

-- ---- what no terms bear on
abbrev read : Module → List ℕ → AbstractState → List Reach → List Val
read m text l xs = map (read_val m text l.words) (read_reaches xs)

-- a plain step, over its accesses and what it makes of the call string
abbrev plain : Terms → Module → List ℕ → Insn → ℕ → AbstractState → List Reach → ReturnTurn → FlowStep
plain terms m text insn pc l xs t =
    let does = does_val blurred_flags insn pc l.core (read m text l xs) in
    also (reach_violations m pc xs ++ t.violations)
    (goes_unless terms t.stops m pc t.call_string does.core (writes_val m l.words (write_reaches xs) does.stored))

entries_lower : (m : Module) (text : List ℕ) (k : ℕ) (rs : List ℕ) (ts vs ws us : List Val) → AbsorbsEach ts vs →
    AbsorbsEach ws us → EachLower (to_entries m text k rs ts ws) (to_entries m text k rs vs us)
entries_lower m text zero rs ts vs ws us p d = tt
entries_lower m text (suc k) rs ts vs ws us p d =
    let a = text_word m text (front_words + k) in (
      record { point = refl; core = put_keeps ts vs 0 (Known a) (Known a) p refl; words = d },
      entries_lower m text k rs ts vs ws us p d,
    )

module _ (m : Module) (pc : ℕ) where
  -- a push to a place that is known
  pushed_same : (t v : Val) → AbsorbsVal t v →
      reach_violations m pc (record { kind = Write; addr = t; width = Word } ∷ []) ≡ [] → v ≡ t
  pushed_same (Known a) (Known b) h e = ap Known h
  pushed_same (Known a) _ h e = absurd h
  pushed_same _ v h e = absurd cc

  -- whether the stub's words are shut is a matter of addresses
  shut_same : (xs ys : List PointState) → EachLower xs ys → shut_violations m pc ys ≡ shut_violations m pc xs
  shut_same [] [] h = refl
  shut_same (x ∷ xs) (y ∷ ys) h =
      ap (λ (i : ProgramPoint). shut_here i ++ shut_violations m pc ys) h.0.point
      ∙ ap (λ i. shut_here x.point ++ i) (shut_same xs ys h.1)
    where
      shut_here : ProgramPoint → List RuleViolation
      shut_here i = violation_if (is_shut (word_number m i.addr)) pc UnknownTarget 0
  shut_same [] (y ∷ ys) h = absurd h
  shut_same (x ∷ xs) [] h = absurd h

-- ---- steps under terms, and under others that have no violation there
module _ (now other : Terms) where
  -- a step before which nothing is refused
  also_follows : (rs qs : List RuleViolation) (s q : FlowStep) → qs ≡ [] → Follows now other s q →
      Follows now other (also rs s) (also qs q)
  also_follows rs qs s q e f =
      record {
        forgiven = subst (λ i. EachForgiven now other (i ++ q.violations)) (sym e) f.forgiven;
        gives = f.gives;
      }

  both_follow : (s s' q q' : FlowStep) → Follows now other s q → Follows now other s' q' →
      Follows now other (both s s') (both q q')
  both_follow s s' q q' f g =
      record {
        forgiven = each_append now other q.violations q'.violations f.forgiven g.forgiven;
        gives = lower_append s.gives s'.gives q.gives q'.gives f.gives g.gives;
      }

  -- ---- on to where PC points
  module _ (m : Module) (pc : ℕ) (r : List ℕ) (ts vs ws us : List Val) (p : AbsorbsEach ts vs) (d : AbsorbsEach ws us) where
    in_follows : (inside : Bool) (to : ℕ) → (goes_in other inside m to pc r ts ws).violations ≡ [] →
        Follows now other (goes_in other inside m to pc r ts ws) (goes_in now inside m to pc r vs us)
    in_follows true to e = record { forgiven = tt; gives = (record { point = refl; core = p; words = d }, tt) }
    in_follows false to e = exit_follows now other m pc ts vs ws us p d e

    by_follows : (t v : Val) → AbsorbsVal t v → (goes_by other t m pc r ts ws).violations ≡ [] →
        Follows now other (goes_by other t m pc r ts ws) (goes_by now v m pc r vs us)
    by_follows (Known to) (Known b) h e =
        subst (λ i. Follows now other (goes_by other (Known to) m pc r ts ws) (goes_by now (Known i) m pc r vs us)) (sym h)
        (in_follows (holds m.text to) to e)
    by_follows (Known to) _ h e = absurd h
    by_follows Away Away h e = exit_follows now other m pc ts vs ws us p d e
    by_follows Away _ h e = absurd h
    by_follows _ v h e = absurd cc

    goes_follows : (goes other m pc r ts ws).violations ≡ [] →
        Follows now other (goes other m pc r ts ws) (goes now m pc r vs us)
    goes_follows e = by_follows (val ts 0) (val vs 0) (nth_keeps ts vs 0 p) e

    unless_follows : (stops : Bool) → (goes_unless other stops m pc r ts ws).violations ≡ [] →
        Follows now other (goes_unless other stops m pc r ts ws) (goes_unless now stops m pc r vs us)
    unless_follows true e = absurd cc
    unless_follows false e = goes_follows e

    -- a step without a violation is no return to another place
    goes_on : (stops : Bool) → (goes_unless other stops m pc r ts ws).violations ≡ [] → stops ≡ false
    goes_on true e = absurd cc
    goes_on false e = refl

  -- ---- an instruction
  module _ (m : Module) (text : List ℕ) (pc : ℕ) (r : List ℕ) (top low : AbstractState) (p : AbsorbsEach top.core low.core) (d : AbsorbsEach top.words low.words) where
    plain_follows : (insn : Insn) → (step_plain blurred_flags other m text insn (point_state pc r top)).violations ≡ [] →
        Follows now other (step_plain blurred_flags other m text insn (point_state pc r top)) (step_plain blurred_flags now m text insn (point_state pc r low))
    plain_follows insn e =
        let xs = plan_val insn pc top.core in
        let given : AbstractState → List Val = λ l. read m text l xs in
        let t = return_turn insn pc r (given top) in
        let does = does_val blurred_flags insn pc top.core (given top) in
        let rs = reach_violations m pc xs ++ t.violations in
        let words = writes_val m top.words (write_reaches xs) does.stored in
        let next = goes_unless other t.stops m pc t.call_string does.core words in
        let calm : rs ≡ [] = none_left rs next.violations e in
        let onward : next.violations ≡ [] = none_right rs next.violations e in
        let reads = reads_keep m text (read_reaches xs) top.words low.words d in
        let done = does_keeps insn pc top.core low.core (given top) (given low) p reads in
        let stored = writes_keep m (write_reaches xs) top.words low.words _ _ d done.stored_kept in
        let plans : plan_val insn pc low.core ≡ xs =
        same_plan m pc insn top.core low.core p (none_left (reach_violations m pc xs) t.violations calm) in
        let turn : return_turn insn pc r (given low) ≡ t =
        turn_same insn pc r (given top) (given low) reads (goes_on m pc t.call_string _ _ _ _ done.core_kept stored t.stops onward) in
        let same : step_plain blurred_flags now m text insn (point_state pc r low) ≡ plain now m text insn pc low xs t =
        ap (λ ys. plain now m text insn pc low ys (return_turn insn pc r (read m text low ys))) plans
        ∙ ap (plain now m text insn pc low xs) turn in
        subst (λ s. Follows now other (step_plain blurred_flags other m text insn (point_state pc r top)) s) (sym same)
        (also_follows rs rs _ _ calm (unless_follows m pc t.call_string _ _ _ _ done.core_kept stored t.stops onward))

    jump_follows : (cn : Condition) (off : ℤ) → (step_jump blurred_flags other m text (Jump cn off) cn (point_state pc r top)).violations ≡ [] →
        Follows now other (step_jump blurred_flags other m text (Jump cn off) cn (point_state pc r top))
        (step_jump blurred_flags now m text (Jump cn off) cn (point_state pc r low))
    jump_follows cn off e = by (is_always cn) e
      where
        taken : Terms → AbstractState → FlowStep
        taken terms l = goes terms m pc r (does_val blurred_flags (Jump cn off) pc l.core []).core l.words

        passed : Terms → AbstractState → FlowStep
        passed terms l = goes terms m pc r (past_val (Jump cn off) pc l.core) l.words

        branch : AbstractState → List RuleViolation
        branch l = violation_if (is_secret (val l.core 2)) pc SecretBranch 0

        open_branch : branch top ≡ [] → branch low ≡ []
        open_branch e =
            ap (λ b. violation_if b pc SecretBranch 0) (open_below (val top.core 2) (val low.core 2) (nth_keeps top.core low.core 2 p)
            (none_if (is_secret (val top.core 2)) pc SecretBranch 0 e))

        taken_follows : (taken other top).violations ≡ [] → Follows now other (taken other top) (taken now low)
        taken_follows e =
            let done = does_keeps (Jump cn off) pc top.core low.core [] [] p tt in
            goes_follows m pc r _ _ _ _ done.core_kept d e

        passed_follows : (passed other top).violations ≡ [] → Follows now other (passed other top) (passed now low)
        passed_follows e = goes_follows m pc r _ _ _ _ (past_keeps (Jump cn off) pc top.core low.core p) d e

        by : (b : Bool) → (cond b (taken other top) (also (branch top) (both (taken other top) (passed other top)))).violations ≡ [] →
            Follows now other (cond b (taken other top) (also (branch top) (both (taken other top) (passed other top))))
            (cond b (taken now low) (also (branch low) (both (taken now low) (passed now low))))
        by true e = taken_follows e
        by false e =
            let ways : (taken other top).violations ++ (passed other top).violations ≡ [] = none_right (branch top) _ e in
            also_follows (branch top) (branch low) _ _ (open_branch (none_left (branch top) _ e))
            (both_follow (taken other top) (passed other top) (taken now low) (passed now low)
            (taken_follows (none_left _ _ ways)) (passed_follows (none_right (taken other top).violations _ ways)))

    unit_follows : (name : UnitName) → (step_unit other m (UnitOp name) name (point_state pc r top)).violations ≡ [] →
        Follows now other (step_unit other m (UnitOp name) name (point_state pc r top))
        (step_unit now m (UnitOp name) name (point_state pc r low))
    unit_follows Unprotect e = closes_follows now other pc top.core low.core p e
    unit_follows OwnId e =
        goes_follows m pc r _ _ _ _ (put_keeps _ _ 15 Public Public (past_keeps (UnitOp OwnId) pc top.core low.core p) tt) d e
    unit_follows CallerId e =
        goes_follows m pc r _ _ _ _ (put_keeps _ _ 15 Public Public (past_keeps (UnitOp CallerId) pc top.core low.core p) tt) d e
    unit_follows _ e = absurd cc

    insn_follows : (o : Option Insn) → (step_insn blurred_flags other m text o (point_state pc r top)).violations ≡ [] →
        Follows now other (step_insn blurred_flags other m text o (point_state pc r top)) (step_insn blurred_flags now m text o (point_state pc r low))
    insn_follows None e = absurd cc
    insn_follows (Some Reti) e = absurd cc
    insn_follows (Some (Jump cn off)) e = jump_follows cn off e
    insn_follows (Some (UnitOp name)) e = unit_follows name e
    insn_follows (Some insn) e = plain_follows insn e

    of_follows : (step_of blurred_flags other m text (point_state pc r top)).violations ≡ [] →
        Follows now other (step_of blurred_flags other m text (point_state pc r top)) (step_of blurred_flags now m text (point_state pc r low))
    of_follows e = insn_follows (met m.text text pc) e

    -- ---- in a stub
    entries_follow : (step_entries m text (point_state pc r top)).violations ≡ [] →
        Follows now other (step_entries m text (point_state pc r top)) (step_entries m text (point_state pc r low))
    entries_follow e =
        let ts = past_val (call_entry m) pc top.core in
        let vs = past_val (call_entry m) pc low.core in
        let past = past_keeps (call_entry m) pc top.core low.core p in
        let lowered : AbsorbsEach (lowered_val ts) (lowered_val vs) =
        put_keeps ts vs 1 _ _ past (over_one_keeps (λ v. add16 v 65534) (val ts 1) (val vs 1) (nth_keeps ts vs 1 past)) in
        let sp = val (lowered_val ts) 1 in
        let push : Val → List Reach = λ v. record { kind = Write; addr = v; width = Word } ∷ [] in
        let t = calls pc r (pc + 4) in
        let same : val (lowered_val vs) 1 ≡ sp =
        pushed_same m pc sp (val (lowered_val vs) 1) (nth_keeps (lowered_val ts) (lowered_val vs) 1 lowered)
        (none_left (reach_violations m pc (push sp)) t.violations e) in
        let none : reach_violations m pc (push (val (lowered_val vs) 1)) ++ t.violations ≡ [] =
        ap (λ v. reach_violations m pc (push v) ++ t.violations) same ∙ e in
        let stored : List Val = Known (pc + 4) ∷ [] in
        let pushed : List Val → Val → List Val = λ us v. writes_val m us (push v) stored in
        let words : AbsorbsEach (pushed top.words sp) (pushed low.words (val (lowered_val vs) 1)) =
        subst (λ v. AbsorbsEach (pushed top.words sp) (pushed low.words v)) (sym same)
        (writes_keep m (push sp) top.words low.words stored stored d (refl, tt)) in
        record {
          forgiven = subst (λ i. EachForgiven now other i) (sym none) tt;
          gives = entries_lower m text (entries_of m text) t.call_string _ _ _ _ lowered words;
        }

    shut_follows : (open_here : Bool) (s q : FlowStep) → (s.violations ≡ [] → Follows now other s q) →
        (shut_if open_here m pc s).violations ≡ [] → Follows now other (shut_if open_here m pc s) (shut_if open_here m pc q)
    shut_follows true s q follows e = follows e
    shut_follows false s q follows e =
        let f = follows (none_left s.violations (shut_violations m pc s.gives) e) in
        let none : shut_violations m pc q.gives ≡ [] =
        shut_same m pc s.gives q.gives f.gives ∙ none_right s.violations (shut_violations m pc s.gives) e in
        record {
          forgiven = each_append now other q.violations (shut_violations m pc q.gives) f.forgiven
              (subst (λ i. EachForgiven now other i) (sym none) tt);
          gives = f.gives;
        }

    stub_follows : (step_stub blurred_flags other m text (point_state pc r top)).violations ≡ [] →
        Follows now other (step_stub blurred_flags other m text (point_state pc r top)) (step_stub blurred_flags now m text (point_state pc r low))
    stub_follows e = by (word_number m pc == call_word) e
      where
        here : Bool
        here = is_open (word_number m pc)

        top_step : FlowStep
        top_step = step_of blurred_flags other m text (point_state pc r top)

        low_step : FlowStep
        low_step = step_of blurred_flags now m text (point_state pc r low)

        by : (b : Bool) →
            (cond b (step_entries m text (point_state pc r top)) (shut_if here m pc top_step)).violations ≡ [] →
            Follows now other (cond b (step_entries m text (point_state pc r top)) (shut_if here m pc top_step))
            (cond b (step_entries m text (point_state pc r low)) (shut_if here m pc low_step))
        by true e = entries_follow e
        by false e = shut_follows here top_step low_step (λ e. of_follows e) e

  pub step_below : (m : Module) (text : List ℕ) (top low : PointState) → Lower top low →
      (flow_step blurred_flags other m text top).violations ≡ [] →
      Follows now other (flow_step blurred_flags other m text top) (flow_step blurred_flags now m text low)
  step_below m text top low l e =
      subst (λ point. Follows now other (flow_step blurred_flags other m text top) (flow_step blurred_flags now m text (record { point = point; state = low.state })))
      (sym l.point) (by (has_stub m text) e)
    where
      beside : PointState
      beside = record { point = top.point; state = low.state }

      by : (b : Bool) → (cond b (step_stub blurred_flags other m text) (step_of blurred_flags other m text) top).violations ≡ [] →
          Follows now other (cond b (step_stub blurred_flags other m text) (step_of blurred_flags other m text) top)
          (cond b (step_stub blurred_flags now m text) (step_of blurred_flags now m text) beside)
      by true e = stub_follows m text top.point.addr top.point.call_string top.state low.state l.core l.words e
      by false e = of_follows m text top.point.addr top.point.call_string top.state low.state l.core l.words e
