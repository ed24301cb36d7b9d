-- What one walk along the arms of a branch says of other states.
use Rattle.std.proofs.Common.{◌≡◌, ◌≢◌, ℕ, zero, suc, set, get_or, take, drop, ◌<◌, ◌≤◌, List, [], ◌∷◌, ◌++◌, length, refl, sym, ap, ◌∙◌, subst, not, false, is_some, arith, Option, None}
use Rattle.std.proofs.lemmas.List.Elements.{All-push, All-set}
use Rattle.mod_layout.specs.declared.Module.{Module}
use Rattle.mod_layout.specs.Table.{holds}
use Rattle.flow_check.specs.declared.program.Program.{Program}
use Rattle.flow_check.specs.internal.Programs.{flow_at, untaken_walk, taken_walk}
use Rattle.flow_check.specs.internal.Terms.{terms_in}
use Rattle.flow_rule.specs.declared.Val.{Val}
use Rattle.flow_rule.specs.declared.AbstractState.{AbstractState}
use Rattle.flow_rule.specs.declared.Reason.TheVariants.{Arm as ArmInsn}
use Rattle.flow_rule.specs.Violations.{violation_if}
use Rattle.flow_rule.specs.Iterations.{RuleViolation, PointState, FlowStep, given_by}
use Rattle.flow_rule.specs.Arms.{Walk, clobbered_by, arm_violations}
use Rattle.flow_rule.specs.Absorbs.{Absorbs, ArmsRest}
use Rattle.flow_check.specs.declared.branch.BranchSite.{BranchSite}
use Rattle.flow_check.specs.declared.summaries.Answer.TheVariants.{Open, Shut}
use Rattle.flow_check.specs.declared.summaries.Summary.{Summary}
use Rattle.flow_check.specs.internal.Summaries.{laid, overlay, clobbered, blank_state, branch_from, OpensTo, ComesTo, IsSummary, AreSummaries}
use Rattle.flow_check.specs.declared.violation.Violation.{Violation}
use Rattle.flow_check.specs.declared.call_string.CallString.{CallString}
use Rattle.flow_check.specs.internal.Violations.{noted}
use Rattle.flow_check.specs.internal.Points.{list_of, point_of, points_at, addrs_of}
use Rattle.flow_check.proofs.Successors.{none_some, none_found}
use Rattle.flow_check.proofs.Overlaying.{over, over_both}

-- the violations of a branch, by how its arms go
violations_by : Module → BranchSite → ℕ → Walk → Walk → List RuleViolation
violations_by m c pc w0 w1 =
    violation_if (not (holds m.text c.arm.join)) pc ArmInsn c.arm.join
    ++ arm_violations pc c.arm.cycles 0 w0 ++ arm_violations pc c.arm.cycles 1 w1

module _ (rest : ArmsRest) (p : Program) (c : BranchSite) (top x : PointState) (pc : x.point.addr ≡ top.point.addr) (h : Absorbs top.state x.state) (calm : (flow_at p c top).violations ≡ [])
  where
    same : (untaken_walk p c x ≡ untaken_walk p c top) × (taken_walk p c x ≡ taken_walk p c top)
    same = rest (terms_in p) p.module.now p.text.now c.insn c.target c.arm top x p.exact.even pc h calm

    pub calm_too : (flow_at p c x).violations ≡ []
    unfolding violations_by
    calm_too =
        ap (λ a. violations_by p.module.now c a (untaken_walk p c x) (taken_walk p c x)) pc
        ∙ ap (λ w. violations_by p.module.now c top.point.addr w (taken_walk p c x)) same.0
        ∙ ap (λ w. violations_by p.module.now c top.point.addr (untaken_walk p c top) w) same.1 ∙ calm

    pub clobbered_too : (l : AbstractState) → clobbered p c x l ≡ clobbered p c top l
    clobbered_too l =
        ap (λ w. clobbered_by (taken_walk p c x) (clobbered_by w l)) same.0
        ∙ ap (λ w. clobbered_by w (clobbered_by (untaken_walk p c top) l)) same.1

-- an open summary, of a state that it subsumes
pub opens : ArmsRest → (p : Program) (s : Summary) (told : AbstractState) → s.answer ≡ Open told → IsSummary p s → (c : BranchSite) (pc : ℕ) (call_string : List ℕ) (l l1 : AbstractState) → s.branch ≡ pc → s.site ≡ c → Absorbs s.state l →
    length l.core ≡ 16 → length l.words ≡ 256 → l1 ≡ record { core = overlay told.core l.core; words = overlay told.words l.words } → OpensTo p c (branch_from pc call_string l) l1
opens rest p s told e is c pc call_string l l1 eb ec h core words el =
    let b : PointState = branch_from s.branch [] s.state in
    let x : PointState = branch_from pc call_string l in
    let it : ((flow_at p s.site b).violations ≡ []) × (told ≡ clobbered p s.site b blank_state) = subst (ComesTo p s.site b) e is in
    let calm : (flow_at p c b).violations ≡ [] = subst (λ c. (flow_at p c b).violations ≡ []) ec it.0 in
    let same : told ≡ clobbered p c b blank_state = it.1 ∙ ap (λ c. clobbered p c b blank_state) ec in (
      calm_too rest p c b x (sym eb) h calm,
      el ∙ ap (λ t. over t l) (same ∙ sym (clobbered_too rest p c b x (sym eb) h calm blank_state))
          ∙ over_both (untaken_walk p c x) (taken_walk p c x) l core words,
    )

-- a shut one, of a state that subsumes its own
pub shuts : ArmsRest → (p : Program) (s : Summary) → s.answer ≡ Shut → IsSummary p s → (c : BranchSite) (pc : ℕ) (call_string : List ℕ) (l : AbstractState) → s.branch ≡ pc → s.site ≡ c → Absorbs l s.state →
    (flow_at p c (branch_from pc call_string l)).violations ≢ []
shuts rest p s e is c pc call_string l eb ec h = λ none.
    let b : PointState = branch_from s.branch [] s.state in
    let it : (flow_at p s.site b).violations ≢ [] = subst (ComesTo p s.site b) e is in
    it (subst (λ c. (flow_at p c b).violations ≡ []) (sym ec)
    (calm_too rest p c (branch_from pc call_string l) b eb h none))

-- one summary more, or another in its place
pub kept_push : (p : Program) (ss ts : List Summary) (s : Summary) → ts ≡ ss ++ s ∷ [] → IsSummary p s → AreSummaries p ss → AreSummaries p ts
kept_push p ss ts s e h all = subst (AreSummaries p) (sym e) (All-push (IsSummary p) ss s all h)

pub kept_set : (p : Program) (ss ts : List Summary) (i : ℕ) (s : Summary) → ts ≡ set ss i s → IsSummary p s → AreSummaries p ss → AreSummaries p ts
kept_set p ss ts i s e h all = subst (AreSummaries p) (sym e) (All-set (IsSummary p) ss i s h all)

-- what a walk told
pub walked_open : (p : Program) (c : BranchSite) (pc : ℕ) (r : CallString) (l told0 told : AbstractState) (least : Option Violation) → list_of r ≡ [] → told0 ≡ blank_state →
    least ≡ noted (flow_at p c (point_of pc r l)).violations None → told ≡ clobbered p c (point_of pc r l) told0 → is_some least ≡ false → ComesTo p c (branch_from pc [] l) (Open told)
walked_open p c pc r l told0 told least er eb el et e =
    let calm : (flow_at p c (branch_from pc (list_of r) l)).violations ≡ [] = none_found (flow_at p c (point_of pc r l)).violations (sym el ∙ none_some least e) in (
      subst (λ rs. (flow_at p c (branch_from pc rs l)).violations ≡ []) er calm,
      et ∙ ap (λ b. clobbered p c (branch_from pc (list_of r) l) b) eb ∙ ap (λ rs. clobbered p c (branch_from pc rs l) blank_state) er,
    )

-- ---- the step of a program point

-- a branch without a violation
pub site_successors : (p : Program) (c : BranchSite) (x : PointState) (s : FlowStep) (l : AbstractState) → s ≡ flow_at p c x → l ≡ clobbered p c x x.state → s.gives ≡ points_at (addrs_of s.gives) x.point.call_string l
site_successors p c x s l same e =
    subst (λ s. s.gives ≡ points_at (addrs_of s.gives) x.point.call_string l) (sym same) (ap (λ l. points_at (c.arm.join ∷ []) x.point.call_string l) (sym e))

-- one with a violation
pub stirred : (s t : FlowStep) → s ≡ t → t.violations ≢ [] → given_by s ≡ []
stirred s t e h = ap given_by e ∙ by t.violations h
  where
    by : (rs : List RuleViolation) → rs ≢ [] → given_by (record { violations = rs; gives = t.gives }) ≡ []
    by [] h = absurd (h refl)
    by (r ∷ rs) h = refl

-- ---- one value after another

pub overlay_step : (i : ℕ) (ws vs : List Val) (d : Val) → i < length vs → length ws ≡ length vs →
    take i vs ++ overlay (drop i ws) (drop i vs) ≡ take (suc i) (set vs i (laid (get_or ws i d) (get_or vs i d))) ++ overlay (drop (suc i) ws) (drop (suc i) (set vs i (laid (get_or ws i d) (get_or vs i d))))
overlay_step zero (w ∷ ws) (v ∷ vs) d lt e = refl
overlay_step (suc i) (w ∷ ws) (v ∷ vs) d lt e = ap (λ l. v ∷ l) (overlay_step i ws vs d (omega (arith, lt)) (omega (arith, e)))
overlay_step i ws [] d lt e = absurd (omega (arith, lt))
overlay_step i [] (v ∷ vs) d lt e = absurd (omega (arith, e))

pub overlay_end : (n : ℕ) (ws vs : List Val) → length vs ≤ n → length ws ≡ length vs → take n vs ++ overlay (drop n ws) (drop n vs) ≡ vs
overlay_end zero [] [] h e = refl
overlay_end (suc n) [] [] h e = refl
overlay_end zero ws (v ∷ vs) h e = absurd (omega (arith, h))
overlay_end (suc n) (w ∷ ws) (v ∷ vs) h e = ap (λ l. v ∷ l) (overlay_end n ws vs (omega (arith, h)) (omega (arith, e)))
overlay_end _ (w ∷ ws) [] h e = absurd (omega (arith, e))
overlay_end (suc n) [] (v ∷ vs) h e = absurd (omega (arith, e))
