-- A walk along an arm, step by step, and the step of a branch with its certificate.
use Rattle.std.proofs.Common.{◌≡◌, ◌≢◌, ℕ, zero, suc, ◌+◌, ◌<◌, ◌==◌, List, [], ◌∷◌, ◌++◌, find, refl, sym, ap, ◌∙◌, arith, Bool, true, false, cond, ◌&&◌, not, Option, Some, None, Result, Ok, Err}
use Rattle.std.specs.List.{slice_get}
use Rattle.std.proofs.lemmas.Bool.Decides.{nat_tests}
use Rattle.sm_words.specs.Words.{add16}
use Rattle.insn_decode.specs.Code.{distance, is_always}
use Rattle.insn_decode.specs.declared.insn.Insn.{Insn}
use Rattle.insn_decode.specs.declared.insn.Insn.TheVariants.{Jump}
use Rattle.cycle_table.specs.Cycles.{cycles_of}
use Rattle.mod_layout.specs.declared.Module.{Module}
use Rattle.arm_balance.specs.Met.{met}
use Rattle.arm_balance.specs.Balance.{arm_on}
use Rattle.arm_balance.specs.declared.Arm.{Arm}
use Rattle.flow_rule.specs.declared.AbstractState.{AbstractState}
use Rattle.flow_rule.specs.declared.Reason.TheVariants.{ArmTime}
use Rattle.flow_rule.specs.Iterations.{RuleViolation, PointState, FlowStep}
use Rattle.flow_rule.specs.declared.Val.{Val}
use Rattle.flow_rule.specs.declared.Val.TheVariants.{Secret}
use Rattle.flow_rule.specs.Values.{is_secret, set_each, val}
use Rattle.flow_rule.specs.Does.{plan_val, write_reaches}
use Rattle.flow_rule.specs.Violations.{violation_if}
use Rattle.flow_rule.specs.Arms.{written_regs, written_words, clobbered_core, Walk, Meets, Stops, clobbered_by, walked, walk_on, arm_violations, step_branch, step_arms_by, step_arms}
use Rattle.flow_check.specs.declared.violation.Violation.{Violation}
use Rattle.flow_check.specs.declared.branch.BranchSite.{BranchSite}
use Rattle.flow_check.specs.declared.arm.Tally.{Tally}
use Rattle.flow_check.specs.internal.Violations.{noted}
use Rattle.flow_check.specs.declared.program.Program.{Program}
use Rattle.flow_check.specs.internal.Programs.{flow, base_flow, flow_at, arm_walk}
use Rattle.flow_check.specs.internal.Points.{addrs_of, points_at, state_at}
use Rattle.flow_check.specs.internal.Arms.{untold, told_insn, tally_told, told_violations, told_state, site_from, site_by, step_at}
use Rattle.flow_check.proofs.Clobbering.{core_append, words_append}
use Rattle.flow_check.proofs.Violations.{noted_append}

-- ---- one step

-- what was told, at the join
told_joined : (t : Tally) → tally_told (Meets 0 [] []) t ≡ Ok t
told_joined t = ap (λ c. Ok (record t { cycles = c })) (let e : t.cycles + 0 ≡ t.cycles = omega arith in e)

abbrev told_as : ℕ → List Val → List Val → Result Tally ℕ
told_as cycles core words = Ok (record { cycles = cycles; state = record { core = core; words = words } })

-- where an instruction goes on, what it takes and writes may be told first
told_walked : (insn : Insn) (m : Module) (x : PointState) (rest : Walk) (t : Tally) →
    tally_told (walked (Some insn) m x rest) t
    ≡ tally_told rest (told_insn (cycles_of insn) insn m (plan_val insn x.point.addr x.state.core) t)
told_walked insn m x (Stops addr) t = refl
told_walked insn m x (Meets cycles regs words) t =
    let ws = written_words m (write_reaches (plan_val insn x.point.addr x.state.core)) in
    let time = t.cycles + cycles_of insn + cycles in
    let core = clobbered_core (written_regs insn ++ regs) t.state.core in
    ap (λ c. told_as c core (set_each (ws ++ words) Secret t.state.words))
    (let e : t.cycles + (cycles_of insn + cycles) ≡ t.cycles + cycles_of insn + cycles = omega arith in e)
    ∙ ap (λ v. told_as time core v) (words_append ws words t.state.words)
    ∙ ap (λ v. told_as time v (set_each words Secret (set_each ws Secret t.state.words)))
    (core_append (written_regs insn) regs t.state.core)

module _ (p : Program) (join : ℕ) where
  -- where an arm goes on from a point
  abbrev next_at : PointState → Option ℕ
  next_at x = arm_on p.module.now.text p.text.now join x.point.addr

  -- the walk from there, by a step's violations and gives
  abbrev onward : ℕ → Option ℕ → List RuleViolation → List PointState → PointState → Walk
  onward steps o rs gs x = walk_on o rs gs p.module.now p.text.now x (arm_walk p join steps)

  walk_at : (steps : ℕ) (x : PointState) (b : Bool) (o : Option ℕ) → (x.point.addr == join) ≡ b → next_at x ≡ o →
      arm_walk p join (suc steps) x
      ≡ cond b (Meets 0 [] []) (onward steps o (base_flow p x).violations (base_flow p x).gives x)
  walk_at steps x b o e on =
      let s = base_flow p x in
      ap (λ b. cond b (Meets 0 [] []) (onward steps (next_at x) s.violations s.gives x)) e
      ∙ ap (λ o. cond b (Meets 0 [] []) (onward steps o s.violations s.gives x)) on

  calm : (steps : ℕ) (x : PointState) (next : ℕ) → x.point.addr ≢ join → next_at x ≡ Some next → (base_flow p x).violations ≡ [] →
      arm_walk p join (suc steps) x ≡ onward steps (Some next) [] (base_flow p x).gives x
  calm steps x next ne on none =
      walk_at steps x false (Some next) (let f : (x.point.addr == join) ≡ false = grind (arith, nat_tests) in f) on
      ∙ ap (λ rs. onward steps (Some next) rs (base_flow p x).gives x) none

  -- an instruction that leaves the text
  pub walk_leaves : (steps : ℕ) (x : PointState) (t : Tally) (next : ℕ) → x.point.addr ≢ join → next_at x ≡ Some next →
      (base_flow p x).violations ≡ [] → (base_flow p x).gives ≡ [] → tally_told (arm_walk p join (suc steps) x) t ≡ Err next
  walk_leaves steps x t next ne on none out =
      ap (λ w. tally_told w t) (calm steps x next ne on none ∙ ap (λ gs. onward steps (Some next) [] gs x) out)

  -- an instruction that goes on
  pub walk_goes : (steps : ℕ) (x y : PointState) (ys : List PointState) (t : Tally) (next : ℕ) (insn : Insn) → x.point.addr ≢ join →
      next_at x ≡ Some next → met p.module.now.text p.text.now x.point.addr ≡ Some insn →
      (base_flow p x).violations ≡ [] → (base_flow p x).gives ≡ y ∷ ys →
      tally_told (arm_walk p join (suc steps) x) t
      ≡ tally_told (arm_walk p join steps y)
      (told_insn (cycles_of insn) insn p.module.now (plan_val insn x.point.addr x.state.core) t)
  walk_goes steps x y ys t next insn ne on it none go =
      ap (λ w. tally_told w t)
      (calm steps x next ne on none ∙ ap (λ gs. onward steps (Some next) [] gs x) go
      ∙ ap (λ o. walked o p.module.now x (arm_walk p join steps y)) it)
      ∙ told_walked insn p.module.now x (arm_walk p join steps y) t

  -- at the join with steps left
  pub walk_there : (left : ℕ) (x : PointState) (t : Tally) → 0 < left → x.point.addr ≡ join →
      tally_told (arm_walk p join left x) t ≡ Ok t
  walk_there zero x t h e = absurd (omega arith)
  walk_there (suc steps) x t h e =
      let f : (x.point.addr == join) ≡ true = grind (arith, nat_tests) in
      ap (λ w. tally_told w t) (walk_at steps x true (next_at x) f refl) ∙ told_joined t

-- what is given, by the first address
pub successors_first : (gs : List PointState) (ts rs : List ℕ) (l : AbstractState) (to : ℕ) → ts ≡ addrs_of gs → gs ≡ points_at (addrs_of gs) rs l → slice_get ts 0 ≡ Some to →
    (ys : List PointState) × (gs ≡ record { point = record { addr = to; call_string = rs }; state = state_at to l } ∷ ys)
successors_first gs [] rs l to et eg e = absurd cc
successors_first gs (t ∷ ts) rs l to et eg e =
    let f : t ≡ to = cc in
    (points_at ts rs l, eg ∙ ap (λ ts. points_at ts rs l) (sym et) ∙ ap (λ a. record { point = record { addr = a; call_string = rs }; state = state_at a l } ∷ points_at ts rs l) f)

pub successors_none : (gs : List PointState) (ts rs : List ℕ) (l : AbstractState) → ts ≡ addrs_of gs → gs ≡ points_at (addrs_of gs) rs l → slice_get ts 0 ≡ None → gs ≡ []
successors_none gs [] rs l et eg e = eg ∙ ap (λ ts. points_at ts rs l) (sym et)
successors_none gs (t ∷ ts) rs l et eg e = absurd cc

-- ---- the step of a branch

-- a step by its certificate
pub site_is : (S : PointState → FlowStep) (arms : List Arm) (m : Module) (text : List ℕ) (x : PointState) → step_arms S arms m text x ≡ step_at (site_by (met m.text text x.point.addr) arms x.point.addr (val x.state.core 2)) S m text x
unfolding step_arms
site_is S arms m text x = by (met m.text text x.point.addr)
  where
    by : (o : Option Insn) → step_arms_by o S arms m text x ≡ step_at (site_by o arms x.point.addr (val x.state.core 2)) S m text x
    by (Some (Jump c off)) = jump (not (is_always c) && is_secret (val x.state.core 2)) (find (λ arm. arm.branch == x.point.addr) arms)
      where
        target : ℕ
        target = add16 (add16 x.point.addr 2) (distance off)

        jump : (b : Bool) (a : Option Arm) → cond b (step_branch a S m text (Jump c off) x target) (S x) ≡ step_at (cond b (site_from a (Jump c off) target) None) S m text x
        jump true None = refl
        jump true (Some a) = refl
        jump false a = refl
    by _ = refl

-- the violations of an arm, by its walk
arm_told : (branch time number : ℕ) (w : Walk) (l : AbstractState) →
    told_violations branch time number (tally_told w (untold l)) ≡ arm_violations branch time number w
arm_told branch time number (Meets cycles regs words) l =
    ap (λ n. violation_if (not (n == time)) branch ArmTime number) (let e : 0 + cycles ≡ cycles = omega arith in e)
arm_told branch time number (Stops addr) l = refl

-- the state behind it
state_told : (w : Walk) (l : AbstractState) → told_state l (tally_told w (untold l)) ≡ clobbered_by w l
state_told (Meets cycles regs words) l = refl
state_told (Stops addr) l = refl

-- both arms, one after the other
module _ (l0 l1 : AbstractState) (w0 w1 : Walk) (r0 r1 : Result Tally ℕ) (first : r0 ≡ tally_told w0 (untold l0))
    (between : l1 ≡ told_state l0 r0) (second : r1 ≡ tally_told w1 (untold l1))
  where
    -- the least of the violations at a branch with a certificate
    pub site_least : (pc time : ℕ) (apart : List RuleViolation) (o0 o1 o2 o3 : Option Violation) → o1 ≡ noted apart o0 →
        o2 ≡ noted (told_violations pc time 0 r0) o1 → o3 ≡ noted (told_violations pc time 1 r1) o2 →
        o3 ≡ noted (apart ++ arm_violations pc time 0 w0 ++ arm_violations pc time 1 w1) o0
    site_least pc time apart o0 o1 o2 o3 e1 e2 e3 =
        let b : List RuleViolation = arm_violations pc time 0 w0 in
        let d : List RuleViolation = arm_violations pc time 1 w1 in
        let one : o2 ≡ noted b (noted apart o0) =
        e2 ∙ ap (λ rs. noted rs o1) (ap (told_violations pc time 0) first ∙ arm_told pc time 0 w0 l0)
        ∙ ap (noted b) e1 in
        e3 ∙ ap (λ rs. noted rs o2) (ap (told_violations pc time 1) second ∙ arm_told pc time 1 w1 l1)
        ∙ ap (noted d) one
        ∙ sym (noted_append (apart ++ b) d o0 ∙ ap (noted d) (noted_append apart b o0))

    -- Secret where the arms wrote
    pub site_told : told_state l1 r1 ≡ clobbered_by w1 (clobbered_by w0 l0)
    site_told =
        ap (told_state l1) second ∙ state_told w1 l1
        ∙ ap (clobbered_by w1) (between ∙ ap (told_state l0) first ∙ state_told w0 l0)

-- a step by what stands at the branch
abbrev site_there : Program → PointState → Option BranchSite
site_there p x = site_by (met p.module.now.text p.text.now x.point.addr) p.arms.now x.point.addr (val x.state.core 2)

pub by_site : (p : Program) (x : PointState) (o : Option BranchSite) (c : BranchSite) → o ≡ site_there p x → o ≡ Some c → flow p x ≡ flow_at p c x
by_site p x o c e f = site_is (base_flow p) p.arms.now p.module.now p.text.now x ∙ ap (λ o. step_at o (base_flow p) p.module.now p.text.now x) (sym e ∙ f)

pub by_none : (p : Program) (x : PointState) (o : Option BranchSite) → o ≡ site_there p x → o ≡ None → flow p x ≡ base_flow p x
by_none p x o e f = site_is (base_flow p) p.arms.now p.module.now p.text.now x ∙ ap (λ o. step_at o (base_flow p) p.module.now p.text.now x) (sym e ∙ f)
