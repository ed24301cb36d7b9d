-- Secret branches whose arms meet again, at a join (a merge point), in equal times.
use Rattle.arm_balance.specs.declared.Arm.{Arm}
use Rattle.arm_balance.specs.Met.{met}
use Rattle.arm_balance.specs.Balance.{arm_on}
use Rattle.cycle_table.specs.Cycles.{cycles_of}
use Rattle.std.specs.Prelude.{ℕ, zero, suc, ◌+◌, List, [], ◌∷◌, ◌++◌, slice_set, fold, find, ◌==◌, if◌then◌else◌, Bool, true, ◌&&◌, not, Option, Some, None}
use Rattle.sm_words.specs.Words.{add16, kept}
use Rattle.insn_decode.specs.Code.{distance, is_always}
use Rattle.cpu_step.specs.Plan.{writes_dst}
use Rattle.insn_decode.specs.declared.insn.OneOp.TheVariants.{Push}
use Rattle.insn_decode.specs.declared.insn.Operand.{Operand}
use Rattle.insn_decode.specs.declared.insn.Operand.TheVariants.{Reg, Increment}
use Rattle.insn_decode.specs.declared.insn.Insn.{Insn}
use Rattle.insn_decode.specs.declared.insn.Insn.TheVariants.{Two, One, Jump}
use Rattle.mod_layout.specs.declared.Module.{Module}
use Rattle.mod_layout.specs.Table.{holds}
use Rattle.flow_rule.specs.Terms.{Terms, no_terms}
use Rattle.flow_rule.specs.declared.AbstractState.{AbstractState}
use Rattle.flow_rule.specs.declared.Val.{Val}
use Rattle.flow_rule.specs.declared.Val.TheVariants.{Known, Secret}
use Rattle.flow_rule.specs.Values.{FlagDomain, is_secret, set_each, val, put_val, blurred_flags}
use Rattle.flow_rule.specs.declared.Reason.TheVariants.{Arm as ArmInsn, ArmTime}
use Rattle.flow_rule.specs.Iterations.{PointState, RuleViolation, FlowStep}
use Rattle.flow_rule.specs.declared.Reach.{Reach}
use Rattle.flow_rule.specs.Does.{plan_val, write_reaches, word_no, does_val, past_val}
use Rattle.flow_rule.specs.declared.Verdict.{Verdict}
use Rattle.flow_rule.specs.Violations.{violation, violation_if}
use Rattle.flow_rule.specs.Verdict.{start_under, flow_step, Decided}

-- what an instruction writes
abbrev pub stepped_regs : Operand → List ℕ
stepped_regs (Increment r) = r ∷ []
stepped_regs _ = []

abbrev pub written_reg : Bool → Operand → List ℕ
written_reg true (Reg r) = r ∷ []
written_reg _ o = []

abbrev pub written_regs : Insn → List ℕ
written_regs (Two op w s d) = stepped_regs s ++ written_reg (writes_dst op) d
written_regs (One Push w a) = stepped_regs a ++ 1 ∷ []
written_regs (One op w a) = stepped_regs a ++ written_reg true a
written_regs _ = []

abbrev pub written_words : Module → List Reach → List ℕ
written_words m [] = []
written_words m (x ∷ xs) = elim x.addr [ Known a ↦ word_no m a ∷ written_words m xs | _ ↦ written_words m xs ]

-- Secret in these registers, which keep their rules: R3 stays Known 0
abbrev pub clobbered_core : List ℕ → List Val → List Val
clobbered_core regs core = fold (λ vs n. put_val vs n Secret) core regs

-- how an arm goes: to the join in so many cycles, writing these registers and words; or no further than this address,
-- where no instruction of an arm stands, or one with a violation
pub data Walk : Type 0 where
  Meets : (cycles : ℕ) (regs words : List ℕ) → Walk
  Stops : (addr : ℕ) → Walk

-- Secret where a walk to the join writes
abbrev pub clobbered_by : Walk → AbstractState → AbstractState
clobbered_by (Meets cycles regs words) s =
    record { core = clobbered_core regs s.core; words = set_each words Secret s.words }
clobbered_by (Stops addr) s = s

-- an instruction of an arm, and the rest of it; where none is met the arm stops
abbrev pub walked : Option Insn → Module → PointState → Walk → Walk
walked None m x rest = Stops x.point.addr
walked (Some insn) m x (Stops addr) = Stops addr
walked (Some insn) m x (Meets cycles regs words) =
    let ws = written_words m (write_reaches (plan_val insn x.point.addr x.state.core)) in
    Meets (cycles_of insn + cycles) (written_regs insn ++ regs) (ws ++ words)

-- from a point, by where an arm goes on from its instruction, and by what its step gives: a step out of the text has no
-- violation, and the arm stops at the address outside
abbrev pub walk_on : Option ℕ → List RuleViolation → List PointState → Module → List ℕ → PointState → (PointState → Walk) → Walk
walk_on None rs gs m text x rest = Stops x.point.addr
walk_on (Some next) (r ∷ rs) gs m text x rest = Stops x.point.addr
walk_on (Some next) [] [] m text x rest = Stops next
walk_on (Some next) [] (y ∷ ys) m text x rest = walked (met m.text text x.point.addr) m x (rest y)

-- from a point to the join, by these steps
abbrev pub walk : (PointState → FlowStep) → Module → List ℕ → ℕ → ℕ → PointState → Walk
walk step m text join zero x = Stops x.point.addr
walk step m text join (suc fuel) x =
    let s = step x in
    let rest = walk_on (arm_on m.text text join x.point.addr) s.violations s.gives
    m text x (walk step m text join fuel) in
    if x.point.addr == join then Meets 0 [] [] else rest

-- where an arm begins: past the jump, or at its target
abbrev pub arm_start : Insn → ℕ → PointState → List Val → PointState
arm_start insn a x core = record { point = record { addr = kept 0 a; call_string = x.point.call_string }; state = record { core = core; words = x.state.words } }

-- along the arm that the jump does not take, and along the one that it takes
abbrev pub first_walk : (PointState → FlowStep) → Module → List ℕ → Insn → Arm → PointState → Walk
first_walk step m text insn arm x =
    let pc = x.point.addr in
    walk step m text arm.join (suc arm.join) (arm_start insn (add16 pc 2) x (past_val insn pc x.state.core))

abbrev pub second_walk : (PointState → FlowStep) → Module → List ℕ → Insn → ℕ → Arm → PointState → Walk
second_walk step m text insn target arm x =
    walk step m text arm.join (suc arm.join) (arm_start insn target x (does_val blurred_flags insn x.point.addr x.state.core []).core)

-- an arm that stops has a violation by Arm with the address, one of another time by ArmTime with its number
abbrev pub arm_violations : ℕ → ℕ → ℕ → Walk → List RuleViolation
arm_violations branch time number (Meets cycles regs words) = violation_if (not (cycles == time)) branch ArmTime number
arm_violations branch time number (Stops addr) = violation branch ArmInsn addr

-- the rule of a branch with a certificate
abbrev pub step_arm : (PointState → FlowStep) → Module → List ℕ → Insn → ℕ → Arm → PointState → FlowStep
step_arm step m text insn target arm x =
    let pc = x.point.addr in
    let w0 = first_walk step m text insn arm x in
    let w1 = second_walk step m text insn target arm x in
    let s = clobbered_by w1 (clobbered_by w0 x.state) in
    record {
      violations = violation_if (not (holds m.text arm.join)) pc ArmInsn arm.join
          ++ arm_violations pc arm.cycles 0 w0 ++ arm_violations pc arm.cycles 1 w1;
      gives = record {
        point = record { addr = arm.join; call_string = x.point.call_string };
        state = record { core = slice_set s.core 0 (Known arm.join); words = s.words };
      } ∷ [];
    }

abbrev pub step_branch : Option Arm → (PointState → FlowStep) → Module → List ℕ → Insn → PointState → ℕ → FlowStep
step_branch None step m text insn x target = step x
step_branch (Some arm) step m text insn x target = step_arm step m text insn target arm x

-- only a conditional jump with Secret flags whose address is a branch of the list is taken otherwise
abbrev pub step_arms_by : Option Insn → (PointState → FlowStep) → List Arm → Module → List ℕ → PointState → FlowStep
step_arms_by (Some (Jump condition off)) step arms m text x =
    if not (is_always condition) && is_secret (val x.state.core 2) then step_branch (find (λ arm. arm.branch == x.point.addr) arms) step m text (Jump condition off) x (add16 (add16 x.point.addr 2) (distance off)) else step x
step_arms_by o step arms m text x = step x

unfoldable pub step_arms : (PointState → FlowStep) → List Arm → Module → List ℕ → PointState → FlowStep
step_arms step arms m text x = step_arms_by (met m.text text x.point.addr) step arms m text x

-- the step under terms and with certificates
abbrev pub flow_under : FlagDomain → Terms → Module → List ℕ → List Arm → PointState → FlowStep
flow_under flags terms m text arms = step_arms (flow_step flags terms m text) arms m text

-- the verdict of a text under terms, with these certificates or with none
abbrev pub VerdictUnder : Terms → Module → List ℕ → List Arm → Verdict → Type 0
VerdictUnder terms m text arms a = Decided (flow_under blurred_flags terms m text arms) (start_under terms m text) m.text.start a

-- the same where nothing is told
abbrev pub VerdictWith : Module → List ℕ → List Arm → Verdict → Type 0
VerdictWith m text arms a = VerdictUnder no_terms m text arms a
