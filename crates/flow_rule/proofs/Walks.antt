-- What is met at a point of an arm adds its cycles and what it writes to the rest of the walk.
use Rattle.std.proofs.Common.{◌≡◌, ℕ, ◌+◌, ◌==◌, List, [], ◌++◌, refl, ap, arith, Bool, true, false, cond, ◌&&◌, not, Option, Some, None}
use Rattle.std.proofs.lemmas.Bool.Decides.{nat_tests}
use Rattle.insn_decode.specs.declared.insn.Insn.{Insn}
use Rattle.mod_layout.specs.declared.Module.{Module}
use Rattle.cycle_table.specs.Cycles.{cycles_of}
use Rattle.flow_rule.specs.declared.Reason.TheVariants.{ArmTime}
use Rattle.flow_rule.specs.Iterations.{PointState}
use Rattle.flow_rule.specs.Does.{plan_val, write_reaches}
use Rattle.flow_rule.specs.Violations.{violation_if}
use Rattle.flow_rule.specs.Arms.{written_regs, written_words, Walk, Meets, Stops, walked, arm_violations}

abbrev pub met_cycles : Option Insn → ℕ
met_cycles None = 0
met_cycles (Some insn) = cycles_of insn

abbrev pub met_regs : Option Insn → List ℕ
met_regs None = []
met_regs (Some insn) = written_regs insn

abbrev pub met_words : Option Insn → Module → PointState → List ℕ
met_words None m x = []
met_words (Some insn) m x = written_words m (write_reaches (plan_val insn x.point.addr x.state.core))

-- a walk that comes to the join
abbrev pub MeetsJoin : Walk → Type 0
MeetsJoin (Meets cycles regs words) = Unit {0}
MeetsJoin (Stops addr) = ⊥

-- its cycles, and what it writes
abbrev pub time_to : Walk → ℕ
time_to (Meets cycles regs words) = cycles
time_to (Stops addr) = 0

abbrev pub walk_regs : Walk → List ℕ
walk_regs (Meets cycles regs words) = regs
walk_regs (Stops addr) = []

abbrev pub walk_words : Walk → List ℕ
walk_words (Meets cycles regs words) = words
walk_words (Stops addr) = []

-- the rest of a walk behind what is met, which writes these words
abbrev pub with_met : Option Insn → List ℕ → Walk → Walk
with_met o ws (Meets cycles regs words) = Meets (met_cycles o + cycles) (met_regs o ++ regs) (ws ++ words)
with_met o ws (Stops addr) = Stops addr

pub is_met : (o : Option Insn) (m : Module) (x : PointState) (rest : Walk) → MeetsJoin (walked o m x rest) →
    walked o m x rest ≡ with_met o (met_words o m x) rest
is_met None m x rest meets = absurd meets
is_met (Some insn) m x (Meets cycles regs words) meets = refl
is_met (Some insn) m x (Stops addr) meets = refl

-- from two points at one address, where the same words are written
pub walked_alike : (o : Option Insn) (m : Module) (x z : PointState) (rest : Walk) → x.point.addr ≡ z.point.addr →
    met_words o m x ≡ met_words o m z → walked o m x rest ≡ walked o m z rest
walked_alike None m x z rest addr same = ap (λ a. Stops a) addr
walked_alike (Some insn) m x z (Meets cycles regs words) addr same =
    ap (λ ws. Meets (cycles_of insn + cycles) (written_regs insn ++ regs) (ws ++ words)) same
walked_alike (Some insn) m x z (Stops a) addr same = refl

-- the rest comes to the join too
pub met_rest : (o : Option Insn) (m : Module) (x : PointState) (rest : Walk) → MeetsJoin (walked o m x rest) → MeetsJoin rest
met_rest o m x (Meets cycles regs words) meets = tt
met_rest None m x (Stops addr) meets = meets
met_rest (Some insn) m x (Stops addr) meets = meets

-- where an arm goes on from a jump, the jump is always taken
pub if_always : (a b c : Bool) (to next : ℕ) → cond (a && b && c) (Some to) None ≡ Some next → a ≡ true
if_always true b c to next e = refl
if_always false b c to next e = absurd cc

-- an arm without a violation comes to the join in its time
pub on_time : (branch time number : ℕ) (w : Walk) → arm_violations branch time number w ≡ [] →
    MeetsJoin w × (time_to w ≡ time)
on_time branch time number (Meets cycles regs words) none = (tt, by (cycles == time) refl none)
  where
    by : (b : Bool) → (cycles == time) ≡ b → violation_if (not b) branch ArmTime number ≡ [] → cycles ≡ time
    by true e none = grind (arith, nat_tests)
    by false e none = absurd cc
on_time branch time number (Stops addr) none = absurd cc
