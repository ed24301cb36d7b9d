-- Worked rows, by computation.
use Rattle.std.proofs.Common.{◌≡◌, ℕ, ◌%◌, ◌/◌, List, [], ◌∷◌, ◌++◌, refl, length, pos}
use Rattle.std.specs.Prelude.{replicate}
use Rattle.insn_decode.specs.Code.{insn_of}
use Rattle.insn_decode.specs.declared.insn.Condition.TheVariants.{Zero}
use Rattle.insn_decode.specs.declared.insn.Insn.TheVariants.{Jump}
use Rattle.flow_rule.specs.Values.{blurred_flags}
use Rattle.flow_rule.specs.Terms.{no_terms}
use Rattle.flow_rule.specs.declared.Val.{Val}
use Rattle.flow_rule.specs.declared.Val.TheVariants.{Known, Public, Secret}
use Rattle.mod_layout.specs.declared.Module.{Module}
use Rattle.flow_rule.specs.declared.Reason.TheVariants.{SecretBranch, UnknownTarget, SecretAtExit, ArmTime}
use Rattle.flow_rule.specs.Iterations.{PointState, RuleViolation, iterations, all_violations}
use Rattle.flow_rule.specs.Does.{plan_val, does_val}
use Rattle.cycle_table.specs.Cycles.{cycles_of}
use Rattle.arm_balance.specs.declared.Arm.{Arm}
use Rattle.flow_rule.specs.Arms.{Walk, Meets, Stops, first_walk, second_walk, flow_under, step_arms}
use Rattle.flow_rule.specs.Violations.{violation}
use Rattle.flow_rule.specs.Stub.{has_stub}
use Rattle.flow_rule.specs.Verdict.{flow_step, start_under}
use Rattle.arm_balance.specs.Met.{met}

bytes_of : List ℕ → List ℕ
bytes_of [] = []
bytes_of (w ∷ ws) = w % 256 ∷ w / 256 ∷ bytes_of ws

abbrev module_of : ℕ → ℕ → ℕ → ℕ → Module
module_of a b c d = record { id = 1; vendor = 7; text = record { start = a; end = b }; ram = record { start = c; end = d } }

abbrev after_iterations : ℕ → Module → List ℕ → List PointState
after_iterations n m text = iterations (flow_step blurred_flags no_terms m text) (start_under no_terms m text) n

abbrev violations_after : ℕ → Module → List ℕ → List RuleViolation
violations_after n m text = all_violations (flow_step blurred_flags no_terms m text) (after_iterations n m text)

row_22_yes : violations_after 3 (module_of 0x0300 0x0306 0x0400 0x0402) (bytes_of (0x4305 ∷ 0x4030 ∷ 0x0214 ∷ [])) ≡ []
unfolding bytes_of met has_stub plan_val does_val insn_of
row_22_yes = refl

row_22_fixed : after_iterations 3 (module_of 0x0300 0x0306 0x0400 0x0402) (bytes_of (0x4305 ∷ 0x4030 ∷ 0x0214 ∷ [])) ≡ after_iterations 2 (module_of 0x0300 0x0306 0x0400 0x0402) (bytes_of (0x4305 ∷ 0x4030 ∷ 0x0214 ∷ []))
unfolding bytes_of met has_stub plan_val does_val insn_of
row_22_fixed = refl

row_10_text : List ℕ
row_10_text = 0x9382 ∷ 0x0400 ∷ 0x2404 ∷ 0x4215 ∷ 0x0400 ∷ 0x4303 ∷ 0x3c05 ∷ 0x4303 ∷ 0x4303 ∷ 0x4303 ∷ 0x4303 ∷ 0x3c00 ∷ 0x4305 ∷ 0xc032 ∷ 0x0107 ∷ 0x4030 ∷ 0x0214 ∷ []

row_22_no : violations_after 20 (module_of 0x0300 0x0322 0x0400 0x0402) (bytes_of row_10_text) ≡ violation 0x0304 SecretBranch 0
unfolding bytes_of row_10_text met has_stub plan_val does_val insn_of
row_22_no = refl

stub_text : List ℕ → List ℕ
stub_text f =
    0x9037 ∷ 0x0800 ∷ 0x2804 ∷ 0x9037 ∷ 0x0850 ∷ 0x2c01 ∷ 0x3fff ∷ 0x9036 ∷ 0x0001 ∷ 0x2c1a ∷ 0x4182 ∷ 0x0a00 ∷ 0x4782 ∷ 0x0a02 ∷ 0x4031 ∷ 0x0a24 ∷ 0x5606 ∷ 0x1296 ∷ 0x084c ∷ 0x4211 ∷ 0x0a00
    ∷ 0x4304 ∷ 0x4305 ∷ 0x4306 ∷ 0x4307 ∷ 0x4308 ∷ 0x4309 ∷ 0x430a ∷ 0x430b ∷ 0x430d ∷ 0x430e ∷ 0x430f ∷ 0xc032 ∷ 0x0107 ∷ 0x4210 ∷ 0x0a02 ∷ 0x430c ∷ 0x4700 ∷ 0x084e ∷ f

stub_yes : violations_after 24 (module_of 0x0800 0x0850 0x0a00 0x0a24) (bytes_of (stub_text (0x4130 ∷ []))) ≡ []
unfolding bytes_of stub_text met has_stub plan_val does_val insn_of
stub_yes = refl

stub_length : length (after_iterations 24 (module_of 0x0800 0x0850 0x0a00 0x0a24) (bytes_of (stub_text (0x4130 ∷ [])))) ≡ 20
unfolding bytes_of stub_text met has_stub plan_val does_val insn_of
stub_length = refl

back_text : List ℕ
back_text =
    0x9037 ∷ 0x0800 ∷ 0x2804 ∷ 0x9037 ∷ 0x0852 ∷ 0x2c01 ∷ 0x3fff ∷ 0x9036 ∷ 0x0001 ∷ 0x2c1a ∷ 0x4182 ∷ 0x0a00 ∷ 0x4782 ∷ 0x0a02 ∷ 0x4031 ∷ 0x0a24 ∷ 0x5606 ∷ 0x1296 ∷ 0x084c ∷ 0x4211 ∷ 0x0a00
    ∷ 0x4304 ∷ 0x4305 ∷ 0x4306 ∷ 0x4307 ∷ 0x4308 ∷ 0x4309 ∷ 0x430a ∷ 0x430b ∷ 0x430d ∷ 0x430e ∷ 0x430f ∷ 0xc032 ∷ 0x0107 ∷ 0x4210 ∷ 0x0a02 ∷ 0x430c ∷ 0x4700 ∷ 0x084e ∷ 0x4030 ∷ 0x0820 ∷ []

stub_no : violations_after 24 (module_of 0x0800 0x0852 0x0a00 0x0a24) (bytes_of back_text)
    ≡ violation 0x084e UnknownTarget 0
unfolding bytes_of back_text met has_stub plan_val does_val insn_of
stub_no = refl

with_arms : List Arm → List RuleViolation
unfolding row_10_text bytes_of
with_arms arms =
    let m = module_of 0x0300 0x0322 0x0400 0x0402 in
    let text = bytes_of row_10_text in
    all_violations (flow_under blurred_flags no_terms m text arms) (iterations (flow_under blurred_flags no_terms m text arms) (start_under no_terms m text) 20)

arms_yes : with_arms (record { branch = 0x0304; join = 0x0318; cycles = 6 } ∷ []) ≡ []
unfolding with_arms row_10_text bytes_of step_arms met has_stub plan_val does_val insn_of cycles_of
arms_yes = refl

arms_time : with_arms (record { branch = 0x0304; join = 0x0318; cycles = 7 } ∷ []) ≡ violation 0x0304 ArmTime 0 ++ violation 0x0304 ArmTime 1
unfolding with_arms row_10_text bytes_of step_arms met has_stub plan_val does_val insn_of cycles_of
arms_time = refl

arms_late : with_arms (record { branch = 0x0304; join = 0x031a; cycles = 7 } ∷ []) ≡ violation 0x031e SecretAtExit 5
unfolding with_arms row_10_text bytes_of step_arms met has_stub plan_val does_val insn_of cycles_of
arms_late = refl

-- a return through an address that was put there is none to the last address
away_text : List ℕ
away_text =
    0x9037 ∷ 0x0800 ∷ 0x2804 ∷ 0x9037 ∷ 0x0854 ∷ 0x2c01 ∷ 0x3fff ∷ 0x9036 ∷ 0x0001 ∷ 0x2c1a ∷ 0x4182 ∷ 0x0a00 ∷ 0x4782 ∷ 0x0a02 ∷ 0x4031 ∷ 0x0a24 ∷ 0x5606 ∷ 0x1296 ∷ 0x084c ∷ 0x4211 ∷ 0x0a00
    ∷ 0x4304 ∷ 0x4305 ∷ 0x4306 ∷ 0x4307 ∷ 0x4308 ∷ 0x4309 ∷ 0x430a ∷ 0x430b ∷ 0x430d ∷ 0x430e ∷ 0x430f ∷ 0xc032 ∷ 0x0107 ∷ 0x4210 ∷ 0x0a02 ∷ 0x430c ∷ 0x4700 ∷ 0x084e ∷ 0x4781 ∷ 0x0000 ∷ 0x4130 ∷ []

away_no : violations_after 24 (module_of 0x0800 0x0854 0x0a00 0x0a24) (bytes_of away_text)
    ≡ violation 0x0852 UnknownTarget 0
unfolding bytes_of away_text met has_stub plan_val does_val insn_of
away_no = refl

-- both arms of a branch at 0x0300 write the word to which R4 points, and meet at 0x030e
branch_text : List ℕ
branch_text = 0x2403 ∷ 0x4584 ∷ 0x0000 ∷ 0x3c03 ∷ 0x4684 ∷ 0x0000 ∷ 0x3c00 ∷ 0x4700 ∷ []

-- at the branch, by what is known of R4, of R5, and of all other registers and words
abbrev branch_at : Val → Val → Val → PointState
branch_at four five other = record {
  point = record { addr = 0x0300; call_string = [] };
  state = record {
    core = Known 0x0300 ∷ other ∷ Secret ∷ Known 0 ∷ four ∷ five ∷ replicate 10 other;
    words = replicate 256 other;
  };
}

branch_told : PointState → Walk × Walk
unfolding branch_text bytes_of
branch_told x =
    let m = module_of 0x0300 0x0310 0x0400 0x0402 in
    let text = bytes_of branch_text in
    let arm : Arm = record { branch = 0x0300; join = 0x030e; cycles = 6 } in (
      first_walk (flow_step blurred_flags no_terms m text) m text (Jump Zero (pos 3)) arm x,
      second_walk (flow_step blurred_flags no_terms m text) m text
          (Jump Zero (pos 3)) 0x0308 arm x,
    )

arm_writes : Walk
arm_writes = Meets 6 [] (0 ∷ [])

branch_top : branch_told (branch_at (Known 0x0400) Secret Secret) ≡ (arm_writes, arm_writes)
unfolding branch_told arm_writes branch_text bytes_of met has_stub plan_val does_val insn_of cycles_of
branch_top = refl

branch_low : branch_told (branch_at (Known 0x0400) (Known 5) Public) ≡ (arm_writes, arm_writes)
unfolding branch_told arm_writes branch_text bytes_of met has_stub plan_val does_val insn_of cycles_of
branch_low = refl

-- where R4 is not known, the arms have violations, and no state is spoken of
branch_lost : branch_told (branch_at Public Secret Secret) ≡ (Stops 0x0302, Stops 0x0308)
unfolding branch_told branch_text bytes_of met has_stub plan_val does_val insn_of cycles_of
branch_lost = refl
