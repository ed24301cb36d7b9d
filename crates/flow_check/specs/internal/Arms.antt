-- What the arms of a secret branch tell, gathered along the way.
use Rattle.std.specs.Prelude.{ℕ, ◌+◌, ◌==◌, ◌&&◌, not, true, if◌then◌else◌, List, [], ◌∷◌, find, Option, Some, None, Result, Ok, Err}
use Rattle.insn_decode.specs.declared.insn.Insn.{Insn}
use Rattle.insn_decode.specs.declared.insn.Insn.TheVariants.{Jump}
use Rattle.insn_decode.specs.declared.insn.OneOp.{OneOp}
use Rattle.insn_decode.specs.declared.insn.OneOp.TheVariants.{Push}
use Rattle.insn_decode.specs.declared.insn.Operand.{Operand}
use Rattle.insn_decode.specs.Code.{distance, is_always}
use Rattle.sm_words.specs.Words.{add16}
use Rattle.mod_layout.specs.declared.Module.{Module}
use Rattle.arm_balance.specs.declared.Arm.{Arm}
use Rattle.flow_rule.specs.declared.AbstractState.{AbstractState}
use Rattle.flow_rule.specs.declared.Reach.{Reach}
use Rattle.flow_rule.specs.declared.Reason.TheVariants.{Arm as ArmInsn, ArmTime}
use Rattle.flow_rule.specs.declared.Val.{Val}
use Rattle.flow_rule.specs.Values.{is_secret}
use Rattle.flow_rule.specs.Iterations.{PointState, RuleViolation, FlowStep}
use Rattle.flow_rule.specs.Violations.{violation, violation_if}
use Rattle.flow_rule.specs.Does.{write_reaches}
use Rattle.flow_rule.specs.Arms.{Walk, Meets, Stops, written_reg, written_regs, written_words, clobbered_by, step_arm}
use Rattle.flow_check.specs.declared.arm.Tally.{Tally}
use Rattle.flow_check.specs.declared.branch.BranchSite.{BranchSite}

-- nothing is told yet
abbrev pub untold : AbstractState → Tally
untold s = record { cycles = 0; state = s }

-- what was told, and an instruction: so many cycles, and Secret where it writes with these accesses
abbrev pub told_insn : ℕ → Insn → Module → List Reach → Tally → Tally
told_insn time insn m xs t = record {
  cycles = t.cycles + time;
  state = clobbered_by (Meets time (written_regs insn) (written_words m (write_reaches xs))) t.state;
}

-- what was told, and a walk's part: its cycles and Secret where it writes; or the address where it stops
abbrev pub tally_told : Walk → Tally → Result Tally ℕ
tally_told (Meets cycles regs words) t =
    Ok (record { cycles = t.cycles + cycles; state = clobbered_by (Meets cycles regs words) t.state })
tally_told (Stops addr) t = Err addr

-- the violations of an arm, by what its walk told
abbrev pub told_violations : ℕ → ℕ → ℕ → Result Tally ℕ → List RuleViolation
told_violations branch time number (Ok t) = violation_if (not (t.cycles == time)) branch ArmTime number
told_violations branch time number (Err addr) = violation branch ArmInsn addr

-- the state behind an arm: as before where it stops
abbrev pub told_state : AbstractState → Result Tally ℕ → AbstractState
told_state s (Ok t) = t.state
told_state s (Err addr) = s

abbrev pub site_from : Option Arm → Insn → ℕ → Option BranchSite
site_from None insn target = None
site_from (Some arm) insn target = Some (record { insn = insn; target = target; arm = arm })

-- a conditional jump with Secret flags whose address is a branch of the certificates
abbrev pub site_by : Option Insn → List Arm → ℕ → Val → Option BranchSite
site_by (Some (Jump c off)) arms pc flags =
    if not (is_always c) && is_secret flags then site_from (find (λ arm. arm.branch == pc) arms) (Jump c off) (add16 (add16 pc 2) (distance off))
    else None
site_by insn arms pc flags = None

-- a step by the certificate, where there is one
abbrev pub step_at : Option BranchSite → (PointState → FlowStep) → Module → List ℕ → PointState → FlowStep
step_at None step m text x = step x
step_at (Some c) step m text x = step_arm step m text c.insn c.target c.arm x

-- what an instruction of format II writes besides its increment
abbrev pub one_regs : OneOp → Operand → List ℕ
one_regs Push a = 1 ∷ []
one_regs op a = written_reg true a
