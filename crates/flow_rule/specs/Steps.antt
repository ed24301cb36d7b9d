-- The transfer function at a program point: an instruction's violations, and the points and states that it gives.
use Rattle.std.specs.Prelude.{ℕ, Bool, List, [], ◌++◌, map, if◌then◌else◌, Option, Some, None}
use Rattle.sm_words.specs.Words.{word_at}
use Rattle.insn_decode.specs.declared.insn.Condition.{Condition}
use Rattle.insn_decode.specs.declared.insn.Insn.{Insn}
use Rattle.insn_decode.specs.declared.insn.Insn.TheVariants.{Jump, Reti, Unit as UnitOp}
use Rattle.insn_decode.specs.Code.{is_always}
use Rattle.insn_decode.specs.Means.{unit_code}
use Rattle.mod_layout.specs.declared.Module.{Module}
use Rattle.arm_balance.specs.Met.{text_byte, met}
use Rattle.attest.specs.Units.{UnitName, Unprotect, OwnId, CallerId}
use Rattle.flow_rule.specs.Terms.{Terms}
use Rattle.flow_rule.specs.declared.Val.TheVariants.{Public}
use Rattle.flow_rule.specs.Values.{FlagDomain, is_secret, val, put_val}
use Rattle.flow_rule.specs.declared.Reason.TheVariants.{SecretBranch, UnknownTarget, Illegal, Unit as UnitWord}
use Rattle.flow_rule.specs.Iterations.{PointState, FlowStep}
use Rattle.flow_rule.specs.Does.{plan_val, read_val, writes_val, read_reaches, write_reaches, does_val, past_val}
use Rattle.flow_rule.specs.Violations.{violation_if, reach_violations}
use Rattle.flow_rule.specs.Going.{closes, goes, both, also, fails}
use Rattle.flow_rule.specs.CallStrings.{return_turn}
use Rattle.cpu_step.specs.Effect.{jumps}

-- reads, the operation, the call string, writes
-- a return to another place than the newest address is refused
abbrev pub step_plain : FlagDomain → Terms → Module → List ℕ → Insn → PointState → FlowStep
step_plain flags terms m text insn x =
    let pc = x.point.addr in
    let xs = plan_val insn pc x.state.core in
    let values = map (read_val m text x.state.words) (read_reaches xs) in
    let d = does_val flags insn pc x.state.core values in
    let t = return_turn insn pc x.point.call_string values in
    also (reach_violations m pc xs ++ t.violations)
    (if t.stops then fails pc UnknownTarget 0 else goes terms m pc t.call_string d.core (writes_val m x.state.words (write_reaches xs) d.stored))

-- a jump goes one way under flags that are known, else both, where they are not secret
abbrev pub turns_by : Option ℕ → Bool → ℕ → Condition → FlowStep → FlowStep → FlowStep
turns_by (Some f) secret pc condition taken on = if jumps condition f then taken else on
turns_by None secret pc condition taken on = also (violation_if secret pc SecretBranch 0) (both taken on)

-- a jump that is always taken has one way; any other has both, and its flags may not be secret
abbrev pub step_jump : FlagDomain → Terms → Module → List ℕ → Insn → Condition → PointState → FlowStep
step_jump flags terms m text insn condition x =
    let pc = x.point.addr in
    let taken = goes terms m pc x.point.call_string (does_val flags insn pc x.state.core []).core x.state.words in
    if is_always condition then taken
    else turns_by (flags.known (val x.state.core 2)) (is_secret (val x.state.core 2)) pc condition taken (goes terms m pc x.point.call_string (past_val insn pc x.state.core) x.state.words)

-- unprotect closes; own id and caller id are public; the others are refused
abbrev pub step_unit : Terms → Module → Insn → UnitName → PointState → FlowStep
step_unit terms m insn Unprotect x = closes terms x.point.addr x.state.core
step_unit terms m insn OwnId x = goes terms m x.point.addr x.point.call_string (put_val (past_val insn x.point.addr x.state.core) 15 Public) x.state.words
step_unit terms m insn CallerId x = goes terms m x.point.addr x.point.call_string (put_val (past_val insn x.point.addr x.state.core) 15 Public) x.state.words
step_unit terms m insn name x = fails x.point.addr UnitWord (unit_code name)

abbrev pub step_insn : FlagDomain → Terms → Module → List ℕ → Option Insn → PointState → FlowStep
step_insn flags terms m text None x = fails x.point.addr Illegal (word_at (text_byte m.text text) x.point.addr)
step_insn flags terms m text (Some Reti) x = fails x.point.addr Illegal (word_at (text_byte m.text text) x.point.addr)
step_insn flags terms m text (Some (Jump condition off)) x = step_jump flags terms m text (Jump condition off) condition x
step_insn flags terms m text (Some (UnitOp name)) x = step_unit terms m (UnitOp name) name x
step_insn flags terms m text (Some insn) x = step_plain flags terms m text insn x

-- the step at a point: what is met at its address
abbrev pub step_of : FlagDomain → Terms → Module → List ℕ → PointState → FlowStep
step_of flags terms m text x = step_insn flags terms m text (met m.text text x.point.addr) x
