-- Call strings: the return addresses of a program point, the newest last.
use Rattle.std.specs.Prelude.{ℕ, ◌-◌, ◌*◌, List, [], ◌∷◌, ◌++◌, length, take, slice_index, ◌==◌, nat_lt, nat_le, if◌then◌else◌, Bool, false, ◌&&◌, not}
use Rattle.sm_words.specs.Words.{nth, add16}
use Rattle.insn_decode.specs.Code.{length_of}
use Rattle.sm_words.specs.declared.width.Width.TheVariants.{Word}
use Rattle.insn_decode.specs.declared.insn.TwoOp.TheVariants.{Mov}
use Rattle.insn_decode.specs.declared.insn.OneOp.TheVariants.{Call}
use Rattle.insn_decode.specs.declared.insn.Operand.TheVariants.{Reg, Increment}
use Rattle.insn_decode.specs.declared.insn.Insn.{Insn}
use Rattle.insn_decode.specs.declared.insn.Insn.TheVariants.{Two, One}
use Rattle.flow_rule.specs.declared.Val.{Val}
use Rattle.flow_rule.specs.declared.Val.TheVariants.{Known, Secret}
use Rattle.flow_rule.specs.declared.Reason.TheVariants.{UnknownTarget}
use Rattle.flow_rule.specs.Iterations.{RuleViolation}
use Rattle.flow_rule.specs.Violations.{violation_if}

-- how many return addresses a program point may have
abbrev pub most_calls : ℕ
most_calls = 8

-- this value is the newest return address
abbrev pub last_is : Val → List ℕ → Bool
last_is (Known v) xs = nat_lt 0 (length xs) && (v == slice_index xs (length xs - 1))
last_is _ xs = false

-- without the newest
abbrev pub pop_call : List ℕ → List ℕ
pop_call xs = take (length xs - 1) xs

-- what an instruction makes of the call string
pub record ReturnTurn : Type 0 where
  pub violations : List RuleViolation
  pub call_string : List ℕ
  pub stops : Bool  -- a return to another place than the last address

-- a call to an address: its return address comes last
abbrev pub calls : ℕ → List ℕ → ℕ → ReturnTurn
calls pc call_string from = record { violations = violation_if (nat_le most_calls (length call_string)) pc UnknownTarget 0; call_string = call_string ++ from ∷ []; stops = false }

-- the call string after an instruction whose reads gave these values
abbrev pub return_turn : Insn → ℕ → List ℕ → List Val → ReturnTurn
return_turn (One Call w a) pc call_string values = calls pc call_string (add16 pc (2 * length_of (One Call w a)))
return_turn (Two Mov Word (Increment r) (Reg d)) pc call_string values =
    if (r == 1) && (d == 0) then record { violations = []; call_string = pop_call call_string; stops = not (last_is (nth 0 values Secret) call_string) }
    else record { violations = []; call_string = call_string; stops = false }
return_turn insn pc call_string values = record { violations = []; call_string = call_string; stops = false }
