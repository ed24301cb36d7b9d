-- The order of violations.
use Rattle.std.specs.Prelude.{ℕ, zero, suc, ◌+◌, ◌==◌, ◌&&◌, ◌||◌, nat_lt, Bool, true, false}
use Rattle.std.specs.Prelude.{List, [], ◌∷◌, ◌++◌, Option, Some, None}
use Rattle.flow_rule.specs.Iterations.{RuleViolation}
use Rattle.mod_layout.specs.declared.Module.{Module}
use Rattle.flow_rule.specs.declared.Reason.TheVariants.{UnknownTarget}
use Rattle.flow_rule.specs.declared.Verdict.{Verdict}
use Rattle.flow_rule.specs.declared.Verdict.TheVariants.{Yes, No}
use Rattle.flow_rule.specs.Violations.{number_of, violation_if}
use Rattle.flow_rule.specs.Stub.{is_shut, word_number, text_word}
use Rattle.flow_check.specs.declared.violation.Violation.{Violation}

-- first by the address, then by the reason's number, then by the value
abbrev pub before : Violation → Violation → Bool
before c old =
    nat_lt c.addr old.addr || ((c.addr == old.addr) && (nat_lt (number_of c.reason) (number_of old.reason)
    || ((number_of c.reason == number_of old.reason) && nat_lt c.value old.value)))

abbrev pub lesser_if : Bool → Violation → Violation → Option Violation
lesser_if true c old = Some c
lesser_if false c old = Some old

-- the lesser of two, where the first may be none
abbrev pub lesser : Option Violation → Violation → Option Violation
lesser None c = Some c
lesser (Some old) c = lesser_if (before c old) c old

-- a violation of the rule, as the checker has it
abbrev pub violation_of : RuleViolation → Violation
violation_of r = record { addr = r.addr; reason = r.why; value = r.value }

-- the least of these and of what was there before
abbrev pub noted : List RuleViolation → Option Violation → Option Violation
noted [] o = o
noted (r ∷ rs) o = noted rs (lesser o (violation_of r))

-- the violations of going to these places of a stub from outside it
abbrev pub shut_at : Module → ℕ → List ℕ → List RuleViolation
shut_at m pc [] = []
shut_at m pc (a ∷ more) = violation_if (is_shut (word_number m a)) pc UnknownTarget 0 ++ shut_at m pc more

-- the addresses of a stub's table, the last first
abbrev pub entry_addrs : Module → List ℕ → ℕ → List ℕ
entry_addrs m text zero = []
entry_addrs m text (suc n) = text_word m text (38 + n) ∷ entry_addrs m text n

-- the violation of the rule that this is
abbrev pub rule_violation : Violation → RuleViolation
rule_violation c = record { addr = c.addr; why = c.reason; value = c.value }

abbrev pub verdict_of : Option Violation → Verdict
verdict_of None = Yes
verdict_of (Some c) = No c.addr c.reason c.value
