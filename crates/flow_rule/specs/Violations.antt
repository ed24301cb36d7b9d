-- Violations of the rule: why a text is refused, the address of the instruction and a value; and their order.
use Rattle.std.specs.Prelude.{◌≡◌, ◌<◌, ◌≤◌, ◌⊎◌, ℕ, zero, suc, ◌+◌, List, [], ◌∷◌, flat_map, if◌then◌else◌, Bool, true, false, not}
use Rattle.sm_words.specs.Words.{nth}
use Rattle.mod_layout.specs.declared.Module.{Module}
use Rattle.flow_rule.specs.declared.Val.{Val}
use Rattle.flow_rule.specs.declared.Val.TheVariants.{Known, Secret}
use Rattle.flow_rule.specs.Values.{is_secret, val}
use Rattle.flow_rule.specs.declared.Reason.{Reason}
use Rattle.flow_rule.specs.declared.Reason.TheVariants.{SecretBranch, SecretAddress, OutsideAccess, SecretAtExit, UnknownTarget, Illegal, Unit as UnitWord, TooMany, Arm as ArmInsn, ArmTime, DataAtExit}
use Rattle.flow_rule.specs.Iterations.{RuleViolation}
use Rattle.flow_rule.specs.declared.Reach.{Reach}
use Rattle.flow_rule.specs.Does.{may_reach, word_no}

-- one violation
abbrev pub violation : ℕ → Reason → ℕ → List RuleViolation
violation a why v = record { addr = a; why = why; value = v } ∷ []

abbrev pub violation_if : Bool → ℕ → Reason → ℕ → List RuleViolation
violation_if true a why v = violation a why v
violation_if false a why v = []

-- every access needs a known address within the module's rights
abbrev pub reach_violations_by : Val → Module → ℕ → Reach → List RuleViolation
reach_violations_by (Known a) m pc x = violation_if (not (may_reach m x.kind x.width a)) pc OutsideAccess a
reach_violations_by Secret m pc x = violation pc SecretAddress 0
reach_violations_by _ m pc x = violation pc OutsideAccess 0

abbrev pub reach_violations : Module → ℕ → List Reach → List RuleViolation
reach_violations m pc xs = flat_map (λ x. reach_violations_by x.addr m pc x) xs

-- the lowest register that is Secret, SR standing for the flags
abbrev pub exit_violations : ℕ → ℕ → ℕ → List Val → List RuleViolation
exit_violations zero n pc core = []
exit_violations (suc k) n pc core = if is_secret (val core n) then violation pc SecretAtExit n else exit_violations k (n + 1) pc core

-- each word at these addresses that is Secret
abbrev pub word_violations : Module → ℕ → List Val → List ℕ → List RuleViolation
word_violations m pc words addrs = flat_map (λ a. violation_if (is_secret (nth (word_no m a) words Secret)) pc DataAtExit a) addrs

-- the reasons by their numbers
abbrev pub number_of : Reason → ℕ
number_of SecretBranch = 1
number_of SecretAddress = 2
number_of OutsideAccess = 3
number_of SecretAtExit = 4
number_of UnknownTarget = 5
number_of Illegal = 6
number_of UnitWord = 7
number_of TooMany = 8
number_of ArmInsn = 9
number_of ArmTime = 10
number_of DataAtExit = 11

-- by address, then number, then value
abbrev pub NotAfter : RuleViolation → RuleViolation → Type 0
NotAfter a b = (a.addr < b.addr) ⊎ ((a.addr ≡ b.addr) × ((number_of a.why < number_of b.why) ⊎ ((number_of a.why ≡ number_of b.why) × (a.value ≤ b.value))))

abbrev pub BeforeAll : RuleViolation → List RuleViolation → Type 0
BeforeAll r [] = Unit {0}
BeforeAll r (x ∷ xs) = NotAfter r x × BeforeAll r xs

abbrev pub AmongThem : RuleViolation → List RuleViolation → Type 0
AmongThem r [] = ⊥
AmongThem r (x ∷ xs) = (r ≡ x) ⊎ AmongThem r xs
