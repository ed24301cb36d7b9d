-- Exploring: a text is walked depth first from state to state, which are not joined, as far as a number of steps goes.
use Rattle.std.specs.Prelude.{◌≡◌, ℕ, zero, suc, ◌+◌, ◌-◌, ◌/◌, List, [], ◌∷◌, length, nat_lt, ◌==◌, if◌then◌else◌, Bool, true, false, ◌&&◌, ◌||◌, not, Option, Some}
use Rattle.insn_decode.specs.declared.insn.Insn.{Insn}
use Rattle.insn_decode.specs.declared.insn.Insn.TheVariants.{Jump}
use Rattle.insn_decode.specs.Code.{is_always}
use Rattle.mod_layout.specs.declared.Module.{Module}
use Rattle.mod_layout.specs.Table.{size_of}
use Rattle.arm_balance.specs.declared.Arm.{Arm}
use Rattle.arm_balance.specs.Met.{met}
use Rattle.flow_rule.specs.Terms.{Terms}
use Rattle.flow_rule.specs.declared.Val.{Val}
use Rattle.flow_rule.specs.declared.Val.TheVariants.{Known, Away, Public, Secret}
use Rattle.flow_rule.specs.declared.Unrolling.{Unrolling}
use Rattle.flow_rule.specs.Violations.{AmongThem, BeforeAll}
use Rattle.flow_rule.specs.Iterations.{PointState, RuleViolation, FlowStep}
use Rattle.flow_rule.specs.Verdict.{start_knowing}
use Rattle.flow_rule.specs.Arms.{flow_under}
use Rattle.flow_rule.specs.Values.{known_flags, val}

-- the first says no more than the second
abbrev pub says_less : Val → Val → Bool
says_less Secret v = true
says_less Public Secret = false
says_less Public v = true
says_less Away Away = true
says_less (Known a) (Known b) = a == b
says_less _ _ = false

abbrev pub say_less : List Val → List Val → Bool
say_less [] vs = true
say_less (u ∷ us) [] = false
say_less (u ∷ us) (v ∷ vs) = says_less u v && say_less us vs

-- one of these states stands at this one's address and says no more
abbrev pub is_known : List PointState → PointState → Bool
is_known [] x = false
is_known (k ∷ kept) x = ((k.point.addr == x.point.addr) && say_less k.state.core x.state.core && say_less k.state.words x.state.words) || is_known kept x

abbrev pub is_number : Val → Bool
is_number (Known v) = true
is_number _ = false

-- a conditional jump under flags that are no number goes both ways
abbrev pub forks_by : Option Insn → Val → Bool
forks_by (Some (Jump condition off)) flags = not (is_always condition) && not (is_number flags)
forks_by o flags = false

abbrev pub forks : Module → List ℕ → PointState → Bool
forks m text x = forks_by (met m.text text x.point.addr) (val x.state.core 2)

-- what becomes of a state: others are to come, or it has violations, or there are too many
pub data Taken : Type 0 where
  Goes : (to_come kept : List PointState) → Taken
  Fails : (violations : List RuleViolation) → Taken
  Overflows : Taken

-- each of these on top of those to come
abbrev pub on_top : List PointState → List PointState → List PointState
on_top [] to_come = to_come
on_top (x ∷ xs) to_come = on_top xs (x ∷ to_come)

abbrev pub within : ℕ → List PointState → List PointState → Taken
within room to_come kept = if nat_lt room (length to_come + length kept) then Overflows else Goes to_come kept

abbrev pub unless_wrong : List RuleViolation → Taken → Taken
unless_wrong [] taken = taken
unless_wrong violations taken = Fails violations

-- a state that is known already leads to nothing new; another is kept where that is asked, and its step's states come first
abbrev pub take_state : (PointState → FlowStep) → (PointState → Bool) → ℕ → PointState → List PointState → List PointState → Taken
take_state step keeps room x to_come kept =
    let s = step x in
    let on = within room (on_top s.gives to_come) (if keeps x then x ∷ kept else kept) in
    if is_known kept x then Goes to_come kept else unless_wrong s.violations on

-- how an exploration ends, and with how many steps left
pub data Explored : Type 0 where
  Complete : (left : ℕ) (kept : List PointState) → Explored
  Violated : (left : ℕ) (violations : List RuleViolation) → Explored
  Unfinished : (left addr : ℕ) → Explored

-- by what became of the state at this address
abbrev pub explore_on : (List PointState → List PointState → Explored) → ℕ → ℕ → Taken → Explored
explore_on rest left addr (Goes to_come kept) = rest to_come kept
explore_on rest left addr (Fails violations) = Violated left violations
explore_on rest left addr Overflows = Unfinished left addr

-- what is told of an exploration by so many steps: how many of them it took, with the least violation of the first state that has any,
-- or where it stopped
abbrev pub IsUnrolling : ℕ → Explored → Unrolling → Type 0
IsUnrolling steps (Complete left kept) u = u ≡ Unrolling.Yes (steps - left)
IsUnrolling steps (Violated left violations) u =
    (r : RuleViolation) × AmongThem r violations × BeforeAll r violations × (u ≡ Unrolling.No r.addr r.why r.value)
IsUnrolling steps (Unfinished left addr) u = u ≡ Unrolling.Unfinished addr (steps - left)

-- the states to come, one in each step
abbrev pub explore : (PointState → FlowStep) → (PointState → Bool) → ℕ → List PointState → List PointState → ℕ → Explored
explore step keeps room [] kept n = Complete n kept
explore step keeps room (x ∷ to_come) kept zero = Unfinished zero x.point.addr
explore step keeps room (x ∷ to_come) kept (suc n) =
    explore_on (λ xs ks. explore step keeps room xs ks n) n x.point.addr (take_state step keeps room x to_come kept)

-- how many states may be to come and kept
abbrev pub most_states : ℕ
most_states = 1024

-- where a call begins, as far as terms tell of it
abbrev pub first_state : Terms → Module → List ℕ → PointState
first_state terms m text = start_knowing (size_of m.ram / 2) terms m text

-- a text explored under terms, with these certificates, by at most so many steps; states are kept where the ways part
abbrev pub explored : Terms → Module → List ℕ → List Arm → ℕ → Explored
explored terms m text arms steps =
    explore (flow_under known_flags terms m text arms) (forks m text) most_states (first_state terms m text ∷ []) [] steps
