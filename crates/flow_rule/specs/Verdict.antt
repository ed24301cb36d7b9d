-- The start of the labelling, and what decides a verdict: the violations at the fixpoint.
use Rattle.flow_rule.specs.declared.Verdict.{Verdict}
use Rattle.flow_rule.specs.declared.Verdict.TheVariants.{Yes, No}
use Rattle.std.specs.Prelude.{◌≡◌, ◌<◌, ◌≤◌, ◌⊎◌, ℕ, ◌+◌, ◌*◌, List, [], ◌∷◌, length, map, replicate, slice_set, if◌then◌else◌}
use Rattle.mod_layout.specs.declared.Module.{Module}
use Rattle.entry_stubs.specs.Stub.{body_word}
use Rattle.flow_rule.specs.Terms.{Terms}
use Rattle.flow_rule.specs.declared.Val.{Val}
use Rattle.flow_rule.specs.declared.Val.TheVariants.{Known, Away, Public, Secret}
use Rattle.flow_rule.specs.Values.{FlagDomain, set_each}
use Rattle.flow_rule.specs.declared.Reason.TheVariants.{TooMany}
use Rattle.flow_rule.specs.Iterations.{PointState, RuleViolation, FlowStep, IsLabelling, iterations, all_violations}
use Rattle.flow_rule.specs.Does.{word_no}
use Rattle.flow_rule.specs.Violations.{BeforeAll, AmongThem}
use Rattle.flow_rule.specs.Steps.{step_of}
use Rattle.flow_rule.specs.Stub.{has_stub, step_stub}

-- of how many data words, from the first on, a state knows something
abbrev pub known_words : ℕ
known_words = 256

-- how many program points a labelling may have
abbrev pub most_points : ℕ
most_points = 16384

-- nothing secret in the registers and flags
abbrev pub no_secret : ℕ → List Val
no_secret pc = Known pc ∷ Public ∷ Public ∷ Known 0 ∷ replicate 12 Public

-- a program point with nothing known of the data but that the public words are equal
abbrev pub start_point : ℕ → Terms → Module → ℕ → List Val → PointState
start_point known terms m pc core = record { point = record { addr = pc; call_string = [] }; state = record { core = core; words = set_each (map (word_no m) terms.public) Public (replicate known Secret) } }

-- the start, where so many words are known of: no return address, nothing secret in the registers and flags; behind a stub's first words R7 is Away
abbrev pub start_knowing : ℕ → Terms → Module → List ℕ → PointState
start_knowing known terms m text =
    let t = m.text.start in
    let body = t + 2 * body_word in
    if has_stub m text then start_point known terms m body (slice_set (no_secret body) 7 Away) else start_point known terms m t (no_secret t)

abbrev pub start_under : Terms → Module → List ℕ → PointState
start_under terms m text = start_knowing known_words terms m text

-- the step of a text, with or without a stub
abbrev pub flow_step : FlagDomain → Terms → Module → List ℕ → PointState → FlowStep
flow_step flags terms m text = if has_stub m text then step_stub flags terms m text else step_of flags terms m text

-- Yes where no point of the labelling has a violation; No with the least; TooMany as soon as an iteration has too many
abbrev pub Decided : (PointState → FlowStep) → PointState → ℕ → Verdict → Type 0
Decided step start begin Yes = (xs : List PointState) × IsLabelling step start xs × (length xs ≤ most_points) × (all_violations step xs ≡ [])
Decided step start begin (No addr reason value) =
    let r : RuleViolation = record { addr = addr; why = reason; value = value } in
    ((xs : List PointState) × IsLabelling step start xs × (length xs ≤ most_points) × AmongThem r (all_violations step xs) × BeforeAll r (all_violations step xs))
    ⊎ ((n : ℕ) × (most_points < length (iterations step start n)) × (r ≡ record { addr = begin; why = TooMany; value = 0 }))
