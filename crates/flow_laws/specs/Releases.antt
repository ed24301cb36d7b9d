-- Release points: from the instruction at an address on, a register counts as told.
use Rattle.std.specs.Prelude.{◌≡◌, ◌≢◌, ◌⊎◌, ℕ, ◌≤◌, List, [], ◌∷◌, slice_set, ◌==◌, if◌then◌else◌, Bool, true, false}
use Rattle.sm_words.specs.Words.{reg}
use Rattle.cpu_step.specs.Lone.{Job, Lone, lone_after}
use Rattle.flow_rule.specs.declared.Val.{Val}
use Rattle.flow_rule.specs.declared.Val.TheVariants.{Public}
use Rattle.flow_rule.specs.Values.{is_secret, val}
use Rattle.flow_rule.specs.Iterations.{PointState, FlowStep}

pub record Release : Type 0 where
  pub addr : ℕ
  pub register : ℕ

-- what is secret there becomes public
abbrev pub opened_if : Bool → ℕ → List Val → List Val
opened_if true r core = if is_secret (val core r) then slice_set core r Public else core
opened_if false r core = core

abbrev pub opened : List Release → ℕ → List Val → List Val
opened [] pc core = core
opened (p ∷ ps) pc core = opened_if (p.addr == pc) p.register (opened ps pc core)

abbrev pub released_at : List Release → PointState → PointState
released_at ps x = record { point = x.point; state = record { core = opened ps x.point.addr x.state.core; words = x.state.words } }

-- a rule's steps under releases
abbrev pub releasing : List Release → (PointState → FlowStep) → PointState → FlowStep
releasing ps step x = step (released_at ps x)

-- a released register of two cores at pc that differs
abbrev pub SomeDiffer : List Release → ℕ → List ℕ → List ℕ → Type 0
SomeDiffer [] pc a b = ⊥
SomeDiffer (p ∷ ps) pc a b = ((p.addr ≡ pc) × (reg a p.register ≢ reg b p.register)) ⊎ SomeDiffer ps pc a b

-- within n cycles both runs stand at the same release, at the same cycle, with other values
abbrev pub ToldApart : List Release → Job → Lone → Lone → ℕ → Type 0
ToldApart ps j la lb n =
    (k : ℕ) × (k ≤ n) × ((lone_after j la k).rest ≡ 0) × ((lone_after j lb k).rest ≡ 0) × (reg (lone_after j la k).core 0 ≡ reg (lone_after j lb k).core 0)
    × SomeDiffer ps (reg (lone_after j la k).core 0) (lone_after j la k).core (lone_after j lb k).core
