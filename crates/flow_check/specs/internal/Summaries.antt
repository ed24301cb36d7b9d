-- One walk along the arms of a branch serves many states.
use Rattle.std.specs.Prelude.{◌≡◌, ◌≢◌, ℕ, List, [], ◌∷◌, replicate, All}
use Rattle.flow_rule.specs.declared.AbstractState.{AbstractState}
use Rattle.flow_rule.specs.declared.Val.{Val}
use Rattle.flow_rule.specs.declared.Val.TheVariants.{Public}
use Rattle.flow_rule.specs.Iterations.{PointState}
use Rattle.flow_rule.specs.Arms.{clobbered_by}
use Rattle.flow_check.specs.declared.program.Program.{Program}
use Rattle.flow_check.specs.declared.branch.BranchSite.{BranchSite}
use Rattle.flow_check.specs.declared.summaries.Answer.{Answer}
use Rattle.flow_check.specs.declared.summaries.Answer.TheVariants.{Open, Shut}
use Rattle.flow_check.specs.declared.summaries.Summary.{Summary}
use Rattle.flow_check.specs.internal.Programs.{flow_at, untaken_walk, taken_walk}

-- a state with Secret where the arms write
abbrev pub clobbered : Program → BranchSite → PointState → AbstractState → AbstractState
clobbered p c x s = clobbered_by (taken_walk p c x) (clobbered_by (untaken_walk p c x) s)

-- nothing is written
abbrev pub blank_state : AbstractState
blank_state = record { core = replicate 16 Public; words = replicate 256 Public }

-- through a Public of the first value the second is seen
abbrev pub laid : Val → Val → Val
laid Public v = v
laid b v = b

-- what was written into a blank state, each value Public, laid over another state's values
abbrev pub overlay : List Val → List Val → List Val
overlay (b ∷ bs) (v ∷ vs) = laid b v ∷ overlay bs vs
overlay _ _ = []

-- a branch under a state
abbrev pub branch_from : ℕ → List ℕ → AbstractState → PointState
branch_from a call_string s = record { point = record { addr = a; call_string = call_string }; state = s }

-- no violation at a branch, and what its state becomes
abbrev pub OpensTo : Program → BranchSite → PointState → AbstractState → Type 0
OpensTo p c x s = ((flow_at p c x).violations ≡ []) × (s ≡ clobbered p c x x.state)

-- what the arms of a branch come to
abbrev pub ComesTo : Program → BranchSite → PointState → Answer → Type 0
ComesTo p c x (Open told) = ((flow_at p c x).violations ≡ []) × (told ≡ clobbered p c x blank_state)
ComesTo p c x Shut = (flow_at p c x).violations ≢ []

-- what is kept of a branch's arms is so under its own state
abbrev pub IsSummary : Program → Summary → Type 0
IsSummary p s = ComesTo p s.site (branch_from s.branch [] s.state) s.answer

abbrev pub AreSummaries : Program → List Summary → Type 0
AreSummaries p list = All (IsSummary p) list
