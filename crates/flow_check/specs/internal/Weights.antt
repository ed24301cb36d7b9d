-- How far states have risen.
use Rattle.std.specs.Prelude.{ℕ, suc, ◌+◌, min, List, [], ◌∷◌, cond}
use Rattle.flow_rule.specs.declared.Val.{Val}
use Rattle.flow_rule.specs.declared.Val.TheVariants.{Known, Away, Public, Secret}
use Rattle.flow_rule.specs.declared.AbstractState.{AbstractState}
use Rattle.flow_rule.specs.Iterations.{PointState}
use Rattle.flow_check.specs.declared.labelling.Node.{Node}

abbrev pub weight : Val → ℕ
weight (Known v) = 0
weight Away = 0
weight Public = 1
weight Secret = 2

abbrev pub weight_all : List Val → ℕ
weight_all [] = 0
weight_all (v ∷ vs) = weight v + weight_all vs

-- what the 16 registers and the 256 words of a state have risen, at most twice each
abbrev pub weight_state : AbstractState → ℕ
weight_state s = min (weight_all s.core) 32 + min (weight_all s.words) 512

-- a program point counts 1, and its state what its values have risen
abbrev pub weight_of : List PointState → ℕ
weight_of [] = 0
weight_of (x ∷ xs) = suc (weight_state x.state + weight_of xs)

-- 1 where one changed
abbrev pub has_mark : List Node → ℕ
has_mark [] = 0
has_mark (n ∷ ns) = cond n.changed 1 (has_mark ns)
