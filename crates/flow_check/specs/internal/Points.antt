-- The program points, and the states at them, that the code's stand for.
use Rattle.std.specs.Prelude.{ℕ, List, [], ◌∷◌, take, slice_set}
use Rattle.flow_check.specs.declared.point.Point.{Point}
use Rattle.flow_check.specs.declared.labelling.Node.{Node}
use Rattle.flow_check.specs.declared.labelling.Changed.{Changed}
use Rattle.flow_check.specs.declared.call_string.CallString.{CallString}
use Rattle.flow_rule.specs.declared.Val.{Val}
use Rattle.flow_rule.specs.declared.Val.TheVariants.{Known}
use Rattle.flow_rule.specs.declared.AbstractState.{AbstractState}
use Rattle.flow_rule.specs.Iterations.{ProgramPoint, PointState}

-- a call string
abbrev pub list_of : CallString → List ℕ
list_of r = take r.count r.addrs

-- a program point
abbrev pub program_point : Point → ProgramPoint
program_point p = record { addr = p.addr; call_string = list_of p.call_string }

-- its address and then its return addresses
abbrev pub key_of : ProgramPoint → List ℕ
key_of p = p.addr ∷ p.call_string

-- these values of registers and data words
abbrev pub state_of : List Val → List Val → AbstractState
state_of core words = record { core = core; words = words }

-- the point at an address with this call string and this state
abbrev pub point_of : ℕ → CallString → AbstractState → PointState
point_of a r s = record { point = record { addr = a; call_string = list_of r }; state = s }

-- the addresses of these points
abbrev pub addrs_of : List PointState → List ℕ
addrs_of [] = []
addrs_of (x ∷ xs) = x.point.addr ∷ addrs_of xs

-- a state with an address in PC's place
abbrev pub state_at : ℕ → AbstractState → AbstractState
state_at a s = record { core = slice_set s.core 0 (Known a); words = s.words }

-- points at these addresses, with one call string and one state but for PC
abbrev pub points_at : List ℕ → List ℕ → AbstractState → List PointState
points_at [] rs s = []
points_at (a ∷ more) rs s =
    record { point = record { addr = a; call_string = rs }; state = state_at a s } ∷ points_at more rs s

-- the point of the rule that a point stands for
abbrev pub point_at : Point → PointState
point_at p = record { point = program_point p; state = p.state }

-- the points of a labelling
abbrev pub points_of : List Node → List PointState
points_of [] = []
points_of (n ∷ ns) = point_at n.point ∷ points_of ns

-- the points that changed
abbrev pub fronts_of : List Changed → List PointState
fronts_of [] = []
fronts_of (c ∷ cs) = point_at c.point ∷ fronts_of cs
