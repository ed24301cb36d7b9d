-- The states of an exploration, as the code holds them.
use Rattle.std.specs.Prelude.{◌≡◌, List, [], ◌∷◌, Some, None}
use Rattle.flow_rule.specs.Iterations.{PointState, RuleViolation}
use Rattle.flow_laws.specs.Exploring.{Taken, Goes, Fails, Overflows, Explored, Complete, Violated, Unfinished}
use Rattle.flow_check.specs.declared.exploring.Held.{Held}
use Rattle.flow_check.specs.declared.exploring.Advance.{Advance}
use Rattle.flow_check.specs.declared.exploring.Ending.{Ending}
use Rattle.flow_check.specs.declared.violation.Violation.{Violation}
use Rattle.flow_check.specs.internal.Points.{list_of}
use Rattle.flow_check.specs.internal.Violations.{noted}

-- the state that is held
abbrev pub held_point : Held → PointState
held_point h = record { point = record { addr = h.addr; call_string = list_of h.call_string }; state = record { core = h.core; words = h.words.items } }

-- these states, the last first, before others
abbrev pub stacked : List Held → List PointState → List PointState
stacked [] rest = rest
stacked (h ∷ hs) rest = stacked hs (held_point h ∷ rest)

-- the least of these violations
abbrev pub IsLeast : Violation → List RuleViolation → Type 0
IsLeast v violations = noted violations None ≡ Some v

-- what became of a state, with the states to come and kept then
abbrev pub Takes : Advance → Taken → List Held → List Held → Type 0
Takes Advance.On taken to_come kept = taken ≡ Goes (stacked to_come []) (stacked kept [])
Takes (Advance.Wrong v) taken to_come kept = (violations : List RuleViolation) × IsLeast v violations × (taken ≡ Fails violations)
Takes Advance.Full taken to_come kept = taken ≡ Overflows

-- how an exploration ended
abbrev pub Ends : Ending → Explored → Type 0
Ends (Ending.Complete left) x = (kept : List PointState) × (x ≡ Complete left kept)
Ends (Ending.Violated left v) x = (violations : List RuleViolation) × IsLeast v violations × (x ≡ Violated left violations)
Ends (Ending.Unfinished left addr) x = x ≡ Unfinished left addr
