-- The first numbers that events give, one event and one cycle after another.
use Rattle.std.proofs.Common.{◌≡◌, ℕ, suc, ◌+◌, ◌<◌, List, [], get_or, length, drop, true, false, nat_le, None, refl, sym, ◌∙◌, ap, arith}
use Rattle.std.proofs.lemmas.List.{at_drop_more}
use Rattle.mod_layout.proofs.FirstLemmas.{or_else_assoc, or_else_none}
use Rattle.tracer.specs.declared.Event.{Event}
use Rattle.written_machine.specs.Cycle.{cycle, after_cycles}
use Rattle.written_machine.specs.State.{State}
use Rattle.pulse_sweep.specs.Columns.{columns_after}
use Rattle.pulse_sweep.specs.declared.columns.Columns.{Columns}
use Rattle.pulse_sweep.specs.internal.Told.{joined_columns, event_columns, first_columns, columns_of}

joined_assoc : (a b c : Columns) → joined_columns (joined_columns a b) c ≡ joined_columns a (joined_columns b c)
joined_assoc a b c = rw (or_else_assoc a.begins b.begins c.begins, or_else_assoc a.leaves b.leaves c.leaves, or_else_assoc a.sends b.sends c.sends) refl

-- with nothing
joined_none : (a : Columns) → joined_columns a record { begins = None; leaves = None; sends = None } ≡ a
joined_none a = rw (or_else_none a.begins, or_else_none a.leaves, or_else_none a.sends) refl

-- before the first event, at the next, and after the last
pub firsts_start : (x r : Columns) → x ≡ record { begins = None; leaves = None; sends = None } → joined_columns x r ≡ r
firsts_start x r e = ap (λ (y : Columns). joined_columns y r) e

pub firsts_next : (c k : ℕ) (es : List Event) (i : ℕ) (d : Event) (x y r : Columns) → i < length es → joined_columns x (first_columns c k (drop i es)) ≡ r
    → y ≡ joined_columns x (event_columns c k (get_or es i d)) → joined_columns y (first_columns c k (drop (i + 1) es)) ≡ r
firsts_next c k es i d x y r h e is =
    let rest = first_columns c k (drop (i + 1) es) in
    ap (λ (z : Columns). joined_columns z rest) is
    ∙ joined_assoc x (event_columns c k (get_or es i d)) rest
    ∙ ap (joined_columns x) (sym (at_drop_more (first_columns c k) es i d h))
    ∙ e

pub firsts_end : (c k : ℕ) (es : List Event) (x r : Columns) → es ≡ [] → joined_columns x (first_columns c k es) ≡ r → x ≡ r
firsts_end c k es x r none e = sym (joined_none x) ∙ ap (λ (l : List Event). joined_columns x (first_columns c k l)) (sym none) ∙ e

-- a cycle from the pulse on
pub from_pulse : (c k : ℕ) (es : List Event) → nat_le c k ≡ true → first_columns c k es ≡ columns_of c k es
from_pulse c k es h = rw h refl

-- and one before it
pub before_pulse : (c k : ℕ) (es : List Event) → nat_le c k ≡ false → record { begins = None; leaves = None; sends = None } ≡ columns_of c k es
before_pulse c k es h = rw h refl

-- one cycle more
pub columns_more : (c : ℕ) (s : State) (n : ℕ) → columns_after c s (n + 1) ≡ joined_columns (columns_after c s n) (columns_of c (after_cycles s n).cycle (cycle (after_cycles s n)).events)
columns_more c s n = let e : n + 1 ≡ suc n = omega arith in ap (columns_after c s) e
