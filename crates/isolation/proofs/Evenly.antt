-- Two calls that are even go on together.
use Rattle.std.proofs.Common.{◌≡◌, ℕ, zero, suc, List, [], arith}
use Rattle.cpu_step.specs.Lone.{Job, Lone, CallEnd, Exit, Closing, Broken, Running, later, Doing, Waits, Closes, Leaves, Breaks, Does, doing, lone_does, at_once, in_time, outcome, blank}
use Rattle.mod_layout.specs.declared.Module.{Module}
use Rattle.cpu_step.proofs.Alike.{ends_then}
use Rattle.run_laws.proofs.Each.{Each}
use Rattle.isolation.proofs.EvenBy.{Call_of, EvenBy, IsCall, AlwaysEvenBy}

-- from here on the two calls, and all that come after, are even
pub record Evenly (answers key : List ℕ) (own : Module) (text : List ℕ) (j : Job) (la lb : Lone) : Type 0 where
  pub always : (n : ℕ) (es : List Call_of) → Each (IsCall own) es → ends_then answers (EvenBy answers key own text es) (outcome j n la) (outcome j n lb)

-- what both do next
abbrev pub Together : List ℕ → List ℕ → Module → List ℕ → Job → Doing → Doing → Lone → Lone → Type 0
Together answers key own text j Closes Closes la lb = blank answers la.core ≡ blank answers lb.core
Together answers key own text j Leaves Leaves la lb = (blank answers la.core ≡ blank answers lb.core) × (la.core ≡ lb.core → AlwaysEvenBy answers key own text la.data_bytes lb.data_bytes)
Together answers key own text j (Waits r) (Waits r') la lb = Evenly answers key own text j (record la { rest = r }) (record lb { rest = r' })
Together answers key own text j (Waits r) (Does i) la lb = Evenly answers key own text j (record la { rest = r }) (lone_does j i lb)
Together answers key own text j (Does i) (Waits r) la lb = Evenly answers key own text j (lone_does j i la) (record lb { rest = r })
Together answers key own text j (Does i) (Does i') la lb = Evenly answers key own text j (lone_does j i la) (lone_does j i' lb)
Together answers key own text j _ _ la lb = ⊥

later_alike : (answers : List ℕ) (P : List ℕ → List ℕ → Type 0) (o p : CallEnd) → ends_then answers P (later o) (later p) → ends_then answers P o p
later_alike answers P Running Running h = tt
later_alike answers P (Closing c d k) (Closing c' d' k') h = (h.0, omega (arith, h.1))
later_alike answers P (Exit c d k) (Exit c' d' k') h = (h.0, omega (arith, h.1), h.2)
later_alike answers P _ _ h = h

module _ (answers key : List ℕ) (own : Module) (text : List ℕ) (j : Job) (la lb : Lone) where
  abbrev Now : Doing → Doing → Type 0
  Now x y = (es : List Call_of) → Each (IsCall own) es → ends_then answers (EvenBy answers key own text es) (at_once x la) (at_once y lb)

  abbrev Soon : Doing → Doing → Type 0
  Soon x y = (n : ℕ) (es : List Call_of) → Each (IsCall own) es → ends_then answers (EvenBy answers key own text es) (in_time x (outcome j n) j la) (in_time y (outcome j n) j lb)

  go_on : (x y : Lone) → ((n : ℕ) (es : List Call_of) → Each (IsCall own) es → ends_then answers (EvenBy answers key own text es) (later (outcome j n x)) (later (outcome j n y))) → Evenly answers key own text j x y
  go_on x y h = record { always = λ n es v. later_alike answers (EvenBy answers key own text es) (outcome j n x) (outcome j n y) (h n es v) }

  broken_right : (o : CallEnd) → ends_then answers (EvenBy answers key own text []) (later o) (Broken lb.data_bytes 0) → ⊥
  broken_right Running h = h
  broken_right _ h = h

  together : (x y : Doing) → Now x y → Soon x y → Together answers key own text j x y la lb
  together Closes Closes now soon = (now [] tt).0
  together Leaves Leaves now soon = ((now [] tt).0, λ same es h. (now es h).2 same)
  together (Waits r) (Waits r') now soon = go_on (record la { rest = r }) (record lb { rest = r' }) soon
  together (Waits r) (Does i) now soon = go_on (record la { rest = r }) (lone_does j i lb) soon
  together (Does i) (Waits r) now soon = go_on (lone_does j i la) (record lb { rest = r }) soon
  together (Does i) (Does i') now soon = go_on (lone_does j i la) (lone_does j i' lb) soon
  together (Waits r) Breaks now soon = broken_right (outcome j 0 (record la { rest = r })) (soon 0 [] tt)
  together (Does i) Breaks now soon = broken_right (outcome j 0 (lone_does j i la)) (soon 0 [] tt)
  together Breaks y now soon = soon 0 [] tt
  together _ _ now soon = now [] tt

  pub next_together : Evenly answers key own text j la lb → Together answers key own text j (doing j la) (doing j lb) la lb
  next_together e = together (doing j la) (doing j lb) (λ es h. e.always zero es h) (λ n es h. e.always (suc n) es h)
