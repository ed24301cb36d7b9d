-- Schedules in the order of their cycles.
use Rattle.std.proofs.Common.{ℕ, suc, ◌≡◌, ◌+◌, ◌≤◌, ◌<◌, List, [], ◌∷◌, length, drop, get_or, Bool, true, false, cond, refl, sym, ap, arith, nat_lt}
use Rattle.std.specs.Prelude.{All}
use Rattle.std.proofs.lemmas.Bool.Decides.{nat_tests}
use Rattle.std.proofs.lemmas.List.Sums.{prefix_len-le-length, prefix_len_is}
use Rattle.std.proofs.lemmas.List.Sorted.{IsNonDecreasingBy-drop}
use Rattle.std.specs.List.Sorted.{IsPartitionedBy, IsPartitionPoint}
use Rattle.schedule_file.specs.declared.Entry.{Entry}
use Rattle.schedule_file.specs.Entries.{CyclesNeverFall}
use Rattle.schedule_file.specs.Entries.{HasLine}
use Rattle.devices.specs.internal.Bus.{past_count, IsDue}

-- no cycle is below the one before, and the first not below `low`
abbrev pub Rises : ℕ → List Entry → Type 0
Rises low [] = Unit {0}
Rises low (e ∷ es) = (low ≤ e.cycle) × Rises e.cycle es

pub Rises-below : (low lower : ℕ) (es : List Entry) → lower ≤ low → Rises low es → Rises lower es
Rises-below low lower [] h r = tt
Rises-below low lower (e ∷ es) h r = (omega (arith, r.0), r.1)

pub Rises-from : (es : List Entry) (low : ℕ) → CyclesNeverFall es → ((d : Entry) → 0 < length es → low ≤ (get_or es 0 d).cycle) → Rises low es
Rises-from [] low falls first = tt
Rises-from (e ∷ es) low falls first =
    (first e (omega arith), Rises-from es e.cycle (IsNonDecreasingBy-drop (λ (x : Entry). x.cycle) 1 (e ∷ es) falls) (λ d some. falls 0 1 d (omega arith) (omega arith)))

-- a schedule rises from 0
pub Rises-all : (es : List Entry) → CyclesNeverFall es → Rises 0 es
Rises-all es falls = Rises-from es 0 falls (λ d some. omega arith)

pub past_count-le-length : (h : ℕ) (es : List Entry) → past_count h es ≤ length es
past_count-le-length h es = prefix_len-le-length (λ e. nat_lt e.cycle h) es

-- those before a later cycle are those before this one, and then those among the others
pub past_count-drop : (k h : ℕ) (es : List Entry) → k ≤ h → past_count h es ≡ past_count k es + past_count h (drop (past_count k es) es)
past_count-drop k h [] later = refl
past_count-drop k h (e ∷ es) later = by (nat_lt e.cycle k) refl (past_count-drop k h es later)
  where
    by : (b : Bool) → nat_lt e.cycle k ≡ b → past_count h es ≡ past_count k es + past_count h (drop (past_count k es) es)
        → past_count h (e ∷ es) ≡ cond b (1 + past_count k es) 0 + past_count h (drop (cond b (1 + past_count k es) 0) (e ∷ es))
    by true before rest =
        let late : nat_lt e.cycle h ≡ true = grind (arith, nat_tests) in
        let one : past_count h (e ∷ es) ≡ 1 + past_count h es = ap (λ b. cond b (1 + past_count h es) 0) late in
        let next : 1 + past_count k es ≡ suc (past_count k es) = omega arith in
        let more : past_count h (drop (1 + past_count k es) (e ∷ es)) ≡ past_count h (drop (past_count k es) es) = ap (λ m. past_count h (drop m (e ∷ es))) next in
        omega (arith, one, more, rest)
    by false after rest = omega arith

-- at first nothing has acted
pub IsDue-start : (es : List Entry) → CyclesNeverFall es → All HasLine es → IsDue es 0 0
IsDue-start es falls lines = record { place = none es; falls = falls; lines = lines }
  where
    none : (xs : List Entry) → 0 ≡ past_count 0 xs
    none [] = refl
    none (x ∷ xs) = let off : nat_lt x.cycle 0 ≡ false = grind (arith, nat_tests) in sym (ap (λ b. cond b (1 + past_count 0 xs) 0) off)

-- after some ticks those before a later cycle have acted
pub IsDue-later : (es : List Entry) (acted more k h : ℕ) → IsDue es acted k → k ≤ h → more ≡ past_count h (drop acted es) → IsDue es (acted + more) h
IsDue-later es acted more k h due later is = record {
  place =
      let whole = past_count-drop k h es later in
      let rest : past_count h (drop acted es) ≡ past_count h (drop (past_count k es) es) = ap (λ a. past_count h (drop a es)) due.place in
      omega (arith, due.place, is, whole, rest);
  falls = due.falls;
  lines = due.lines;
}

pub IsDue-within : (es : List Entry) (acted k : ℕ) → IsDue es acted k → acted ≤ length es
IsDue-within es acted k due = omega (arith, due.place, past_count-le-length k es)

-- the entries before a cycle come first
pub before_first : (h : ℕ) (es : List Entry) → CyclesNeverFall es → IsPartitionedBy (λ e. nat_lt e.cycle h) es
before_first h es falls i j d le within before = let up = falls i j d le within in grind (arith, nat_tests)

-- where they end
pub past_count-point : (h n : ℕ) (es : List Entry) (d : Entry) → n ≤ length es
    → IsPartitionPoint (λ e. nat_lt e.cycle h ≡ true) (λ e. nat_lt e.cycle h ≡ false) es n → n ≡ past_count h es
past_count-point h n es d within point =
    sym (prefix_len_is (λ e. nat_lt e.cycle h) es n d within (λ k before. point.0 k d (omega arith) before) (λ some. point.1 n d (omega arith) some))
