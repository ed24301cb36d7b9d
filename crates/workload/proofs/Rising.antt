-- The pulses of a seed are a schedule.
use Rattle.std.proofs.Common.{◌≡◌, ℕ, zero, suc, ◌+◌, ◌-◌, ◌*◌, ◌%◌, ◌<◌, ◌≤◌, List, [], ◌∷◌, ◌++◌, length, get_or, refl, sym, ap, ◌∙◌, subst, arith, append_assoc}
use Rattle.std.specs.Prelude.{All}
use Rattle.std.proofs.lemmas.List.Elements.{All-push}
use Rattle.std.proofs.lemmas.List.Sorted.{IsNonDecreasingBy-push, IsNonDecreasingBy-short}
use Rattle.schedule_file.specs.declared.Entry.{Entry}
use Rattle.schedule_file.specs.declared.What.TheVariants.{Up, Down}
use Rattle.schedule_file.specs.Entries.{CyclesNeverFall, HasLine}
use Rattle.workload.specs.Draws.{next_number, drawn}
use Rattle.workload.specs.Pulses.{pulse_cycle, pulses}

-- ---- one more

pub drawn_first : (seed : ℕ) → drawn seed 1 ≡ next_number seed
unfolding drawn
drawn_first seed = refl

pub drawn_more : (seed n : ℕ) → drawn seed (n + 1) ≡ next_number (drawn seed n)
unfolding drawn
drawn_more seed n = let e : n + 1 ≡ suc n = omega arith in ap (λ k. drawn seed k) e

pub pulses_none : (seed : ℕ) → pulses seed 0 ≡ []
unfolding pulses
pulses_none seed = refl

pub pulses_more : (seed n : ℕ) → pulses seed (n + 1) ≡ (pulses seed n ++ record { cycle = pulse_cycle seed n; what = Up 0 } ∷ []) ++ record { cycle = pulse_cycle seed n + 1; what = Down 0 } ∷ []
unfolding pulses
pulses_more seed n = let e : n + 1 ≡ suc n = omega arith in ap (λ k. pulses seed k) e ∙ sym (append_assoc (pulses seed n) (record { cycle = pulse_cycle seed n; what = Up 0 } ∷ []) (record { cycle = pulse_cycle seed n + 1; what = Down 0 } ∷ []))

-- ---- a schedule's rules

-- cycles that never fall, up to this one, and lines
pub record IsKept (entries : List Entry) (high : ℕ) : Type 0 where
  pub falls : CyclesNeverFall entries
  pub below : All (λ e. e.cycle ≤ high) entries
  pub lines : All HasLine entries

kept_none : (high : ℕ) → IsKept [] high
kept_none high = record {
  falls = IsNonDecreasingBy-short (λ (e : Entry). e.cycle) [] (omega arith);
  below = λ k d h. absurd (omega (arith, h));
  lines = λ k d h. absurd (omega (arith, h));
}

kept_push : (entries : List Entry) (e : Entry) (high : ℕ) → IsKept entries high → high ≤ e.cycle → HasLine e → IsKept (entries ++ e ∷ []) e.cycle
kept_push entries e high r rises has = record {
  falls = IsNonDecreasingBy-push (λ (x : Entry). x.cycle) entries e r.falls (λ d some. let b : (get_or entries (length entries - 1) d).cycle ≤ high = r.below (length entries - 1) d (omega arith) in omega arith);
  below = All-push (λ (x : Entry). x.cycle ≤ e.cycle) entries e (λ k d h. let b : (get_or entries k d).cycle ≤ high = r.below k d h in omega arith) (omega arith);
  lines = All-push HasLine entries e r.lines has;
}

kept_higher : (entries : List Entry) (high higher : ℕ) → IsKept entries high → high ≤ higher → IsKept entries higher
kept_higher entries high higher r h = record {
  falls = r.falls;
  below = λ k d within. let b : (get_or entries k d).cycle ≤ high = r.below k d within in omega arith;
  lines = r.lines;
}

kept_pulse : (entries : List Entry) (low cycle high : ℕ) → IsKept entries low → low ≤ cycle → cycle + 1 ≤ high
    → IsKept ((entries ++ record { cycle = cycle; what = Up 0 } ∷ []) ++ record { cycle = cycle + 1; what = Down 0 } ∷ []) high
kept_pulse entries low cycle high r rises few =
    let up : Entry = record { cycle = cycle; what = Up 0 } in
    let down : Entry = record { cycle = cycle + 1; what = Down 0 } in
    let one = kept_push entries up low r rises refl in
    let two = kept_push (entries ++ up ∷ []) down cycle one (omega arith) refl in
    kept_higher ((entries ++ up ∷ []) ++ down ∷ []) (cycle + 1) high two few

late : (n : ℕ) → n % 100 < 100
late n = omega arith

pub kept_pulses : (seed n : ℕ) → IsKept (pulses seed n) (20 + 190 * n)
kept_pulses seed zero = subst (λ (l : List Entry). IsKept l 20) (sym (pulses_none seed)) (kept_none 20)
kept_pulses seed (suc n) =
    let few = late (drawn seed (n + 2)) in
    let e : n + 1 ≡ suc n = omega arith in
    subst (λ k. IsKept (pulses seed k) (20 + 190 * k)) e
    (subst (λ (l : List Entry). IsKept l (20 + 190 * (n + 1))) (sym (pulses_more seed n))
    (kept_pulse (pulses seed n) (20 + 190 * n) (pulse_cycle seed n) (20 + 190 * (n + 1)) (kept_pulses seed n) (omega arith) (omega arith)))
