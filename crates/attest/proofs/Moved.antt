-- Which cores a unit instruction leaves, and that PC moved on after the call gives the core of the definition.
use Rattle.std.proofs.Common.{◌≡◌, ℕ, ◌+◌, List, [], ◌∷◌, Bool, true, false, if◌then◌else◌, Option, Some, None, refl}
use Rattle.sm_words.specs.Words.{reg, put, add16}
use Rattle.mod_layout.specs.declared.Module.{Module}
use Rattle.mod_layout.specs.Table.{takes}
use Rattle.attest.specs.Units.{UnitName, Unprotect, Protect, Attest, Tag, Doer, Effect, attest_answer, attested, new_ram, new_text, next, tag_answer, unit_effect, unprotected}
use Rattle.attest.specs.Done.{with_old_pc}

-- what holds of the core with PC moved on, and of that with any answer in R15, holds of what it leaves
module _ (core : List ℕ) (P : List ℕ → Type 0) (answers : (v : ℕ) → P (put (next core) 15 v)) (goes_on : P (next core)) where
  by_test : (b : Bool) (e f : Effect) → P e.core → P f.core → P (if b then e else f).core
  by_test true e f h k = h
  by_test false e f h k = k

  by_unprotect : (own : Option Module) → P (unprotected own core).core
  by_unprotect None = answers 0
  by_unprotect (Some own) = goes_on

  by_attest : (key : List ℕ) (own other : Option Module) (values : List ℕ) → P (attest_answer key own other core values).core
  by_attest key (Some own) (Some other) values = by_test _ _ _ (answers _) (answers 0)
  by_attest key _ _ values = answers 0

  by_tag : (key : List ℕ) (own : Option Module) (values : List ℕ) → P (tag_answer key own core values).core
  by_tag key (Some own) values = by_test _ _ _ (answers 1) (answers 0)
  by_tag key None values = answers 0

  pub unit_leaves : (who : Doer) (x : UnitName) (values : List ℕ) → P (unit_effect who x core values).core
  unfolding unit_effect
  unit_leaves who Unprotect values = by_unprotect who.own
  unit_leaves who Protect values = by_test (takes who.table (new_text core) (new_ram core)) _ _ (answers (who.table.given + 1)) (answers 0)
  unit_leaves who Attest values = by_attest who.key who.own (attested who core) values
  unit_leaves who Tag values = by_tag who.key who.own values
  unit_leaves who _ values = answers _

module _ (core : List ℕ) where
  -- a core of an effect, as it is once the call left PC and PC was then moved on
  abbrev Moves : List ℕ → Type 0
  Moves after = put (with_old_pc core after) 0 (add16 (reg core 0) 2) ≡ after

  moves_answer : (v : ℕ) → Moves (put (next core) 15 v)
  moves_answer v = by core v
    where
      by : (c : List ℕ) (v : ℕ) → put (with_old_pc c (put (next c) 15 v)) 0 (add16 (reg c 0) 2) ≡ put (next c) 15 v
      by [] v = refl
      by (pc ∷ rest) v = refl

  moves_next : Moves (next core)
  moves_next = by core
    where
      by : (c : List ℕ) → put (with_old_pc c (next c)) 0 (add16 (reg c 0) 2) ≡ next c
      by [] = refl
      by (pc ∷ rest) = refl

  pub moves_on : (who : Doer) (x : UnitName) (values : List ℕ) → Moves (unit_effect who x core values).core
  moves_on who x values = unit_leaves core Moves moves_answer moves_next who x values
