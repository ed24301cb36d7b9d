-- What the code's layout stands for, and what it keeps.
use Rattle.std.specs.Prelude.{ℕ, ◌≡◌, ◌≢◌, ◌<◌, ◌≤◌, length, List, map, All, AllPairs, Some, Ok}
use Rattle.asm_line.specs.declared.statement.Statement.{Statement}
use Rattle.asm_text.specs.declared.TheConstants.{MAX_SECTIONS, MAX_LABELS}
use Rattle.asm_line.specs.declared.TheConstants.{MAX_SIZE}
use Rattle.asm_text.specs.declared.placing.Head.{Head}
use Rattle.asm_text.specs.declared.placing.Spot.{Spot}
use Rattle.asm_text.specs.declared.placing.Layout.{Layout}
use Rattle.asm_text.specs.Placing.{Placed, spot_of, nowhere, placed_from}

abbrev pub placed_of : Layout → Placed
placed_of l = record { heads = l.heads.items; labels = l.labels.items; spots = l.spots.items }

abbrev pub AreSmall : List Head → Type 0
AreSmall heads = All (λ h. h.size ≤ MAX_SIZE) heads

abbrev pub names_in : List Head → List ℕ
names_in heads = map (λ h. h.name) heads

-- what is kept from line to line, in a source of so many names
pub record IsPlaced (names : ℕ) (p : Placed) : Type 0 where
  pub few : length p.heads ≤ MAX_SECTIONS
  pub small : AreSmall p.heads
  pub differ : AllPairs (λ a b. a ≢ b) (names_in p.heads)
  pub labels : length p.labels ≤ MAX_LABELS
  pub known : All (λ k. k < names) p.labels
  pub spots : length p.spots ≡ names
  pub within : (k : ℕ) (spot : Spot) → spot_of p.spots k ≡ Some spot → spot.section < length p.heads

-- the statements of a source of so many names have no refusal
pub record ArePlaced (names : ℕ) (statements : List (Statement ℕ)) : Type 0 where
  pub end : Placed
  pub goes : placed_from 1 (nowhere names) statements ≡ Ok end
