-- How often pages are named, and the list of those that are not.
use Rattle.std.specs.Prelude.{◌≡◌, ◌≢◌, ℕ, ◌≤◌, ◌==◌, List, Some, All, AllPairs, length, take, slice_get, count_by}

-- how many of these places name the page
abbrev pub times_in : ℕ → List ℕ → ℕ
times_in page places = count_by (λ place. place == page) places

-- the first `spare` of `free` are the pages with count 0, each of them once
pub record IsFree (counts free : List ℕ) (spare : ℕ) : Type 0 where
  pub room : spare ≤ length free
  pub number : spare ≡ count_by (λ count. count == 0) counts
  pub unnamed : All (λ page. slice_get counts page ≡ Some 0) (take spare free)
  pub once : AllPairs (λ a b. a ≢ b) (take spare free)
