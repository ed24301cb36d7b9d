-- How a memory keeps its bytes and those of its marks: one table of a pool each.
use Rattle.std.specs.Prelude.{◌≡◌, ◌≢◌, ℕ, ◌+◌, ◌≤◌, List, [], Option, All, AllPairs, length, map, count_by, is_some, unwrap_or}
use Rattle.page_pool.specs.Tables.{table_of, IsLive}
use Rattle.mem_map.specs.Contents.{Contents}

-- the bytes of a table that is live
abbrev pub table_bytes : List (Option (List ℕ)) → ℕ → List ℕ
table_bytes tables t = unwrap_or (table_of tables t) []

abbrev pub contents_of : List (Option (List ℕ)) → ℕ → List ℕ → ℕ → Contents
contents_of tables present marks room = record { bytes = table_bytes tables present; marked = map (table_bytes tables) marks; room = room }

-- the present table and those of the marks differ, and they alone are live
pub record IsMarked (tables : List (Option (List ℕ))) (present : ℕ) (marks : List ℕ) (room : ℕ) : Type 0 where
  pub tables_length : length tables ≡ room + 1
  pub most : room ≤ 16
  pub live : IsLive tables present
  pub all_live : All (λ mark. IsLive tables mark) marks
  pub apart : All (λ mark. mark ≢ present) marks
  pub once : AllPairs (λ a b. a ≢ b) marks
  pub alone : count_by (λ table. is_some table) tables ≡ length marks + 1
