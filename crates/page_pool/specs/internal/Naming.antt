-- How a pool keeps its tables: places that name pages, and counts of these names.
use Rattle.std.specs.Prelude.{◌≡◌, ℕ, ◌*◌, ◌<◌, ◌≤◌, cond, List, [], Option, Some, None, option_and_then, All, length, get_or, slice_get, map, sum, sum_by, count_by, flat_map}
use Rattle.page_pool.specs.internal.Counts.{times_in, IsFree}
use Rattle.page_pool.specs.declared.store.Table.{Table}
use Rattle.page_pool.specs.declared.store.Store.{Store}

-- the bytes of the pages that these places name, one page after the other
abbrev pub bytes_at : List (List ℕ) → List ℕ → List ℕ
bytes_at pages places = flat_map (λ place. get_or pages place []) places

-- the bytes of a table, where it is live
abbrev pub table_at : List (List ℕ) → Table → Option (List ℕ)
table_at pages t = cond t.is_live (Some (bytes_at pages t.places)) None

abbrev pub tables_at : List (List ℕ) → List Table → List (Option (List ℕ))
tables_at pages tables = map (table_at pages) tables

-- how many places of live tables name the page
abbrev pub names_of : ℕ → List Table → ℕ
names_of page tables = sum_by (λ t. cond t.is_live (times_in page t.places) 0) tables

-- the page that place n of table t names, where both are there
abbrev pub page_place : List Table → ℕ → ℕ → Option ℕ
page_place tables t n = option_and_then (λ table. slice_get table.places n) (slice_get tables t)

-- each page's count is the number of places of live tables that name it, and there is a page for each place
pub record IsCounted (pages : List (List ℕ)) (counts : List ℕ) (tables : List Table) (free : List ℕ) (spare : ℕ) : Type 0 where
  pub most : length tables ≤ 17
  pub pages_length : length pages ≡ 256 * length tables
  pub counts_length : length counts ≡ 256 * length tables
  pub free_length : length free ≡ 256 * length tables
  pub whole_pages : All (λ page. length page ≡ 256) pages
  pub whole_tables : All (λ t. length t.places ≡ 256) tables
  pub named : All (λ t. All (λ place. place < length pages) t.places) tables
  pub counted : (page : ℕ) → page < length pages → slice_get counts page ≡ Some (names_of page tables)
  pub total : sum counts ≡ 256 * count_by (λ t. t.is_live) tables
  pub spared : IsFree counts free spare

abbrev pub IsStore : Store → Type 0
IsStore s = IsCounted s.pages.items s.counts.items s.tables.items s.free.items s.spare

abbrev pub tables_of : Store → List (Option (List ℕ))
tables_of s = tables_at s.pages.items s.tables.items
