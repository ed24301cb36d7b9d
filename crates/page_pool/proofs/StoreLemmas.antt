-- What a sound store says of a place, and what a write of its page leaves.
use Rattle.std.proofs.Common.{◌≡◌, ◌≢◌, ℕ, ◌+◌, ◌-◌, ◌*◌, ◌<◌, ◌≤◌, true, false, Bool, cond, List, [], Some, None, Option, IsSome, option_map, length, get_or, All, sym, refl, subst, ap, ◌∙◌, arith, ⊎_elim}
use Rattle.std.proofs.Math.ListN.{set}
use Rattle.std.specs.List.{slice_get}
use Rattle.std.specs.Option.{option_and_then}
use Rattle.std.proofs.lemmas.Bool.{cases_lt, false≢true}
use Rattle.std.proofs.lemmas.Option.{slice_get-get_or, get_or_from_slice_get, same_Some}
use Rattle.std.proofs.lemmas.List.{length-set, length-map, get_or-set_same, get_or-map, get_or_read, get_or_past}
use Rattle.std.proofs.lemmas.List.Elements.{All-get_or, All-set}
use Rattle.std.proofs.lemmas.List.Sums.{get_or-le-sum_by}
use Rattle.page_pool.specs.declared.store.Table.{Table}
use Rattle.page_pool.specs.internal.Naming.{names_of, bytes_at, table_at, tables_at, IsCounted, page_place}
use Rattle.page_pool.specs.Tables.{table_of, IsLive, IsUnused}
use Rattle.page_pool.proofs.TableLemmas.{names_in, named_in, live_bytes, tables_at-set_named}
use Rattle.page_pool.proofs.CopyLemmas.{spare_some, free_inside, copy_counted, copy_same}

-- ---- a table by its number

-- a table for a number past the end
abbrev pub no_table : Table
no_table = record { is_live = false; places = [] }

-- the page that place n of table t names
abbrev pub place_of : List Table → ℕ → ℕ → ℕ
place_of tables t n = get_or (get_or tables t no_table).places n 0

-- table t is there and live
pub record IsLiveIn (tables : List Table) (t : ℕ) : Type 0 where
  pub there : t < length tables
  pub live : (get_or tables t no_table).is_live ≡ true

table_shown : (pages : List (List ℕ)) (live : Bool) (places : List ℕ) → IsSome (cond live (Some (bytes_at pages places)) None) → live ≡ true
table_shown pages true places h = refl
table_shown pages false places h = h

pub none_is_some : {o : Option (List ℕ)} → o ≡ None → IsSome o → ⊥
none_is_some {o} e h = false≢true (subst (λ (x : Option (List ℕ)). IsSome x) e h)

pub live_in : (pages : List (List ℕ)) (tables : List Table) (t : ℕ) → IsLive (tables_at pages tables) t → IsLiveIn tables t
live_in pages tables t h = ⊎_elim
    (λ l. record {
      there = l;
      live = table_shown pages (get_or tables t no_table).is_live (get_or tables t no_table).places
          (subst (λ (o : Option (List ℕ)). IsSome o) (get_or-map (table_at pages) tables t no_table None l) h);
    })
    (λ l. absurd (none_is_some (get_or_past (tables_at pages tables) t None (rw (length-map tables (table_at pages)) l)) h))
    (cases_lt t (length tables))

table_dead : (pages : List (List ℕ)) (live : Bool) (places : List ℕ) → cond live (Some (bytes_at pages places)) None ≡ None → live ≡ false
table_dead pages true places e = absurd (none_is_some e refl)
table_dead pages false places e = refl

pub unused_in : (pages : List (List ℕ)) (tables : List Table) (t : ℕ) → IsUnused (tables_at pages tables) t
    → (t < length tables) × ((get_or tables t no_table).is_live ≡ false)
unused_in pages tables t u =
    let there : t < length tables = rw (length-map tables (table_at pages)) at u.there in
    (there, table_dead pages (get_or tables t no_table).is_live (get_or tables t no_table).places (sym (get_or-map (table_at pages) tables t no_table None there) ∙ u.unused))

pub places_long : (pages : List (List ℕ)) (counts : List ℕ) (tables : List Table) (free : List ℕ) (spare t : ℕ)
    → IsCounted pages counts tables free spare → IsLiveIn tables t → length (get_or tables t no_table).places ≡ 256
places_long pages counts tables free spare t k l = All-get_or (λ w. length w.places ≡ 256) tables t no_table l.there k.whole_tables

pub place_inside : (pages : List (List ℕ)) (counts : List ℕ) (tables : List Table) (free : List ℕ) (spare t n : ℕ)
    → IsCounted pages counts tables free spare → IsLive (tables_at pages tables) t → n < 256 → place_of tables t n < length pages
place_inside pages counts tables free spare t n k live small =
    let l = live_in pages tables t live in
    let u = get_or tables t no_table in
    let places = places_long pages counts tables free spare t k l in
    let inside_u : All (λ place. place < length pages) u.places = All-get_or (λ w. All (λ place. place < length pages) w.places) tables t no_table l.there k.named in
    All-get_or (λ place. place < length pages) u.places n 0 (omega arith) inside_u

-- the page that is named there
pub place_read : (pages : List (List ℕ)) (counts : List ℕ) (tables : List Table) (free : List ℕ) (spare t n : ℕ)
    → IsCounted pages counts tables free spare → IsLive (tables_at pages tables) t → n < 256 → page_place tables t n ≡ Some (place_of tables t n)
place_read pages counts tables free spare t n k live small =
    let l = live_in pages tables t live in
    let u = get_or tables t no_table in
    let places = places_long pages counts tables free spare t k l in
    ap (option_and_then (λ (w : Table). slice_get w.places n)) (slice_get-get_or tables t no_table l.there) ∙ slice_get-get_or u.places n 0 (omega arith)

pub place_found : (pages : List (List ℕ)) (counts : List ℕ) (tables : List Table) (free : List ℕ) (spare t n : ℕ) (table : Table) (page : ℕ)
    → IsCounted pages counts tables free spare → IsLive (tables_at pages tables) t → n < 256 → table ≡ get_or tables t table → page ≡ get_or table.places n 0 → page_place tables t n ≡ Some page
place_found pages counts tables free spare t n table page k live small e f =
    place_read pages counts tables free spare t n k live small
    ∙ ap (λ (p : ℕ). Some p) (ap (λ (w : Table). get_or w.places n 0) (sym (get_or_read tables t table (live_in pages tables t live).there e no_table)) ∙ sym f)

pub place_same : (pages : List (List ℕ)) (counts : List ℕ) (tables : List Table) (free : List ℕ) (spare t n page : ℕ)
    → IsCounted pages counts tables free spare → IsLive (tables_at pages tables) t → n < 256 → page_place tables t n ≡ Some page → place_of tables t n ≡ page
place_same pages counts tables free spare t n page k live small named =
    same_Some (place_of tables t n) page (sym (place_read pages counts tables free spare t n k live small) ∙ named)

pub named_inside : (pages : List (List ℕ)) (counts : List ℕ) (tables : List Table) (free : List ℕ) (spare t n page : ℕ)
    → IsCounted pages counts tables free spare → IsLive (tables_at pages tables) t → n < 256 → page_place tables t n ≡ Some page → page < length pages
named_inside pages counts tables free spare t n page k live small named =
    subst (λ (x : ℕ). x < length pages) (place_same pages counts tables free spare t n page k live small named) (place_inside pages counts tables free spare t n k live small)

pub place_counted : (pages : List (List ℕ)) (counts : List ℕ) (tables : List Table) (free : List ℕ) (spare t n d : ℕ)
    → IsCounted pages counts tables free spare → IsLive (tables_at pages tables) t → n < 256 → 1 ≤ get_or counts (place_of tables t n) d
place_counted pages counts tables free spare t n d k live small =
    let l = live_in pages tables t live in
    let u = get_or tables t no_table in
    let page = place_of tables t n in
    let places = places_long pages counts tables free spare t k l in
    let inside = place_inside pages counts tables free spare t n k live small in
    let here : 1 ≤ names_in page u = named_in page u n l.live (omega arith) refl in
    let all : names_in page u ≤ names_of page tables = get_or-le-sum_by (names_in page) tables t no_table l.there in
    let c = get_or_from_slice_get counts page (names_of page tables) d (k.counted page inside) in
    omega arith

pub named_counted : (pages : List (List ℕ)) (counts : List ℕ) (tables : List Table) (free : List ℕ) (spare t n page d : ℕ)
    → IsCounted pages counts tables free spare → IsLive (tables_at pages tables) t → n < 256 → page_place tables t n ≡ Some page → 1 ≤ get_or counts page d
named_counted pages counts tables free spare t n page d k live small named =
    subst (λ (x : ℕ). 1 ≤ get_or counts x d) (place_same pages counts tables free spare t n page k live small named) (place_counted pages counts tables free spare t n d k live small)

pub spare_there : (pages : List (List ℕ)) (counts : List ℕ) (tables : List Table) (free : List ℕ) (spare t n shared : ℕ)
    → IsCounted pages counts tables free spare → IsLive (tables_at pages tables) t → n < 256 → page_place tables t n ≡ Some shared → get_or counts shared 0 ≢ 1 → 1 ≤ spare
spare_there pages counts tables free spare t n shared k live small named not_own =
    let inside = named_inside pages counts tables free spare t n shared k live small named in
    let one = named_counted pages counts tables free spare t n shared 0 k live small named in
    let a = k.counts_length in
    let b = k.pages_length in
    spare_some pages counts tables free spare shared k (omega arith) (omega arith)

-- ---- a page that one place alone names is written

pub page_counted : (pages : List (List ℕ)) (counts : List ℕ) (tables : List Table) (free : List ℕ) (spare page : ℕ) (x : List ℕ)
    → IsCounted pages counts tables free spare → length x ≡ 256 → IsCounted (set pages page x) counts tables free spare
page_counted pages counts tables free spare page x k long =
    let same : length (set pages page x) ≡ length pages = length-set pages page x in
    record {
      most = k.most;
      pages_length = same ∙ k.pages_length;
      counts_length = k.counts_length;
      free_length = k.free_length;
      whole_pages = All-set (λ p. length p ≡ 256) pages page x long k.whole_pages;
      whole_tables = k.whole_tables;
      named = rw same k.named;
      counted = λ p h. k.counted p (omega arith);
      total = k.total;
      spared = k.spared;
    }

pub live_table : (pages : List (List ℕ)) (tables : List Table) (t : ℕ) → IsLiveIn tables t
    → get_or (tables_at pages tables) t None ≡ Some (bytes_at pages (get_or tables t no_table).places)
live_table pages tables t l =
    let u = get_or tables t no_table in
    get_or-map (table_at pages) tables t no_table None l.there ∙ live_bytes pages u.is_live u.places l.live

pub page_written : (pages : List (List ℕ)) (counts : List ℕ) (tables : List Table) (free : List ℕ) (spare t n page at byte : ℕ) (bytes : List ℕ) (before : List (Option (List ℕ)))
    → IsCounted pages counts tables free spare → IsLive (tables_at pages tables) t → n < 256 → at < 256
    → page_place tables t n ≡ Some page → get_or counts page 0 ≡ 1 → bytes ≡ get_or pages page bytes → tables_at pages tables ≡ before
    → tables_at (set pages page (set bytes at byte)) tables ≡ set before t (option_map (λ shown. set shown (256 * n + at) byte) (table_of before t))
page_written pages counts tables free spare t n page at byte bytes before k live small in_page named one e same =
    let l = live_in pages tables t live in
    let inside = named_inside pages counts tables free spare t n page k live small named in
    let places = places_long pages counts tables free spare t k l in
    let changed = tables_at-set_named pages tables t n page at byte no_table
    record { there = l.there; live = l.live; place = omega arith; names = place_same pages counts tables free spare t n page k live small named; once = sym (get_or_from_slice_get counts page (names_of page tables) 0 (k.counted page inside)) ∙ one }
    in_page k.named k.whole_pages in
    rw (← same, live_table pages tables t l, get_or_read pages page bytes inside e []) changed

-- ---- a place gets a page of its own

-- what the copy of a page leaves
pub record Copied (pages before : List (List ℕ)) (counts : List ℕ) (tables old : List Table) (free : List ℕ) (spare t n page : ℕ) : Type 0 where
  pub counted : IsCounted pages counts tables free spare
  pub same : tables_at pages tables ≡ tables_at before old
  pub place : page_place tables t n ≡ Some page
  pub own : get_or counts page 0 ≡ 1

pub page_there : (pages : List (List ℕ)) (counts : List ℕ) (tables : List Table) (free : List ℕ) (spare t n shared place page : ℕ)
    → IsCounted pages counts tables free spare → IsLive (tables_at pages tables) t → n < 256 → page_place tables t n ≡ Some shared → get_or counts shared 0 ≢ 1
    → place ≡ get_or free (spare - 1) place → page ≡ place
    → (page < length counts) × (page < length pages)
page_there pages counts tables free spare t n shared place page k live small named not_own e f =
    let some = spare_there pages counts tables free spare t n shared k live small named not_own in
    let room : spare ≤ length free = k.spared.room in
    let g : place ≡ get_or free (spare - 1) 0 = get_or_read free (spare - 1) place (omega arith) e 0 in
    let inside = free_inside counts free spare (spare - 1) k.spared (omega arith) in
    let a = k.counts_length in
    let b = k.pages_length in
    (omega arith, omega arith)

pub copied : (pages : List (List ℕ)) (counts : List ℕ) (tables : List Table) (free : List ℕ) (spare t n shared : ℕ)
    (u : Table) (place page count : ℕ) (x : List ℕ)
    → IsCounted pages counts tables free spare → IsLive (tables_at pages tables) t → n < 256 → page_place tables t n ≡ Some shared → get_or counts shared 0 ≢ 1
    → place ≡ get_or free (spare - 1) place → page ≡ place
    → x ≡ get_or pages shared x → count ≡ get_or counts shared count → u ≡ get_or tables t u
    → Copied (set pages page x) pages (set (set counts shared (count - 1)) page 1)
    (set tables t record { is_live = u.is_live; places = set u.places n place }) tables free (spare - 1) t n page
copied pages counts tables free spare t n shared u place page count x k live small named not_own e_place e_page e_x e_count e_u =
    let l = live_in pages tables t live in
    let some = spare_there pages counts tables free spare t n shared k live small named not_own in
    let room : spare ≤ length free = k.spared.room in
    let inside = named_inside pages counts tables free spare t n shared k live small named in
    let one = named_counted pages counts tables free spare t n shared 0 k live small named in
    let lengths = k.counts_length ∙ sym k.pages_length in
    let b = place_same pages counts tables free spare t n shared k live small named in
    let f : place ≡ get_or free (spare - 1) 0 = get_or_read free (spare - 1) place (omega arith) e_place 0 in
    let g : page ≡ get_or free (spare - 1) 0 = e_page ∙ f in
    let h : x ≡ get_or pages shared [] = get_or_read pages shared x inside e_x [] in
    let i : count ≡ get_or counts shared 0 = get_or_read counts shared count (omega arith) e_count 0 in
    let j : u ≡ get_or tables t no_table = get_or_read tables t u l.there e_u no_table in
    let counted = copy_counted pages counts tables free spare t n shared no_table k l.there l.live small b (omega arith) in
    let same = copy_same pages counts tables free spare t n shared no_table k l.there l.live small b (omega arith) in
    let fits : get_or free (spare - 1) 0 < length counts = free_inside counts free spare (spare - 1) k.spared (omega arith) in
    let long = length-set counts shared (get_or counts shared 0 - 1) in
    let v : Table = record { is_live = u.is_live; places = set u.places n place } in
    let places : length u.places ≡ 256 = rw j (places_long pages counts tables free spare t k l) in
    let wide : n < length u.places = omega arith in
    record {
      counted = rw (g, f, h, i, j) counted;
      same = rw (g, f, h, j) same;
      place = ap (option_and_then (λ (w : Table). slice_get w.places n)) (slice_get-get_or (set tables t v) t v (rw (length-set tables t v) l.there) ∙ ap (λ (w : Table). Some w) (get_or-set_same tables t v v l.there))
          ∙ slice_get-get_or (set u.places n place) n 0 (rw (length-set u.places n place) wide) ∙ ap (λ (q : ℕ). Some q) (get_or-set_same u.places n place 0 wide ∙ sym e_page);
      own = rw (g, i) (get_or-set_same (set counts shared (get_or counts shared 0 - 1)) (get_or free (spare - 1) 0) 1 0 (omega arith));
    }
