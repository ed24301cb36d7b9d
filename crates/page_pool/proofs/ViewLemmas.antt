-- What a table shows, page by page, and which tables are live.
use Rattle.std.proofs.Common.{◌≡◌, ℕ, ◌+◌, ◌-◌, ◌*◌, ◌<◌, true, false, Bool, cond, List, [], ◌∷◌, ◌++◌, Some, None, Option, IsSome, option_map, length, get_or, take, drop, All, slice_range, refl, subst, ap, ◌∙◌, arith, suc, zero}
use Rattle.std.proofs.lemmas.List.{length-append, length-map, get_or-map, get_or_read}
use Rattle.std.proofs.Math.Seq.{take-append_seam, drop-append-add}
use Rattle.std.proofs.lemmas.List.Elements.{All-head, All-tail, All-get_or, All-map, All-weaker}
use Rattle.page_pool.specs.declared.store.Table.{Table}
use Rattle.page_pool.specs.Tables.{table_of, IsLive, IsUnused}
use Rattle.page_pool.specs.internal.Naming.{bytes_at, table_at, tables_at, IsCounted}
use Rattle.page_pool.proofs.StoreLemmas.{no_table, place_of, live_in, none_is_some, place_inside, places_long, live_table}

-- ---- pages

pub bytes_long : (pages : List (List ℕ)) (places : List ℕ) → All (λ place. place < length pages) places → All (λ page. length page ≡ 256) pages
    → length (bytes_at pages places) ≡ 256 * length places
bytes_long pages [] inside whole = refl
bytes_long pages (p ∷ ps) inside whole =
    let fits = All-head (λ place. place < length pages) p ps inside in
    let here : length (get_or pages p []) ≡ 256 = All-get_or (λ page. length page ≡ 256) pages p [] fits whole in
    let rest = bytes_long pages ps (All-tail (λ place. place < length pages) p ps inside) whole in
    rw (length-append (get_or pages p []) (bytes_at pages ps), here, rest) (omega arith)

pub page_range : (pages : List (List ℕ)) (places : List ℕ) (n : ℕ) → n < length places → All (λ place. place < length pages) places → All (λ page. length page ≡ 256) pages
    → take 256 (drop (256 * n) (bytes_at pages places)) ≡ get_or pages (get_or places n 0) []
page_range pages [] n h inside whole = absurd (omega arith)
page_range pages (p ∷ ps) zero h inside whole =
    let fits = All-head (λ place. place < length pages) p ps inside in
    let here : length (get_or pages p []) ≡ 256 = All-get_or (λ page. length page ≡ 256) pages p [] fits whole in
    subst (λ (k : ℕ). take k (get_or pages p [] ++ bytes_at pages ps) ≡ get_or pages p []) here (take-append_seam (get_or pages p []) (bytes_at pages ps))
page_range pages (p ∷ ps) (suc n) h inside whole =
    let fits = All-head (λ place. place < length pages) p ps inside in
    let here : length (get_or pages p []) ≡ 256 = All-get_or (λ page. length page ≡ 256) pages p [] fits whole in
    let rest = page_range pages ps n (omega arith) (All-tail (λ place. place < length pages) p ps inside) whole in
    let e : 256 * suc n ≡ length (get_or pages p []) + 256 * n = omega arith in
    ap (λ (k : ℕ). take 256 (drop k (get_or pages p [] ++ bytes_at pages ps))) e ∙ ap (take 256) (drop-append-add (get_or pages p []) (bytes_at pages ps) (256 * n)) ∙ rest

-- ---- tables

pub page_shown : (pages : List (List ℕ)) (counts : List ℕ) (tables : List Table) (free : List ℕ) (spare t n : ℕ) (table : Table) (place : ℕ) (page : List ℕ)
    → IsCounted pages counts tables free spare → IsLive (tables_at pages tables) t → n < 256
    → table ≡ get_or tables t table → place ≡ get_or table.places n 0 → page ≡ get_or pages place page
    → option_map (λ bytes. slice_range bytes (256 * n) (256 * n + 256)) (table_of (tables_at pages tables) t) ≡ Some page
page_shown pages counts tables free spare t n table place page k live small e is f =
    let l = live_in pages tables t live in
    let places = places_long pages counts tables free spare t k l in
    let inside : All (λ place. place < length pages) (get_or tables t no_table).places = All-get_or (λ w. All (λ place. place < length pages) w.places) tables t no_table l.there k.named in
    let width : 256 * n + 256 - 256 * n ≡ 256 = omega arith in
    let at : place ≡ place_of tables t n = is ∙ ap (λ (w : Table). get_or w.places n 0) (get_or_read tables t table l.there e no_table) in
    let read : page ≡ get_or pages (place_of tables t n) [] = get_or_read pages (place_of tables t n) page (place_inside pages counts tables free spare t n k live small) (f ∙ ap (λ (i : ℕ). get_or pages i page) at) [] in
    rw (live_table pages tables t l, width, read) (ap (λ (bytes : List ℕ). Some bytes) (page_range pages (get_or tables t no_table).places n (omega arith) inside k.whole_pages))

pub size_shown : (pages : List (List ℕ)) (counts : List ℕ) (tables : List Table) (free : List ℕ) (spare t : ℕ) (before : List (Option (List ℕ)))
    → IsCounted pages counts tables free spare → tables_at pages tables ≡ before → IsLive before t
    → option_map (λ bytes. length bytes) (table_of before t) ≡ Some 65536
size_shown pages counts tables free spare t before k same live =
    let l = live_in pages tables t (rw same live) in
    let places = places_long pages counts tables free spare t k l in
    let there : table_of before t ≡ Some (bytes_at pages (get_or tables t no_table).places) = rw (← same) (live_table pages tables t l) in
    let inside : All (λ place. place < length pages) (get_or tables t no_table).places = All-get_or (λ w. All (λ place. place < length pages) w.places) tables t no_table l.there k.named in
    let long = bytes_long pages (get_or tables t no_table).places inside k.whole_pages in
    rw there (ap (λ (size : ℕ). Some size) (omega arith))

-- ---- live and not live

dead_table : (pages : List (List ℕ)) (live : Bool) (places : List ℕ) → live ≡ false → cond live (Some (bytes_at pages places)) None ≡ None
dead_table pages live places h = rw h refl

pub unused_shown : (pages : List (List ℕ)) (tables : List Table) (t : ℕ) (d : Table) → t < length tables → (get_or tables t d).is_live ≡ false → IsUnused (tables_at pages tables) t
unused_shown pages tables t d there dead = record {
  there = rw (length-map tables (table_at pages)) there;
  unused = get_or-map (table_at pages) tables t d None there ∙ dead_table pages (get_or tables t d).is_live (get_or tables t d).places dead;
}

some_of : (pages : List (List ℕ)) (live : Bool) (places : List ℕ) → live ≡ true → IsSome (cond live (Some (bytes_at pages places)) None)
some_of pages live places h = rw h refl

pub all_shown : (pages : List (List ℕ)) (tables : List Table) → All (λ t. t.is_live ≡ true) tables → All (λ o. IsSome o) (tables_at pages tables)
all_shown pages tables h = All-map (λ o. IsSome o) (table_at pages) tables
    (All-weaker (λ (t : Table). t.is_live ≡ true) (λ t. IsSome (table_at pages t)) (λ t l. some_of pages t.is_live t.places l) tables h)

pub not_all_shown : (tables : List (Option (List ℕ))) (t : ℕ) → IsUnused tables t → All (λ o. IsSome o) tables → ⊥
not_all_shown tables t u h =
    let s : IsSome (get_or tables t None) = All-get_or (λ o. IsSome o) tables t None u.there h in
    none_is_some u.unused s
