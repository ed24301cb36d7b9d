-- A table joins, or ends.
use Rattle.std.proofs.Common.{◌≡◌, ℕ, ◌+◌, ◌<◌, ◌≤◌, ◌==◌, true, false, Bool, cond, List, [], None, Option, length, get_or, All, sum, count_by, sym, refl, ap, ◌∙◌, arith}
use Rattle.std.proofs.Math.ListN.{set}
use Rattle.std.proofs.lemmas.List.{length-set, map-set, get_or-map, get_or_read}
use Rattle.std.proofs.lemmas.List.Elements.{All-get_or, All-set, All-from_get_or}
use Rattle.std.proofs.lemmas.List.Sums.{sum_by-set, get_or-le-sum_by, count_by-le-length}
use Rattle.std.proofs.lemmas.Bool.{cond-true, cond-false}
use Rattle.std.proofs.lemmas.Option.{get_or_from_slice_get}
use Rattle.page_pool.specs.declared.store.Table.{Table}
use Rattle.page_pool.specs.internal.Counts.{times_in, IsFree}
use Rattle.page_pool.specs.Tables.{table_of, IsLive, IsUnused}
use Rattle.page_pool.specs.internal.Naming.{names_of, table_at, tables_at, IsCounted}
use Rattle.page_pool.proofs.TableLemmas.{names_in, live_names}
use Rattle.page_pool.proofs.CopyLemmas.{are_free, count_is, free_inside, free_once, free_unnamed}
use Rattle.page_pool.proofs.StoreLemmas.{no_table, place_of, live_in, unused_in, places_long, place_inside, place_counted}

dead_names : (page : ℕ) (live : Bool) (places : List ℕ) → live ≡ false → cond live (times_in page places) 0 ≡ 0
dead_names page live places h = rw h refl

-- ---- a table joins

pub places_named : (pages : List (List ℕ)) (counts : List ℕ) (tables : List Table) (free : List ℕ) (spare t : ℕ) (u : Table)
    → IsCounted pages counts tables free spare → IsLive (tables_at pages tables) t → u ≡ get_or tables t u → All (λ place. 0 < get_or counts place 0) u.places
places_named pages counts tables free spare t u k live e =
    let l = live_in pages tables t live in
    rw (get_or_read tables t u l.there e no_table)
    (All-from_get_or (λ place. 0 < get_or counts place 0) (get_or tables t no_table).places 0
    (λ n h. let long = places_long pages counts tables free spare t k l in let c = place_counted pages counts tables free spare t n 0 k live (omega arith) in omega arith))

pub places_inside : (pages : List (List ℕ)) (counts : List ℕ) (tables : List Table) (free : List ℕ) (spare t : ℕ) (u : Table)
    → IsCounted pages counts tables free spare → IsLive (tables_at pages tables) t → u ≡ get_or tables t u → All (λ place. place < length counts) u.places
places_inside pages counts tables free spare t u k live e =
    let l = live_in pages tables t live in
    rw (get_or_read tables t u l.there e no_table, k.counts_length ∙ sym k.pages_length)
    (All-get_or (λ w. All (λ place. place < length pages) w.places) tables t no_table l.there k.named)

live_set : (tables : List Table) (t : ℕ) (v : Table) → t < length tables
    → count_by (λ w. w.is_live) (set tables t v) + cond {A = ℕ} (get_or tables t no_table).is_live 1 0 ≡ count_by (λ w. w.is_live) tables + cond {A = ℕ} v.is_live 1 0
live_set tables t v h = sum_by-set (λ (w : Table). cond {A = ℕ} w.is_live 1 0) tables t v no_table h

pub total_small : (pages : List (List ℕ)) (counts : List ℕ) (tables : List Table) (free : List ℕ) (spare to : ℕ)
    → IsCounted pages counts tables free spare → IsUnused (tables_at pages tables) to → sum counts ≤ 4096
total_small pages counts tables free spare to k unused =
    let n = unused_in pages tables to unused in
    let v : Table = record { is_live = true; places = [] } in
    let one = live_set tables to v n.0 in
    let none = cond-false {A = ℕ} (get_or tables to no_table).is_live 1 0 n.1 in
    let most = count_by-le-length (λ (w : Table). w.is_live) (set tables to v) in
    let long = length-set tables to v in
    let a = k.total in
    let b = k.most in
    omega arith

pub share_counted : (pages : List (List ℕ)) (counts : List ℕ) (tables : List Table) (free : List ℕ) (spare t to : ℕ) (u : Table) (after : List ℕ)
    → IsCounted pages counts tables free spare → IsLive (tables_at pages tables) t → IsUnused (tables_at pages tables) to → u ≡ get_or tables t u
    → length after ≡ length counts
    → ((page : ℕ) → get_or after page 0 ≡ get_or counts page 0 + times_in page u.places)
    → sum after ≡ sum counts + 256
    → count_by (λ count. count == 0) after ≡ count_by (λ count. count == 0) counts
    → IsCounted pages after (set tables to u) free spare
share_counted pages counts tables free spare t to u after k live_from unused e long counted total zeros =
    let l = live_in pages tables t live_from in
    let n = unused_in pages tables to unused in
    let there : to < length tables = n.0 in
    let f : u ≡ get_or tables t no_table = get_or_read tables t u l.there e no_table in
    let live : u.is_live ≡ true = ap (λ (w : Table). w.is_live) f ∙ l.live in
    let named_u : All (λ place. place < length pages) u.places = rw f (All-get_or (λ w. All (λ place. place < length pages) w.places) tables t no_table l.there k.named) in
    let long_u : length u.places ≡ 256 = rw f (places_long pages counts tables free spare t k l) in
    let tables_long = length-set tables to u in
    let cl = k.counts_length in
    let pl = k.pages_length in
    let fl = k.free_length in
    let most = k.most in
    let one = live_set tables to u there in
    let none = cond-false {A = ℕ} (get_or tables to no_table).is_live 1 0 n.1 in
    let some = cond-true {A = ℕ} u.is_live 1 0 live in
    let tot = k.total in
    let names : (page : ℕ) → names_of page (set tables to u) ≡ names_of page tables + times_in page u.places = λ page.
    let whole = sum_by-set (names_in page) tables to u no_table there in
    let before = dead_names page (get_or tables to no_table).is_live (get_or tables to no_table).places n.1 in
    let now = live_names page u.is_live u.places live in
    omega arith in
    record {
      most = omega arith;
      pages_length = omega arith;
      counts_length = omega arith;
      free_length = omega arith;
      whole_pages = k.whole_pages;
      whole_tables = All-set (λ w. length w.places ≡ 256) tables to u long_u k.whole_tables;
      named = All-set (λ w. All (λ place. place < length pages) w.places) tables to u named_u k.named;
      counted = λ page h. count_is after page (names_of page (set tables to u)) (omega arith)
          (let a = names page in let b = counted page in let c = get_or_from_slice_get counts page (names_of page tables) 0 (k.counted page h) in omega arith);
      total = omega arith;
      spared = are_free after free spare k.spared.room (k.spared.number ∙ sym zeros)
          (λ i h. let a = free_inside counts free spare i k.spared h in omega arith)
          (λ i h.
          let page = get_or free i 0 in
          let a : get_or counts page 0 ≡ 0 = free_unnamed counts free spare i k.spared h in
          let in_range = free_inside counts free spare i k.spared h in
          let b = get_or_from_slice_get counts page (names_of page tables) 0 (k.counted page (omega arith)) in
          let c = get_or-le-sum_by (names_in page) tables t no_table l.there in
          let d = live_names page (get_or tables t no_table).is_live (get_or tables t no_table).places l.live in
          let g : times_in page u.places ≡ times_in page (get_or tables t no_table).places = ap (λ (w : Table). times_in page w.places) f in
          let m = counted page in
          omega arith)
          (λ i j. free_once counts free spare i j k.spared);
    }

pub share_same : (pages : List (List ℕ)) (tables : List Table) (t to : ℕ) (u : Table)
    → IsLive (tables_at pages tables) t → u ≡ get_or tables t u
    → tables_at pages (set tables to u) ≡ set (tables_at pages tables) to (table_of (tables_at pages tables) t)
share_same pages tables t to u live_from e =
    let l = live_in pages tables t live_from in
    let there : table_at pages u ≡ get_or (tables_at pages tables) t None =
    ap (table_at pages) (get_or_read tables t u l.there e no_table) ∙ sym (get_or-map (table_at pages) tables t no_table None l.there) in
    map-set (table_at pages) tables to u ∙ ap (λ (o : Option (List ℕ)). set (tables_at pages tables) to o) there

-- ---- a table ends

pub names_enough : (pages : List (List ℕ)) (counts : List ℕ) (tables : List Table) (free : List ℕ) (spare t : ℕ) (u : Table)
    → IsCounted pages counts tables free spare → IsLive (tables_at pages tables) t → u ≡ get_or tables t u
    → All (λ place. times_in place u.places ≤ get_or counts place 0) u.places
names_enough pages counts tables free spare t u k live e =
    let l = live_in pages tables t live in
    rw (get_or_read tables t u l.there e no_table)
    (All-from_get_or (λ place. times_in place (get_or tables t no_table).places ≤ get_or counts place 0) (get_or tables t no_table).places 0
    (λ n h.
    let page = place_of tables t n in
    let long = places_long pages counts tables free spare t k l in
    let inside = place_inside pages counts tables free spare t n k live (omega arith) in
    let a = get_or_from_slice_get counts page (names_of page tables) 0 (k.counted page inside) in
    let b = get_or-le-sum_by (names_in page) tables t no_table l.there in
    let c = live_names page (get_or tables t no_table).is_live (get_or tables t no_table).places l.live in
    omega arith))

pub end_counted : (pages : List (List ℕ)) (counts : List ℕ) (tables : List Table) (free : List ℕ) (spare t : ℕ) (u v : Table) (after free_after : List ℕ) (spare_after : ℕ)
    → IsCounted pages counts tables free spare → IsLive (tables_at pages tables) t → u ≡ get_or tables t u → v ≡ get_or tables t v
    → length after ≡ length counts → length free_after ≡ length free
    → ((page : ℕ) → get_or after page 0 + times_in page u.places ≡ get_or counts page 0)
    → sum after + 256 ≡ sum counts
    → IsFree after free_after spare_after
    → IsCounted pages after (set tables t record { is_live = false; places = v.places }) free_after spare_after
end_counted pages counts tables free spare t u v after free_after spare_after k live e e_v long long_free counted total spared =
    let l = live_in pages tables t live in
    let there : t < length tables = l.there in
    let f : u ≡ get_or tables t no_table = get_or_read tables t u there e no_table in
    let g : v ≡ get_or tables t no_table = get_or_read tables t v there e_v no_table in
    let w : Table = record { is_live = false; places = v.places } in
    let named_v : All (λ place. place < length pages) v.places = rw g (All-get_or (λ x. All (λ place. place < length pages) x.places) tables t no_table there k.named) in
    let long_v : length v.places ≡ 256 = rw g (places_long pages counts tables free spare t k l) in
    let tables_long = length-set tables t w in
    let cl = k.counts_length in
    let pl = k.pages_length in
    let fl = k.free_length in
    let most = k.most in
    let one = live_set tables t w there in
    let some = cond-true {A = ℕ} (get_or tables t no_table).is_live 1 0 l.live in
    let tot = k.total in
    let names : (page : ℕ) → names_of page (set tables t w) + times_in page u.places ≡ names_of page tables = λ page.
    let whole = sum_by-set (names_in page) tables t w no_table there in
    let before = live_names page (get_or tables t no_table).is_live (get_or tables t no_table).places l.live in
    let same : times_in page u.places ≡ times_in page (get_or tables t no_table).places = ap (λ (x : Table). times_in page x.places) f in
    omega arith in
    record {
      most = omega arith;
      pages_length = omega arith;
      counts_length = omega arith;
      free_length = omega arith;
      whole_pages = k.whole_pages;
      whole_tables = All-set (λ x. length x.places ≡ 256) tables t w long_v k.whole_tables;
      named = All-set (λ x. All (λ place. place < length pages) x.places) tables t w named_v k.named;
      counted = λ page h. count_is after page (names_of page (set tables t w)) (omega arith)
          (let a = names page in let b = counted page in let c = get_or_from_slice_get counts page (names_of page tables) 0 (k.counted page h) in omega arith);
      total = omega arith;
      spared = spared;
    }

pub end_same : (pages : List (List ℕ)) (tables : List Table) (t : ℕ) (v : Table)
    → tables_at pages (set tables t record { is_live = false; places = v.places }) ≡ set (tables_at pages tables) t None
end_same pages tables t v = map-set (table_at pages) tables t record { is_live = false; places = v.places }
