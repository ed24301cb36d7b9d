-- The store whose table 0 alone is live, and names page 0 in each place.
use Rattle.std.proofs.Common.{◌≡◌, ◌≢◌, ℕ, ◌+◌, ◌-◌, ◌*◌, ◌<◌, ◌≤◌, true, false, cond, eqb, List, [], ◌∷◌, Some, None, Option, length, get_or, All, replicate, sum, count_by, map, sym, refl, subst, ap, ◌∙◌, arith, suc, zero, ⊎_elim}
use Rattle.std.proofs.Math.ListN.{set}
use Rattle.std.proofs.lemmas.List.{length-set, length-replicate, get_or-replicate, get_or-set_same, get_or-set_other, map-set, replicate-append-replicate}
use Rattle.std.proofs.lemmas.List.Elements.{All-replicate, All-set}
use Rattle.std.proofs.lemmas.List.Sums.{sum_by-set}
use Rattle.std.proofs.lemmas.List.Folds.{sum_by-replicate}
use Rattle.std.proofs.lemmas.Bool.Decides.{eqb_tells}
use Rattle.std.proofs.lemmas.Bool.{cond-true, cond-false}
use Rattle.page_pool.specs.declared.store.Table.{Table}
use Rattle.page_pool.specs.internal.Counts.{times_in, IsFree}
use Rattle.page_pool.specs.Tables.{zeros}
use Rattle.page_pool.specs.internal.Naming.{names_of, bytes_at, table_at, tables_at, IsCounted}
use Rattle.page_pool.proofs.TableLemmas.{names_in}
use Rattle.page_pool.proofs.CopyLemmas.{are_free, count_is}

page_zero : (page n : ℕ) → times_in page (replicate n 0) ≡ n * cond {A = ℕ} (eqb 0 page) 1 0
page_zero page n = sum_by-replicate (λ q. cond {A = ℕ} (eqb q page) 1 0) n 0

zero_bytes : (pages : List (List ℕ)) (n width : ℕ) → get_or pages 0 [] ≡ replicate width 0 → bytes_at pages (replicate n 0) ≡ replicate (n * width) 0
zero_bytes pages zero width e = let z : 0 * width ≡ 0 = omega arith in rw z refl
zero_bytes pages (suc n) width e =
    let sum_is : width + n * width ≡ suc n * width = omega arith in
    rw (e, zero_bytes pages n width e) (replicate-append-replicate width (n * width) 0 ∙ ap (λ (k : ℕ). replicate k 0) sum_is)

no_names : (page n : ℕ) (t : Table) → t.is_live ≡ false → names_of page (replicate n t) ≡ 0
no_names page n t dead =
    let none : names_in page t ≡ 0 = rw dead refl in
    let all = sum_by-replicate (names_in page) n t in
    let zero_times : n * names_in page t ≡ n * 0 = ap (λ (k : ℕ). n * k) none in
    let z : n * 0 ≡ 0 = omega arith in
    all ∙ zero_times ∙ z

free_of : (n : ℕ) (counts free : List ℕ) → 1 ≤ n → counts ≡ replicate n 0 → length free ≡ n → ((i : ℕ) → i < n → get_or free i 0 ≡ n - 1 - i)
    → IsFree (set counts 0 256) free (n - 1)
free_of n counts free least c long falling =
    let counts_long : length counts ≡ n = ap length c ∙ length-replicate n 0 in
    let after_long = length-set counts 0 256 in
    let all_zero = sum_by-replicate (λ count. cond {A = ℕ} (eqb count 0) 1 0) n 0 in
    let was : count_by (λ count. eqb count 0) counts ≡ n = ap (λ (cs : List ℕ). count_by (λ count. eqb count 0) cs) c ∙ all_zero ∙ (let e : n * 1 ≡ n = omega arith in e) in
    let first : get_or counts 0 0 ≡ 0 = ap (λ (cs : List ℕ). get_or cs 0 0) c ∙ get_or-replicate n 0 0 0 least in
    let moved : count_by (λ count. eqb count 0) (set counts 0 256) + cond {A = ℕ} (eqb (get_or counts 0 0) 0) 1 0 ≡ count_by (λ count. eqb count 0) counts + 0 =
    sum_by-set (λ count. cond {A = ℕ} (eqb count 0) 1 0) counts 0 256 0 (omega arith) in
    let one : cond {A = ℕ} (eqb (get_or counts 0 0) 0) 1 0 ≡ 1 = rw first refl in
    are_free (set counts 0 256) free (n - 1) (omega arith) (omega arith)
    (λ i h. let f = falling i (omega arith) in omega arith)
    (λ i h.
    let f = falling i (omega arith) in
    let away : get_or free i 0 ≢ 0 = λ e. absurd (omega arith) in
    get_or-set_other counts 0 (get_or free i 0) 256 0 away ∙ ap (λ (cs : List ℕ). get_or cs (get_or free i 0) 0) c ∙ get_or-replicate n (get_or free i 0) 0 0 (omega arith))
    (λ i j h k e. absurd (let f = falling i (omega arith) in let g = falling j (omega arith) in omega arith))

pub new_counted : (pages : List (List ℕ)) (counts : List ℕ) (tables : List Table) (free : List ℕ) (n : ℕ) (table : Table)
    → 1 ≤ n → n ≤ 17
    → pages ≡ replicate (n * 256) (replicate 256 0) → counts ≡ replicate (n * 256) 0
    → tables ≡ replicate n record { is_live = false; places = replicate 256 0 } → table ≡ get_or tables 0 table
    → length free ≡ n * 256 → ((i : ℕ) → i < n * 256 → get_or free i 0 ≡ n * 256 - 1 - i)
    → IsCounted pages (set counts 0 256) (set tables 0 record { is_live = true; places = table.places }) free (n * 256 - 1)
new_counted pages counts tables free n table least most p c t e long falling =
    let dead : Table = record { is_live = false; places = replicate 256 0 } in
    let live : Table = record { is_live = true; places = table.places } in
    let table_is : table ≡ dead = e ∙ ap (λ (ts : List Table). get_or ts 0 table) t ∙ get_or-replicate n 0 dead table least in
    let places_are : table.places ≡ replicate 256 0 = ap (λ (w : Table). w.places) table_is in
    let tables_long : length tables ≡ n = ap length t ∙ length-replicate n dead in
    let after_long = length-set tables 0 live in
    let pages_long : length pages ≡ n * 256 = ap length p ∙ length-replicate (n * 256) (replicate 256 0) in
    let counts_long : length counts ≡ n * 256 = ap length c ∙ length-replicate (n * 256) 0 in
    let set_long = length-set counts 0 256 in
    let first : get_or counts 0 0 ≡ 0 = ap (λ (cs : List ℕ). get_or cs 0 0) c ∙ get_or-replicate (n * 256) 0 0 0 (omega arith) in
    let sum_moved : sum (set counts 0 256) + get_or counts 0 0 ≡ sum counts + 256 = sum_by-set (λ (x : ℕ). x) counts 0 256 0 (omega arith) in
    let sum_zero : sum counts ≡ 0 = ap sum c ∙ sum_by-replicate (λ (x : ℕ). x) (n * 256) 0 ∙ (let z : n * 256 * 0 ≡ 0 = omega arith in z) in
    let live_moved : count_by (λ w. w.is_live) (set tables 0 live) + cond {A = ℕ} (get_or tables 0 dead).is_live 1 0 ≡ count_by (λ w. w.is_live) tables + 1 =
    sum_by-set (λ (w : Table). cond {A = ℕ} w.is_live 1 0) tables 0 live dead (omega arith) in
    let first_table : get_or tables 0 dead ≡ dead = ap (λ (ts : List Table). get_or ts 0 dead) t ∙ get_or-replicate n 0 dead dead least in
    let first_dead : cond {A = ℕ} (get_or tables 0 dead).is_live 1 0 ≡ 0 = ap (λ (w : Table). cond {A = ℕ} w.is_live 1 0) first_table in
    let live_none : count_by (λ w. w.is_live) tables ≡ 0 = ap (λ (ts : List Table). count_by (λ w. w.is_live) ts) t ∙ sum_by-replicate (λ (w : Table). cond {A = ℕ} w.is_live 1 0) n dead ∙ (let z : n * 0 ≡ 0 = omega arith in z) in
    let small : All (λ place. place < length pages) (replicate 256 0) = All-replicate (λ place. place < length pages) 256 0 (omega arith) in
    let named_none : (page : ℕ) → names_of page tables ≡ 0 = λ page. ap (names_of page) t ∙ no_names page n dead refl in
    let named_first : (page : ℕ) → names_of page (set tables 0 live) ≡ 256 * cond {A = ℕ} (eqb 0 page) 1 0 = λ page.
    let moved = sum_by-set (names_in page) tables 0 live dead (omega arith) in
    let none = named_none page in
    let was : names_in page (get_or tables 0 dead) ≡ 0 = ap (names_in page) first_table in
    let now : names_in page live ≡ 256 * cond {A = ℕ} (eqb 0 page) 1 0 = ap (times_in page) places_are ∙ page_zero page 256 in
    omega arith in
    record {
      most = omega arith;
      pages_length = omega arith;
      counts_length = omega arith;
      free_length = omega arith;
      whole_pages = rw p (All-replicate (λ page. length page ≡ 256) (n * 256) (replicate 256 0) (length-replicate {A = ℕ} 256 0));
      whole_tables = All-set (λ w. length w.places ≡ 256) tables 0 live (ap length places_are ∙ length-replicate {A = ℕ} 256 0)
          (rw t (All-replicate (λ w. length w.places ≡ 256) n dead (length-replicate {A = ℕ} 256 0)));
      named = All-set (λ w. All (λ place. place < length pages) w.places) tables 0 live (rw places_are small)
          (rw t (All-replicate (λ w. All (λ place. place < length pages) w.places) n dead small));
      counted = λ page h. count_is (set counts 0 256) page (names_of page (set tables 0 live)) (omega arith) (⊎_elim
          (λ z. let g : 0 ≡ page = z.1 in
          let one : cond {A = ℕ} (eqb 0 page) 1 0 ≡ 1 = cond-true {A = ℕ} (eqb 0 page) 1 0 z.0 in
          let names = named_first page in
          let here : get_or (set counts 0 256) page 0 ≡ 256 = subst (λ (x : ℕ). get_or (set counts 0 256) x 0 ≡ 256) g (get_or-set_same counts 0 256 0 (omega arith)) in
          omega arith)
          (λ z. let none : cond {A = ℕ} (eqb 0 page) 1 0 ≡ 0 = cond-false {A = ℕ} (eqb 0 page) 1 0 z.0 in
          let names = named_first page in
          let away : page ≢ 0 = λ q. z.1 (sym q) in
          let here : get_or (set counts 0 256) page 0 ≡ 0 = get_or-set_other counts 0 page 256 0 away ∙ ap (λ (cs : List ℕ). get_or cs page 0) c ∙ get_or-replicate (n * 256) page 0 0 (omega arith) in
          omega arith)
          (eqb_tells 0 page));
      total = omega arith;
      spared = free_of (n * 256) counts free (omega arith) c long falling;
    }

pub new_shown : (pages : List (List ℕ)) (tables : List Table) (n : ℕ) (table : Table)
    → 1 ≤ n → pages ≡ replicate (n * 256) (replicate 256 0) → tables ≡ replicate n record { is_live = false; places = replicate 256 0 } → table ≡ get_or tables 0 table
    → tables_at pages (set tables 0 record { is_live = true; places = table.places }) ≡ set (replicate n None) 0 (Some (zeros 65536))
unfolding zeros
new_shown pages tables n table least p t e =
    let dead : Table = record { is_live = false; places = replicate 256 0 } in
    let live : Table = record { is_live = true; places = table.places } in
    let table_is : table ≡ dead = e ∙ ap (λ (ts : List Table). get_or ts 0 table) t ∙ get_or-replicate n 0 dead table least in
    let places_are : table.places ≡ replicate 256 0 = ap (λ (w : Table). w.places) table_is in
    let page_is : get_or pages 0 [] ≡ replicate 256 0 = ap (λ (ps : List (List ℕ)). get_or ps 0 []) p ∙ get_or-replicate (n * 256) 0 (replicate 256 0) [] (omega arith) in
    let bytes_are : bytes_at pages table.places ≡ replicate (256 * 256) 0 = ap (bytes_at pages) places_are ∙ zero_bytes pages 256 256 page_is in
    map-set (table_at pages) tables 0 live
    ∙ ap (λ (ts : List (Option (List ℕ))). set ts 0 (Some (bytes_at pages table.places))) (ap (map (table_at pages)) t ∙ map_replicate n dead)
    ∙ ap (λ (bs : List ℕ). set (replicate n None) 0 (Some bs)) bytes_are
  where
    map_replicate : (k : ℕ) (w : Table) → map (table_at pages) (replicate k w) ≡ replicate k (table_at pages w)
    map_replicate zero w = refl
    map_replicate (suc k) w = ap (λ (ts : List (Option (List ℕ))). table_at pages w ∷ ts) (map_replicate k w)
