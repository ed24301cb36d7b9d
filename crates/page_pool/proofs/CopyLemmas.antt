-- A place that shares its page gets one of its own.
use Rattle.std.proofs.Common.{◌≡◌, ◌≢◌, ℕ, ◌+◌, ◌-◌, ◌<◌, ◌≤◌, true, cond, eqb, List, [], length, get_or, take, slice_get, Some, All, sum, count_by, sym, refl, ap, ◌∙◌, subst, ⊎_elim, arith}
use Rattle.std.proofs.Math.ListN.{set}
use Rattle.std.proofs.lemmas.List.Sums.{sum_by-set, get_or-le-sum_by, count_by-le-length}
use Rattle.std.proofs.lemmas.List.{get_or-set_same, get_or-set_other, get_or-take, get_or_default, length-set, length-take-le}
use Rattle.std.proofs.lemmas.Bool.Decides.{eqb_tells}
use Rattle.std.proofs.lemmas.List.Elements.{All-from_get_or, All-get_or, All-set}
use Rattle.std.proofs.lemmas.Option.{get_or_from_slice_get, slice_get-get_or, slice_get_within}
use Rattle.page_pool.specs.declared.store.Table.{Table}
use Rattle.page_pool.specs.internal.Naming.{names_of, bytes_at, table_at, tables_at, IsCounted}
use Rattle.page_pool.specs.internal.Counts.{times_in, IsFree}
use Rattle.page_pool.proofs.TableLemmas.{names_in, counts_cover_more, names_of-set_place, bytes_at-set_place, tables_at-set_unnamed, live_bytes, live_names}
use Rattle.page_pool.proofs.PageLemmas.{bytes_at-set_unnamed}
use Rattle.std.proofs.Math.Seq.{map-set_same}
use Rattle.std.proofs.lemmas.Bool.{cond-true, cond-false}

-- ---- counts

-- a count is set
pub zeros_set : (counts : List ℕ) (i c : ℕ) → i < length counts
    → count_by (λ count. eqb count 0) (set counts i c) + cond {A = ℕ} (eqb (get_or counts i 0) 0) 1 0 ≡ count_by (λ count. eqb count 0) counts + cond {A = ℕ} (eqb c 0) 1 0
zeros_set counts i c h = sum_by-set (λ count. cond {A = ℕ} (eqb count 0) 1 0) counts i c 0 h

pub not_zero : (c : ℕ) → 1 ≤ c → cond {A = ℕ} (eqb c 0) 1 0 ≡ 0
not_zero c h = ⊎_elim (λ e. absurd (let z : c ≡ 0 = e.1 in omega arith)) (λ e. cond-false {A = ℕ} (eqb c 0) 1 0 e.0) (eqb_tells c 0)

pub is_zero : (c : ℕ) → c ≡ 0 → cond {A = ℕ} (eqb c 0) 1 0 ≡ 1
is_zero c h = ⊎_elim (λ e. cond-true {A = ℕ} (eqb c 0) 1 0 e.0) (λ e. absurd (e.1 h)) (eqb_tells c 0)

pub same_page : (a b : ℕ) → a ≡ b → cond {A = ℕ} (eqb a b) 1 0 ≡ 1
same_page a b h = ⊎_elim (λ e. cond-true {A = ℕ} (eqb a b) 1 0 e.0) (λ e. absurd (e.1 h)) (eqb_tells a b)

pub other_page : (a b : ℕ) → a ≢ b → cond {A = ℕ} (eqb a b) 1 0 ≡ 0
other_page a b h = ⊎_elim (λ e. absurd (h e.1)) (λ e. cond-false {A = ℕ} (eqb a b) 1 0 e.0) (eqb_tells a b)

-- the newest free page is taken, and the shared one is named once less
abbrev pub counts_after : List ℕ → ℕ → ℕ → List ℕ
counts_after counts shared page = set (set counts shared (get_or counts shared 0 - 1)) page 1

pub counts_after-get_or : (counts : List ℕ) (shared page p : ℕ) → shared < length counts → page < length counts
    → get_or counts page 0 ≡ 0 → 2 ≤ get_or counts shared 0
    → get_or (counts_after counts shared page) p 0 + cond {A = ℕ} (eqb shared p) 1 0 ≡ get_or counts p 0 + cond {A = ℕ} (eqb page p) 1 0
counts_after-get_or counts shared page p hs hp zero_there two =
    let first = set counts shared (get_or counts shared 0 - 1) in
    let apart : shared ≢ page = λ e. absurd (let f : get_or counts shared 0 ≡ 0 = subst (λ (x : ℕ). get_or counts x 0 ≡ 0) (sym e) zero_there in omega arith) in
    let long : length first ≡ length counts = length-set counts shared (get_or counts shared 0 - 1) in
    ⊎_elim
    (λ e. let f : page ≡ p = e.1 in
    subst (λ (x : ℕ). get_or (counts_after counts shared page) x 0 + cond {A = ℕ} (eqb shared x) 1 0 ≡ get_or counts x 0 + cond {A = ℕ} (eqb page x) 1 0) f
    (rw (get_or-set_same first page 1 0 (omega arith), other_page shared page apart, zero_there, same_page page page refl) refl))
    (λ e. let away : p ≢ page = λ g. e.1 (sym g) in
    let skip = get_or-set_other first page p 1 0 away in
    ⊎_elim
    (λ s. let f : shared ≡ p = s.1 in
    let a = get_or-set_same counts shared (get_or counts shared 0 - 1) 0 hs in
    let b : get_or first p 0 ≡ get_or counts p 0 - 1 = subst (λ (x : ℕ). get_or first x 0 ≡ get_or counts x 0 - 1) f a in
    let two_there : 2 ≤ get_or counts p 0 = subst (λ (x : ℕ). 2 ≤ get_or counts x 0) f two in
    let one = same_page shared p f in
    let none = other_page page p e.1 in
    omega arith)
    (λ s. let a = get_or-set_other counts shared p (get_or counts shared 0 - 1) 0 (λ g. s.1 (sym g)) in
    let one = other_page shared p s.1 in
    let none = other_page page p e.1 in
    omega arith)
    (eqb_tells shared p))
    (eqb_tells page p)

-- ---- the free pages

free_page : (counts free : List ℕ) (spare i : ℕ) → IsFree counts free spare → i < spare → slice_get counts (get_or free i 0) ≡ Some 0
free_page counts free spare i f h =
    subst (λ (page : ℕ). slice_get counts page ≡ Some 0) (get_or-take spare free i 0 h)
    (All-get_or (λ page. slice_get counts page ≡ Some 0) (take spare free) i 0 (rw (length-take-le spare free f.room) h) f.unnamed)

pub free_inside : (counts free : List ℕ) (spare i : ℕ) → IsFree counts free spare → i < spare → get_or free i 0 < length counts
free_inside counts free spare i f h = slice_get_within counts (get_or free i 0) 0 (free_page counts free spare i f h)

pub free_unnamed : (counts free : List ℕ) (spare i : ℕ) → IsFree counts free spare → i < spare → get_or counts (get_or free i 0) 0 ≡ 0
free_unnamed counts free spare i f h = get_or_from_slice_get counts (get_or free i 0) 0 0 (free_page counts free spare i f h)

pub free_once : (counts free : List ℕ) (spare i j : ℕ) → IsFree counts free spare → i < j → j < spare → get_or free i 0 ≢ get_or free j 0
free_once counts free spare i j f h k e =
    f.once i j 0 h (rw (length-take-le spare free f.room) k) (get_or-take spare free i 0 (omega arith) ∙ e ∙ sym (get_or-take spare free j 0 k))

pub are_free : (counts free : List ℕ) (spare : ℕ) → spare ≤ length free → spare ≡ count_by (λ count. eqb count 0) counts
    → ((i : ℕ) → i < spare → get_or free i 0 < length counts) → ((i : ℕ) → i < spare → get_or counts (get_or free i 0) 0 ≡ 0)
    → ((i j : ℕ) → i < j → j < spare → get_or free i 0 ≢ get_or free j 0) → IsFree counts free spare
are_free counts free spare room number inside unnamed once =
    let long : length (take spare free) ≡ spare = length-take-le spare free room in
    let same : (i d : ℕ) → i < spare → get_or free i 0 ≡ get_or (take spare free) i d = λ i d h. get_or_default free i 0 d (omega arith) ∙ sym (get_or-take spare free i d h) in
    record {
      room = room;
      number = number;
      unnamed = All-from_get_or (λ page. slice_get counts page ≡ Some 0) (take spare free) 0
          (λ i l. let h : i < spare = omega arith in
          rw (get_or-take spare free i 0 h, slice_get-get_or counts (get_or free i 0) 0 (inside i h), unnamed i h) refl);
      once = λ i j d h l e. once i j h (omega arith) (same i d (omega arith) ∙ e ∙ sym (same j d (omega arith)));
    }

pub free_after : (counts free : List ℕ) (spare shared : ℕ) → IsFree counts free spare → 1 ≤ spare → shared < length counts → 2 ≤ get_or counts shared 0
    → IsFree (counts_after counts shared (get_or free (spare - 1) 0)) free (spare - 1)
free_after counts free spare shared f some hs two =
    let page = get_or free (spare - 1) 0 in
    let first = set counts shared (get_or counts shared 0 - 1) in
    let last : spare - 1 < spare = omega arith in
    let inside : page < length counts = free_inside counts free spare (spare - 1) f last in
    let none : get_or counts page 0 ≡ 0 = free_unnamed counts free spare (spare - 1) f last in
    let apart : page ≢ shared = λ e. absurd (let g : get_or counts shared 0 ≡ 0 = subst (λ (x : ℕ). get_or counts x 0 ≡ 0) e none in omega arith) in
    let long : length first ≡ length counts = length-set counts shared (get_or counts shared 0 - 1) in
    let longer : length (counts_after counts shared page) ≡ length first = length-set first page 1 in
    let first_page : get_or first page 0 ≡ 0 = get_or-set_other counts shared page (get_or counts shared 0 - 1) 0 apart ∙ none in
    let za = zeros_set counts shared (get_or counts shared 0 - 1) hs in
    let zb = zeros_set first page 1 (omega arith) in
    let na = not_zero (get_or counts shared 0) (omega arith) in
    let nb = not_zero (get_or counts shared 0 - 1) (omega arith) in
    let nc = is_zero (get_or first page 0) first_page in
    let nd = not_zero 1 (omega arith) in
    let number : spare ≡ count_by (λ count. eqb count 0) counts = f.number in
    let room : spare ≤ length free = f.room in
    are_free (counts_after counts shared page) free (spare - 1) (omega arith) (omega arith)
    (λ i h. let g = free_inside counts free spare i f (omega arith) in omega arith)
    (λ i h.
    let other : get_or free i 0 ≢ page = free_once counts free spare i (spare - 1) f h last in
    let zero_i : get_or counts (get_or free i 0) 0 ≡ 0 = free_unnamed counts free spare i f (omega arith) in
    let away : get_or free i 0 ≢ shared = λ e. absurd (let g : get_or counts shared 0 ≡ 0 = subst (λ (x : ℕ). get_or counts x 0 ≡ 0) e zero_i in omega arith) in
    get_or-set_other first page (get_or free i 0) 1 0 other ∙ get_or-set_other counts shared (get_or free i 0) (get_or counts shared 0 - 1) 0 away ∙ zero_i)
    (λ i j h k. free_once counts free spare i j f h (omega arith))

pub sum_set : (counts : List ℕ) (i c : ℕ) → i < length counts → sum (set counts i c) + get_or counts i 0 ≡ sum counts + c
sum_set counts i c h = sum_by-set (λ (x : ℕ). x) counts i c 0 h

-- ---- the whole

pub count_is : (counts : List ℕ) (page names : ℕ) → page < length counts → get_or counts page 0 ≡ names → slice_get counts page ≡ Some names
count_is counts page names there is = slice_get-get_or counts page 0 there ∙ ap Some is

abbrev pub table_after : Table → ℕ → ℕ → Table
table_after u n page = record { is_live = u.is_live; places = set u.places n page }

-- a page that is shared leaves one unused
pub spare_some : (pages : List (List ℕ)) (counts : List ℕ) (tables : List Table) (free : List ℕ) (spare shared : ℕ)
    → IsCounted pages counts tables free spare → shared < length counts → 2 ≤ get_or counts shared 0 → 1 ≤ spare
spare_some pages counts tables free spare shared k hs two =
    let more = counts_cover_more counts shared hs two in
    let live = count_by-le-length (λ (t : Table). t.is_live) tables in
    let a = k.counts_length in
    let b = k.total in
    let c = k.spared.number in
    omega arith

pub copy_counted : (pages : List (List ℕ)) (counts : List ℕ) (tables : List Table) (free : List ℕ) (spare t n shared : ℕ) (d : Table)
    → IsCounted pages counts tables free spare
    → t < length tables → (get_or tables t d).is_live ≡ true → n < 256 → get_or (get_or tables t d).places n 0 ≡ shared
    → 2 ≤ get_or counts shared 0
    → IsCounted (set pages (get_or free (spare - 1) 0) (get_or pages shared [])) (counts_after counts shared (get_or free (spare - 1) 0))
    (set tables t (table_after (get_or tables t d) n (get_or free (spare - 1) 0))) free (spare - 1)
copy_counted pages counts tables free spare t n shared d k there live small names two =
    let u = get_or tables t d in
    let page = get_or free (spare - 1) 0 in
    let v : Table = table_after u n page in
    let first = set counts shared (get_or counts shared 0 - 1) in
    let places : length u.places ≡ 256 = All-get_or (λ w. length w.places ≡ 256) tables t d there k.whole_tables in
    let inside_u : All (λ place. place < length pages) u.places = All-get_or (λ w. All (λ place. place < length pages) w.places) tables t d there k.named in
    let pl = k.pages_length in
    let cl = k.counts_length in
    let fl = k.free_length in
    let shared_in : shared < length pages = subst (λ (x : ℕ). x < length pages) names (All-get_or (λ place. place < length pages) u.places n 0 (omega arith) inside_u) in
    let hs : shared < length counts = omega arith in
    let some : 1 ≤ spare = spare_some pages counts tables free spare shared k hs two in
    let last : spare - 1 < spare = omega arith in
    let page_in : page < length counts = free_inside counts free spare (spare - 1) k.spared last in
    let none : get_or counts page 0 ≡ 0 = free_unnamed counts free spare (spare - 1) k.spared last in
    let long_first : length first ≡ length counts = length-set counts shared (get_or counts shared 0 - 1) in
    let long : length (counts_after counts shared page) ≡ length first = length-set first page 1 in
    let pages_long : length (set pages page (get_or pages shared [])) ≡ length pages = length-set pages page (get_or pages shared []) in
    let tables_long : length (set tables t v) ≡ length tables = length-set tables t v in
    let apart : page ≢ shared = λ e. absurd (let g : get_or counts shared 0 ≡ 0 = subst (λ (x : ℕ). get_or counts x 0 ≡ 0) e none in omega arith) in
    let first_page : get_or first page 0 ≡ 0 = get_or-set_other counts shared page (get_or counts shared 0 - 1) 0 apart ∙ none in
    let sa = sum_set counts shared (get_or counts shared 0 - 1) hs in
    let sb = sum_set first page 1 (omega arith) in
    let lives : count_by (λ (w : Table). w.is_live) (set tables t v) ≡ count_by (λ (w : Table). w.is_live) tables =
    (let e = sum_by-set (λ (w : Table). cond {A = ℕ} w.is_live 1 0) tables t v d there in omega arith) in
    let tot = k.total in
    let most = k.most in
    record {
      most = omega arith;
      pages_length = omega arith;
      counts_length = omega arith;
      free_length = omega arith;
      whole_pages = All-set (λ p. length p ≡ 256) pages page (get_or pages shared []) (All-get_or (λ p. length p ≡ 256) pages shared [] shared_in k.whole_pages) k.whole_pages;
      whole_tables = All-set (λ w. length w.places ≡ 256) tables t v (length-set u.places n page ∙ places) k.whole_tables;
      named = All-set (λ w. All (λ place. place < length (set pages page (get_or pages shared []))) w.places) tables t v
          (All-set (λ place. place < length (set pages page (get_or pages shared []))) u.places n page (omega arith)
          (rw pages_long inside_u))
          (rw pages_long k.named);
      counted = λ p h. count_is (counts_after counts shared page) p (names_of p (set tables t v)) (omega arith) (
          let moved = names_of-set_place tables t n shared page p d there live (omega arith) names in
          let counts_moved = counts_after-get_or counts shared page p hs page_in none two in
          let before : get_or counts p 0 ≡ names_of p tables = get_or_from_slice_get counts p (names_of p tables) 0 (k.counted p (omega arith)) in
          omega arith);
      total = omega arith;
      spared = free_after counts free spare shared k.spared some hs two;
    }

pub copy_same : (pages : List (List ℕ)) (counts : List ℕ) (tables : List Table) (free : List ℕ) (spare t n shared : ℕ) (d : Table)
    → IsCounted pages counts tables free spare
    → t < length tables → (get_or tables t d).is_live ≡ true → n < 256 → get_or (get_or tables t d).places n 0 ≡ shared
    → 2 ≤ get_or counts shared 0
    → tables_at (set pages (get_or free (spare - 1) 0) (get_or pages shared []))
    (set tables t (table_after (get_or tables t d) n (get_or free (spare - 1) 0)))
    ≡ tables_at pages tables
copy_same pages counts tables free spare t n shared d k there live small names two =
    let u = get_or tables t d in
    let page = get_or free (spare - 1) 0 in
    let v : Table = table_after u n page in
    let x = get_or pages shared [] in
    let after = set pages page x in
    let places : length u.places ≡ 256 = All-get_or (λ w. length w.places ≡ 256) tables t d there k.whole_tables in
    let inside_u : All (λ place. place < length pages) u.places = All-get_or (λ w. All (λ place. place < length pages) w.places) tables t d there k.named in
    let pl = k.pages_length in
    let cl = k.counts_length in
    let shared_in : shared < length pages = subst (λ (y : ℕ). y < length pages) names (All-get_or (λ place. place < length pages) u.places n 0 (omega arith) inside_u) in
    let some : 1 ≤ spare = spare_some pages counts tables free spare shared k (omega arith) two in
    let last : spare - 1 < spare = omega arith in
    let page_in : page < length counts = free_inside counts free spare (spare - 1) k.spared last in
    let none : get_or counts page 0 ≡ 0 = free_unnamed counts free spare (spare - 1) k.spared last in
    let page_there : page < length pages = omega arith in
    let all_none : names_of page tables ≡ 0 = sym (get_or_from_slice_get counts page (names_of page tables) 0 (k.counted page page_there)) ∙ none in
    let of_u : names_in page u ≤ names_of page tables = get_or-le-sum_by (names_in page) tables t d there in
    let live_u : names_in page u ≡ times_in page u.places = live_names page u.is_live u.places live in
    let u_none : times_in page u.places ≡ 0 = omega arith in
    let moved : bytes_at after (set u.places n page) ≡ bytes_at pages u.places =
    bytes_at-set_place pages u.places n page x (omega arith) page_there u_none (ap (λ (y : ℕ). get_or pages y []) (sym names)) in
    let stays : bytes_at after u.places ≡ bytes_at pages u.places = bytes_at-set_unnamed pages page x u.places u_none in
    let same : table_at after v ≡ table_at after u =
    live_bytes after u.is_live (set u.places n page) live ∙ ap Some (moved ∙ sym stays) ∙ sym (live_bytes after u.is_live u.places live) in
    map-set_same (table_at after) tables t v d same ∙ tables_at-set_unnamed pages page x tables all_none
