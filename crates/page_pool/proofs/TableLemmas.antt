-- What a write of one page, or of one place, does to all tables, and that a free page is there.
use Rattle.std.proofs.Common.{◌≡◌, ◌≢◌, ℕ, ◌+◌, ◌*◌, ◌<◌, ◌≤◌, Bool, true, false, cond, eqb, List, [], ◌∷◌, length, get_or, Some, None, All, sum, count_by, sym, refl, ap, ◌∙◌, subst, ⊎_elim, arith, suc, zero}
use Rattle.std.proofs.Math.ListN.{set}
use Rattle.std.proofs.lemmas.List.Sums.{sum_by-cons, sum_by-set, get_or-le-sum_by}
use Rattle.std.proofs.lemmas.List.{get_or-set_same, get_or-set_other}
use Rattle.std.proofs.lemmas.Bool.Decides.{eqb_tells}
use Rattle.std.proofs.lemmas.List.Elements.{All-head, All-tail}
use Rattle.std.proofs.lemmas.Bool.{cond-true, cond-false}
use Rattle.page_pool.specs.declared.store.Table.{Table}
use Rattle.page_pool.specs.internal.Naming.{names_of, bytes_at, tables_at}
use Rattle.page_pool.specs.internal.Counts.{times_in}
use Rattle.page_pool.proofs.PageLemmas.{unnamed_first, named_at, bytes_at-set_unnamed, bytes_at-set_named}

-- how often one table names a page
abbrev pub names_in : ℕ → Table → ℕ
names_in page t = cond t.is_live (times_in page t.places) 0

first_table : (page : ℕ) (t : Table) (ts : List Table) → names_of page (t ∷ ts) ≡ names_in page t + names_of page ts
first_table page t ts = sum_by-cons (names_in page) t ts

-- ---- a page that none of these names

table_unnamed : (pages : List (List ℕ)) (page : ℕ) (x : List ℕ) (live : Bool) (places : List ℕ)
    → cond live (times_in page places) 0 ≡ 0
    → cond live (Some (bytes_at (set pages page x) places)) None ≡ cond live (Some (bytes_at pages places)) None
table_unnamed pages page x true places h = ap Some (bytes_at-set_unnamed pages page x places h)
table_unnamed pages page x false places h = refl

pub tables_at-set_unnamed : (pages : List (List ℕ)) (page : ℕ) (x : List ℕ) (tables : List Table) → names_of page tables ≡ 0
    → tables_at (set pages page x) tables ≡ tables_at pages tables
tables_at-set_unnamed pages page x [] h = refl
tables_at-set_unnamed pages page x (t ∷ ts) h =
    let e = first_table page t ts in
    let here : names_in page t ≡ 0 = omega arith in
    let rest : names_of page ts ≡ 0 = omega arith in
    rw (table_unnamed pages page x t.is_live t.places here, tables_at-set_unnamed pages page x ts rest) refl

-- ---- a page that one place alone names

pub live_bytes : (pages : List (List ℕ)) (live : Bool) (places : List ℕ) → live ≡ true → cond live (Some (bytes_at pages places)) None ≡ Some (bytes_at pages places)
live_bytes pages live places h = rw h refl

pub live_names : (page : ℕ) (live : Bool) (places : List ℕ) → live ≡ true → cond live (times_in page places) 0 ≡ times_in page places
live_names page live places h = rw h refl

-- that table t is live, its place n names this page, and no other place does
pub record OneNames (tables : List Table) (t n page : ℕ) (d : Table) : Type 0 where
  pub there : t < length tables
  pub live : (get_or tables t d).is_live ≡ true
  pub place : n < length (get_or tables t d).places
  pub names : get_or (get_or tables t d).places n 0 ≡ page
  pub once : names_of page tables ≡ 1

pub named_in : (page : ℕ) (t : Table) (n : ℕ) → t.is_live ≡ true → n < length t.places → get_or t.places n 0 ≡ page → 1 ≤ names_in page t
named_in page t n live h e = rw (live_names page t.is_live t.places live) (subst (λ (p : ℕ). 1 ≤ times_in p t.places) e (named_at t.places n h))

pub tables_at-set_named : (pages : List (List ℕ)) (tables : List Table) (t n page at byte : ℕ) (d : Table)
    → OneNames tables t n page d
    → at < 256
    → All (λ u. All (λ place. place < length pages) u.places) tables
    → All (λ p. length p ≡ 256) pages
    → tables_at (set pages page (set (get_or pages page []) at byte)) tables
    ≡ set (tables_at pages tables) t (Some (set (bytes_at pages (get_or tables t d).places) (256 * n + at) byte))
tables_at-set_named pages [] t n page at byte d one small inside whole = absurd (let h : t < 0 = one.there in omega arith)
tables_at-set_named pages (u ∷ us) zero n page at byte d one small inside whole =
    let e = first_table page u us in
    let here : 1 ≤ names_in page u = named_in page u n one.live one.place one.names in
    let once : names_of page (u ∷ us) ≡ 1 = one.once in
    let rest : names_of page us ≡ 0 = omega arith in
    let in_places : times_in page u.places ≡ 1 = sym (live_names page u.is_live u.places one.live) ∙ (let f : names_in page u ≡ 1 = omega arith in f) in
    let changed : bytes_at (set pages page (set (get_or pages page []) at byte)) u.places ≡ set (bytes_at pages u.places) (256 * n + at) byte =
    subst (λ (p : ℕ). times_in p u.places ≡ 1 → bytes_at (set pages p (set (get_or pages p []) at byte)) u.places ≡ set (bytes_at pages u.places) (256 * n + at) byte)
    one.names
    (bytes_at-set_named pages u.places n at byte one.place small (All-head (λ v. All (λ place. place < length pages) v.places) u us inside) whole)
    in_places in
    rw (
      live_bytes (set pages page (set (get_or pages page []) at byte)) u.is_live u.places one.live,
      changed,
      tables_at-set_unnamed pages page (set (get_or pages page []) at byte) us rest,
    ) refl
tables_at-set_named pages (u ∷ us) (suc t) n page at byte d one small inside whole =
    let e = first_table page u us in
    let later : names_in page (get_or us t d) ≤ names_of page us = get_or-le-sum_by (names_in page) us t d (let h : suc t < length (u ∷ us) = one.there in omega arith) in
    let there : 1 ≤ names_in page (get_or us t d) = named_in page (get_or us t d) n one.live one.place one.names in
    let once : names_of page (u ∷ us) ≡ 1 = one.once in
    let here : names_in page u ≡ 0 = omega arith in
    let rest : names_of page us ≡ 1 = omega arith in
    let again = tables_at-set_named pages us t n page at byte d
    record { there = (let h : suc t < length (u ∷ us) = one.there in omega arith); live = one.live; place = one.place; names = one.names; once = rest }
    small (All-tail (λ v. All (λ place. place < length pages) v.places) u us inside) whole in
    rw (table_unnamed pages page (set (get_or pages page []) at byte) u.is_live u.places here, again) refl

-- ---- a free page

-- each count is 0, or 1 at least
pub counts_cover : (counts : List ℕ) → length counts ≤ sum counts + count_by (λ count. eqb count 0) counts
counts_cover [] = omega arith
counts_cover (c ∷ cs) =
    let s = sum_by-cons (λ (x : ℕ). x) c cs in
    let z = sum_by-cons (λ (x : ℕ). cond (eqb x 0) 1 0) c cs in
    let again = counts_cover cs in
    ⊎_elim
    (λ e. let f = cond-true {A = ℕ} (eqb c 0) 1 0 e.0 in omega arith)
    (λ e. let f = cond-false {A = ℕ} (eqb c 0) 1 0 e.0 in let g : c ≢ 0 = e.1 in omega arith)
    (eqb_tells c 0)

pub counts_cover_more : (counts : List ℕ) (i : ℕ) → i < length counts → 2 ≤ get_or counts i 0
    → length counts + 1 ≤ sum counts + count_by (λ count. eqb count 0) counts
counts_cover_more [] i h two = absurd (omega arith)
counts_cover_more (c ∷ cs) zero h two =
    let s = sum_by-cons (λ (x : ℕ). x) c cs in
    let z = sum_by-cons (λ (x : ℕ). cond (eqb x 0) 1 0) c cs in
    let again = counts_cover cs in
    omega arith
counts_cover_more (c ∷ cs) (suc i) h two =
    let s = sum_by-cons (λ (x : ℕ). x) c cs in
    let z = sum_by-cons (λ (x : ℕ). cond (eqb x 0) 1 0) c cs in
    let again = counts_cover_more cs i (omega arith) two in
    ⊎_elim
    (λ e. let f = cond-true {A = ℕ} (eqb c 0) 1 0 e.0 in omega arith)
    (λ e. let f = cond-false {A = ℕ} (eqb c 0) 1 0 e.0 in let g : c ≢ 0 = e.1 in omega arith)
    (eqb_tells c 0)

-- ---- a place is written

-- the places name one page less and another more
pub times_in-set : (places : List ℕ) (n old new page : ℕ) → n < length places → get_or places n 0 ≡ old
    → times_in page (set places n new) + cond (eqb old page) 1 0 ≡ times_in page places + cond (eqb new page) 1 0
times_in-set places n old new page h e =
    subst (λ (x : ℕ). times_in page (set places n new) + cond (eqb x page) 1 0 ≡ times_in page places + cond (eqb new page) 1 0) e
    (sum_by-set (λ q. cond (eqb q page) 1 0) places n new 0 h)

pub names_of-set_place : (tables : List Table) (t n old new page : ℕ) (d : Table)
    → t < length tables → (get_or tables t d).is_live ≡ true → n < length (get_or tables t d).places → get_or (get_or tables t d).places n 0 ≡ old
    → names_of page (set tables t record { is_live = (get_or tables t d).is_live; places = set (get_or tables t d).places n new }) + cond (eqb old page) 1 0
    ≡ names_of page tables + cond (eqb new page) 1 0
names_of-set_place tables t n old new page d there live h e =
    let u = get_or tables t d in
    let v : Table = record { is_live = u.is_live; places = set u.places n new } in
    let whole = sum_by-set (names_in page) tables t v d there in
    let before : names_in page u ≡ times_in page u.places = live_names page u.is_live u.places live in
    let after : names_in page v ≡ times_in page (set u.places n new) = live_names page u.is_live (set u.places n new) live in
    let moved = times_in-set u.places n old new page h e in
    omega arith

-- the place names an equal page that none of these places named
pub bytes_at-set_place : (pages : List (List ℕ)) (places : List ℕ) (n new : ℕ) (x : List ℕ)
    → n < length places → new < length pages → times_in new places ≡ 0 → x ≡ get_or pages (get_or places n 0) []
    → bytes_at (set pages new x) (set places n new) ≡ bytes_at pages places
bytes_at-set_place pages [] n new x h fits none e = absurd (omega arith)
bytes_at-set_place pages (p ∷ ps) zero new x h fits none e =
    let u = unnamed_first new p ps none in
    rw (get_or-set_same pages new x [] fits, bytes_at-set_unnamed pages new x ps u.1, e) refl
bytes_at-set_place pages (p ∷ ps) (suc n) new x h fits none e =
    let u = unnamed_first new p ps none in
    rw (get_or-set_other pages new p x [] u.0, bytes_at-set_place pages ps n new x (omega arith) fits u.1 e) refl
