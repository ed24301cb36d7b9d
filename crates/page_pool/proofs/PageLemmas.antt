-- What a write of one page, or one place, does to the bytes of tables and to the number of names.
use Rattle.std.proofs.Common.{◌≡◌, ◌≢◌, ℕ, ◌+◌, ◌-◌, ◌*◌, ◌<◌, ◌≤◌, cond, eqb, List, [], ◌∷◌, ◌++◌, length, get_or, All, sym, refl, ap, ◌∙◌, subst, ⊎_elim, arith, suc, zero}
use Rattle.std.proofs.Math.ListN.{set}
use Rattle.std.proofs.lemmas.List.Sums.{sum_by-cons, get_or-le-sum_by}
use Rattle.std.proofs.lemmas.List.{get_or-set_same, get_or-set_other, set-append_left, set-append_right}
use Rattle.std.proofs.lemmas.List.Elements.{All-head, All-tail, All-get_or}
use Rattle.std.proofs.lemmas.Bool.Decides.{eqb_tells}
use Rattle.page_pool.specs.internal.Naming.{bytes_at}
use Rattle.page_pool.specs.internal.Counts.{times_in}

-- ---- names in a list of places

first_names : (page p : ℕ) (ps : List ℕ) → times_in page (p ∷ ps) ≡ cond (eqb p page) 1 0 + times_in page ps
first_names page p ps = sum_by-cons (λ q. cond (eqb q page) 1 0) p ps

pub names_itself : (page : ℕ) (ps : List ℕ) → times_in page (page ∷ ps) ≡ 1 + times_in page ps
names_itself page ps = ⊎_elim (λ t. rw (first_names page page ps, t.0) refl) (λ t. absurd (t.1 refl)) (eqb_tells page page)

pub names_other : (page p : ℕ) (ps : List ℕ) → p ≢ page → times_in page (p ∷ ps) ≡ times_in page ps
names_other page p ps n = ⊎_elim (λ t. absurd (n t.1)) (λ t. rw (first_names page p ps, t.0) (omega arith)) (eqb_tells p page)

pub unnamed_first : (page p : ℕ) (ps : List ℕ) → times_in page (p ∷ ps) ≡ 0 → (p ≢ page) × (times_in page ps ≡ 0)
unnamed_first page p ps h = ⊎_elim
    (λ t. let e = first_names page p ps in let f : times_in page (p ∷ ps) ≡ 1 + times_in page ps = e ∙ ap (λ b. cond b 1 0 + times_in page ps) t.0 in absurd (omega arith))
    (λ t. (t.1, sym (names_other page p ps t.1) ∙ h))
    (eqb_tells p page)

pub named_at : (places : List ℕ) (n : ℕ) → n < length places → 1 ≤ times_in (get_or places n 0) places
named_at places n h = ⊎_elim
    (λ t. subst (λ (x : ℕ). x ≤ times_in (get_or places n 0) places) (ap (λ b. cond b 1 0) t.0) (get_or-le-sum_by (λ q. cond (eqb q (get_or places n 0)) 1 0) places n 0 h))
    (λ t. absurd (t.1 refl))
    (eqb_tells (get_or places n 0) (get_or places n 0))

-- ---- a page is written

pub bytes_at-set_unnamed : (pages : List (List ℕ)) (page : ℕ) (x : List ℕ) (places : List ℕ) → times_in page places ≡ 0
    → bytes_at (set pages page x) places ≡ bytes_at pages places
bytes_at-set_unnamed pages page x [] h = refl
bytes_at-set_unnamed pages page x (p ∷ ps) h =
    let u = unnamed_first page p ps h in
    let e = get_or-set_other pages page p x [] u.0 in
    rw (e, bytes_at-set_unnamed pages page x ps u.1) refl

-- the byte `at` of the page that place n names, and that no other of these places names, is written
pub bytes_at-set_named : (pages : List (List ℕ)) (places : List ℕ) (n at byte : ℕ)
    → n < length places → at < 256
    → All (λ place. place < length pages) places
    → All (λ page. length page ≡ 256) pages
    → times_in (get_or places n 0) places ≡ 1
    → bytes_at (set pages (get_or places n 0) (set (get_or pages (get_or places n 0) []) at byte)) places
    ≡ set (bytes_at pages places) (256 * n + at) byte
bytes_at-set_named pages [] n at byte h small inside whole once = absurd (omega arith)
bytes_at-set_named pages (p ∷ ps) zero at byte h small inside whole once =
    let e : 1 + times_in p ps ≡ 1 = sym (names_itself p ps) ∙ once in
    let rest : times_in p ps ≡ 0 = omega arith in
    let fits : p < length pages = All-head (λ place. place < length pages) p ps inside in
    let long : length (get_or pages p []) ≡ 256 = All-get_or (λ page. length page ≡ 256) pages p [] fits whole in
    let at_is : 256 * 0 + at ≡ at = omega arith in
    rw (bytes_at-set_unnamed pages p (set (get_or pages p []) at byte) ps rest, get_or-set_same pages p (set (get_or pages p []) at byte) [] fits, at_is)
    (sym (set-append_left (get_or pages p []) (bytes_at pages ps) at byte (omega arith)))
bytes_at-set_named pages (p ∷ ps) (suc n) at byte h small inside whole once =
    let q = get_or ps n 0 in
    let new = set (get_or pages q []) at byte in
    let later : 1 ≤ times_in q ps = named_at ps n (omega arith) in
    let differs : p ≢ q = λ e. absurd (let f : times_in q (p ∷ ps) ≡ 1 + times_in q ps = subst (λ (x : ℕ). times_in q (x ∷ ps) ≡ 1 + times_in q ps) (sym e) (names_itself q ps) in omega arith) in
    let rest : times_in q ps ≡ 1 = sym (names_other q p ps differs) ∙ once in
    let fits : p < length pages = All-head (λ place. place < length pages) p ps inside in
    let long : length (get_or pages p []) ≡ 256 = All-get_or (λ page. length page ≡ 256) pages p [] fits whole in
    let again = bytes_at-set_named pages ps n at byte (omega arith) small (All-tail (λ place. place < length pages) p ps inside) whole rest in
    let where_is : 256 * suc n + at - 256 ≡ 256 * n + at = omega arith in
    rw (get_or-set_other pages q p new [] differs, again)
    (sym (set-append_right (get_or pages p []) (bytes_at pages ps) 256 (256 * suc n + at) byte long (omega arith)
    ∙ ap (λ (i : ℕ). get_or pages p [] ++ set (bytes_at pages ps) i byte) where_is))
