-- What the present bytes and those of the marks are after each change of the pool.
use Rattle.std.proofs.Common.{◌≡◌, ◌≢◌, ℕ, ◌+◌, ◌-◌, ◌*◌, ◌<◌, ◌≤◌, true, false, Bool, cond, List, [], ◌∷◌, ◌++◌, Some, None, Option, IsSome, is_some, unwrap_or, option_map, length, get_or, take, drop, append_assoc, All, map, count_by, replicate, sym, refl, subst, ap, ◌∙◌, arith, suc, ⊎_elim}
use Rattle.std.proofs.Math.ListN.{set}
use Rattle.std.proofs.lemmas.Bool.{false≢true, cases_lt, cond-true, cond-false}
use Rattle.std.proofs.lemmas.List.{length-set, take_all, drop_all, append-nil, set-set, length-append, length-map, length-take-le, length-replicate, get_or-replicate, set_at, map-append, get_or_append_left, get_or_push, get_or-set_same, get_or-set_other, get_or-map, get_or_default, get_or_past}
use Rattle.std.proofs.lemmas.List.Elements.{All-nil, All-head, All-tail, All-cons, All-get_or, All-from_get_or, All-push, All-weaker}
use Rattle.std.proofs.Math.Seq.{take-append_seam, take-suc, drop-cons}
use Rattle.std.proofs.lemmas.List.Folds.{sum_by-replicate}
use Rattle.std.proofs.lemmas.List.Sums.{sum_by-set, sum_by-cons, count_by-le-length}
use Rattle.page_pool.specs.Tables.{table_of, zeros, IsLive, IsUnused}
use Rattle.mem_map.specs.Contents.{Contents}
use Rattle.mem_map.specs.internal.Marks.{contents_of, table_bytes, IsMarked}
use Rattle.std.proofs.lemmas.List.Quantifiers.{all_pairs_push}

-- ---- tables

abbrev pub Tables : Type 0
Tables = List (Option (List ℕ))

live_there : (tables : Tables) (t : ℕ) → IsLive tables t → t < length tables
live_there tables t l = ⊎_elim (λ h. h)
    (λ h. absurd (false≢true (subst (λ (o : Option (List ℕ)). IsSome o) (get_or_past tables t None h) l)))
    (cases_lt t (length tables))

live_apart : (tables : Tables) (t u : ℕ) → IsLive tables t → IsUnused tables u → t ≢ u
live_apart tables t u l n e = false≢true (subst (λ (o : Option (List ℕ)). IsSome o) (ap (λ (x : ℕ). get_or tables x None) e ∙ n.unused) l)

-- a table is set: how many are live
live_set : (tables : Tables) (t : ℕ) (o : Option (List ℕ)) → t < length tables
    → count_by (λ table. is_some table) (set tables t o) + cond {A = ℕ} (is_some (get_or tables t None)) 1 0 ≡ count_by (λ table. is_some table) tables + cond {A = ℕ} (is_some o) 1 0
live_set tables t o h = sum_by-set (λ (table : Option (List ℕ)). cond {A = ℕ} (is_some table) 1 0) tables t o None h

live_other : (tables : Tables) (t u : ℕ) (o : Option (List ℕ)) → u ≢ t → IsLive tables u → IsLive (set tables t o) u
live_other tables t u o n l = subst (λ (x : Option (List ℕ)). IsSome x) (sym (get_or-set_other tables t u o None n)) l

bytes_other : (tables : Tables) (t u : ℕ) (o : Option (List ℕ)) → u ≢ t → table_bytes (set tables t o) u ≡ table_bytes tables u
bytes_other tables t u o n = ap (λ (x : Option (List ℕ)). unwrap_or x []) (get_or-set_other tables t u o None n)

bytes_same : (tables : Tables) (t : ℕ) (o : Option (List ℕ)) → t < length tables → table_bytes (set tables t o) t ≡ unwrap_or o []
bytes_same tables t o h = ap (λ (x : Option (List ℕ)). unwrap_or x []) (get_or-set_same tables t o None h)

-- tables apart from the one that is set keep their bytes
map_other : (tables : Tables) (t : ℕ) (o : Option (List ℕ)) (marks : List ℕ) → All (λ mark. mark ≢ t) marks
    → map (table_bytes (set tables t o)) marks ≡ map (table_bytes tables) marks
map_other tables t o [] h = refl
map_other tables t o (m ∷ ms) h =
    rw (bytes_other tables t m o (All-head (λ mark. mark ≢ t) m ms h), map_other tables t o ms (All-tail (λ mark. mark ≢ t) m ms h)) refl

all_live_other : (tables : Tables) (t : ℕ) (o : Option (List ℕ)) (marks : List ℕ) → All (λ mark. mark ≢ t) marks → All (λ mark. IsLive tables mark) marks
    → All (λ mark. IsLive (set tables t o) mark) marks
all_live_other tables t o [] h l = All-nil (λ mark. IsLive (set tables t o) mark)
all_live_other tables t o (m ∷ ms) h l = All-cons (λ mark. IsLive (set tables t o) mark) m ms
    (live_other tables t m o (All-head (λ mark. mark ≢ t) m ms h) (All-head (λ mark. IsLive tables mark) m ms l))
    (all_live_other tables t o ms (All-tail (λ mark. mark ≢ t) m ms h) (All-tail (λ mark. IsLive tables mark) m ms l))

-- ---- a byte is written

-- a function of a live table's bytes
live_map : (change : List ℕ → List ℕ) (o : Option (List ℕ)) → IsSome o → option_map change o ≡ Some (change (unwrap_or o []))
live_map change (Some bytes) l = refl
live_map change None l = absurd (false≢true l)

pub written_marked : (tables : Tables) (present : ℕ) (marks : List ℕ) (room : ℕ) (change : List ℕ → List ℕ)
    → IsMarked tables present marks room → IsMarked (set tables present (option_map change (table_of tables present))) present marks room
written_marked tables present marks room change k =
    let o = option_map change (table_of tables present) in
    let some : is_some o ≡ true = rw (live_map change (table_of tables present) k.live) refl in
    let there = live_there tables present k.live in
    let long = length-set tables present o in
    let moved = live_set tables present o there in
    let was = cond-true {A = ℕ} (is_some (get_or tables present None)) 1 0 k.live in
    let now = cond-true {A = ℕ} (is_some o) 1 0 some in
    let alone = k.alone in
    record {
      tables_length = long ∙ k.tables_length;
      most = k.most;
      live = subst (λ (x : Option (List ℕ)). IsSome x) (sym (get_or-set_same tables present o None there)) some;
      all_live = all_live_other tables present o marks k.apart k.all_live;
      apart = k.apart;
      once = k.once;
      alone = omega arith;
    }

pub written_shown : (tables : Tables) (present : ℕ) (marks : List ℕ) (room : ℕ) (change : List ℕ → List ℕ) (before : Contents)
    → IsMarked tables present marks room → contents_of tables present marks room ≡ before
    → contents_of (set tables present (option_map change (table_of tables present))) present marks room ≡ record before { bytes = change before.bytes }
written_shown tables present marks room change before k e =
    let there = live_there tables present k.live in
    let o = option_map change (table_of tables present) in
    rw (← e, bytes_same tables present o there, map_other tables present o marks k.apart, live_map change (table_of tables present) k.live) refl

-- ---- a mark is made

all_counted : (tables : Tables) → All (λ o. IsSome o) tables → count_by (λ table. is_some table) tables ≡ length tables
all_counted [] h = refl
all_counted (o ∷ os) h =
    let e = sum_by-cons (λ (table : Option (List ℕ)). cond {A = ℕ} (is_some table) 1 0) o os in
    let one = cond-true {A = ℕ} (is_some o) 1 0 (All-head (λ o. IsSome o) o os h) in
    let rest = all_counted os (All-tail (λ o. IsSome o) o os h) in
    omega arith

head_live : (o : Option (List ℕ)) (os : Tables) (b : Bool) → is_some o ≡ b
    → count_by (λ table. is_some table) (o ∷ os) ≡ suc (length os)
    → (is_some o ≡ true) × (count_by (λ table. is_some table) os ≡ length os)
head_live o os true f h =
    let e = sum_by-cons (λ (table : Option (List ℕ)). cond {A = ℕ} (is_some table) 1 0) o os in
    let one = cond-true {A = ℕ} (is_some o) 1 0 f in
    (f, omega arith)
head_live o os false f h = absurd (
    let e = sum_by-cons (λ (table : Option (List ℕ)). cond {A = ℕ} (is_some table) 1 0) o os in
    let none = cond-false {A = ℕ} (is_some o) 1 0 f in
    let most = count_by-le-length (λ (table : Option (List ℕ)). is_some table) os in
    omega arith)

counted_all : (tables : Tables) → count_by (λ table. is_some table) tables ≡ length tables → All (λ o. IsSome o) tables
counted_all [] h = All-nil (λ o. IsSome o)
counted_all (o ∷ os) h =
    let here = head_live o os (is_some o) refl h in
    All-cons (λ o. IsSome o) o os here.0 (counted_all os here.1)

pub full_shown : (tables : Tables) (present : ℕ) (marks : List ℕ) (room : ℕ) → IsMarked tables present marks room
    → All (λ o. IsSome o) tables → length marks ≡ room
full_shown tables present marks room k all =
    let a = all_counted tables all in
    let b = k.alone in
    let c = k.tables_length in
    omega arith

pub full_found : (tables : Tables) (present : ℕ) (marks : List ℕ) (room : ℕ) → IsMarked tables present marks room
    → length marks ≡ room → All (λ o. IsSome o) tables
full_found tables present marks room k e = counted_all tables (let b = k.alone in let c = k.tables_length in omega arith)

marks_away : (tables : Tables) (u : ℕ) (marks : List ℕ) → IsUnused tables u → All (λ mark. IsLive tables mark) marks → All (λ mark. mark ≢ u) marks
marks_away tables u marks n l = All-weaker (λ mark. IsLive tables mark) (λ mark. mark ≢ u) (λ mark live. live_apart tables mark u live n) marks l

none_counts : (o : Option (List ℕ)) → o ≡ None → cond {A = ℕ} (is_some o) 1 0 ≡ 0
none_counts o e = rw e refl

-- a table that is not live leaves room for a mark
pub room_left : (tables : Tables) (present : ℕ) (marks : List ℕ) (room u : ℕ) → IsMarked tables present marks room → IsUnused tables u → length marks < room
room_left tables present marks room u k n =
    let moved : count_by (λ table. is_some table) (set tables u (Some [])) + cond {A = ℕ} (is_some (get_or tables u None)) 1 0 ≡ count_by (λ table. is_some table) tables + 1 = live_set tables u (Some []) n.there in
    let was = none_counts (get_or tables u None) n.unused in
    let most = count_by-le-length (λ (table : Option (List ℕ)). is_some table) (set tables u (Some [])) in
    let long = length-set tables u (Some []) in
    let a = k.tables_length in
    let b = k.alone in
    omega arith

-- the number of marks and their room, as they are seen
pub marked_length : (tables : Tables) (present : ℕ) (marks : List ℕ) (room : ℕ) (before : Contents)
    → contents_of tables present marks room ≡ before → (length marks ≡ length before.marked) × (room ≡ before.room)
marked_length tables present marks room before e =
    (sym (length-map marks (table_bytes tables)) ∙ ap (λ (a : Contents). length a.marked) e, ap (λ (a : Contents). a.room) e)

pub mark_marked : (tables : Tables) (present : ℕ) (marks : List ℕ) (room u : ℕ)
    → IsMarked tables present marks room → IsUnused tables u
    → IsMarked (set tables u (table_of tables present)) present (marks ++ u ∷ []) room
mark_marked tables present marks room u k n =
    let away = marks_away tables u marks n k.all_live in
    let apart : present ≢ u = live_apart tables present u k.live n in
    let long = length-set tables u (table_of tables present) in
    let moved = live_set tables u (table_of tables present) n.there in
    let was = none_counts (get_or tables u None) n.unused in
    let now = cond-true {A = ℕ} (is_some (table_of tables present)) 1 0 k.live in
    let longer = length-append marks (u ∷ []) in
    let alone = k.alone in
    record {
      tables_length = long ∙ k.tables_length;
      most = k.most;
      live = live_other tables u present (table_of tables present) apart k.live;
      all_live = All-push (λ mark. IsLive (set tables u (table_of tables present)) mark) marks u (all_live_other tables u (table_of tables present) marks away k.all_live)
          (subst (λ (x : Option (List ℕ)). IsSome x) (sym (get_or-set_same tables u (table_of tables present) None n.there)) k.live);
      apart = All-push (λ mark. mark ≢ present) marks u k.apart (λ e. apart (sym e));
      once = all_pairs_push (λ a b. a ≢ b) marks u k.once (λ i d l. All-get_or (λ mark. mark ≢ u) marks i d l away);
      alone = omega arith;
    }

pub mark_shown : (tables : Tables) (present : ℕ) (marks : List ℕ) (room u : ℕ) (before : Contents)
    → IsMarked tables present marks room → IsUnused tables u → contents_of tables present marks room ≡ before
    → contents_of (set tables u (table_of tables present)) present (marks ++ u ∷ []) room ≡ record before { marked = before.marked ++ before.bytes ∷ [] }
mark_shown tables present marks room u before k n e =
    let away = marks_away tables u marks n k.all_live in
    let apart : present ≢ u = live_apart tables present u k.live n in
    let o = table_of tables present in
    rw (← e, map-append (table_bytes (set tables u o)) marks (u ∷ []), map_other tables u o marks away, bytes_same tables u o n.there, bytes_other tables u present o apart) refl

-- ---- the newest mark is dropped

pub drop_marked : (tables : Tables) (present : ℕ) (marks front : List ℕ) (room mark : ℕ)
    → IsMarked tables present marks room → marks ≡ front ++ mark ∷ []
    → IsMarked (set tables mark None) present front room
drop_marked tables present marks front room mark k e =
    let longer : length marks ≡ length front + 1 = ap length e ∙ length-append front (mark ∷ []) in
    let last : get_or marks (length front) 0 ≡ mark = ap (λ (ms : List ℕ). get_or ms (length front) 0) e ∙ get_or_push front mark 0 (length front) refl in
    let same : (d i : ℕ) → i < length front → get_or marks i d ≡ get_or front i d = λ d i h. ap (λ (ms : List ℕ). get_or ms i d) e ∙ get_or_append_left front (mark ∷ []) d i h in
    let front_of : (P : ℕ → Type 0) → All P marks → All P front = λ P h. All-from_get_or P front 0 (λ i l. subst P (same 0 i l) (All-get_or P marks i 0 (omega arith) h)) in
    let live_mark : IsLive tables mark = subst (λ (x : ℕ). IsLive tables x) last (All-get_or (λ m. IsLive tables m) marks (length front) 0 (omega arith) k.all_live) in
    let apart_mark : mark ≢ present = subst (λ (x : ℕ). x ≢ present) last (All-get_or (λ m. m ≢ present) marks (length front) 0 (omega arith) k.apart) in
    let away : All (λ m. m ≢ mark) front = All-from_get_or (λ m. m ≢ mark) front 0 (λ i l q. k.once i (length front) 0 l (omega arith) (same 0 i l ∙ q ∙ sym last)) in
    let there = live_there tables mark live_mark in
    let long = length-set tables mark None in
    let moved : count_by (λ table. is_some table) (set tables mark None) + cond {A = ℕ} (is_some (get_or tables mark None)) 1 0 ≡ count_by (λ table. is_some table) tables + 0 = live_set tables mark None there in
    let was = cond-true {A = ℕ} (is_some (get_or tables mark None)) 1 0 live_mark in
    let alone = k.alone in
    record {
      tables_length = long ∙ k.tables_length;
      most = k.most;
      live = live_other tables mark present None (λ q. apart_mark (sym q)) k.live;
      all_live = all_live_other tables mark None front away (front_of (λ m. IsLive tables m) k.all_live);
      apart = front_of (λ m. m ≢ present) k.apart;
      once = λ i j d h l q. k.once i j d h (omega arith) (same d i (omega arith) ∙ q ∙ sym (same d j l));
      alone = omega arith;
    }

pub drop_shown : (tables : Tables) (present : ℕ) (marks front : List ℕ) (room mark : ℕ) (before : Contents)
    → IsMarked tables present marks room → marks ≡ front ++ mark ∷ [] → contents_of tables present marks room ≡ before
    → contents_of (set tables mark None) present front room ≡ record before { marked = take (length before.marked - 1) before.marked }
drop_shown tables present marks front room mark before k e s =
    let longer : length marks ≡ length front + 1 = ap length e ∙ length-append front (mark ∷ []) in
    let last : get_or marks (length front) 0 ≡ mark = ap (λ (ms : List ℕ). get_or ms (length front) 0) e ∙ get_or_push front mark 0 (length front) refl in
    let same : (d i : ℕ) → i < length front → get_or marks i d ≡ get_or front i d = λ d i h. ap (λ (ms : List ℕ). get_or ms i d) e ∙ get_or_append_left front (mark ∷ []) d i h in
    let apart_mark : mark ≢ present = subst (λ (x : ℕ). x ≢ present) last (All-get_or (λ m. m ≢ present) marks (length front) 0 (omega arith) k.apart) in
    let away : All (λ m. m ≢ mark) front = All-from_get_or (λ m. m ≢ mark) front 0 (λ i l q. k.once i (length front) 0 l (omega arith) (same 0 i l ∙ q ∙ sym last)) in
    let marked : map (table_bytes tables) marks ≡ map (table_bytes tables) front ++ table_bytes tables mark ∷ [] = ap (map (table_bytes tables)) e ∙ map-append (table_bytes tables) front (mark ∷ []) in
    let size : length (map (table_bytes tables) marks) - 1 ≡ length (map (table_bytes tables) front) = (let a = length-map marks (table_bytes tables) in let b = length-map front (table_bytes tables) in omega arith) in
    let cut : take (length (map (table_bytes tables) marks) - 1) (map (table_bytes tables) marks) ≡ map (table_bytes tables) front =
    ap (λ (i : ℕ). take i (map (table_bytes tables) marks)) size ∙ ap (take (length (map (table_bytes tables) front))) marked ∙ take-append_seam (map (table_bytes tables) front) (table_bytes tables mark ∷ []) in
    rw (← s, cut, bytes_other tables mark present None (λ q. apart_mark (sym q)), map_other tables mark None front away) refl

-- ---- the bytes of a mark become the present ones

pub not_full : (tables : Tables) (present : ℕ) → IsLive tables present → All (λ o. IsSome o) (set tables present None) → ⊥
not_full tables present l all =
    let there = live_there tables present l in
    let long = length-set tables present None in
    let here : IsSome (get_or (set tables present None) present None) = All-get_or (λ o. IsSome o) (set tables present None) present None (omega arith) all in
    false≢true (subst (λ (o : Option (List ℕ)). IsSome o) (get_or-set_same tables present None None there) here)

pub mark_live : (tables : Tables) (present : ℕ) (marks : List ℕ) (room k mark : ℕ) → IsMarked tables present marks room → k < length marks → mark ≡ get_or marks k 0
    → IsLive (set tables present None) mark
mark_live tables present marks room k mark m h e =
    rw e (All-get_or (λ x. IsLive (set tables present None) x) marks k 0 h (all_live_other tables present None marks m.apart m.all_live))

pub load_marked : (tables : Tables) (present : ℕ) (marks : List ℕ) (room k mark u : ℕ)
    → IsMarked tables present marks room → k < length marks → mark ≡ get_or marks k 0 → IsUnused (set tables present None) u
    → IsMarked (set (set tables present None) u (table_of (set tables present None) mark)) u marks room
load_marked tables present marks room k mark u m h e n =
    let first = set tables present None in
    let o = table_of first mark in
    let live_first = all_live_other tables present None marks m.apart m.all_live in
    let away = marks_away first u marks n live_first in
    let long_first = length-set tables present None in
    let long = length-set first u o in
    let there = live_there tables present m.live in
    let moved_first : count_by (λ table. is_some table) first + cond {A = ℕ} (is_some (get_or tables present None)) 1 0 ≡ count_by (λ table. is_some table) tables + 0 = live_set tables present None there in
    let was_first = cond-true {A = ℕ} (is_some (get_or tables present None)) 1 0 m.live in
    let moved = live_set first u o n.there in
    let was = none_counts (get_or first u None) n.unused in
    let live_mark = mark_live tables present marks room k mark m h e in
    let now = cond-true {A = ℕ} (is_some o) 1 0 live_mark in
    let alone = m.alone in
    record {
      tables_length = long ∙ long_first ∙ m.tables_length;
      most = m.most;
      live = subst (λ (x : Option (List ℕ)). IsSome x) (sym (get_or-set_same first u o None n.there)) live_mark;
      all_live = all_live_other first u o marks away live_first;
      apart = away;
      once = m.once;
      alone = omega arith;
    }

pub load_shown : (tables : Tables) (present : ℕ) (marks : List ℕ) (room k mark u : ℕ) (before : Contents)
    → IsMarked tables present marks room → k < length marks → mark ≡ get_or marks k 0 → IsUnused (set tables present None) u
    → contents_of tables present marks room ≡ before
    → contents_of (set (set tables present None) u (table_of (set tables present None) mark)) u marks room ≡ record before { bytes = get_or before.marked k [] }
load_shown tables present marks room k mark u before m h e n s =
    let first = set tables present None in
    let o = table_of first mark in
    let live_first = all_live_other tables present None marks m.apart m.all_live in
    let away = marks_away first u marks n live_first in
    let apart : mark ≢ present = rw e (All-get_or (λ x. x ≢ present) marks k 0 h m.apart) in
    let there : table_bytes first mark ≡ get_or (map (table_bytes tables) marks) k [] =
    bytes_other tables present mark None apart ∙ ap (table_bytes tables) e ∙ sym (get_or-map (table_bytes tables) marks k 0 [] h) in
    rw (← s, bytes_same first u o n.there, map_other first u o marks away, map_other tables present None marks m.apart, there) refl

-- ---- contents by their parts

pub contents_are : (a : Contents) (bytes : List ℕ) (before : Contents) → a.bytes ≡ bytes → a.marked ≡ before.marked → a.room ≡ before.room → a ≡ record before { bytes = bytes }
contents_are a bytes before p q r = rw (← p, ← q, ← r) refl

pub load_all : (tables dropped after : Tables) (present : ℕ) (marks shown : List ℕ) (room k i u : ℕ) (before : Contents)
    → IsMarked tables present marks room → k < length marks → contents_of tables present marks room ≡ before
    → dropped ≡ set tables present None → shown ≡ marks → i ≡ k → IsUnused dropped u
    → after ≡ set dropped u (table_of dropped (get_or shown i 0))
    → contents_of after u marks room ≡ record before { bytes = get_or before.marked k [] }
load_all tables dropped after present marks shown room k i u before m h s e_dropped e_shown e_i n e_after =
    rw (e_after, e_dropped, e_shown, e_i)
    (load_shown tables present marks room k (get_or marks k 0) u before m h refl (subst (λ (ts : Tables). IsUnused ts u) e_dropped n) s)

-- ---- the first bytes

pub filled_next : (bytes start : List ℕ) (i byte : ℕ) → i < length bytes → length start ≡ length bytes → byte ≡ get_or bytes i byte
    → set (take i bytes ++ drop i start) i byte ≡ take (i + 1) bytes ++ drop (i + 1) start
filled_next bytes start i byte h long e =
    let front : length (take i bytes) ≡ i = length-take-le i bytes (omega arith) in
    let s : suc i ≡ i + 1 = omega arith in
    let rest : drop i start ≡ get_or start i 0 ∷ drop (i + 1) start = drop-cons start i 0 (omega arith) ∙ ap (λ (k : ℕ). get_or start i 0 ∷ drop k start) s in
    let cut : take (i + 1) bytes ≡ take i bytes ++ (get_or bytes i 0 ∷ []) = ap (λ (k : ℕ). take k bytes) (sym s) ∙ take-suc bytes i 0 h in
    let read : byte ≡ get_or bytes i 0 = e ∙ get_or_default bytes i byte 0 h in
    ap (λ (xs : List ℕ). set (take i bytes ++ xs) i byte) rest
    ∙ set_at (take i bytes) (get_or start i 0) (drop (i + 1) start) byte i front
    ∙ ap (λ (x : ℕ). take i bytes ++ x ∷ drop (i + 1) start) read
    ∙ sym (ap (λ (xs : List ℕ). xs ++ drop (i + 1) start) cut ∙ append_assoc (take i bytes) (get_or bytes i 0 ∷ []) (drop (i + 1) start))

-- one table alone is live at first
pub first_marked : (bytes : List ℕ) (room : ℕ) → room ≤ 16 → IsMarked (set (replicate (room + 1) None) 0 (Some bytes)) 0 [] room
first_marked bytes room most =
    let tables : Tables = replicate (room + 1) None in
    let long : length tables ≡ room + 1 = length-replicate (room + 1) None in
    let set_long = length-set tables 0 (Some bytes) in
    let there : 0 < length tables = omega arith in
    let none : get_or tables 0 None ≡ None = get_or-replicate (room + 1) 0 None None (omega arith) in
    let moved : count_by (λ table. is_some table) (set tables 0 (Some bytes)) + cond {A = ℕ} (is_some (get_or tables 0 None)) 1 0 ≡ count_by (λ table. is_some table) tables + 1 = live_set tables 0 (Some bytes) there in
    let was = none_counts (get_or tables 0 None) none in
    let empty : count_by (λ table. is_some table) tables ≡ 0 = sum_by-replicate (λ (table : Option (List ℕ)). cond {A = ℕ} (is_some table) 1 0) (room + 1) None ∙ (let z : (room + 1) * 0 ≡ 0 = omega arith in z) in
    record {
      tables_length = set_long ∙ long;
      most = most;
      live = subst (λ (x : Option (List ℕ)). IsSome x) (sym (get_or-set_same tables 0 (Some bytes) None there)) refl;
      all_live = All-nil (λ mark. IsLive (set tables 0 (Some bytes)) mark);
      apart = All-nil (λ mark. mark ≢ 0);
      once = λ i j d h l. absurd (omega arith);
      alone = omega arith;
    }

pub filled_start : (bytes : List ℕ) (tables : ℕ) → set (replicate tables None) 0 (Some (zeros 65536)) ≡ set (replicate tables None) 0 (Some (take 0 bytes ++ drop 0 (zeros 65536)))
filled_start bytes tables = refl

zeros_long : (n : ℕ) → length (zeros n) ≡ n
unfolding zeros
zeros_long n = length-replicate n 0

pub filled_more : (pool after : Tables) (bytes : List ℕ) (tables i byte addr : ℕ)
    → length bytes ≡ 65536 → i < length bytes → 1 ≤ tables → byte ≡ get_or bytes i byte → addr ≡ i
    → pool ≡ set (replicate tables None) 0 (Some (take i bytes ++ drop i (zeros 65536)))
    → after ≡ set pool 0 (option_map (λ shown. set shown addr byte) (table_of pool 0))
    → after ≡ set (replicate tables None) 0 (Some (take (i + 1) bytes ++ drop (i + 1) (zeros 65536)))
filled_more pool after bytes tables i byte addr size h least e a p q =
    let start = zeros 65536 in
    let none : Tables = replicate tables None in
    let there : 0 < length none = rw (length-replicate {A = Option (List ℕ)} tables None) least in
    let filled = take i bytes ++ drop i start in
    let shown : table_of pool 0 ≡ Some filled = ap (λ (ts : Tables). table_of ts 0) p ∙ get_or-set_same none 0 (Some filled) None there in
    let next = filled_next bytes start i byte h (zeros_long 65536 ∙ sym size) e in
    q ∙ ap (λ (o : Option (List ℕ)). set pool 0 (option_map (λ held. set held addr byte) o)) shown
    ∙ ap (λ (ts : Tables). set ts 0 (Some (set filled addr byte))) p
    ∙ set-set none 0 (Some filled) (Some (set filled addr byte))
    ∙ ap (λ (k : ℕ). set none 0 (Some (set filled k byte))) a
    ∙ ap (λ (bs : List ℕ). set none 0 (Some bs)) next

pub filled_all : (pool : Tables) (bytes : List ℕ) (tables i : ℕ) → length bytes ≡ 65536 → length bytes ≤ i
    → pool ≡ set (replicate tables None) 0 (Some (take i bytes ++ drop i (zeros 65536)))
    → pool ≡ set (replicate tables None) 0 (Some bytes)
filled_all pool bytes tables i size h p =
    let all : take i bytes ≡ bytes = take_all i bytes h in
    let none : drop i (zeros 65536) ≡ [] = drop_all i (zeros 65536) (rw (zeros_long 65536) (omega arith)) in
    p ∙ ap (λ (bs : List ℕ). set (replicate tables None) 0 (Some (bs ++ drop i (zeros 65536)))) all
    ∙ ap (λ (bs : List ℕ). set (replicate tables None) 0 (Some (bytes ++ bs))) none
    ∙ ap (λ (bs : List ℕ). set (replicate tables None) 0 (Some bs)) (append-nil bytes)
