-- Tables that are live stay so while others are written, copied and ended.
use Rattle.std.proofs.Common.{◌≡◌, ◌≢◌, ℕ, ◌<◌, List, Option, Some, None, IsSome, option_map, All, length, replicate, get_or, subst, sym, ap, refl, ◌∙◌, arith}
use Rattle.std.proofs.Math.ListN.{set}
use Rattle.std.proofs.lemmas.Bool.{false≢true}
use Rattle.std.proofs.lemmas.List.{length-set, get_or-set_other}
use Rattle.std.proofs.lemmas.List.Elements.{All-get_or, All-set}
use Rattle.page_pool.specs.Tables.{table_of, IsLive, IsUnused}

abbrev pub Tables : Type 0
Tables = List (Option (List ℕ))

pub live_of_all : (tables : Tables) (t : ℕ) → All (λ table. IsSome table) tables → length tables ≡ 17 → t < 17 → IsLive tables t
live_of_all tables t all long h = All-get_or (λ table. IsSome table) tables t None (omega arith) all

some_written : (change : List ℕ → List ℕ) (o : Option (List ℕ)) → IsSome o → IsSome (option_map change o)
some_written change (Some bytes) l = refl
some_written change None l = l

pub all_written : (tables after : Tables) (t : ℕ) (change : List ℕ → List ℕ) → IsLive tables t → All (λ table. IsSome table) tables → after ≡ set tables t (option_map change (table_of tables t)) → All (λ table. IsSome table) after
all_written tables after t change live all e =
    let o = option_map change (table_of tables t) in
    rw e (All-set (λ table. IsSome table) tables t o (some_written change (table_of tables t) live) all)

pub as_many : (tables after : Tables) (t : ℕ) (o : Option (List ℕ)) → length tables ≡ 17 → after ≡ set tables t o → length after ≡ 17
as_many tables after t o long e = rw e (length-set tables t o ∙ long)

pub first_copied : (tables after : Tables) (copy : ℕ) → IsLive tables 0 → IsUnused tables copy → after ≡ set tables copy (table_of tables 0) → IsLive after 0
first_copied tables after copy live unused e =
    let apart : 0 ≢ copy = λ q. false≢true (subst (λ (o : Option (List ℕ)). IsSome o) (ap (λ (k : ℕ). get_or tables k None) q ∙ unused.unused) live) in
    rw e (subst (λ (o : Option (List ℕ)). IsSome o) (sym (get_or-set_other tables copy 0 (table_of tables 0) None apart)) live)

pub other_ended : (tables after : Tables) (t u : ℕ) → IsLive tables u → u ≢ t → after ≡ set tables t None → IsLive after u
other_ended tables after t u live apart e =
    rw e (subst (λ (o : Option (List ℕ)). IsSome o) (sym (get_or-set_other tables t u None None apart)) live)

pub live_at_first : (bytes : List ℕ) → IsLive (set (replicate 17 None) 0 (Some bytes)) 0 × (length (set (replicate 17 None) 0 (Some bytes)) ≡ 17)
live_at_first bytes = (refl, refl)
