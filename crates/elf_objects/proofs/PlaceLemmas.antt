-- Where a relocation stands: in the first section by whose end there are more relocations than its place.
use Rattle.std.proofs.Common.{◌≡◌, ℕ, zero, suc, ◌+◌, ◌-◌, ◌/◌, ◌<◌, ◌≤◌, List, [], length, Option, Some, unwrap_or, Bool, true, false, cond, refl, ap, sym, subst, ◌∙◌, ◌⊎◌, inl, inr, arith, add-one, ◌++◌, length-append, get_or}
use Rattle.std.specs.Prelude.{slice_get}
use Rattle.std.specs.List.Sorted.{IsNonDecreasing, IsPartitionPoint}
use Rattle.std.proofs.lemmas.Bool.{cases_lt}
use Rattle.std.proofs.lemmas.Option.{slice_get-get_or, slice_get_past}
use Rattle.elf_objects.specs.declared.object.Relocation.{Relocation}
use Rattle.elf_objects.specs.Passes.{each_below, all_below}
use Rattle.elf_objects.specs.Header.{section_count}
use Rattle.elf_objects.specs.Section.{header_of, is_kept_table}
use Rattle.elf_objects.specs.Relocation.{relocation_of, relocations_at, relocations_of}
use Rattle.elf_objects.specs.internal.Relocation.{count_below, ends_of, IsIn}
use Rattle.elf_objects.proofs.PassLemmas.{length_each_below, at_each}
use Rattle.std.proofs.Math.ListN.{get_or-append}
use Rattle.std.proofs.lemmas.List.{get_or-append-add}

-- ---- how many

length_at_by : (f : ℕ → Relocation) (n : ℕ) (b : Bool) → length (cond b (each_below f n) []) ≡ cond b n 0
length_at_by f n true = length_each_below f n
length_at_by f n false = refl

-- how many relocations a section holds
pub length_at : (file : List ℕ) (i : ℕ) → length (relocations_at file i) ≡ cond (is_kept_table file (header_of file i)) ((header_of file i).size / 12) 0
unfolding relocations_at
length_at file i = length_at_by (relocation_of file i (header_of file i)) ((header_of file i).size / 12) (is_kept_table file (header_of file i))

-- where it begins
pub count_zero : (file : List ℕ) → count_below file 0 ≡ 0
unfolding all_below
count_zero file = refl

pub count_more : (file : List ℕ) (i : ℕ) → count_below file (i + 1) ≡ count_below file i + length (relocations_at file i)
unfolding all_below
count_more file i = rw add-one (length-append (all_below (relocations_at file) i) (relocations_at file i))

-- ---- one of them

count_rises_by : {A : Type 0} (f : ℕ → List A) (n i : ℕ) → (i < n) ⊎ (n ≤ i) → i < suc n → (i < n → length (all_below f i) + length (f i) ≤ length (all_below f n)) → length (all_below f i) + length (f i) ≤ length (all_below f n ++ f n)
count_rises_by f n i (inl lt) within rest = let e = length-append (all_below f n) (f n) in let r = rest lt in omega (arith, e, r)
count_rises_by f n i (inr le) within rest =
    let e = length-append (all_below f n) (f n) in
    let same : n ≡ i = omega arith in
    let r : length (all_below f n) + length (f n) ≡ length (all_below f i) + length (f i) = ap (λ (j : ℕ). length (all_below f j) + length (f j)) same in
    omega (arith, e, r)

-- what an index gives is within
count_rises : {A : Type 0} (f : ℕ → List A) (n i : ℕ) → i < n → length (all_below f i) + length (f i) ≤ length (all_below f n)
unfolding all_below
count_rises f zero i lt = absurd (omega arith)
count_rises f (suc n) i lt = count_rises_by f n i (cases_lt i n) lt (count_rises f n i)

part_at_by : {A : Type 0} (f : ℕ → List A) (n i k : ℕ) (d : A) → (i < n) ⊎ (n ≤ i) → i < suc n → k < length (f i)
    → (i < n → get_or (all_below f n) (length (all_below f i) + k) d ≡ get_or (f i) k d)
    → get_or (all_below f n ++ f n) (length (all_below f i) + k) d ≡ get_or (f i) k d
part_at_by f n i k d (inl lt) within below rest =
    get_or-append (all_below f n) (f n) d (length (all_below f i) + k) (let e = count_rises f n i lt in omega (arith, e)) ∙ rest lt
part_at_by f n i k d (inr le) within below rest =
    let same : i ≡ n = omega arith in
    ap (λ (j : ℕ). get_or (all_below f n ++ f n) (length (all_below f j) + k) d) same
    ∙ (get_or-append-add (all_below f n) (f n) k d ∙ ap (λ (j : ℕ). get_or (f j) k d) (sym same))

-- an element of what an index gives
part_at : {A : Type 0} (f : ℕ → List A) (n i k : ℕ) (d : A) → i < n → k < length (f i) → get_or (all_below f n) (length (all_below f i) + k) d ≡ get_or (f i) k d
unfolding all_below
part_at f zero i k d lt below = absurd (omega arith)
part_at f (suc n) i k d lt below = part_at_by f n i k d (cases_lt i n) lt below (λ less. part_at f n i k d less below)

entry_by : (f : ℕ → Relocation) (n k : ℕ) (d : Relocation) (b : Bool) → k < length (cond b (each_below f n) []) → get_or (cond b (each_below f n) []) k d ≡ f k
entry_by f n k d true below = let e = length_each_below f n in at_each f n k d (omega (arith, e))
entry_by f n k d false below = absurd (omega arith)

-- an entry of a section's table
entry_at : (file : List ℕ) (i k : ℕ) (d : Relocation) → k < length (relocations_at file i) → get_or (relocations_at file i) k d ≡ relocation_of file i (header_of file i) k
unfolding relocations_at
entry_at file i k d below = entry_by (relocation_of file i (header_of file i)) ((header_of file i).size / 12) k d (is_kept_table file (header_of file i)) below

-- ---- where it is found

end_at : (file : List ℕ) (i d : ℕ) → i < section_count file → get_or (ends_of file) i d ≡ count_below file (i + 1)
unfolding ends_of
end_at file i d lt = at_each (λ k. count_below file (k + 1)) (section_count file) i d lt

length_ends : (file : List ℕ) → length (ends_of file) ≡ section_count file
unfolding ends_of
length_ends file = length_each_below (λ k. count_below file (k + 1)) (section_count file)

length_all : (file : List ℕ) → length (relocations_of file) ≡ count_below file (section_count file)
unfolding relocations_of
length_all file = refl

count_order : (file : List ℕ) (i j : ℕ) → (i < j) ⊎ (j ≤ i) → i ≤ j → count_below file i ≤ count_below file j
count_order file i j (inl lt) le = let e = count_rises (relocations_at file) j i lt in omega (arith, e)
count_order file i j (inr ge) le = let same : i ≡ j = omega arith in let e : count_below file i ≡ count_below file j = ap (count_below file) same in omega (arith, e)

-- the ends never fall
pub ends_rise : (file : List ℕ) → IsNonDecreasing (ends_of file)
ends_rise file i j d le lt =
    let n = length_ends file in
    let a = end_at file i d (omega (arith, n)) in
    let b = end_at file j d (omega (arith, n)) in
    let c = count_order file (i + 1) (j + 1) (cases_lt (i + 1) (j + 1)) (omega arith) in
    omega (arith, a, b, c)

begun_at : (file : List ℕ) (n section place : ℕ) → n ≤ section_count file → n ≤ section → ((k : ℕ) (d : ℕ) → 0 ≤ k → k < section → get_or (ends_of file) k d ≤ place) → count_below file n ≤ place
begun_at file zero section place most le below = let z = count_zero file in omega (arith, z)
begun_at file (suc n) section place most le below =
    let a = end_at file n 0 (omega arith) in
    let b = below n 0 (omega arith) (omega arith) in
    let c : count_below file (n + 1) ≡ count_below file (suc n) = ap (count_below file) (add-one n) in
    omega (arith, a, b, c)

is_in_by : (file : List ℕ) (section place : ℕ) → (section < section_count file) ⊎ (section_count file ≤ section) → place < count_below file (section_count file) → IsPartitionPoint (λ end. end ≤ place) (λ end. place < end) (ends_of file) section → IsIn file section place
is_in_by file section place (inl lt) within point =
    let n = length_ends file in
    let a = end_at file section 0 lt in
    let b = point.1 section 0 (omega arith) (omega (arith, n)) in
    record { within = lt; begun = begun_at file section section place (omega arith) (omega arith) point.0; ends = omega (arith, a, b) }
is_in_by file section place (inr le) within point = let all = begun_at file (section_count file) section place (omega arith) le point.0 in absurd (omega (arith, all, within))

-- it is where a search by the ends finds it
pub is_in : (file : List ℕ) (section place : ℕ) → place < length (relocations_of file) → IsPartitionPoint (λ end. end ≤ place) (λ end. place < end) (ends_of file) section → IsIn file section place
is_in file section place within point =
    let n = length_all file in
    is_in_by file section place (cases_lt section (section_count file)) (omega (arith, n)) point

-- the end of the section before is where this one begins
pub end_before : (file ends : List ℕ) (section last d : ℕ) → ends ≡ ends_of file → section ≤ section_count file → last + 1 ≡ section → get_or ends last d ≡ count_below file section
end_before file ends section last d same within next =
    ap (λ (l : List ℕ). get_or l last d) same ∙ (end_at file last d (omega arith) ∙ ap (count_below file) next)

size_by : (n : ℕ) (b : Bool) → cond b (n / 12) 0 ≤ n
size_by n true = omega arith
size_by n false = omega arith

-- a table holds no more entries than bytes
pub entry_small : (file : List ℕ) (section place : ℕ) → IsIn file section place → place < count_below file section + (header_of file section).size
entry_small file section place is =
    let a = count_more file section in
    let b = length_at file section in
    let c = size_by (header_of file section).size (is_kept_table file (header_of file section)) in
    let e = is.ends in
    omega (arith, a, b, c, e)

-- a search by these ends
pub is_in_found : (file ends : List ℕ) (section place : ℕ) → ends ≡ ends_of file → place < length (relocations_of file) → IsPartitionPoint (λ end. end ≤ place) (λ end. place < end) ends section → IsIn file section place
is_in_found file ends section place same within point =
    is_in file section place within (subst (λ (l : List ℕ). IsPartitionPoint (λ end. end ≤ place) (λ end. place < end) l section) same point)

-- these ends never fall
pub these_rise : (file ends : List ℕ) → ends ≡ ends_of file → IsNonDecreasing ends
these_rise file ends same = subst IsNonDecreasing (sym same) (ends_rise file)

-- an end within
pub within_ends : (file ends : List ℕ) → ends ≡ ends_of file → length ends ≡ section_count file
within_ends file ends same = ap length same ∙ length_ends file

-- the relocation there
pub found_at : (file : List ℕ) (section place k : ℕ) (r : Relocation) → IsIn file section place → count_below file section + k ≡ place → r ≡ relocation_of file section (header_of file section) k → slice_get (relocations_of file) place ≡ Some r
unfolding relocations_of
found_at file section place k r is at same =
    let more = count_more file section in
    let below : k < length (relocations_at file section) = let e = is.ends in omega (arith, e, more) in
    let within = count_rises (relocations_at file) (section_count file) section is.within in
    slice_get-get_or (all_below (relocations_at file) (section_count file)) place r (omega (arith, within))
    ∙ ap Some (ap (λ (j : ℕ). get_or (all_below (relocations_at file) (section_count file)) j r) (sym at)
    ∙ (part_at (relocations_at file) (section_count file) section k r is.within below ∙ (entry_at file section k r below ∙ sym same)))

last_by : (file ends : List ℕ) (n : ℕ) → n ≡ length ends → ends ≡ ends_of file → unwrap_or (slice_get ends (n - 1)) 0 ≡ count_below file n
last_by file ends zero counted same = ap (λ (o : Option ℕ). unwrap_or o 0) (slice_get_past ends 0 (omega arith)) ∙ sym (count_zero file)
last_by file ends (suc n) counted same =
    let w = within_ends file ends same in
    ap (λ (o : Option ℕ). unwrap_or o 0) (slice_get-get_or ends (suc n - 1) 0 (omega arith))
    ∙ end_before file ends (suc n) (suc n - 1) 0 same (omega (arith, w)) (omega arith)

-- the last end is how many there are
pub last_of : (file ends : List ℕ) → ends ≡ ends_of file → unwrap_or (slice_get ends (length ends - 1)) 0 ≡ length (relocations_of file)
last_of file ends same =
    let w = within_ends file ends same in
    last_by file ends (length ends) refl same ∙ (ap (count_below file) w ∙ sym (length_all file))
