-- What the proofs of the rows share.
use Rattle.std.proofs.Common.{◌≡◌, ◌≢◌, ℕ, suc, ◌+◌, ◌<◌, Bool, ◌&&◌, List, [], ◌∷◌, ◌++◌, length, get_or, take, map, None, Ok, Err, String, Global, string_bytes, refl, ap, ◌∙◌, sym, arith, drop, length-take-le, take-append-drop, add-zero, append_assoc}
use Rattle.std.proofs.lemmas.List.{append-nil, take_more, drop_more}
use Rattle.layout_file.specs.declared.fault.LayoutFault.{LayoutFault}
use Rattle.std.proofs.Math.ListN.{get_or-map}
use Rattle.std.specs.List.{list_all, prefix_len}
use Rattle.std.specs.Prelude.{position, not, if◌then◌else◌}
use Rattle.std.proofs.lemmas.List.{length-map, map-append, take-map}
use Rattle.layout_file.specs.Clashes.{clash_after, first_clash}
use Rattle.layout_file.specs.Checked.{Checked, map_ok, ◌>>=◌, gather}
use Rattle.layout_file.specs.Rows.{two, all_keys, item_list}
use Rattle.std.specs.Map.{keys_of}
use Rattle.toml.specs.Data.{Data}
use Rattle.toml.specs.View.{view, items_view, members_view}
use Rattle.toml.specs.declared.value.Value.{Value}

pub two-other : (vs : List Value) → length vs ≢ 2 → two (items_view vs) ≡ None
two-other (a ∷ b ∷ []) ne = absurd (ne refl)
two-other _ ne = refl

pub keys_seen : (p : List ℕ → Bool) (es : List (String Global × Value))
    → all_keys p (members_view es) ≡ list_all (λ k. p (string_bytes k)) (keys_of es)
keys_seen p [] = refl
keys_seen p (e ∷ es) = ap (λ b. p (string_bytes e.0) && b) (keys_seen p es)

-- ---- what gather gives of a list in two parts

module _ {A B : Type 0} (f : ℕ → A → Checked (List B)) where
  -- the rest of a list, after what the front gave
  abbrev pub after : ℕ → List A → Checked (List B) → Checked (List B)
  after n ys front = front >>= (λ a. map_ok (λ b. a ++ b) (gather f n ys))

  nothing_before : (r : Checked (List B)) → r ≡ map_ok (λ b. [] ++ b) r
  nothing_before (Ok a) = refl
  nothing_before (Err e) = refl

  joined : (here front rest : Checked (List B))
      → (here >>= (λ h. map_ok (λ more. h ++ more) (front >>= (λ a. map_ok (λ b. a ++ b) rest))))
      ≡ ((here >>= (λ h. map_ok (λ more. h ++ more) front)) >>= (λ a. map_ok (λ b. a ++ b) rest))
  joined (Ok h) (Ok a) (Ok b) = rw append_assoc refl
  joined _ _ _ = refl

  pub gather-append : (n : ℕ) (xs ys : List A) → gather f n (xs ++ ys) ≡ after (n + length xs) ys (gather f n xs)
  gather-append n [] ys = rw add-zero (nothing_before (gather f n ys))
  gather-append n (x ∷ xs) ys =
      let k : n + 1 + length xs ≡ n + length (x ∷ xs) = omega arith in
      rw (gather-append (n + 1) xs ys, k) (joined (f n x) (gather f (n + 1) xs) (gather f (n + length (x ∷ xs)) ys))

  -- one more, and the first fault
  pub list-more : (vs : List A) (i : ℕ) (d : A) (ys zs : List B) → i < length vs → gather f 0 (take i vs) ≡ Ok ys
      → f i (get_or vs i d) ≡ Ok zs → gather f 0 (take (i + 1) vs) ≡ Ok (ys ++ zs)
  list-more vs i d ys zs h front here =
      let place : 0 + length (take i vs) ≡ i = omega (arith, length-take-le i vs (omega arith)) in
      rw (take_more vs i d h, gather-append 0 (take i vs) (get_or vs i d ∷ []), front, place, here, append-nil) refl

  pub list-stop : (vs : List A) (i : ℕ) (d : A) (ys : List B) (e : LayoutFault) → i < length vs → gather f 0 (take i vs) ≡ Ok ys
      → f i (get_or vs i d) ≡ Err e → gather f 0 vs ≡ Err e
  list-stop vs i d ys e h front here =
      let place : 0 + length (take i vs) ≡ i = omega (arith, length-take-le i vs (omega arith)) in
      let cut : vs ≡ take i vs ++ get_or vs i d ∷ drop (i + 1) vs = sym (take-append-drop i vs) ∙ ap (λ (l : List A). take i vs ++ l) (drop_more vs i d h) in
      ap (gather f 0) cut ∙ rw (gather-append 0 (take i vs) (get_or vs i d ∷ drop (i + 1) vs), front, place, here) refl

-- ---- the values of an array

abbrev pub data_of : List Value → List Data
data_of vs = item_list (items_view vs)

data_seen : (vs : List Value) → data_of vs ≡ map view vs
data_seen [] = refl
data_seen (v ∷ vs) = ap (λ (l : List Data). view v ∷ l) (data_seen vs)

module _ {B : Type 0} (f : ℕ → Data → Checked (List B)) (vs : List Value) (i : ℕ) (d : Value) where
  seen_front : (ys : List B) → gather f 0 (data_of (take i vs)) ≡ Ok ys → gather f 0 (take i (map view vs)) ≡ Ok ys
  seen_front ys front = rw (take-map, ← data_seen (take i vs)) front

  pub values-more : (ys zs : List B) → i < length vs → gather f 0 (data_of (take i vs)) ≡ Ok ys
      → f i (view (get_or vs i d)) ≡ Ok zs → gather f 0 (data_of (take (i + 1) vs)) ≡ Ok (ys ++ zs)
  values-more ys zs h front here =
      rw (data_seen (take (i + 1) vs), ← take-map) (list-more f (map view vs) i (view d) ys zs (rw length-map h) (seen_front ys front) (rw (get_or-map view vs i d) here))

  pub values-stop : (ys : List B) (e : LayoutFault) → i < length vs → gather f 0 (data_of (take i vs)) ≡ Ok ys
      → f i (view (get_or vs i d)) ≡ Err e → gather f 0 (data_of vs) ≡ Err e
  values-stop ys e h front here =
      rw (data_seen vs) (list-stop f (map view vs) i (view d) ys e (rw length-map h) (seen_front ys front) (rw (get_or-map view vs i d) here))

-- ---- clashes

prefix_len-of_map : {A B : Type 0} (f : A → B) (p : B → Bool) (xs : List A) → prefix_len (λ x. p (f x)) xs ≡ prefix_len p (map f xs)
prefix_len-of_map f p [] = refl
prefix_len-of_map f p (x ∷ xs) = ap (λ (n : ℕ). if p (f x) then 1 + n else 0) (prefix_len-of_map f p xs)

position-of_map : {A B : Type 0} (f : A → B) (p : B → Bool) (xs : List A) → position (λ x. p (f x)) xs ≡ position p (map f xs)
position-of_map f p xs = rw (prefix_len-of_map f (λ y. not (p y)) xs, length-map) refl

clash_after-map : {A B : Type 0} (f : A → B) (c : B → B → Bool) (earlier xs : List A)
    → clash_after (λ a b. c (f a) (f b)) earlier xs ≡ clash_after c (map f earlier) (map f xs)
clash_after-map f c earlier [] = refl
clash_after-map f c earlier (x ∷ xs) =
    let here = position-of_map f (λ y. c y (f x)) earlier in
    let count = length-map earlier f in
    let more : clash_after (λ a b. c (f a) (f b)) (earlier ++ x ∷ []) xs ≡ clash_after c (map f earlier ++ f x ∷ []) (map f xs) =
    clash_after-map f c (earlier ++ x ∷ []) xs ∙ rw map-append refl in
    rw (here, count, more) refl

pub first_clash-map : {A B : Type 0} (f : A → B) (c : B → B → Bool) (xs : List A)
    → first_clash (λ a b. c (f a) (f b)) xs ≡ first_clash c (map f xs)
first_clash-map f c xs = clash_after-map f c [] xs
