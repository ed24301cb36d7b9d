-- What putting texts one after another does: laws of `Took`, `CutOff` and `Puts`, for whoever puts to a sink.
use Rattle.std.proofs.Common.{◌≡◌, ℕ, zero, suc, ◌+◌, ◌<◌, ◌≤◌, min, true, false, List, [], ◌∷◌, ◌++◌, get_or, length, take, drop, Option, Some, None, Result, Ok, Err, refl, sym, ◌∙◌, ap, subst, arith, length-append}
use Rattle.std.proofs.lemmas.Bool.{false≢true}
use Rattle.std.proofs.lemmas.List.{append_assoc, append-nil, take-append-le, take-append-drop, take_at, take_min, at_drop_more}
use Rattle.std.specs.List.{flat_map}
use Rattle.std.specs.Io.KnownBytes.{Appends, Keeps}
use Rattle.sm_io.specs.declared.sink.Failed.{Failed}
use Rattle.sm_io.specs.Sink.{AppendsFront, Took, CutOff, Puts}

-- known bytes that grow twice
pub appends_nothing : (a : Option (List ℕ)) → Appends a a []
appends_nothing None = tt
appends_nothing (Some x) = sym (append-nil x)

pub appends_then : (a b c : Option (List ℕ)) (xs ys : List ℕ) → Appends a b xs → Appends b c ys → Appends a c (xs ++ ys)
appends_then None b c xs ys h k = tt
appends_then (Some x) None c xs ys h k = absurd h
appends_then (Some x) (Some y) None xs ys h k = absurd k
appends_then (Some x) (Some y) (Some z) xs ys h k = k ∙ ap (λ (l : List ℕ). l ++ ys) h ∙ append_assoc x xs ys

pub appends_keeps : (a b c : Option (List ℕ)) (xs : List ℕ) → Appends a b xs → Keeps b c → Appends a c xs
appends_keeps None b c xs h k = tt
appends_keeps (Some x) None c xs h k = absurd h
appends_keeps (Some x) (Some y) None xs h k = absurd k
appends_keeps (Some x) (Some y) (Some z) xs h k = k ∙ h

pub appends_same : (a b : Option (List ℕ)) (xs ys : List ℕ) → xs ≡ ys → Appends a b xs → Appends a b ys
appends_same None b xs ys e h = tt
appends_same (Some x) None xs ys e h = absurd h
appends_same (Some x) (Some z) xs ys e h = h ∙ ap (λ (l : List ℕ). x ++ l) e

pub take_past : (xs ys : List ℕ) (n : ℕ) → take (length xs + n) (xs ++ ys) ≡ xs ++ take n ys
take_past [] ys n = let e : 0 + n ≡ n = omega arith in ap (λ m. take m ys) e
take_past (x ∷ xs) ys n =
    let e : suc (length xs) + n ≡ suc (length xs + n) = omega arith in
    ap (λ m. take m (x ∷ xs ++ ys)) e ∙ ap (λ (l : List ℕ). x ∷ l) (take_past xs ys n)

pub take_front : (xs ys : List ℕ) (n : ℕ) → take (min n (length xs)) (xs ++ ys) ≡ take n xs
take_front xs ys n = take-append-le (min n (length xs)) xs ys (omega arith) ∙ take_min n xs

-- the next piece of a text, and what stands behind it
pub at_piece : {X : Type 0} (f : X → List ℕ) (pieces : List X) (i : ℕ) (d : X) (done text : List ℕ) → i < length pieces → done ++ flat_map f (drop i pieces) ≡ text → done ++ (f (get_or pieces i d) ++ flat_map f (drop (i + 1) pieces)) ≡ text
at_piece f pieces i d done text h e = ap (λ (l : List ℕ). done ++ l) (sym (at_drop_more (flat_map f) pieces i d h)) ∙ e

pub past_piece : {X : Type 0} (f : X → List ℕ) (pieces : List X) (i : ℕ) (d : X) (done text : List ℕ) → i < length pieces → done ++ flat_map f (drop i pieces) ≡ text → (done ++ f (get_or pieces i d)) ++ flat_map f (drop (i + 1) pieces) ≡ text
past_piece f pieces i d done text h e = append_assoc done (f (get_or pieces i d)) (flat_map f (drop (i + 1) pieces)) ∙ at_piece f pieces i d done text h e

-- the rest of a text after a front of it was taken
pub taken_more : (done rest bytes next : List ℕ) (n : ℕ) → done ++ rest ≡ bytes → next ≡ drop n rest → (done ++ take n rest) ++ next ≡ bytes
taken_more done rest bytes next n whole is = append_assoc done (take n rest) next ∙ ap (λ (l : List ℕ). done ++ l) (ap (λ (l : List ℕ). take n rest ++ l) is ∙ take-append-drop n rest) ∙ whole

-- what was taken of a text that is cut off
abbrev pub front_of : (a b : Option (List ℕ)) (done rest bytes : List ℕ) → done ++ rest ≡ bytes → Appends a b done → AppendsFront a b bytes
front_of a b done rest bytes whole h = (length done, appends_same a b done (take (length done) bytes) (sym (ap (λ (l : List ℕ). take (length done) l) (sym whole) ∙ take_at done rest (length done) refl)) h)

-- a sink that failed was sure of nothing
pub not_sure : (n : ℕ) → (0 < n → false ≡ true) → n ≤ 0
not_sure zero h = omega arith
not_sure (suc n) h = absurd (false≢true (h (omega arith)))

-- what a sink did with texts
module _ {S : Type 0} (taken : S → Option (List ℕ)) (faults sure : S → ℕ) where
  pub took_nothing : (a : S) → Took taken faults sure a a []
  took_nothing a = record { whole = appends_nothing (taken a); quiet = refl; still_sure = omega arith }

  pub took_then : (a b c : S) (xs ys : List ℕ) → Took taken faults sure a b xs → Took taken faults sure b c ys → Took taken faults sure a c (xs ++ ys)
  took_then a b c xs ys t u = record {
    whole = appends_then (taken a) (taken b) (taken c) xs ys t.whole u.whole;
    quiet = u.quiet ∙ t.quiet;
    still_sure = omega (arith, t.still_sure, u.still_sure, length-append xs ys);
  }

  pub cut_later : (a b c : S) (xs ys : List ℕ) → Took taken faults sure a b xs → CutOff taken faults sure b c ys → CutOff taken faults sure a c (xs ++ ys)
  cut_later a b c xs ys t u = record {
    front = (length xs + u.front.0, appends_same (taken a) (taken c) (xs ++ take u.front.0 ys) (take (length xs + u.front.0) (xs ++ ys)) (sym (take_past xs ys u.front.0)) (appends_then (taken a) (taken b) (taken c) xs (take u.front.0 ys) t.whole u.front.1));
    shorter = omega (arith, u.shorter, length-append xs ys);
    rose = (omega (arith, t.quiet, u.rose.0), omega (arith, t.quiet, u.rose.1));
    not_sure = omega (arith, t.still_sure, u.not_sure, length-append xs ys);
  }

  pub cut_first : (a b : S) (xs ys : List ℕ) → CutOff taken faults sure a b xs → CutOff taken faults sure a b (xs ++ ys)
  cut_first a b xs ys t = record {
    front = (min t.front.0 (length xs), appends_same (taken a) (taken b) (take t.front.0 xs) (take (min t.front.0 (length xs)) (xs ++ ys)) (sym (take_front xs ys t.front.0)) t.front.1);
    shorter = omega (arith, t.shorter, length-append xs ys);
    rose = t.rose;
    not_sure = omega (arith, t.not_sure, length-append xs ys);
  }

  pub took_same : (a b : S) (xs ys : List ℕ) → xs ≡ ys → Took taken faults sure a b xs → Took taken faults sure a b ys
  took_same a b xs ys e t = subst (λ l. Took taken faults sure a b l) e t

  pub cut_same : (a b : S) (xs ys : List ℕ) → xs ≡ ys → CutOff taken faults sure a b xs → CutOff taken faults sure a b ys
  cut_same a b xs ys e t = subst (λ l. CutOff taken faults sure a b l) e t

  -- cut off in the middle of a text
  pub cut_within : (a b c : S) (done piece rest text : List ℕ) → done ++ (piece ++ rest) ≡ text → Took taken faults sure a b done → CutOff taken faults sure b c piece → CutOff taken faults sure a c text
  cut_within a b c done piece rest text e t u = cut_same a c (done ++ (piece ++ rest)) text e (cut_later a b c done (piece ++ rest) t (cut_first b c piece rest u))

  -- a last text after others
  pub puts_last : (a b c : S) (xs ys : List ℕ) (r : Result (Unit {0}) Failed) → Took taken faults sure a b xs → Puts taken faults sure b c ys r → Puts taken faults sure a c (xs ++ ys) r
  puts_last a b c xs ys (Ok done) t u = took_then a b c xs ys t u
  puts_last a b c xs ys (Err failed) t u = cut_later a b c xs ys t u

  pub puts_same : (a b : S) (xs ys : List ℕ) (r : Result (Unit {0}) Failed) → xs ≡ ys → Puts taken faults sure a b xs r → Puts taken faults sure a b ys r
  puts_same a b xs ys r e h = subst (λ l. Puts taken faults sure a b l r) e h
