-- The start under some terms lies below the start under others whose public words are among theirs.
use Rattle.std.proofs.Common.{◌≡◌, ℕ, zero, suc, ◌+◌, ◌*◌, ◌≤◌, List, [], ◌∷◌, length, map, set, replicate, refl, sym, subst, arith, Bool, true, false, cond, ◌==◌, ◌||◌}
use Rattle.std.proofs.lemmas.Bool.{eqb-true, eq-eqb, or_left, or_right}
use Rattle.std.proofs.lemmas.List.{length-replicate}
use Rattle.std.specs.List.{slice_set}
use Rattle.mod_layout.specs.declared.Module.{Module}
use Rattle.entry_stubs.specs.Stub.{body_word}
use Rattle.flow_rule.specs.declared.Val.{Val}
use Rattle.flow_rule.specs.declared.Val.TheVariants.{Away, Public, Secret}
use Rattle.flow_rule.specs.Does.{word_no}
use Rattle.flow_rule.specs.Stub.{has_stub}
use Rattle.flow_rule.specs.Terms.{Terms}
use Rattle.flow_rule.specs.Values.{set_each}
use Rattle.flow_rule.specs.Verdict.{known_words, no_secret, start_point, start_under}
use Rattle.flow_rule.proofs.Absorbing.{AbsorbsVal, AbsorbsEach}
use Rattle.flow_laws.proofs.Telling.{on_list}
use Rattle.granted_terms.proofs.Forgiven.{Lower}
use Rattle.granted_terms.proofs.Lowering.{each_own}
use Rattle.granted_terms.proofs.StepsEnds.{long_each}

-- the value at this place, if there is one, is not secret
abbrev Open : List Val → ℕ → Type 0
Open [] k = Unit {0}
Open (v ∷ vs) zero = AbsorbsVal Public v
Open (v ∷ vs) (suc k) = Open vs k

open_set : (vs : List Val) (k : ℕ) → Open (set vs k Public) k
open_set [] k = tt
open_set (v ∷ vs) zero = tt
open_set (v ∷ vs) (suc k) = open_set vs k

still_open : (vs : List Val) (k j : ℕ) → Open vs k → Open (set vs j Public) k
still_open [] k j h = tt
still_open (v ∷ vs) zero zero h = tt
still_open (v ∷ vs) zero (suc j) h = h
still_open (v ∷ vs) (suc k) zero h = h
still_open (v ∷ vs) (suc k) (suc j) h = still_open vs k j h

open_each : (places : List ℕ) (vs : List Val) (k : ℕ) → Open vs k → Open (set_each places Public vs) k
open_each [] vs k h = h
open_each (n ∷ places) vs k h = open_each places (set vs n Public) k (still_open vs k n h)

-- Public absorbs what is not secret
top_set : (ts vs : List Val) (k : ℕ) → AbsorbsEach ts vs → Open vs k → AbsorbsEach (set ts k Public) vs
top_set [] vs k p h = tt
top_set (t ∷ ts) [] k p h = absurd p
top_set (t ∷ ts) (v ∷ vs) zero p h = (h, p.1)
top_set (t ∷ ts) (v ∷ vs) (suc k) p h = (p.0, top_set ts vs k p.1 h)

-- Secret absorbs all
hidden : (n : ℕ) (vs : List Val) → n ≤ length vs → AbsorbsEach (replicate n Secret) vs
hidden zero vs h = tt
hidden (suc n) [] h = absurd (omega (arith, h))
hidden (suc n) (v ∷ vs) h = (tt, hidden n vs (omega (arith, h)))

module _ (m : Module) where
  abbrev opened : List ℕ → List Val → List Val
  opened addrs vs = set_each (map (word_no m) addrs) Public vs

  open_on : (addrs : List ℕ) (vs : List Val) (a : ℕ) → on_list addrs a ≡ true → Open (opened addrs vs) (word_no m a)
  open_on [] vs a e = absurd cc
  open_on (b ∷ addrs) vs a e = by (a == b) refl e (open_on addrs (set vs (word_no m b) Public) a)
    where
      after : List Val
      after = opened addrs (set vs (word_no m b) Public)

      by : (c : Bool) → (a == b) ≡ c → (c || on_list addrs a) ≡ true →
          (on_list addrs a ≡ true → Open after (word_no m a)) → Open after (word_no m a)
      by true f e go =
          subst (λ i. Open after (word_no m i)) (sym (eqb-true a b f))
          (open_each (map (word_no m) addrs) (set vs (word_no m b) Public) (word_no m b) (open_set vs (word_no m b)))
      by false f e go = go e

  top_each : (addrs : List ℕ) (ts vs : List Val) → AbsorbsEach ts vs →
      ((a : ℕ) → on_list addrs a ≡ true → Open vs (word_no m a)) → AbsorbsEach (opened addrs ts) vs
  top_each [] ts vs p h = p
  top_each (a ∷ addrs) ts vs p h =
      top_each addrs (set ts (word_no m a) Public) vs
      (top_set ts vs (word_no m a) p (h a (or_left (a == a) (on_list addrs a) (eq-eqb a a refl))))
      (λ b e. h b (or_right (b == a) (on_list addrs b) e))

  words_lower : (n : ℕ) (few more : List ℕ) → ((a : ℕ) → on_list few a ≡ true → on_list more a ≡ true) →
      AbsorbsEach (opened few (replicate n Secret)) (opened more (replicate n Secret))
  words_lower n few more h =
      let long = long_each (map (word_no m) more) (replicate n Secret) in
      top_each few (replicate n Secret) (opened more (replicate n Secret))
      (hidden n (opened more (replicate n Secret)) (omega (arith, long, length-replicate n Secret)))
      (λ a e. open_on more (replicate n Secret) a (h a e))

  pub start_lower : (now other : Terms) (text : List ℕ) →
      ((a : ℕ) → on_list other.public a ≡ true → on_list now.public a ≡ true) →
      Lower (start_under other m text) (start_under now m text)
  start_lower now other text h = by (has_stub m text)
    where
      points : (pc : ℕ) (core : List Val) → Lower (start_point known_words other m pc core) (start_point known_words now m pc core)
      points pc core =
          record { point = refl; core = each_own core; words = words_lower known_words other.public now.public h }

      body : ℕ
      body = m.text.start + 2 * body_word

      by : (b : Bool) → Lower
          (cond b (start_point known_words other m body (slice_set (no_secret body) 7 Away)) (start_point known_words other m m.text.start (no_secret m.text.start)))
          (cond b (start_point known_words now m body (slice_set (no_secret body) 7 Away)) (start_point known_words now m m.text.start (no_secret m.text.start)))
      by true = points body (slice_set (no_secret body) 7 Away)
      by false = points m.text.start (no_secret m.text.start)
