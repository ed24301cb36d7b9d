-- Where a call ends under terms, from values that others absorb: what is secret there alone is forgiven.
use Rattle.std.proofs.Common.{◌≡◌, ◌≢◌, ℕ, zero, suc, ◌+◌, ◌<◌, ◌≤◌, List, [], ◌∷◌, ◌++◌, length, set, refl, sym, ap, ◌∙◌, arith, Bool, true, false, cond, ◌==◌, ◌||◌, length-set, get_or-set_other}
use Rattle.std.proofs.lemmas.Bool.Decides.{nat_tests}
use Rattle.std.proofs.lemmas.List.{get_or-set_same}
use Rattle.sm_words.specs.Words.{nth}
use Rattle.mod_layout.specs.declared.Module.{Module}
use Rattle.flow_rule.specs.Terms.{Terms}
use Rattle.flow_rule.specs.declared.Val.{Val}
use Rattle.flow_rule.specs.declared.Val.TheVariants.{Public, Secret}
use Rattle.flow_rule.specs.declared.Reason.TheVariants.{SecretAtExit, DataAtExit}
use Rattle.flow_rule.specs.Values.{is_secret, set_each, val}
use Rattle.flow_rule.specs.Iterations.{RuleViolation}
use Rattle.flow_rule.specs.Does.{word_no}
use Rattle.flow_rule.specs.Violations.{violation, violation_if, exit_violations, word_violations}
use Rattle.flow_rule.specs.Going.{closes, exit_step}
use Rattle.flow_rule.proofs.Plans.{none_left, none_right, none_if}
use Rattle.flow_laws.proofs.Telling.{on_list}
use Rattle.flow_rule.proofs.Absorbing.{AbsorbsVal, AbsorbsEach, nth_keeps}
use Rattle.granted_terms.proofs.Forgiven.{Forgiven, ByAnswer, ByWord, EachForgiven, Follows}

-- ---- values that others absorb
pub open_below : (t v : Val) → AbsorbsVal t v → is_secret t ≡ false → is_secret v ≡ false
open_below Secret Secret p e = e
open_below t Secret p e = absurd p
open_below t _ p e = refl

longer : (ts vs : List Val) → AbsorbsEach ts vs → length ts ≤ length vs
longer [] vs p = omega arith
longer (t ∷ ts) [] p = absurd p
longer (t ∷ ts) (v ∷ vs) p = let h = longer ts vs p.1 in omega (arith, h)

in_range : (ts : List Val) (n : ℕ) → is_secret (val ts n) ≡ false → n < length ts
in_range [] n e = absurd cc
in_range (t ∷ ts) zero e = omega arith
in_range (t ∷ ts) (suc n) e = let h = in_range ts n e in omega (arith, h)

-- ---- values that become Public at some places
pub long_each : (places : List ℕ) (vs : List Val) → length (set_each places Public vs) ≡ length vs
long_each [] vs = refl
long_each (n ∷ places) vs = long_each places (set vs n Public) ∙ length-set vs n Public

either_public : (b : Bool) → cond b Public Public ≡ Public
either_public true = refl
either_public false = refl

public_at : (places : List ℕ) (vs : List Val) (k : ℕ) → k < length vs →
    val (set_each places Public vs) k ≡ cond (on_list places k) Public (val vs k)
public_at [] vs k lt = refl
public_at (n ∷ places) vs k lt =
    public_at places (set vs n Public) k (omega (arith, length-set vs n Public, lt)) ∙ by (k == n) refl
  where
    by : (b : Bool) → (k == n) ≡ b → cond (on_list places k) Public (val (set vs n Public) k)
        ≡ cond (b || on_list places k) Public (val vs k)
    by true e =
        let f : k ≡ n = grind (arith, nat_tests) in
        let here : val (set vs n Public) k ≡ Public =
        ap (val (set vs n Public)) f ∙ get_or-set_same vs n Public Secret (omega (arith, f, lt)) in
        ap (cond (on_list places k) Public) here ∙ either_public (on_list places k)
    by false e =
        let ne : k ≢ n = grind (arith, nat_tests) in
        ap (cond (on_list places k) Public) (get_or-set_other vs n k Public Secret ne)

-- ---- addresses
same_number : (a : ℕ) → (a == a) ≡ true
same_number a = grind (arith, nat_tests)

module _ (m : Module) (pc : ℕ) where
  -- a word at one of these addresses, where none has a violation
  open_word : (ws : List Val) (addrs : List ℕ) → word_violations m pc ws addrs ≡ [] → (a : ℕ) → on_list addrs a ≡ true →
      is_secret (nth (word_no m a) ws Secret) ≡ false
  open_word ws [] e a h = absurd cc
  open_word ws (b ∷ addrs) e a h = by (a == b) refl h (open_word ws addrs (none_right here rest e) a)
    where
      here : List RuleViolation
      here = violation_if (is_secret (nth (word_no m b) ws Secret)) pc DataAtExit b

      rest : List RuleViolation
      rest = word_violations m pc ws addrs

      by : (c : Bool) → (a == b) ≡ c → (c || on_list addrs a) ≡ true →
          (on_list addrs a ≡ true → is_secret (nth (word_no m a) ws Secret) ≡ false) →
          is_secret (nth (word_no m a) ws Secret) ≡ false
      by true f h go =
          let g : a ≡ b = grind (arith, nat_tests) in
          ap (λ i. is_secret (nth (word_no m i) ws Secret)) g
          ∙ none_if (is_secret (nth (word_no m b) ws Secret)) pc DataAtExit b (none_left here rest e)
      by false f h go = go h

-- ---- what is forgiven
module _ (now other : Terms) where
  pub each_append : (rs qs : List RuleViolation) → EachForgiven now other rs → EachForgiven now other qs →
      EachForgiven now other (rs ++ qs)
  each_append [] qs h k = k
  each_append (r ∷ rs) qs h k = (h.0, each_append rs qs h.1 k)

  register_forgiven : (pc n : ℕ) (ts vs : List Val) → AbsorbsEach ts vs →
      is_secret (val (set_each other.answers Public ts) n) ≡ false →
      is_secret (val (set_each now.answers Public vs) n) ≡ true →
      Forgiven now other (record { addr = pc; why = SecretAtExit; value = n })
  register_forgiven pc n ts vs p e f =
      let short = in_range (set_each other.answers Public ts) n e in
      let here : n < length ts = omega (arith, short, long_each other.answers ts) in
      let there : n < length vs = omega (arith, here, longer ts vs p) in
      by (on_list other.answers n) (on_list now.answers n) refl refl
      (ap is_secret (sym (public_at other.answers ts n here)) ∙ e)
      (ap is_secret (sym (public_at now.answers vs n there)) ∙ f)
    where
      by : (a b : Bool) → on_list other.answers n ≡ a → on_list now.answers n ≡ b →
          is_secret (cond a Public (val ts n)) ≡ false → is_secret (cond b Public (val vs n)) ≡ true →
          Forgiven now other (record { addr = pc; why = SecretAtExit; value = n })
      by a true ea eb g h = absurd cc
      by true false ea eb g h = ByAnswer refl ea eb
      by false false ea eb g h = let k = open_below (val ts n) (val vs n) (nth_keeps ts vs n p) g in absurd cc

  exits_forgiven : (k n pc : ℕ) (ts vs : List Val) → AbsorbsEach ts vs →
      exit_violations k n pc (set_each other.answers Public ts) ≡ [] →
      EachForgiven now other (exit_violations k n pc (set_each now.answers Public vs))
  exits_forgiven zero n pc ts vs p e = tt
  exits_forgiven (suc k) n pc ts vs p e =
      by (is_secret (val bare_top n)) (is_secret (val bare_low n)) refl refl e (exits_forgiven k (n + 1) pc ts vs p)
    where
      bare_top : List Val
      bare_top = set_each other.answers Public ts

      bare_low : List Val
      bare_low = set_each now.answers Public vs

      by : (a b : Bool) → is_secret (val bare_top n) ≡ a → is_secret (val bare_low n) ≡ b →
          cond a (violation pc SecretAtExit n) (exit_violations k (n + 1) pc bare_top) ≡ [] →
          (exit_violations k (n + 1) pc bare_top ≡ [] → EachForgiven now other (exit_violations k (n + 1) pc bare_low)) →
          EachForgiven now other (cond b (violation pc SecretAtExit n) (exit_violations k (n + 1) pc bare_low))
      by true b ea eb e go = absurd cc
      by false true ea eb e go = (register_forgiven pc n ts vs p ea eb, tt)
      by false false ea eb e go = go e

  pub closes_follows : (pc : ℕ) (ts vs : List Val) → AbsorbsEach ts vs → (closes other pc ts).violations ≡ [] →
      Follows now other (closes other pc ts) (closes now pc vs)
  closes_follows pc ts vs p e = record { forgiven = exits_forgiven 16 0 pc ts vs p e; gives = tt }

  module _ (m : Module) (pc : ℕ) where
    words_forgiven : (ws us : List Val) → AbsorbsEach ws us → word_violations m pc ws other.public ≡ [] →
        (addrs : List ℕ) → ((a : ℕ) → on_list addrs a ≡ true → on_list now.public a ≡ true) →
        EachForgiven now other (word_violations m pc us addrs)
    words_forgiven ws us p e [] some = tt
    words_forgiven ws us p e (a ∷ addrs) some =
        each_append (violation_if (is_secret (nth (word_no m a) us Secret)) pc DataAtExit a) (word_violations m pc us addrs)
        (by (is_secret (nth (word_no m a) us Secret)) (on_list other.public a) refl refl)
        (words_forgiven ws us p e addrs (λ b h. some b (later b (b == a) h)))
      where
        later : (b : ℕ) (c : Bool) → on_list addrs b ≡ true → (c || on_list addrs b) ≡ true
        later b true h = refl
        later b false h = h

        by : (c d : Bool) → is_secret (nth (word_no m a) us Secret) ≡ c → on_list other.public a ≡ d →
            EachForgiven now other (violation_if c pc DataAtExit a)
        by false d ec ed = tt
        by true false ec ed = (ByWord refl (some a (ap (λ c. c || on_list addrs a) (same_number a))) ed, tt)
        by true true ec ed =
            let k = open_below (nth (word_no m a) ws Secret) (nth (word_no m a) us Secret)
            (nth_keeps ws us (word_no m a) p) (open_word m pc ws other.public e a ed) in absurd cc

    pub exit_follows : (ts vs ws us : List Val) → AbsorbsEach ts vs → AbsorbsEach ws us →
        (exit_step other m pc ts ws).violations ≡ [] →
        Follows now other (exit_step other m pc ts ws) (exit_step now m pc vs us)
    exit_follows ts vs ws us p d e =
        let words = word_violations m pc ws other.public in
        let registers = exit_violations 16 0 pc (set_each other.answers Public ts) in
        record {
          forgiven = each_append (word_violations m pc us now.public)
              (exit_violations 16 0 pc (set_each now.answers Public vs))
              (words_forgiven ws us d (none_left words registers e) now.public (λ a h. h))
              (exits_forgiven 16 0 pc ts vs p (none_right words registers e));
          gives = tt;
        }
