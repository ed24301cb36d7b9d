-- Values that absorb others: operations keep it, and what is known of them is known of the others.
use Rattle.std.proofs.Common.{◌≡◌, ℕ, zero, suc, ◌*◌, ◌%◌, List, [], ◌∷◌, drop, set, refl, sym, ap, ◌∙◌, subst, arith, Bool, true, false, cond, ◌==◌, ◌||◌, Option, Some, None}
use Rattle.std.proofs.lemmas.Bool.Decides.{nat_tests}
use Rattle.sm_words.specs.Words.{nth, kept, add16}
use Rattle.insn_decode.specs.Code.{length_of}
use Rattle.sm_words.specs.Sums.{low}
use Rattle.sm_words.specs.declared.width.Width.{Width}
use Rattle.sm_words.specs.declared.width.Width.TheVariants.{Byte, Word}
use Rattle.insn_decode.specs.declared.insn.Insn.{Insn}
use Rattle.flow_rule.specs.declared.Val.{Val}
use Rattle.flow_rule.specs.declared.Val.TheVariants.{Known, Away, Public, Secret}
use Rattle.flow_rule.specs.Values.{is_secret, join, join_each, over, over_one, blurred, on_known, narrow, val, kept_val, put_val}
use Rattle.flow_rule.specs.Does.{past_val}

-- joining the second to the first changes nothing
abbrev pub AbsorbsVal : Val → Val → Type 0
AbsorbsVal (Known a) (Known b) = b ≡ a
AbsorbsVal Away Away = Unit {0}
AbsorbsVal Public Secret = ⊥
AbsorbsVal Public v = Unit {0}
AbsorbsVal Secret v = Unit {0}
AbsorbsVal _ _ = ⊥

abbrev pub AbsorbsEach : List Val → List Val → Type 0
AbsorbsEach [] vs = Unit {0}
AbsorbsEach (t ∷ ts) [] = ⊥
AbsorbsEach (t ∷ ts) (v ∷ vs) = AbsorbsVal t v × AbsorbsEach ts vs

abbrev pub AbsorbsOption : Option Val → Option Val → Type 0
AbsorbsOption None None = Unit {0}
AbsorbsOption (Some t) (Some v) = AbsorbsVal t v
AbsorbsOption _ _ = ⊥

of_join : (t v : Val) → join t v ≡ t → AbsorbsVal t v
of_join (Known a) (Known b) e = by (a == b) refl e
  where
    by : (c : Bool) → (a == b) ≡ c → cond c (Known a) Public ≡ Known a → b ≡ a
    by true f e = let k : a ≡ b = grind (arith, nat_tests) in sym k
    by false f e = absurd cc
of_join Away Away e = tt
of_join Public Secret e = absurd cc
of_join Public v e = tt
of_join Secret v e = tt
of_join _ _ e = absurd cc

pub of_joins : (ts vs : List Val) → join_each ts vs ≡ ts → AbsorbsEach ts vs
of_joins [] vs e = tt
of_joins (t ∷ ts) [] e = absurd cc
of_joins (t ∷ ts) (v ∷ vs) e = (of_join t v cc, of_joins ts vs cc)

-- ---- operations
known_of : (a : ℕ) (v : Val) → AbsorbsVal (Known a) v → v ≡ Known a
known_of a (Known b) p = ap Known p
known_of a _ p = absurd p

not_secret : (t v : Val) → is_secret t ≡ false → AbsorbsVal t v → is_secret v ≡ false
not_secret Secret Secret e p = e
not_secret t Secret e p = absurd p
not_secret t _ e p = refl

over_public : (f : ℕ → ℕ → ℕ → ℕ) (u v w : Val) → is_secret u ≡ false → is_secret v ≡ false → is_secret w ≡ false →
    AbsorbsVal Public (over f u v w)
over_public f Secret v w p q r = absurd cc
over_public f u Secret w p q r = absurd cc
over_public f u v Secret p q r = absurd cc
over_public f (Known a) (Known b) (Known c) p q r = tt
over_public f u v w p q r = tt

pub over_keeps : (f : ℕ → ℕ → ℕ → ℕ) (t u s t' u' s' : Val) → AbsorbsVal t t' → AbsorbsVal u u' → AbsorbsVal s s' →
    AbsorbsVal (over f t u s) (over f t' u' s')
over_keeps f Secret u s t' u' s' p q r = tt
over_keeps f t Secret s t' u' s' p q r = tt
over_keeps f t u Secret t' u' s' p q r = tt
over_keeps f (Known a) (Known b) (Known c) t' u' s' p q r =
    let e : over f t' u' s' ≡ Known (f a b c) =
    ap (λ i. over f i u' s') (known_of a t' p) ∙ ap (λ i. over f (Known a) i s') (known_of b u' q)
    ∙ ap (λ i. over f (Known a) (Known b) i) (known_of c s' r) in
    subst (λ i. AbsorbsVal (Known (f a b c)) i) (sym e) refl
over_keeps f t u s t' u' s' p q r =
    over_public f t' u' s' (not_secret t t' refl p) (not_secret u u' refl q) (not_secret s s' refl r)

pub over_one_keeps : (f : ℕ → ℕ) (t v : Val) → AbsorbsVal t v → AbsorbsVal (over_one f t) (over_one f v)
over_one_keeps f (Known a) (Known b) p = ap f p
over_one_keeps f Away Away p = tt
over_one_keeps f Public Secret p = absurd p
over_one_keeps f Public v p = tt
over_one_keeps f Secret v p = tt
over_one_keeps f _ _ p = absurd p

pub blurred_keeps : (t v : Val) → AbsorbsVal t v → AbsorbsVal (blurred (t ∷ [])) (blurred (v ∷ []))
blurred_keeps Secret v p = tt
blurred_keeps (Known a) Secret p = absurd p
blurred_keeps Away Secret p = absurd p
blurred_keeps Public Secret p = absurd p
blurred_keeps t v p = tt

all_public : (u v w : Val) → is_secret u ≡ false → is_secret v ≡ false → is_secret w ≡ false → AbsorbsVal Public (blurred (u ∷ v ∷ w ∷ []))
all_public u v w p q r = by (is_secret u) (is_secret v) (is_secret w) p q r
  where
    by : (a b c : Bool) → a ≡ false → b ≡ false → c ≡ false → AbsorbsVal Public (cond (a || (b || (c || false))) Secret Public)
    by false false false p q r = tt
    by _ _ _ p q r = absurd cc

pub blurred_all_keeps : (t u s t' u' s' : Val) → AbsorbsVal t t' → AbsorbsVal u u' → AbsorbsVal s s' →
    AbsorbsVal (blurred (t ∷ u ∷ s ∷ [])) (blurred (t' ∷ u' ∷ s' ∷ []))
blurred_all_keeps Secret u s t' u' s' p q r = tt
blurred_all_keeps t Secret s t' u' s' p q r = tt
blurred_all_keeps t u Secret t' u' s' p q r = tt
blurred_all_keeps t u s t' u' s' p q r = all_public t' u' s' (not_secret t t' refl p) (not_secret u u' refl q) (not_secret s s' refl r)

on_known_keeps : (f : ℕ → ℕ) (t v : Val) → AbsorbsVal t v → AbsorbsVal (on_known f t) (on_known f v)
on_known_keeps f (Known a) (Known b) p = ap f p
on_known_keeps f Away Away p = tt
on_known_keeps f Public Secret p = absurd p
on_known_keeps f Public v p = tt
on_known_keeps f Secret v p = tt
on_known_keeps f _ _ p = absurd p

pub narrow_keeps : (w : Width) (t v : Val) → AbsorbsVal t v → AbsorbsVal (narrow w t) (narrow w v)
narrow_keeps Word t v p = on_known_keeps (low Word) t v p
narrow_keeps Byte t v p = over_one_keeps (low Byte) t v p

kept_keeps : (n : ℕ) (t v : Val) → AbsorbsVal t v → AbsorbsVal (kept_val n t) (kept_val n v)
kept_keeps n t v p = by (n == 2) (n == 3)
  where
    by : (c d : Bool) → AbsorbsVal (cond c (blurred (t ∷ [])) (cond d (Known 0) (on_known (kept n) t)))
        (cond c (blurred (v ∷ [])) (cond d (Known 0) (on_known (kept n) v)))
    by true d = blurred_keeps t v p
    by false true = refl
    by false false = on_known_keeps (kept n) t v p

-- ---- lists
pub nth_keeps : (ts vs : List Val) (n : ℕ) → AbsorbsEach ts vs → AbsorbsVal (nth n ts Secret) (nth n vs Secret)
nth_keeps [] vs n p = tt
nth_keeps (t ∷ ts) [] n p = absurd p
nth_keeps (t ∷ ts) (v ∷ vs) zero p = p.0
nth_keeps (t ∷ ts) (v ∷ vs) (suc n) p = nth_keeps ts vs n p.1

pub set_keeps : (ts vs : List Val) (n : ℕ) (t v : Val) → AbsorbsEach ts vs → AbsorbsVal t v →
    AbsorbsEach (set ts n t) (set vs n v)
set_keeps [] vs n t v p q = tt
set_keeps (u ∷ ts) [] n t v p q = absurd p
set_keeps (u ∷ ts) (w ∷ vs) zero t v p q = (q, p.1)
set_keeps (u ∷ ts) (w ∷ vs) (suc n) t v p q = (p.0, set_keeps ts vs n t v p.1 q)

pub drop_keeps : (ts vs : List Val) → AbsorbsEach ts vs → AbsorbsEach (drop 1 ts) (drop 1 vs)
drop_keeps [] vs p = tt
drop_keeps (t ∷ ts) [] p = absurd p
drop_keeps (t ∷ ts) (v ∷ vs) p = p.1

pub put_keeps : (ts vs : List Val) (n : ℕ) (t v : Val) → AbsorbsEach ts vs → AbsorbsVal t v →
    AbsorbsEach (put_val ts n t) (put_val vs n v)
put_keeps ts vs n t v p q = set_keeps ts vs n (kept_val n t) (kept_val n v) p (kept_keeps n t v q)

pub past_keeps : (insn : Insn) (pc : ℕ) (ts vs : List Val) → AbsorbsEach ts vs →
    AbsorbsEach (past_val insn pc ts) (past_val insn pc vs)
past_keeps insn pc ts vs p =
    put_keeps ts vs 0 (Known (add16 pc (2 * length_of insn))) (Known (add16 pc (2 * length_of insn))) p refl

-- ---- PC, where it is known, is even
abbrev pub EvenPc : List Val → Type 0
EvenPc core = (a : ℕ) → val core 0 ≡ Known a → a % 2 ≡ 0

kept_even : (v : Val) (a : ℕ) → kept_val 0 v ≡ Known a → a % 2 ≡ 0
kept_even (Known b) a e = let k : kept 0 b ≡ a = cc in omega arith
kept_even _ a e = absurd cc

pub put_even : (core : List Val) (n : ℕ) (v : Val) → EvenPc core → EvenPc (put_val core n v)
put_even [] n v h a e = absurd cc
put_even (x ∷ core) zero v h a e = kept_even v a e
put_even (x ∷ core) (suc n) v h a e = h a e

pub past_even : (insn : Insn) (pc : ℕ) (core : List Val) → EvenPc (past_val insn pc core)
past_even insn pc [] a e = absurd cc
past_even insn pc (x ∷ core) a e = kept_even (Known (add16 pc (2 * length_of insn))) a e
