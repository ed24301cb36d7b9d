-- States at one program point, of which the first absorbs the second.
use Rattle.std.proofs.Common.{◌≡◌, List, [], ◌∷◌, refl, sym, ◌∙◌, arith, Bool, true, false, cond, ◌==◌}
use Rattle.std.proofs.lemmas.Bool.Decides.{nat_tests}
use Rattle.flow_rule.specs.declared.Val.{Val}
use Rattle.flow_rule.specs.declared.Val.TheVariants.{Known, Away, Public, Secret}
use Rattle.flow_rule.specs.Values.{join, join_each}
use Rattle.flow_rule.specs.Iterations.{PointState, join_states}
use Rattle.flow_rule.proofs.Absorbing.{AbsorbsVal, AbsorbsEach}
use Rattle.granted_terms.proofs.Forgiven.{Lower}

-- ---- values
own : (v : Val) → AbsorbsVal v v
own (Known a) = refl
own _ = tt

then : (t u v : Val) → AbsorbsVal t u → AbsorbsVal u v → AbsorbsVal t v
then (Known a) (Known b) (Known c) p q = q ∙ p
then (Known a) (Known b) v p q = absurd q
then (Known a) u v p q = absurd p
then Away Away Away p q = tt
then Away Away v p q = absurd q
then Away u v p q = absurd p
then Public Secret v p q = absurd p
then Public u Secret p q = absurd q
then Public u v p q = tt
then Secret u v p q = tt

-- a join absorbs both of what it joins
first : (v w : Val) → AbsorbsVal (join v w) v
first (Known a) (Known b) = by (a == b)
  where
    by : (c : Bool) → AbsorbsVal (cond c (Known a) Public) (Known a)
    by true = refl
    by false = tt
first Away Away = tt
first Secret w = tt
first v Secret = tt
first _ _ = tt

second : (v w : Val) → AbsorbsVal (join v w) w
second (Known a) (Known b) = by (a == b) refl
  where
    by : (c : Bool) → (a == b) ≡ c → AbsorbsVal (cond c (Known a) Public) (Known b)
    by true e = let same : a ≡ b = grind (arith, nat_tests) in sym same
    by false e = tt
second Away Away = tt
second Secret w = tt
second v Secret = tt
second _ _ = tt

-- what absorbs both absorbs their join
joined : (t v w : Val) → AbsorbsVal t v → AbsorbsVal t w → AbsorbsVal t (join v w)
joined (Known a) (Known b) (Known c) p q = by (b == c) refl
  where
    by : (d : Bool) → (b == c) ≡ d → AbsorbsVal (Known a) (cond d (Known b) Public)
    by true e = p
    by false e = let same : b ≡ c = p ∙ sym q in absurd (grind (arith, nat_tests))
joined (Known a) (Known b) w p q = absurd q
joined (Known a) v w p q = absurd p
joined Away Away Away p q = tt
joined Away Away w p q = absurd q
joined Away v w p q = absurd p
joined Public Secret w p q = absurd p
joined Public v Secret p q = absurd q
joined Public (Known b) (Known c) p q = by (b == c)
  where
    by : (d : Bool) → AbsorbsVal Public (cond d (Known b) Public)
    by true = tt
    by false = tt
joined Public v w p q = tt
joined Secret v w p q = tt

-- ---- lists of values
pub each_own : (vs : List Val) → AbsorbsEach vs vs
each_own [] = tt
each_own (v ∷ vs) = (own v, each_own vs)

each_then : (ts us vs : List Val) → AbsorbsEach ts us → AbsorbsEach us vs → AbsorbsEach ts vs
each_then [] us vs p q = tt
each_then (t ∷ ts) [] vs p q = absurd p
each_then (t ∷ ts) (u ∷ us) [] p q = absurd q
each_then (t ∷ ts) (u ∷ us) (v ∷ vs) p q = (then t u v p.0 q.0, each_then ts us vs p.1 q.1)

each_first : (vs ws : List Val) → AbsorbsEach (join_each vs ws) vs
each_first [] ws = tt
each_first (v ∷ vs) [] = tt
each_first (v ∷ vs) (w ∷ ws) = (first v w, each_first vs ws)

each_second : (vs ws : List Val) → AbsorbsEach (join_each vs ws) ws
each_second [] ws = tt
each_second (v ∷ vs) [] = tt
each_second (v ∷ vs) (w ∷ ws) = (second v w, each_second vs ws)

each_joined : (ts vs ws : List Val) → AbsorbsEach ts vs → AbsorbsEach ts ws → AbsorbsEach ts (join_each vs ws)
each_joined [] vs ws p q = tt
each_joined (t ∷ ts) [] ws p q = absurd p
each_joined (t ∷ ts) (v ∷ vs) [] p q = absurd q
each_joined (t ∷ ts) (v ∷ vs) (w ∷ ws) p q = (joined t v w p.0 q.0, each_joined ts vs ws p.1 q.1)

-- ---- points
-- the point that joins a second to a first
abbrev pub joined_point : PointState → PointState → PointState
joined_point y x = record { point = y.point; state = join_states y.state x.state }

pub lower_own : (x : PointState) → Lower x x
lower_own x = record { point = refl; core = each_own x.state.core; words = each_own x.state.words }

pub lower_then : (x y z : PointState) → Lower x y → Lower y z → Lower x z
lower_then x y z p q =
    record {
      point = q.point ∙ p.point;
      core = each_then x.state.core y.state.core z.state.core p.core q.core;
      words = each_then x.state.words y.state.words z.state.words p.words q.words;
    }

pub lower_first : (y x : PointState) → Lower (joined_point y x) y
lower_first y x =
    record {
      point = refl;
      core = each_first y.state.core x.state.core;
      words = each_first y.state.words x.state.words;
    }

pub lower_second : (y x : PointState) → y.point ≡ x.point → Lower (joined_point y x) x
lower_second y x e =
    record {
      point = sym e;
      core = each_second y.state.core x.state.core;
      words = each_second y.state.words x.state.words;
    }

pub lower_joined : (t y x : PointState) → Lower t y → Lower t x → Lower t (joined_point y x)
lower_joined t y x p q =
    record {
      point = p.point;
      core = each_joined t.state.core y.state.core x.state.core p.core q.core;
      words = each_joined t.state.words y.state.words x.state.words p.words q.words;
    }
