-- The states of an unrolled text are closed under its steps.
use Rattle.std.proofs.Common.{◌≡◌, inl, inr, ℕ, zero, suc, ◌≤◌, ◌==◌, List, [], ◌∷◌, length, refl, sym, ◌∙◌, subst, arith, Bool, true, false, ◌&&◌, ◌||◌}
use Rattle.flow_rule.specs.Iterations.{PointState, FlowStep}
use Rattle.std.proofs.lemmas.Bool.{and_parts, eqb-true}
use Rattle.sm_words.specs.Words.{nth}
use Rattle.mod_layout.specs.declared.Section.{Section}
use Rattle.flow_rule.specs.declared.Val.{Val}
use Rattle.flow_rule.specs.declared.Val.TheVariants.{Known, Away, Public, Secret}
use Rattle.flow_rule.proofs.Meaning.{Agrees}
use Rattle.flow_laws.specs.Exploring.{says_less, say_less, is_known}
use Rattle.flow_laws.specs.internal.Unrolling.{Each, Leads, GoesOn, IsUnrolled}
use Rattle.flow_laws.proofs.Labelling.{Below, Under, Among, CoveredBy, Closed, same_under}

each_of : (P : PointState → Type 0) (xs : List PointState) → Each P xs → (y : PointState) → Among y xs → P y
each_of P [] h y k = absurd k
each_of P (x ∷ xs) h y (inl e) = subst P (sym e) h.0
each_of P (x ∷ xs) h y (inr k) = each_of P xs h.1 y k

says_weaker : (s : Section) (u v : Val) (a b : ℕ) → says_less u v ≡ true → Agrees s v a b → Agrees s u a b
says_weaker s Secret v a b e h = tt
says_weaker s Public (Known n) a b e h = h.0 ∙ sym h.1
says_weaker s Public Away a b e h = h.0
says_weaker s Public Public a b e h = h
says_weaker s Public Secret a b e h = absurd cc
says_weaker s Away Away a b e h = h
says_weaker s (Known n) (Known k) a b e h = let f = eqb-true n k e in (h.0 ∙ sym f, h.1 ∙ sym f)
says_weaker s _ _ a b e h = absurd cc

say_weaker : (s : Section) (us vs : List Val) (n a b : ℕ) → say_less us vs ≡ true → Agrees s (nth n vs Secret) a b → Agrees s (nth n us Secret) a b
say_weaker s [] vs n a b e h = tt
say_weaker s (u ∷ us) [] n a b e h = absurd cc
say_weaker s (u ∷ us) (v ∷ vs) zero a b e h = says_weaker s u v a b (and_parts (says_less u v) (say_less us vs) e).0 h
say_weaker s (u ∷ us) (v ∷ vs) (suc n) a b e h = say_weaker s us vs n a b (and_parts (says_less u v) (say_less us vs) e).1 h

say_shorter : (us vs : List Val) → say_less us vs ≡ true → length us ≤ length vs
say_shorter [] vs e = omega arith
say_shorter (u ∷ us) [] e = absurd cc
say_shorter (u ∷ us) (v ∷ vs) e = let k = say_shorter us vs (and_parts (says_less u v) (say_less us vs) e).1 in omega arith

say_below : (us vs : List Val) → say_less us vs ≡ true → Below vs us
say_below us vs e = record { weaker = λ s n a b h. say_weaker s us vs n a b e h; shorter = say_shorter us vs e }

-- a kept state that knows no more
abbrev Knows : PointState → PointState → Bool
Knows k x = (k.point.addr == x.point.addr) && say_less k.state.core x.state.core && say_less k.state.words x.state.words

knows_under : (k x : PointState) → Knows k x ≡ true → Under x k
knows_under k x e =
    let p = and_parts ((k.point.addr == x.point.addr) && say_less k.state.core x.state.core) (say_less k.state.words x.state.words) e in
    let q = and_parts (k.point.addr == x.point.addr) (say_less k.state.core x.state.core) p.0 in
    record { addr = eqb-true k.point.addr x.point.addr q.0; core = say_below k.state.core x.state.core q.1; words = say_below k.state.words x.state.words p.1 }

module _ (step : PointState → FlowStep) (start : PointState) (kept : List PointState) (steps : ℕ) (h : IsUnrolled step start kept steps) where
  -- a state on a way
  abbrev pub OnWay : PointState → Type 0
  OnWay x = (n : ℕ) × GoesOn step kept n x

  absorbed : (ks : List PointState) → Each (GoesOn step kept steps) ks → (x : PointState) → is_known ks x ≡ true → CoveredBy OnWay x
  absorbed [] g x a = absurd cc
  absorbed (k ∷ ks) g x a = by (Knows k x) refl a (λ a. absorbed ks g.1 x a)
    where
      by : (c : Bool) → Knows k x ≡ c → (c || is_known ks x) ≡ true → (is_known ks x ≡ true → CoveredBy OnWay x) → CoveredBy OnWay x
      by true e a go = record { point = k; among = (steps, g.0); under = knows_under k x e }
      by false e a go = go a

  leads_on : (n : ℕ) (x : PointState) → Leads step kept n x → CoveredBy OnWay x
  leads_on zero x a = absorbed kept h.goes_on x a
  leads_on (suc n) x (inl a) = absorbed kept h.goes_on x a
  leads_on (suc n) x (inr g) = record { point = x; among = (n, g); under = same_under x }

  pub unrolled_closed : Closed step start OnWay
  unrolled_closed =
      record {
        begins = leads_on steps start h.begins;
        goes_on = λ x w y k. leads_on w.0 y (each_of (Leads step kept w.0) (step x).gives w.1.1 y k);
        fine = λ x w. w.1.0;
      }
