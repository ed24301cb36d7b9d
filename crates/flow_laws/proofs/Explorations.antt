-- An exploration that is complete unrolls the text.
use Rattle.std.proofs.Common.{◌≡◌, inl, inr, ℕ, zero, suc, List, [], ◌∷◌, ◌++◌, refl, ap, ◌∙◌, subst, Bool, true, false, cond, ◌||◌}
use Rattle.flow_rule.specs.Iterations.{PointState, RuleViolation, FlowStep}
use Rattle.flow_laws.specs.Exploring.{is_known, Taken, Goes, Overflows, Complete, on_top, within, unless_wrong, explore_on, explore}
use Rattle.flow_laws.specs.internal.Unrolling.{Each, Leads, GoesOn, IsUnrolled}

-- of all on top and of all below
each_on_top : (P : PointState → Type 0) (xs ys : List PointState) → Each P (on_top xs ys) → Each P xs × Each P ys
each_on_top P [] ys h = (tt, h)
each_on_top P (x ∷ xs) ys h = let k = each_on_top P xs (x ∷ ys) h in ((k.1.0, k.0), k.1.1)

each_more : (P Q : PointState → Type 0) → ((x : PointState) → P x → Q x) → (xs : List PointState) → Each P xs → Each Q xs
each_more P Q f [] h = tt
each_more P Q f (x ∷ xs) h = (f x h.0, each_more P Q f xs h.1)

known_more : (news kept : List PointState) (x : PointState) → is_known kept x ≡ true → is_known (news ++ kept) x ≡ true
known_more [] kept x e = e
known_more (k ∷ news) kept x e = or_true _ (is_known (news ++ kept) x) (known_more news kept x e)
  where
    or_true : (a b : Bool) → b ≡ true → (a || b) ≡ true
    or_true true b e = refl
    or_true false b e = e

module _ (step : PointState → FlowStep) (keeps : PointState → Bool) (room left : ℕ) (kept : List PointState) where
  more_steps : (n : ℕ) (x : PointState) → Leads step kept n x → Leads step kept (suc n) x
  more_steps zero x h = inl h
  more_steps (suc n) x (inl h) = inl h
  more_steps (suc n) x (inr h) = inr (h.0, each_more (Leads step kept n) (Leads step kept (suc n)) (λ y k. more_steps n y k) (step x).gives h.1)

  goes_more : (n : ℕ) (x : PointState) → GoesOn step kept n x → GoesOn step kept (suc n) x
  goes_more n x h = (h.0, each_more (Leads step kept n) (Leads step kept (suc n)) (λ y k. more_steps n y k) (step x).gives h.1)

  -- what an exploration shows that ends with these states kept
  record Shows (n : ℕ) (to_come before : List PointState) : Type 0 where
    news : List PointState
    are : news ++ before ≡ kept
    lead : Each (Leads step kept n) to_come
    go_on : Each (GoesOn step kept n) news

  abbrev Goal : ℕ → List PointState → List PointState → Type 0
  Goal n to_come before = explore step keeps room to_come before n ≡ Complete left kept → Shows n to_come before

  none_left : (n : ℕ) (before : List PointState) → Complete n before ≡ Complete left kept → Shows n [] before
  none_left n before e = let f : before ≡ kept = cc in record { news = []; are = f; lead = tt; go_on = tt }

  all_more : (n : ℕ) (xs : List PointState) → Each (Leads step kept n) xs → Each (Leads step kept (suc n)) xs
  all_more n xs h = each_more (Leads step kept n) (Leads step kept (suc n)) (λ y k. more_steps n y k) xs h

  all_go_more : (n : ℕ) (xs : List PointState) → Each (GoesOn step kept n) xs → Each (GoesOn step kept (suc n)) xs
  all_go_more n xs h = each_more (GoesOn step kept n) (GoesOn step kept (suc n)) (λ y k. goes_more n y k) xs h

  -- a state is taken, where the rest shows
  module _ (n : ℕ) (x : PointState) (to_come before : List PointState) (rest : (xs ks : List PointState) → Goal n xs ks) where
    abbrev Here : Type 0
    Here = Shows (suc n) (x ∷ to_come) before

    abbrev gives : List PointState
    gives = (step x).gives

    abbrev next : Bool → List PointState
    next c = cond c (x ∷ before) before

    known : is_known before x ≡ true → Shows n to_come before → Here
    known k h =
        let now = subst (λ l. is_known l x ≡ true) h.are (known_more h.news before x k) in
        record { news = h.news; are = h.are; lead = (inl now, all_more n to_come h.lead); go_on = all_go_more n h.news h.go_on }

    snoc : (ns : List PointState) → Each (GoesOn step kept (suc n)) ns → GoesOn step kept (suc n) x → Each (GoesOn step kept (suc n)) (ns ++ x ∷ [])
    snoc [] h k = (k, tt)
    snoc (y ∷ ns) h k = (h.0, snoc ns h.1 k)

    moved : (ns : List PointState) → (ns ++ x ∷ []) ++ before ≡ ns ++ x ∷ before
    moved [] = refl
    moved (y ∷ ns) = ap (λ l. y ∷ l) (moved ns)

    on : (c : Bool) → (step x).violations ≡ [] → Shows n (on_top gives to_come) (next c) → Here
    on c none h =
        let leads = each_on_top (Leads step kept n) gives to_come h.lead in
        which c h.news h.are (all_go_more n h.news h.go_on) (none, leads.0) (all_more n to_come leads.1)
      where
        which : (c : Bool) (ns : List PointState) → ns ++ next c ≡ kept → Each (GoesOn step kept (suc n)) ns → GoesOn step kept n x → Each (Leads step kept (suc n)) to_come → Here
        which true ns are more here rest = record { news = ns ++ x ∷ []; are = moved ns ∙ are; lead = (inr here, rest); go_on = snoc ns more (goes_more n x here) }
        which false ns are more here rest = record { news = ns; are = are; lead = (inr here, rest); go_on = more }

    abbrev Ends : Taken → Type 0
    Ends t = explore_on (λ xs ks. explore step keeps room xs ks n) n x.point.addr t ≡ Complete left kept

    full : (c b : Bool) → (step x).violations ≡ [] → Ends (cond b Overflows (Goes (on_top gives to_come) (next c))) → Here
    full c true none e = absurd cc
    full c false none e = on c none (rest (on_top gives to_come) (next c) e)

    right : (vs : List RuleViolation) → (step x).violations ≡ vs → Ends (unless_wrong vs (within room (on_top gives to_come) (next (keeps x)))) → Here
    right [] none e = full (keeps x) _ none e
    right (v ∷ vs) some e = absurd cc

    by : (c : Bool) → is_known before x ≡ c → Ends (cond c (Goes to_come before) (unless_wrong (step x).violations (within room (on_top gives to_come) (next (keeps x))))) → Here
    by true k e = known k (rest to_come before e)
    by false k e = right (step x).violations refl e

  shows : (n : ℕ) (to_come before : List PointState) → Goal n to_come before
  shows n [] before e = none_left n before e
  shows zero (x ∷ to_come) before e = absurd cc
  shows (suc n) (x ∷ to_come) before e = by n x to_come before (λ xs ks f. shows n xs ks f) (is_known before x) refl e

  pub unrolls : (start : PointState) (n : ℕ) → explore step keeps room (start ∷ []) [] n ≡ Complete left kept → IsUnrolled step start kept n
  unrolls start n e =
      let h = shows n (start ∷ []) [] e in
      record { begins = h.lead.0; goes_on = subst (Each (GoesOn step kept n)) (no_more h.news ∙ h.are) h.go_on }
    where
      no_more : (xs : List PointState) → xs ≡ xs ++ []
      no_more [] = refl
      no_more (x ∷ xs) = ap (λ l. x ∷ l) (no_more xs)
