-- An iteration needs only the steps of the program points whose state changed in the iteration before.
use Rattle.std.proofs.Common.{◌≡◌, ◌⊎◌, inl, inr, ℕ, suc, ◌<◌, List, [], ◌∷◌, ◌++◌, length, refl, sym, ap, ◌∙◌, subst, Bool, true, false, cond, nat_eq, ◌==◌, ◌&&◌}
use Rattle.std.specs.Cmp.Lexicographic.{pointwise}
use Rattle.std.proofs.lemmas.Bool.{both_ways, eq-eqb}
use Rattle.flow_rule.specs.declared.Val.{Val}
use Rattle.flow_rule.specs.declared.Val.TheVariants.{Known, Away, Public, Secret}
use Rattle.flow_rule.specs.declared.AbstractState.{AbstractState}
use Rattle.flow_rule.specs.Values.{join, join_each}
use Rattle.flow_rule.specs.Absorbs.{Absorbs}
use Rattle.flow_rule.specs.Iterations.{ProgramPoint, PointState, FlowStep, same_point, join_states, join_in, join_all, given_by, given_points, iteration, iterations, IsLabelling}
use Rattle.flow_check.specs.declared.labelling.Node.{Node}
use Rattle.flow_check.specs.internal.Points.{point_at, points_of}
use Rattle.flow_check.proofs.Joins.{join_own}
use Rattle.flow_check.specs.internal.Labellings.{joined_point, changed_points, Subsumed, AllSubsumed, Clean, KeptPoints, Reached}

-- ---- joins subsume
join_twice : (v w : Val) → join (join v w) w ≡ join v w
join_twice (Known a) (Known b) = by (a == b) refl
  where
    by : (c : Bool) → (a == b) ≡ c → join (cond c (Known a) Public) (Known b) ≡ cond c (Known a) Public
    by true e = ap (λ c. cond c (Known a) Public) e
    by false e = refl
join_twice Away Away = refl
join_twice Public Secret = refl
join_twice _ _ = refl

-- what is subsumed stays so when the state rises
join_stays : (v w u : Val) → join v w ≡ v → join (join v u) w ≡ join v u
join_stays Secret w u e = refl
join_stays v Secret u e = by v e
  where
    by : (v : Val) → join v Secret ≡ v → join (join v u) Secret ≡ join v u
    by (Known a) e = absurd cc
    by Away e = absurd cc
    by Public e = absurd cc
    by Secret e = refl
join_stays (Known a) (Known b) (Known c) e = by (a == b) (a == c) refl refl e
  where
    by : (p q : Bool) → (a == b) ≡ p → (a == c) ≡ q → cond p (Known a) Public ≡ Known a → join (cond q (Known a) Public) (Known b) ≡ cond q (Known a) Public
    by true true f g e = ap (λ p. cond p (Known a) Public) f
    by true false f g e = refl
    by false q f g e = absurd cc
join_stays (Known a) Away u e = absurd cc
join_stays (Known a) Public u e = absurd cc
join_stays Away (Known b) u e = absurd cc
join_stays Away Public u e = absurd cc
join_stays _ _ (Known c) e = refl
join_stays _ _ _ e = refl

each_twice : (vs ws : List Val) → join_each (join_each vs ws) ws ≡ join_each vs ws
each_twice (v ∷ vs) (w ∷ ws) = ap (λ i. i ∷ join_each (join_each vs ws) ws) (join_twice v w) ∙ ap (λ i. join v w ∷ i) (each_twice vs ws)
each_twice _ _ = refl

each_stays : (vs ws us : List Val) → join_each vs ws ≡ vs → join_each (join_each vs us) ws ≡ join_each vs us
each_stays (v ∷ vs) [] us e = absurd cc
each_stays (v ∷ vs) (w ∷ ws) (u ∷ us) e =
    let p : join v w ≡ v = cc in
    let q : join_each vs ws ≡ vs = cc in
    ap (λ i. i ∷ join_each (join_each vs us) ws) (join_stays v w u p) ∙ ap (λ i. join v u ∷ i) (each_stays vs ws us q)
each_stays _ _ _ e = refl

-- ---- what is joined to itself
each_self : (vs : List Val) → join_each vs vs ≡ vs
each_self [] = refl
each_self (v ∷ vs) = ap (λ i. i ∷ join_each vs vs) (join_own v) ∙ ap (λ i. v ∷ i) (each_self vs)

pub absorbs_own : (l : AbstractState) → Absorbs l l
absorbs_own l = record { core = each_self l.core; words = each_self l.words }

same_lists : (xs : List ℕ) → pointwise nat_eq xs xs ≡ true
same_lists [] = refl
same_lists (x ∷ xs) = ap (λ b. b && pointwise nat_eq xs xs) (eq-eqb x x refl) ∙ same_lists xs

pub point_self : (p : ProgramPoint) → same_point p p ≡ true
point_self p = ap (λ b. b && pointwise nat_eq p.call_string p.call_string) (eq-eqb p.addr p.addr refl) ∙ same_lists p.call_string

-- ---- states and lists of points
absorbs_joined : (a l : AbstractState) → Absorbs (join_states a l) l
absorbs_joined a l = record { core = each_twice a.core l.core; words = each_twice a.words l.words }

absorbs_more : (a b l : AbstractState) → Absorbs a b → Absorbs (join_states a l) b
absorbs_more a b l h = record { core = each_stays a.core b.core l.core h.core; words = each_stays a.words b.words l.words h.words }

-- joining what is absorbed changes nothing
joins_same : (x y : PointState) → Absorbs y.state x.state → joined_point y x.state ≡ y
joins_same x y h = ap (λ c. record y { state = record { core = c; words = join_each y.state.words x.state.words } }) h.core ∙ ap (λ w. record y { state = record y.state { words = w } }) h.words

subsumed_by : (x y : PointState) (ys : List PointState) (c : Bool) → same_point y.point x.point ≡ c → cond {A = Type 0} c (Absorbs y.state x.state) (Subsumed x ys) → Subsumed x (y ∷ ys)
subsumed_by x y ys c e = subst (λ c. cond {A = Type 0} c (Absorbs y.state x.state) (Subsumed x ys)) (sym e)

subsumed_same : (x : PointState) (ys : List PointState) → Subsumed x ys → join_in x ys ≡ ys
subsumed_same x [] h = absurd h
subsumed_same x (y ∷ ys) h = by (same_point y.point x.point) h (subsumed_same x ys)
  where
    by : (c : Bool) → cond {A = Type 0} c (Absorbs y.state x.state) (Subsumed x ys) → (Subsumed x ys → join_in x ys ≡ ys) → cond c (joined_point y x.state ∷ ys) (y ∷ join_in x ys) ≡ y ∷ ys
    by true h go = ap (λ z. z ∷ ys) (joins_same x y h)
    by false h go = ap (λ i. y ∷ i) (go h)

in_subsumes : (x : PointState) (ys : List PointState) → Subsumed x (join_in x ys)
in_subsumes x [] = subsumed_by x x [] true (point_self x.point) (absorbs_own x.state)
in_subsumes x (y ∷ ys) = by (same_point y.point x.point) refl (in_subsumes x ys)
  where
    by : (c : Bool) → same_point y.point x.point ≡ c → Subsumed x (join_in x ys) → Subsumed x (cond c (joined_point y x.state ∷ ys) (y ∷ join_in x ys))
    by true e go = subsumed_by x (joined_point y x.state) ys true e (absorbs_joined y.state x.state)
    by false e go = subsumed_by x y (join_in x ys) false e go

stays_subsumed : (x z : PointState) (ys : List PointState) → Subsumed x ys → Subsumed x (join_in z ys)
stays_subsumed x z [] h = absurd h
stays_subsumed x z (y ∷ ys) h = by (same_point y.point z.point) (same_point y.point x.point) refl h (stays_subsumed x z ys)
  where
    by : (c d : Bool) → same_point y.point x.point ≡ d → cond {A = Type 0} d (Absorbs y.state x.state) (Subsumed x ys) → (Subsumed x ys → Subsumed x (join_in z ys)) →
        Subsumed x (cond c (joined_point y z.state ∷ ys) (y ∷ join_in z ys))
    by true true e h go = subsumed_by x (joined_point y z.state) ys true e (absorbs_more y.state x.state z.state h)
    by true false e h go = subsumed_by x (joined_point y z.state) ys false e h
    by false true e h go = subsumed_by x y (join_in z ys) true e h
    by false false e h go = subsumed_by x y (join_in z ys) false e (go h)

stay_all : (xs : List PointState) (z : PointState) (ys : List PointState) → AllSubsumed xs ys → AllSubsumed xs (join_in z ys)
stay_all [] z ys h = tt
stay_all (x ∷ xs) z ys h = (stays_subsumed x z ys h.0, stay_all xs z ys h.1)

stay_more : (xs zs ys : List PointState) → AllSubsumed xs ys → AllSubsumed xs (join_all zs ys)
stay_more xs [] ys h = h
stay_more xs (z ∷ zs) ys h = stay_more xs zs (join_in z ys) (stay_all xs z ys h)

subsumed_all : (xs ys : List PointState) → AllSubsumed xs ys → join_all xs ys ≡ ys
subsumed_all [] ys h = refl
subsumed_all (x ∷ xs) ys h = ap (λ i. join_all xs i) (subsumed_same x ys h.0) ∙ subsumed_all xs ys h.1

pub join_append : (xs zs ys : List PointState) → join_all (xs ++ zs) ys ≡ join_all zs (join_all xs ys)
join_append [] zs ys = refl
join_append (x ∷ xs) zs ys = join_append xs zs (join_in x ys)

-- ---- the same of those that changed
clean_stays : (step : PointState → FlowStep) (ns : List Node) (zs ys : List PointState) → Clean step ns ys → Clean step ns (join_all zs ys)
clean_stays step [] zs ys h = tt
clean_stays step (n ∷ ns) zs ys h = ((λ e. stay_more (given_by (step (point_at n.point))) zs ys (h.0 e)), clean_stays step ns zs ys h.1)

-- an iteration needs those alone
flagged_iteration : (step : PointState → FlowStep) (ns : List Node) (ys : List PointState) → Clean step ns ys → join_all (given_points step (points_of ns)) ys ≡ join_all (given_points step (changed_points ns)) ys
flagged_iteration step [] ys h = refl
flagged_iteration step (n ∷ ns) ys h = join_append gs (given_points step (points_of ns)) ys ∙ by n.changed refl (flagged_iteration step ns)
  where
    gs : List PointState
    gs = given_by (step (point_at n.point))

    by : (c : Bool) → n.changed ≡ c → ((ys : List PointState) → Clean step ns ys → join_all (given_points step (points_of ns)) ys ≡ join_all (given_points step (changed_points ns)) ys) →
        join_all (given_points step (points_of ns)) (join_all gs ys) ≡ join_all (given_points step (cond c (point_at n.point ∷ changed_points ns) (changed_points ns))) ys
    by true e go = go (join_all gs ys) (clean_stays step ns gs ys h.1) ∙ sym (join_append gs (given_points step (changed_points ns)) ys)
    by false e go = ap (λ i. join_all (given_points step (points_of ns)) i) (subsumed_all gs ys (h.0 e)) ∙ go ys h.1

joined_subsumes : (xs ys : List PointState) → AllSubsumed xs (join_all xs ys)
joined_subsumes [] ys = tt
joined_subsumes (x ∷ xs) ys =
    (one xs (join_in x ys) (in_subsumes x ys), joined_subsumes xs (join_in x ys))
  where
    one : (zs ys : List PointState) → Subsumed x ys → Subsumed x (join_all zs ys)
    one zs ys h = let k : AllSubsumed (x ∷ []) (join_all zs ys) = stay_more (x ∷ []) zs ys (h, tt) in k.0

abbrev pub IsOne : PointState → List PointState → Type 0
IsOne x [] = ⊥
IsOne x (y ∷ ys) = (y ≡ x) ⊎ IsOne x ys

-- what a stepped program point gave is subsumed after the iteration
pub stepped_subsumed : (step : PointState → FlowStep) (front ys : List PointState) (x : PointState) → IsOne x front → AllSubsumed (given_by (step x)) (join_all (given_points step front) ys)
stepped_subsumed step [] ys x h = absurd h
stepped_subsumed step (y ∷ front) ys x (inl e) =
    subst (λ z. AllSubsumed (given_by (step x)) z) (sym (join_append (given_by (step y)) (given_points step front) ys))
    (stay_more (given_by (step x)) (given_points step front) (join_all (given_by (step y)) ys)
    (subst (λ z. AllSubsumed (given_by (step z)) (join_all (given_by (step y)) ys)) e (joined_subsumes (given_by (step y)) ys)))
stepped_subsumed step (y ∷ front) ys x (inr h) =
    subst (λ z. AllSubsumed (given_by (step x)) z) (sym (join_append (given_by (step y)) (given_points step front) ys)) (stepped_subsumed step front (join_all (given_by (step y)) ys) x h)

-- ---- an iteration
clean_go : (step : PointState → FlowStep) (front start : List PointState) (ns ms : List Node) → Clean step ns start → KeptPoints (points_of ns) ms → ((z : PointState) → IsOne z (changed_points ns) → IsOne z front) →
    Clean step ms (join_all (given_points step front) start)
clean_go step front start [] [] c k h = tt
clean_go step front start (n ∷ ns) [] c k h = absurd k
clean_go step front start [] (m ∷ ms) c k h = ((λ e. absurd (both_ways m.changed e k.0)), clean_go step front start [] ms tt k.1 (λ z i. absurd i))
clean_go step front start (n ∷ ns) (m ∷ ms) c k h = by n.changed refl h (clean_go step front start ns ms c.1 k.2)
  where
    x : PointState
    x = point_at n.point

    one : AllSubsumed (given_by (step x)) (join_all (given_points step front) start) → m.changed ≡ false → AllSubsumed (given_by (step (point_at m.point))) (join_all (given_points step front) start)
    one a e = subst (λ z. AllSubsumed (given_by (step z)) (join_all (given_points step front) start)) (sym (k.0 e)) a

    by : (b : Bool) → n.changed ≡ b → ((z : PointState) → IsOne z (cond b (x ∷ changed_points ns) (changed_points ns)) → IsOne z front) →
        (((z : PointState) → IsOne z (changed_points ns) → IsOne z front) → Clean step ms (join_all (given_points step front) start)) → Clean step (m ∷ ms) (join_all (given_points step front) start)
    by true e h go = (one (stepped_subsumed step front start x (h x (inl refl))), go (λ z i. h z (inr i)))
    by false e h go = (one (stay_more (given_by (step x)) (given_points step front) start (c.0 e)), go h)

module _ (step : PointState → FlowStep) (start : PointState) (ns cs : List Node) (front : List PointState) (r : Reached step start ns) (f : front ≡ changed_points ns) (same : points_of cs ≡ points_of ns)
  where
    -- what those that changed give makes the next iteration
    to_iteration : join_all (given_points step front) (points_of cs) ≡ iteration step (points_of ns)
    to_iteration = ap (λ p. join_all (given_points step front) p) same ∙ ap (λ g. join_all (given_points step g) (points_of ns)) f ∙ sym (flagged_iteration step ns (points_of ns) r.clean)

    -- one iteration more
    pub reached_more : (ms : List Node) → points_of ms ≡ join_all (given_points step front) (points_of cs) → KeptPoints (points_of cs) ms → Reached step start ms
    reached_more ms e k = record {
      turns = suc r.turns;
      is = e ∙ to_iteration ∙ ap (iteration step) r.is;
      clean = subst (λ z. Clean step ms z) (sym (e ∙ ap (λ p. join_all (given_points step front) p) same ∙ ap (λ g. join_all (given_points step g) (points_of ns)) f))
          (clean_go step (changed_points ns) (points_of ns) ns ms r.clean (subst (λ p. KeptPoints p ms) same k) (λ z i. i));
    }

    -- where nothing changed it rests
    pub reached_rests : front ≡ [] → IsLabelling step start (points_of cs)
    reached_rests none = subst (IsLabelling step start) (sym same) record {
      iterations_to = r.turns;
      is = sym r.is;
      stays = sym to_iteration ∙ ap (λ g. join_all (given_points step g) (points_of cs)) none ∙ same;
    }

    -- where there are too many
    pub reached_many : 16384 < length (join_all (given_points step front) (points_of cs)) → (n : ℕ) × (16384 < length (iterations step start n))
    reached_many many = (suc r.turns, subst (λ l. 16384 < length l) (to_iteration ∙ ap (iteration step) r.is) many)
