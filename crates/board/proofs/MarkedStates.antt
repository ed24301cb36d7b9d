-- The states of the marks of a board.
use Rattle.std.proofs.Common.{◌≡◌, ℕ, zero, suc, ◌+◌, ◌<◌, List, [], ◌∷◌, ◌++◌, length, take, get_or, refl, sym, ap, subst, arith}
use Rattle.std.specs.List.{All, AllPairs}
use Rattle.std.proofs.lemmas.List.{get_or-take, length-take-le}
use Rattle.std.proofs.lemmas.List.Elements.{All-from_get_or, All-more, All-push, All-weaker}
use Rattle.std.proofs.lemmas.List.Quantifiers.{all_pairs_push}
use Rattle.written_machine.specs.Cycle.{after_cycles}
use Rattle.written_machine.specs.State.{State}
use Rattle.board.specs.declared.moment.Moment.{Moment}
use Rattle.board.specs.internal.Sound.{Chained, LeadsTo}
use Rattle.board.specs.internal.Standing.{Fixed, moment_state, states_at}
use Rattle.board.proofs.Leading.{leads_self, leads_on}

pub states_length : (f : Fixed) (ts : List Moment) (bs : List (List ℕ)) → length ts ≡ length bs → length (states_at f ts bs) ≡ length ts
states_length f [] bs e = refl
states_length f (t ∷ ts) [] e = absurd (omega (arith, e))
states_length f (t ∷ ts) (b ∷ bs) e = let s = states_length f ts bs (omega (arith, e)) in omega (arith, s)

pub states_get : (f : Fixed) (ts : List Moment) (bs : List (List ℕ)) (i : ℕ) (d : State) (t : Moment) → length ts ≡ length bs → i < length ts →
    get_or (states_at f ts bs) i d ≡ moment_state f (get_or ts i t) (get_or bs i [])
states_get f [] bs i d x e h = absurd (omega (arith, h))
states_get f (t ∷ ts) [] i d x e h = absurd (omega (arith, e))
states_get f (t ∷ ts) (b ∷ bs) zero d x e h = refl
states_get f (t ∷ ts) (b ∷ bs) (suc i) d x e h = states_get f ts bs i d x (omega (arith, e)) (omega (arith, h))

pub states_more : (f : Fixed) (ts : List Moment) (bs : List (List ℕ)) (t : Moment) (b : List ℕ) → length ts ≡ length bs →
    states_at f (ts ++ t ∷ []) (bs ++ b ∷ []) ≡ states_at f ts bs ++ moment_state f t b ∷ []
states_more f [] [] t b e = refl
states_more f [] (c ∷ bs) t b e = absurd (omega (arith, e))
states_more f (u ∷ ts) [] t b e = absurd (omega (arith, e))
states_more f (u ∷ ts) (c ∷ bs) t b e = ap (λ (l : List State). moment_state f u c ∷ l) (states_more f ts bs t b (omega (arith, e)))

pub states_take : (f : Fixed) (n : ℕ) (ts : List Moment) (bs : List (List ℕ)) → states_at f (take n ts) (take n bs) ≡ take n (states_at f ts bs)
states_take f (suc n) (t ∷ ts) (b ∷ bs) = ap (λ (l : List State). moment_state f t b ∷ l) (states_take f n ts bs)
states_take f _ _ _ = refl

-- ---- the marks lead to one another

-- after some
pub chained_on : (n : ℕ) (ms : List State) (s : State) → Chained ms s → Chained ms (after_cycles s n)
chained_on n ms s c = record { between = c.between; onward = λ i d within. leads_on n (get_or ms i d) s (c.onward i d within) }

-- with the present state as one more mark
pub chained_more : (ms : List State) (s : State) → Chained ms s → Chained (ms ++ s ∷ []) s
chained_more ms s c = record { between = all_pairs_push LeadsTo ms s c.between c.onward; onward = All-push (λ m. LeadsTo m s) ms s c.onward (leads_self s) }

-- some cycles after mark k, with the marks up to it alone
pub chained_cut : (n k : ℕ) (ms : List State) (s d : State) → Chained ms s → k < length ms → Chained (take (k + 1) ms) (after_cycles (get_or ms k d) n)
chained_cut n k ms s d c live = record { between = between; onward = onward }
  where
    same : (i : ℕ) (e : State) → i < k + 1 → get_or (take (k + 1) ms) i e ≡ get_or ms i e
    same i e h = get_or-take (k + 1) ms i e h

    between : AllPairs LeadsTo (take (k + 1) ms)
    between i j e before h =
        let size = length-take-le (k + 1) ms (omega (arith, live)) in
        let within : j < k + 1 = omega (arith, h, size) in
        subst (LeadsTo (get_or (take (k + 1) ms) i e)) (sym (same j e within)) (subst (λ x. LeadsTo x (get_or ms j e)) (sym (same i e (omega (arith, before, within)))) (c.between i j e before (omega (arith, within, live))))

    leads : All (λ m. LeadsTo m (get_or ms k d)) (take k ms)
    leads = All-from_get_or (λ m. LeadsTo m (get_or ms k d)) (take k ms) d
        (λ i h. let size = length-take-le k ms (omega (arith, live)) in
        let before : i < k = omega (arith, h, size) in
        subst (λ m. LeadsTo m (get_or ms k d)) (sym (get_or-take k ms i d before)) (c.between i k d before live))

    onward : All (λ m. LeadsTo m (after_cycles (get_or ms k d) n)) (take (k + 1) ms)
    onward = All-weaker (λ m. LeadsTo m (get_or ms k d)) (λ m. LeadsTo m (after_cycles (get_or ms k d) n)) (λ m. leads_on n m (get_or ms k d)) (take (k + 1) ms)
        (All-more (λ m. LeadsTo m (get_or ms k d)) ms k d live leads (leads_self (get_or ms k d)))
