-- Maps of names: what a change at a name leaves at any name.
use Rattle.std.proofs.Common.{◌≡◌, ℕ, List, length, Some, None, Bool, true, false, cond, refl, sym, ◌∙◌, subst}
use Rattle.std.specs.Prelude.{bytes_eq}
use Rattle.std.specs.BTreeMap.{BTreeMap, UpdatesBy}
use Rattle.std.specs.Cmp.Lexicographic.{slice_cmp, nat_list_cmp_total, nat_list_eq_equiv}
use Rattle.std.specs.Cmp.{IsTotalOrder, then_total, on_total, nat_cmp_total, eq_by_cmp_equiv}
use Rattle.std.specs.Ordering.{nat_cmp, ordering_then, is_eq, eq_by_cmp}
use Rattle.std.specs.Map.{lookup, IsKeyTest, AreApart, KeepsOthers}
use Rattle.std.specs.declared.cmp.Ordering.{Ordering}
use Rattle.std.specs.declared.cmp.Ordering.TheVariants.{Less, Equal, Greater}
use Rattle.std.proofs.lemmas.Map.Text.{is_eq-slice_cmp}
use Rattle.std.proofs.lemmas.Slice.Eq.{bytes_eq-Decides}
use Rattle.link_symbols.specs.internal.Maps.{Key, last_bytes, name_cmp, name_entry, Notes}
use Rattle.link_symbols.proofs.NameLemmas.{note_new}

abbrev key_cmp : ℕ × ℕ × List ℕ → ℕ × ℕ × List ℕ → Ordering
key_cmp x y = ordering_then (ordering_then (nat_cmp x.0 y.0) (nat_cmp x.1 y.1)) (slice_cmp nat_cmp x.2 y.2)

-- the order of the keys
abbrev pub bor_cmp : Key → Key → Ordering
bor_cmp x y = ordering_then (ordering_then (nat_cmp x.0 y.0) (nat_cmp x.1 y.1)) (slice_cmp nat_cmp x.2.now y.2.now)

-- how a length, a number and a name compare to a key
abbrev pub parts_cmp : ℕ → ℕ → List ℕ → Key → Ordering
parts_cmp size last name k = ordering_then (ordering_then (nat_cmp size k.0) (nat_cmp last k.1)) (slice_cmp nat_cmp name k.2.now)

key_total : IsTotalOrder key_cmp
key_total = then_total (then_total (on_total (λ (t : ℕ × ℕ × List ℕ). t.0) nat_cmp_total) (on_total (λ (t : ℕ × ℕ × List ℕ). t.1) nat_cmp_total)) (on_total (λ (t : ℕ × ℕ × List ℕ). t.2) nat_list_cmp_total)

then_eq : (a b : Ordering) → is_eq (ordering_then a b) ≡ true → is_eq b ≡ true
then_eq Less b e = cc
then_eq Equal b e = e
then_eq Greater b e = cc

then_ne : (a b : Ordering) → is_eq b ≡ false → is_eq (ordering_then a b) ≡ false
then_ne Less b e = refl
then_ne Equal b e = e
then_ne Greater b e = refl

apart : (bs cs ks : List ℕ) → bytes_eq bs cs ≡ false → bytes_eq bs ks ≡ true → bytes_eq cs ks ≡ false
apart bs cs ks n y = nat_list_eq_equiv.symm cs ks ∙ (sym (nat_list_eq_equiv.congr bs ks cs y) ∙ n)

-- how the numbers of a name compare to those of a key
abbrev numbers_cmp : List ℕ → Key → Ordering
numbers_cmp name k = ordering_then (nat_cmp (length name) k.0) (nat_cmp (last_bytes name) k.1)

are_apart : (bs cs : List ℕ) → bytes_eq bs cs ≡ false → (k : Key) → is_eq (name_cmp bs k) ≡ true → is_eq (name_cmp cs k) ≡ false
are_apart bs cs n k y =
    let here = then_eq (numbers_cmp bs k) (slice_cmp nat_cmp bs k.2.now) y in
    let other = is_eq-slice_cmp cs k.2.now ∙ apart bs cs k.2.now n (sym (is_eq-slice_cmp bs k.2.now) ∙ here) in
    then_ne (numbers_cmp cs k) (slice_cmp nat_cmp cs k.2.now) other

others : {X : Type 0} (test : Key → Bool) (old new : List (Key × X)) → KeepsOthers (eq_by_cmp bor_cmp) test old new → (other : Key → Bool) → IsKeyTest (eq_by_cmp bor_cmp) other → AreApart test other → lookup other new ≡ lookup other old
unfolding KeepsOthers
others test old new h = h

noted_by : {X : Type 0} (m n : BTreeMap Key X) (bs q : List ℕ) (a : X) (b : Bool) → UpdatesBy bor_cmp (name_cmp bs) m n (Some a) → bytes_eq bs q ≡ b → name_entry n q ≡ cond b (Some a) (name_entry m q)
noted_by m n bs q a true h e = subst (λ (l : List ℕ). name_entry n l ≡ Some a) ((bytes_eq-Decides bs q).0 e) h.1
noted_by m n bs q a false h e =
    others (λ k. is_eq (name_cmp bs k)) m.entries n.entries h.3 (λ k. is_eq (name_cmp q k)) (λ x y. (eq_by_cmp_equiv key_total).congr (length q, last_bytes q, q) (x.0, x.1, x.2.now) (y.0, y.1, y.2.now)) (are_apart bs q e)

-- a name more, that was not there
pub notes : {X : Type 0} (m n : BTreeMap Key X) (last : ℕ) (bs : List ℕ) (a : X) → last ≡ last_bytes bs →
    UpdatesBy bor_cmp (parts_cmp (length bs) last bs) m n (Some a) → name_entry m bs ≡ None → Notes m n bs a
notes m n last bs a e h none = λ q.
    let u : UpdatesBy bor_cmp (name_cmp bs) m n (Some a) = subst (λ (t : ℕ). UpdatesBy bor_cmp (parts_cmp (length bs) t bs) m n (Some a)) e h in
    noted_by m n bs q a (bytes_eq bs q) u refl ∙ note_new (name_entry m) bs q a (bytes_eq bs q) refl none
