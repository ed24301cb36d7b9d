-- Maps whose keys are names: what a change at a name leaves at any name.
use Rattle.std.proofs.Common.{◌≡◌, ℕ, List, Some, Bool, true, false, cond, refl, sym, ◌∙◌, subst}
use Rattle.std.specs.Prelude.{bytes_eq}
use Rattle.std.specs.Borrow.{Bor}
use Rattle.std.specs.BTreeMap.{BTreeMap, UpdatesBy}
use Rattle.std.specs.Cmp.Lexicographic.{slice_cmp, nat_list_cmp_total, nat_list_eq_equiv}
use Rattle.std.specs.Cmp.{eq_by_cmp_equiv}
use Rattle.std.specs.Ordering.{nat_cmp, is_eq, eq_by_cmp}
use Rattle.std.specs.Map.{lookup, IsKeyTest, AreApart, KeepsOthers}
use Rattle.std.specs.declared.cmp.Ordering.{Ordering}
use Rattle.std.proofs.lemmas.Map.Text.{is_eq-slice_cmp}
use Rattle.std.proofs.lemmas.Slice.Eq.{bytes_eq-Decides}
use Rattle.asm_text.specs.internal.Maps.{map_value}

-- the order of the keys
abbrev pub bor_cmp : Bor (List ℕ) → Bor (List ℕ) → Ordering
bor_cmp x y = slice_cmp nat_cmp x.now y.now

apart : (bs cs ks : List ℕ) → bytes_eq bs cs ≡ false → bytes_eq bs ks ≡ true → bytes_eq cs ks ≡ false
apart bs cs ks n y = nat_list_eq_equiv.symm cs ks ∙ (sym (nat_list_eq_equiv.congr bs ks cs y) ∙ n)

are_apart : (bs cs : List ℕ) → bytes_eq bs cs ≡ false → (k : Bor (List ℕ)) → is_eq (slice_cmp nat_cmp bs k.now) ≡ true → is_eq (slice_cmp nat_cmp cs k.now) ≡ false
are_apart bs cs n k y = is_eq-slice_cmp cs k.now ∙ apart bs cs k.now n (sym (is_eq-slice_cmp bs k.now) ∙ y)

others : {X : Type 0} (test : Bor (List ℕ) → Bool) (old new : List (Bor (List ℕ) × X)) → KeepsOthers (eq_by_cmp bor_cmp) test old new → (other : Bor (List ℕ) → Bool) → IsKeyTest (eq_by_cmp bor_cmp) other → AreApart test other → lookup other new ≡ lookup other old
unfolding KeepsOthers
others test old new h = h

noted_by : (m n : BTreeMap (Bor (List ℕ)) ℕ) (bs q : List ℕ) (a : ℕ) (b : Bool) → UpdatesBy bor_cmp (λ k. slice_cmp nat_cmp bs k.now) m n (Some a) → bytes_eq bs q ≡ b → map_value n q ≡ cond b (Some a) (map_value m q)
noted_by m n bs q a true h e = subst (λ (l : List ℕ). map_value n l ≡ Some a) ((bytes_eq-Decides bs q).0 e) h.1
noted_by m n bs q a false h e =
    others (λ k. is_eq (slice_cmp nat_cmp bs k.now)) m.entries n.entries h.3 (λ k. is_eq (slice_cmp nat_cmp q k.now)) (λ x y. (eq_by_cmp_equiv nat_list_cmp_total).congr q x.now y.now) (are_apart bs q e)

-- what the map has after a change at a name
pub entry_more : (m n : BTreeMap (Bor (List ℕ)) ℕ) (bs q : List ℕ) (a : ℕ) → UpdatesBy bor_cmp (λ k. slice_cmp nat_cmp bs k.now) m n (Some a) → map_value n q ≡ cond (bytes_eq bs q) (Some a) (map_value m q)
entry_more m n bs q a h = noted_by m n bs q a (bytes_eq bs q) h refl
