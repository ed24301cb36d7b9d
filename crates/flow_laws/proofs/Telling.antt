-- Cores that are alike but for the answers, and data that agree on the public words.
use Rattle.std.proofs.Common.{◌≡◌, ◌≢◌, ◌⊎◌, inl, inr, ℕ, zero, suc, ◌+◌, ◌<◌, ◌≤◌, List, [], ◌∷◌, length, map, set, refl, sym, ap, ◌∙◌, arith, Bool, true, false, cond, ◌==◌, ◌||◌, length-set, get_or-set_other}
use Rattle.std.proofs.lemmas.Bool.{cases_lt, eqb-true}
use Rattle.std.proofs.lemmas.Bool.Decides.{nat_tests}
use Rattle.std.proofs.lemmas.Grind.{same_number_lists}
use Rattle.sm_words.specs.Words.{reg, nth}
use Rattle.mod_layout.specs.declared.Section.{Section}
use Rattle.mod_layout.specs.declared.Module.{Module}
use Rattle.cpu_step.specs.Lone.{blank}
use Rattle.flow_rule.specs.declared.Val.{Val}
use Rattle.flow_rule.specs.declared.Val.TheVariants.{Known, Away, Public, Secret}
use Rattle.flow_rule.specs.Values.{blurred, is_secret, set_each, seen, val}
use Rattle.flow_rule.specs.declared.Reason.TheVariants.{SecretAtExit, DataAtExit}
use Rattle.flow_rule.specs.Does.{word_no}
use Rattle.flow_rule.specs.Violations.{violation, violation_if, exit_violations, word_violations}
use Rattle.flow_laws.specs.Laws.{AgreeOn}
use Rattle.flow_rule.proofs.Meaning.{Agrees, same, set_holds}
use Rattle.flow_rule.proofs.Cores.{AgreeCore, seen_agrees}
use Rattle.flow_rule.proofs.Plans.{none_left, none_right, none_if}
use Rattle.flow_laws.proofs.Words.{word, AgreeData}

-- whether a number is on a list
abbrev pub on_list : List ℕ → ℕ → Bool
on_list [] k = false
on_list (r ∷ rs) k = (k == r) || on_list rs k

reg_blank : (rs c : List ℕ) (k : ℕ) → reg (blank rs c) k ≡ cond (on_list rs k) 0 (reg c k)
reg_blank [] c k = refl
reg_blank (r ∷ rs) c k = by (k == r) refl (reg_blank rs c k)
  where
    by : (b : Bool) → (k == r) ≡ b → reg (blank rs c) k ≡ cond (on_list rs k) 0 (reg c k) → reg (set (blank rs c) r 0) k ≡ cond (b || on_list rs k) 0 (reg c k)
    by true e h = set_holds (λ y. y ≡ 0) (blank rs c) 0 r k 0 refl (λ same. refl) (λ ne. absurd (ne (eqb-true k r e)))
    by false e h = let ne : k ≢ r = grind (arith, nat_tests) in get_or-set_other (blank rs c) r k 0 0 ne ∙ h

long_blank : (rs c : List ℕ) → length (blank rs c) ≡ length c
long_blank [] c = refl
long_blank (r ∷ rs) c = length-set (blank rs c) r 0 ∙ long_blank rs c

-- two cores that are equal but for these registers
pub blanked : (rs ca cb : List ℕ) → length ca ≡ 16 → length cb ≡ 16 → ((k : ℕ) → k < 16 → on_list rs k ≡ false → reg ca k ≡ reg cb k) → blank rs ca ≡ blank rs cb
blanked rs ca cb la lb h =
    let long = long_blank rs ca ∙ la in
    same_number_lists (blank rs ca) (blank rs cb) (long ∙ sym (long_blank rs cb ∙ lb)) (λ k lt. by k (on_list rs k) refl (h k (omega (arith, long, lt))))
  where
    is : (c : List ℕ) (k : ℕ) (b : Bool) → on_list rs k ≡ b → reg (blank rs c) k ≡ cond b 0 (reg c k)
    is c k b e = reg_blank rs c k ∙ ap (λ b. cond b 0 (reg c k)) e

    by : (k : ℕ) (b : Bool) → on_list rs k ≡ b → (on_list rs k ≡ false → reg ca k ≡ reg cb k) → reg (blank rs ca) k ≡ reg (blank rs cb) k
    by k true e h = is ca k true e ∙ sym (is cb k true e)
    by k false e h = is ca k false e ∙ h e ∙ sym (is cb k false e)

-- a register that is no answer is looked at
val_bare : (rs : List ℕ) (v : List Val) (k : ℕ) → on_list rs k ≡ false → val (set_each rs Public v) k ≡ val v k
val_bare [] v k e = refl
val_bare (r ∷ rs) v k e = by (k == r) refl e (val_bare rs (set v r Public) k)
  where
    by : (b : Bool) → (k == r) ≡ b → (b || on_list rs k) ≡ false → (on_list rs k ≡ false → val (set_each rs Public (set v r Public)) k ≡ val (set v r Public) k) → val (set_each rs Public (set v r Public)) k ≡ val v k
    by true f e go = absurd cc
    by false f e go = let ne : k ≢ r = grind (arith, nat_tests) in go e ∙ get_or-set_other v r k Public Secret ne

no_secret : (k n pc : ℕ) (v : List Val) → exit_violations k n pc v ≡ [] → (i : ℕ) → n ≤ i → i < n + k → is_secret (val v i) ≡ false
no_secret zero n pc v e i low high = absurd (omega arith)
no_secret (suc k) n pc v e i low high = by (is_secret (val v n)) refl e (cases_lt n i) (λ e lt. no_secret k (n + 1) pc v e i (omega arith) (omega arith))
  where
    by : (c : Bool) → is_secret (val v n) ≡ c → cond c (violation pc SecretAtExit n) (exit_violations k (n + 1) pc v) ≡ [] → (n < i) ⊎ (i ≤ n) →
        (exit_violations k (n + 1) pc v ≡ [] → n < i → is_secret (val v i) ≡ false) → is_secret (val v i) ≡ false
    by true f e h go = absurd cc
    by false f e (inl lt) go = go e lt
    by false f e (inr ge) go = let g : i ≡ n = omega arith in ap (λ x. is_secret (val v x)) g ∙ f

seen_so : (v : List Val) (k : ℕ) → is_secret (val v k) ≡ false → is_secret (seen v k) ≡ false
seen_so v k e = by (k == 2) refl
  where
    flags : (u : Val) → is_secret u ≡ false → is_secret (blurred (u ∷ [])) ≡ false
    flags Secret e = absurd cc
    flags (Known f) e = refl
    flags Away e = refl
    flags Public e = refl

    by : (c : Bool) → (k == 2) ≡ c → is_secret (cond c (blurred (val v 2 ∷ [])) (val v k)) ≡ false
    by true f = let i : k ≡ 2 = grind (arith, nat_tests) in flags (val v 2) (ap (λ n. is_secret (val v n)) (sym i) ∙ e)
    by false f = e

-- a register that is no answer is equal where a call ends
pub same_reg : (s : Section) (answers : List ℕ) (pc : ℕ) (v : List Val) (ca cb : List ℕ) → AgreeCore s v ca cb → exit_violations 16 0 pc (set_each answers Public v) ≡ [] → (k : ℕ) → k < 16 → on_list answers k ≡ false → reg ca k ≡ reg cb k
same_reg s answers pc v ca cb h e k lt off =
    same s (seen v k) (reg ca k) (reg cb k) (seen_agrees s v ca cb k h) (seen_so v k (ap is_secret (sym (val_bare answers v k off)) ∙ no_secret 16 0 pc (set_each answers Public v) e k (omega arith) (omega arith)))

pub same_but : (s : Section) (answers : List ℕ) (pc : ℕ) (v : List Val) (ca cb : List ℕ) → AgreeCore s v ca cb → exit_violations 16 0 pc (set_each answers Public v) ≡ [] → blank answers ca ≡ blank answers cb
same_but s answers pc v ca cb h e = blanked answers ca cb h.long_a h.long_b (λ k lt off. same_reg s answers pc v ca cb h e k lt off)

-- ---- the public words
pub agrees_on : (m : Module) (addrs : List ℕ) (pc : ℕ) (words : List Val) (da db : List ℕ) → AgreeData m words da db → word_violations m pc words addrs ≡ [] → AgreeOn m addrs da db
agrees_on m [] pc words da db h e i d lt = absurd (omega arith)
agrees_on m (a ∷ addrs) pc words da db h e zero d lt =
    let here = violation_if (is_secret (nth (word_no m a) words Secret)) pc DataAtExit a in
    same m.text (nth (word_no m a) words Secret) (word da (word_no m a)) (word db (word_no m a)) (h.at (word_no m a))
    (none_if (is_secret (nth (word_no m a) words Secret)) pc DataAtExit a (none_left here (word_violations m pc words addrs) e))
agrees_on m (a ∷ addrs) pc words da db h e (suc i) d lt =
    let here = violation_if (is_secret (nth (word_no m a) words Secret)) pc DataAtExit a in
    agrees_on m addrs pc words da db h (none_right here (word_violations m pc words addrs) e) i d (omega arith)

pub opened_at : (m : Module) (addrs : List ℕ) (v : List Val) (da db : List ℕ) → AgreeOn m addrs da db → ((i : ℕ) → Agrees m.text (nth i v Secret) (word da i) (word db i)) →
    (i : ℕ) → Agrees m.text (nth i (set_each (map (word_no m) addrs) Public v) Secret) (word da i) (word db i)
opened_at m [] v da db agree h = h
opened_at m (a ∷ addrs) v da db agree h =
    let here : word da (word_no m a) ≡ word db (word_no m a) = agree zero a (omega arith) in
    opened_at m addrs (set v (word_no m a) Public) da db (λ i d lt. agree (suc i) d (omega arith))
    (λ i. set_holds (λ u. Agrees m.text u (word da i) (word db i)) v Secret (word_no m a) i Public tt (λ f. ap (word da) f ∙ here ∙ ap (word db) (sym f)) (λ ne. h i))
