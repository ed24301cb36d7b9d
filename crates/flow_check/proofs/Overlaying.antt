-- What was clobbered of a blank state, laid over another state's values, is these values clobbered.
use Rattle.std.proofs.Common.{◌≡◌, ℕ, zero, suc, List, [], ◌∷◌, length, set, refl, ap, ◌∙◌, arith, Bool, true, false, cond, ◌==◌}
use Rattle.std.specs.Prelude.{replicate}
use Rattle.flow_rule.specs.declared.AbstractState.{AbstractState}
use Rattle.flow_rule.specs.declared.Val.{Val}
use Rattle.flow_rule.specs.declared.Val.TheVariants.{Known, Public, Secret}
use Rattle.flow_rule.specs.Values.{set_each, kept_val, put_val}
use Rattle.flow_rule.specs.Arms.{Walk, Meets, Stops, clobbered_core, clobbered_by}
use Rattle.flow_check.specs.internal.Summaries.{blank_state, laid, overlay}

over_set : (b c : List Val) (n : ℕ) (v : Val) → ((x : Val) → laid v x ≡ v) →
    overlay (set b n v) c ≡ set (overlay b c) n v
over_set [] c n v h = refl
over_set (x ∷ b) [] zero v h = refl
over_set (x ∷ b) [] (suc n) v h = refl
over_set (x ∷ b) (y ∷ c) zero v h = ap (λ i. i ∷ overlay b c) (h y)
over_set (x ∷ b) (y ∷ c) (suc n) v h = ap (λ i. laid x y ∷ i) (over_set b c n v h)

-- what a register keeps of a Secret is not Public
never_public : (n : ℕ) (x : Val) → laid (kept_val n Secret) x ≡ kept_val n Secret
never_public n x = by (n == 2) (n == 3)
  where
    by : (c d : Bool) → laid (cond c Secret (cond d (Known 0) Secret)) x ≡ cond c Secret (cond d (Known 0) Secret)
    by true d = refl
    by false true = refl
    by false false = refl

over_core : (ns : List ℕ) (b c : List Val) → overlay (clobbered_core ns b) c ≡ clobbered_core ns (overlay b c)
over_core [] b c = refl
over_core (n ∷ ns) b c = over_core ns (put_val b n Secret) c
    ∙ ap (clobbered_core ns) (over_set b c n (kept_val n Secret) (never_public n))

over_words : (ns : List ℕ) (b c : List Val) → overlay (set_each ns Secret b) c ≡ set_each ns Secret (overlay b c)
over_words [] b c = refl
over_words (n ∷ ns) b c = over_words ns (set b n Secret) c ∙ ap (set_each ns Secret) (over_set b c n Secret (λ x. refl))

over_public : (n : ℕ) (c : List Val) → length c ≡ n → overlay (replicate n Public) c ≡ c
over_public zero [] e = refl
over_public zero (x ∷ c) e = absurd (omega arith)
over_public (suc n) [] e = absurd (omega arith)
over_public (suc n) (x ∷ c) e = ap (λ i. x ∷ i) (over_public n c (omega arith))

-- a state over another
abbrev pub over : AbstractState → AbstractState → AbstractState
over b l = record { core = overlay b.core l.core; words = overlay b.words l.words }

over_blank : (l : AbstractState) → length l.core ≡ 16 → length l.words ≡ 256 → over blank_state l ≡ l
over_blank l core words =
    ap (λ v. record { core = v; words = overlay blank_state.words l.words }) (over_public 16 l.core core)
    ∙ ap (λ v. record l { words = v }) (over_public 256 l.words words)

over_clobbered : (w : Walk) (b l : AbstractState) → over (clobbered_by w b) l ≡ clobbered_by w (over b l)
over_clobbered (Meets cycles regs words) b l =
    let ws = overlay (set_each words Secret b.words) l.words in
    ap (λ v. record { core = v; words = ws }) (over_core regs b.core l.core)
    ∙ ap (λ v. record { core = clobbered_core regs (overlay b.core l.core); words = v })
    (over_words words b.words l.words)
over_clobbered (Stops addr) b l = refl

pub over_both : (w0 w1 : Walk) (l : AbstractState) → length l.core ≡ 16 → length l.words ≡ 256 →
    over (clobbered_by w1 (clobbered_by w0 blank_state)) l ≡ clobbered_by w1 (clobbered_by w0 l)
over_both w0 w1 l core words =
    over_clobbered w1 (clobbered_by w0 blank_state) l ∙ ap (clobbered_by w1) (over_clobbered w0 blank_state l ∙ ap (clobbered_by w0) (over_blank l core words))
