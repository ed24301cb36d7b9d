-- Cores that are equal but for some registers.
use Rattle.std.proofs.Common.{◌≡◌, ℕ, zero, suc, List, [], ◌∷◌, get_or, set, true, refl, sym, ap, ap₂, ◌∙◌, ⊎_elim, All, get_or-set_other, set-set}
use Rattle.std.proofs.lemmas.Bool.{and_parts, cases_eq}
use Rattle.std.proofs.lemmas.List.{set-get_or}
use Rattle.std.proofs.lemmas.List.Elements.{All-head, All-tail}
use Rattle.std.specs.List.{list_all}
use Rattle.sm_words.specs.Words.{reg}
use Rattle.cpu_step.specs.Lone.{is_answer, blank}

zeroed : (core : List ℕ) (r : ℕ) → get_or (set core r 0) r 0 ≡ 0
zeroed [] r = refl
zeroed (x ∷ xs) zero = refl
zeroed (x ∷ xs) (suc r) = zeroed xs r

still_equal : (answers core other : List ℕ) (x : ℕ) → reg core x ≡ reg other x → reg (blank answers core) x ≡ reg (blank answers other) x
still_equal [] core other x e = e
still_equal (r ∷ rs) core other x e =
    let c = blank rs core in
    let d = blank rs other in
    ⊎_elim
    (λ same. ap (λ k. get_or (set c r 0) k 0) same ∙ zeroed c r ∙ sym (ap (λ k. get_or (set d r 0) k 0) same ∙ zeroed d r))
    (λ apart. get_or-set_other c r x 0 0 apart ∙ still_equal rs core other x e ∙ sym (get_or-set_other d r x 0 0 apart))
    (cases_eq x r)

back : (core : List ℕ) (r : ℕ) → set (set core r 0) r (reg core r) ≡ core
back core r = set-set core r 0 (reg core r) ∙ set-get_or core r 0

-- where the answers are equal too, the cores are
pub no_answer_differs : (answers core other : List ℕ) → blank answers core ≡ blank answers other → All (λ r. reg core r ≡ reg other r) answers → core ≡ other
no_answer_differs [] core other e h = e
no_answer_differs (r ∷ rs) core other e h =
    let at_r = still_equal rs core other r (All-head (λ x. reg core x ≡ reg other x) r rs h) in
    no_answer_differs rs core other
    (sym (back (blank rs core) r) ∙ ap₂ (λ c v. set c r v) e at_r ∙ back (blank rs other) r)
    (All-tail (λ x. reg core x ≡ reg other x) r rs h)

-- PC is no answer
pc_stays : (answers core : List ℕ) → list_all is_answer answers ≡ true → reg (blank answers core) 0 ≡ reg core 0
pc_stays [] core h = refl
pc_stays (zero ∷ rs) core h = absurd cc
pc_stays (suc r ∷ rs) core h = get_or-set_other (blank rs core) (suc r) 0 0 0 (λ e. cc) ∙ pc_stays rs core (and_parts _ _ h).1

pub pc_equal : (answers core other : List ℕ) → list_all is_answer answers ≡ true → blank answers core ≡ blank answers other → reg core 0 ≡ reg other 0
pc_equal answers core other h e = sym (pc_stays answers core h) ∙ ap (λ c. reg c 0) e ∙ pc_stays answers other h
