-- Even calls with a bound for each call, which the proofs follow, and that one bound for all says as much.
use Rattle.std.proofs.Common.{◌≡◌, ℕ, List, [], ◌∷◌, false, zero, suc, ◌+◌, ◌≤◌, max, refl, sym, ap, ◌∙◌, subst, arith, Bool, true, nat_lt, cond}
use Rattle.cpu_step.specs.Lone.{starts, Lone, outcome, job_of, Job, Entrance, CallEnd, Exit, Closing, Broken, Running, later, Doing, Waits, Closes, Leaves, Breaks, Does, doing, lone_does, at_once, in_time, EvenBut, IsEntry, AlwaysEvenBut}
use Rattle.mod_layout.specs.declared.Module.{Module}
use Rattle.std.proofs.lemmas.Bool.Decides.{nat_tests}
use Rattle.cpu_step.proofs.Alike.{ends_then}
use Rattle.run_laws.proofs.Each.{Each}
use Rattle.std.proofs.lemmas.List.Elements.{All-nil, All-cons}
use Rattle.std.specs.Prelude.{All}

pub record Call_of : Type 0 where
  pub core : List ℕ
  pub caller : ℕ
  pub within : ℕ

abbrev pub entrance : Call_of → Entrance
entrance e = record { core = e.core; caller = e.caller }

abbrev pub begins : Call_of → List ℕ → Lone
begins e d = starts (entrance e) d

abbrev pub IsCall : Module → Call_of → Type 0
IsCall m e = IsEntry m (entrance e)

abbrev pub EvenBy : List ℕ → List ℕ → Module → List ℕ → List Call_of → List ℕ → List ℕ → Type 0
EvenBy answers key m text [] d1 d2 = Unit {0}
EvenBy answers key m text (e ∷ es) d1 d2 =
    let j = job_of key m text e.caller in
    ends_then answers (EvenBy answers key m text es) (outcome j e.within (begins e d1)) (outcome j e.within (begins e d2))

abbrev pub AlwaysEvenBy : List ℕ → List ℕ → Module → List ℕ → List ℕ → List ℕ → Type 0
AlwaysEvenBy answers key m text d1 d2 = (es : List Call_of) → Each (IsCall m) es → EvenBy answers key m text es d1 d2

-- what of an outcome is there within n cycles
abbrev pub cut : ℕ → CallEnd → CallEnd
cut n (Exit c d k) = cond (nat_lt k (suc n)) (Exit c d k) Running
cut n (Closing c d k) = cond (nat_lt k (suc n)) (Closing c d k) Running
cut n (Broken d k) = cond (nat_lt k n) (Broken d k) Running
cut n Running = Running

lt_suc : (k n : ℕ) → nat_lt (k + 1) (suc n) ≡ nat_lt k n
lt_suc k n = grind (arith, nat_tests)

lt_none : (k : ℕ) → nat_lt k 0 ≡ false
lt_none k = grind (arith, nat_tests)

zero_lt : (n : ℕ) → nat_lt 0 (suc n) ≡ true
zero_lt n = grind (arith, nat_tests)

cut_if : (b : Bool) (o : CallEnd) → cond b (later o) Running ≡ later (cond b o Running)
cut_if true o = refl
cut_if false o = refl

cut_later : (n : ℕ) (o : CallEnd) → cut (suc n) (later o) ≡ later (cut n o)
cut_later n (Exit c d k) = ap (λ b. cond b (Exit c d (k + 1)) Running) (lt_suc k (suc n)) ∙ cut_if (nat_lt k (suc n)) (Exit c d k)
cut_later n (Closing c d k) = ap (λ b. cond b (Closing c d (k + 1)) Running) (lt_suc k (suc n)) ∙ cut_if (nat_lt k (suc n)) (Closing c d k)
cut_later n (Broken d k) = ap (λ b. cond b (Broken d (k + 1)) Running) (lt_suc k n) ∙ cut_if (nat_lt k n) (Broken d k)
cut_later n Running = refl

cut_none : (o : CallEnd) → cut 0 (later o) ≡ Running
cut_none (Exit c d k) = ap (λ b. cond b (Exit c d (k + 1)) Running) (lt_suc k 0 ∙ lt_none k)
cut_none (Closing c d k) = ap (λ b. cond b (Closing c d (k + 1)) Running) (lt_suc k 0 ∙ lt_none k)
cut_none (Broken d k) = ap (λ b. cond b (Broken d (k + 1)) Running) (lt_none (k + 1))
cut_none Running = refl

module _ (j : Job) where
  once_cut : (x : Doing) (l : Lone) → at_once x l ≡ cut 0 (at_once x l)
  once_cut Closes l = refl
  once_cut _ l = refl

  zero_cut : (x : Doing) (f : Lone → CallEnd) (l : Lone) → at_once x l ≡ cut 0 (in_time x f j l)
  zero_cut (Waits r) f l = sym (cut_none (f (record l { rest = r })))
  zero_cut (Does i) f l = sym (cut_none (f (lone_does j i l)))
  zero_cut _ f l = refl

  suc_cut : (x : Doing) (n : ℕ) (f g : Lone → CallEnd) (l : Lone) → ((l' : Lone) → f l' ≡ cut n (g l')) → in_time x f j l ≡ cut (suc n) (in_time x g j l)
  suc_cut Closes n f g l h = sym (ap (λ b. cond b (Closing l.core l.data_bytes 0) Running) (zero_lt (suc n)))
  suc_cut Leaves n f g l h = sym (ap (λ b. cond b (Exit l.core l.data_bytes 0) Running) (zero_lt (suc n)))
  suc_cut Breaks n f g l h = sym (ap (λ b. cond b (Broken l.data_bytes 0) Running) (zero_lt n))
  suc_cut (Waits r) n f g l h = ap later (h (record l { rest = r })) ∙ sym (cut_later n (g (record l { rest = r })))
  suc_cut (Does i) n f g l h = ap later (h (lone_does j i l)) ∙ sym (cut_later n (g (lone_does j i l)))

  pub outcome_cut : (n m : ℕ) (l : Lone) → n ≤ m → outcome j n l ≡ cut n (outcome j m l)
  outcome_cut zero zero l le = once_cut (doing j l) l
  outcome_cut zero (suc m) l le = zero_cut (doing j l) (outcome j m) l
  outcome_cut (suc n) zero l le = absurd (omega arith)
  outcome_cut (suc n) (suc m) l le = suc_cut (doing j l) n (outcome j n) (outcome j m) l (λ l'. outcome_cut n m l' (omega arith))

module _ (answers : List ℕ) where
  alike_if : (P : List ℕ → List ℕ → Type 0) (b : Bool) (o p : CallEnd) → ends_then answers P o p → ends_then answers P (cond b o Running) (cond b p Running)
  alike_if P true o p h = h
  alike_if P false o p h = tt

  alike_cut : (P Q : List ℕ → List ℕ → Type 0) (n : ℕ) (o p : CallEnd) → ((d d' : List ℕ) → P d d' → Q d d') → ends_then answers P o p → ends_then answers Q (cut n o) (cut n p)
  alike_cut P Q n Running Running f h = tt
  alike_cut P Q n (Closing c d k) (Closing c' d' k') f h = subst (λ i. ends_then answers Q (cut n (Closing c d k)) (cond (nat_lt i (suc n)) (Closing c' d' k') Running)) h.1 (alike_if Q (nat_lt k (suc n)) (Closing c d k) (Closing c' d' k') h)
  alike_cut P Q n (Exit c d k) (Exit c' d' k') f h = subst (λ i. ends_then answers Q (cut n (Exit c d k)) (cond (nat_lt i (suc n)) (Exit c' d' k') Running)) h.1 (alike_if Q (nat_lt k (suc n)) (Exit c d k) (Exit c' d' k') (h.0, h.1, λ same. f d d' (h.2 same)))
  alike_cut P Q n _ _ f h = absurd h

module _ (answers key : List ℕ) (own : Module) (text : List ℕ) where
  abbrev plain : List Call_of → List Entrance
  plain [] = []
  plain (e ∷ es) = entrance e ∷ plain es

  abbrev most : List Call_of → ℕ
  most [] = 0
  most (e ∷ es) = max e.within (most es)

  lower : (n : ℕ) (es : List Call_of) (d1 d2 : List ℕ) → most es ≤ n → EvenBut answers key own text n (plain es) d1 d2 → EvenBy answers key own text es d1 d2
  lower n [] d1 d2 le h = tt
  lower n (e ∷ es) d1 d2 le h =
      let j = job_of key own text e.caller in
      let a = alike_cut answers (EvenBut answers key own text n (plain es)) (EvenBy answers key own text es) e.within (outcome j n (begins e d1)) (outcome j n (begins e d2)) (λ x y. lower n es x y (omega arith)) h in
      let a1 = subst (λ o. ends_then answers (EvenBy answers key own text es) o (cut e.within (outcome j n (begins e d2)))) (sym (outcome_cut j e.within n (begins e d1) (omega arith))) a in
      subst (λ o. ends_then answers (EvenBy answers key own text es) (outcome j e.within (begins e d1)) o) (sym (outcome_cut j e.within n (begins e d2) (omega arith))) a1

  plain_entries : (es : List Call_of) → Each (IsCall own) es → All (IsEntry own) (plain es)
  plain_entries [] h = All-nil (IsEntry own)
  plain_entries (e ∷ es) h = All-cons (IsEntry own) (entrance e) (plain es) h.0 (plain_entries es h.1)

  pub each_bound : (d1 d2 : List ℕ) → AlwaysEvenBut answers key own text d1 d2 → AlwaysEvenBy answers key own text d1 d2
  each_bound d1 d2 h es es_ok = lower (most es) es d1 d2 (omega arith) (h (plain es) (most es) (plain_entries es es_ok))
