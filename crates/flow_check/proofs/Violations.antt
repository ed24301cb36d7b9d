-- The least of the violations.
use Rattle.cpu_step.specs.Effect.{jumps}
use Rattle.std.proofs.Common.{◌==◌, ◌≡◌, ℕ, zero, suc, ◌+◌, ◌-◌, ◌<◌, ◌≤◌, List, [], ◌∷◌, ◌++◌, length, refl, sym, ap, ◌∙◌, arith, Bool, true, false, cond, Option, None, append_assoc}
use Rattle.std.specs.Prelude.{ℤ, Some}
use Rattle.sm_words.specs.Words.{nth}
use Rattle.insn_decode.specs.declared.insn.Condition.{Condition}
use Rattle.insn_decode.specs.declared.insn.Insn.{Insn}
use Rattle.insn_decode.specs.declared.insn.Insn.TheVariants.{Jump}
use Rattle.insn_decode.specs.Code.{is_always}
use Rattle.mod_layout.specs.declared.Module.{Module}
use Rattle.flow_rule.specs.Terms.{Terms}
use Rattle.flow_rule.specs.declared.Val.{Val}
use Rattle.flow_rule.specs.declared.Reach.{Reach}
use Rattle.flow_rule.specs.declared.Reason.TheVariants.{SecretAtExit, DataAtExit, UnknownTarget, SecretBranch}
use Rattle.flow_rule.specs.declared.Val.TheVariants.{Secret}
use Rattle.flow_rule.specs.Iterations.{RuleViolation, FlowStep, PointState}
use Rattle.flow_rule.specs.Values.{is_secret, val, FlagDomain}
use Rattle.flow_rule.specs.Does.{word_no, past_val, does_val, writes_val}
use Rattle.flow_rule.specs.Violations.{exit_violations, word_violations, reach_violations, reach_violations_by, violation, violation_if}
use Rattle.flow_rule.specs.Going.{goes, also, both}
use Rattle.flow_rule.specs.Steps.{turns_by, step_jump, step_insn, step_of}
use Rattle.flow_rule.specs.Stub.{shut_violations, shut_if, is_shut, is_open, word_number, step_stub, step_entries, to_entries, text_word}
use Rattle.flow_check.specs.declared.violation.Violation.{Violation}
use Rattle.flow_check.specs.internal.Violations.{lesser, noted, shut_at, entry_addrs}
use Rattle.flow_check.specs.internal.Points.{addrs_of}
use Rattle.flow_check.specs.internal.Steps.{condition_of}

pub noted_append : (xs ys : List RuleViolation) (o : Option Violation) → noted (xs ++ ys) o ≡ noted ys (noted xs o)
noted_append [] ys o = refl
noted_append (x ∷ xs) ys o = noted_append xs ys _

pub reach_more : (m : Module) (pc : ℕ) (x : Reach) (xs : List Reach) (o p : Option Violation) → p ≡ noted (reach_violations_by x.addr m pc x) o →
    noted (reach_violations m pc (x ∷ xs)) o ≡ noted (reach_violations m pc xs) p
reach_more m pc x xs o p e = noted_append (reach_violations_by x.addr m pc x) (reach_violations m pc xs) o ∙ ap (noted (reach_violations m pc xs)) (sym e)

pub word_more : (m : Module) (pc a : ℕ) (words : List Val) (addrs : List ℕ) (o p : Option Violation) → p ≡ noted (violation_if (is_secret (nth (word_no m a) words Secret)) pc DataAtExit a) o →
    noted (word_violations m pc words (a ∷ addrs)) o ≡ noted (word_violations m pc words addrs) p
word_more m pc a words addrs o p e =
    noted_append (violation_if (is_secret (nth (word_no m a) words Secret)) pc DataAtExit a) (word_violations m pc words addrs) o ∙ ap (noted (word_violations m pc words addrs)) (sym e)

-- ---- the lowest register that is Secret
pub exit_found : (n pc : ℕ) (core : List Val) (o : Option Violation) → n < 16 → is_secret (val core n) ≡ true →
    noted (exit_violations (16 - n) n pc core) o ≡ lesser o record { addr = pc; reason = SecretAtExit; value = n }
exit_found n pc core o lt e =
    ap (λ k. noted (exit_violations k n pc core) o) (let f : 16 - n ≡ suc (15 - n) = omega arith in f)
    ∙ ap (λ b. noted (cond b (violation pc SecretAtExit n) (exit_violations (15 - n) (n + 1) pc core)) o) e

pub exit_next : (n pc : ℕ) (core : List Val) (o : Option Violation) → n < 16 → is_secret (val core n) ≡ false →
    noted (exit_violations (16 - n) n pc core) o ≡ noted (exit_violations (16 - (n + 1)) (n + 1) pc core) o
exit_next n pc core o lt e =
    ap (λ k. noted (exit_violations k n pc core) o) (let f : 16 - n ≡ suc (15 - n) = omega arith in f)
    ∙ ap (λ b. noted (cond b (violation pc SecretAtExit n) (exit_violations (15 - n) (n + 1) pc core)) o) e
    ∙ ap (λ k. noted (exit_violations k (n + 1) pc core) o) (let f : 15 - n ≡ 16 - (n + 1) = omega arith in f)

pub exit_done : (n pc : ℕ) (core : List Val) (o : Option Violation) → 16 ≤ n → noted (exit_violations (16 - n) n pc core) o ≡ o
exit_done n pc core o ge = ap (λ k. noted (exit_violations k n pc core) o) (let f : 16 - n ≡ 0 = omega arith in f)

-- ---- writes
none_written : (m : Module) (ws : List Val) (xs : List Reach) → writes_val m ws xs [] ≡ ws
none_written m ws [] = refl
none_written m ws (x ∷ xs) = refl

pub same_written : (m : Module) (ws : List Val) (xs ys : List Reach) (values : List Val) → length values ≡ 0 → writes_val m ws xs values ≡ writes_val m ws ys values
same_written m ws xs ys [] h = none_written m ws xs ∙ sym (none_written m ws ys)
same_written m ws xs ys (v ∷ vs) h = absurd cc

-- ---- a jump, and a unit instruction
pub addrs_append : (xs ys : List PointState) → addrs_of (xs ++ ys) ≡ addrs_of xs ++ addrs_of ys
addrs_append [] ys = refl
addrs_append (x ∷ xs) ys = ap (λ l. x.point.addr ∷ l) (addrs_append xs ys)

pub both_least : (rs xs bs : List RuleViolation) (o0 o1 o2 o3 : Option Violation) → o1 ≡ noted rs o0 → o2 ≡ noted xs o1 → o3 ≡ noted bs o2 → o3 ≡ noted (rs ++ (xs ++ bs)) o0
both_least rs xs bs o0 o1 o2 o3 e1 e2 e3 =
    e3 ∙ ap (noted bs) (e2 ∙ ap (noted xs) e1) ∙ sym (noted_append rs (xs ++ bs) o0 ∙ noted_append xs bs (noted rs o0))

pub both_addrs : (xs ys : List PointState) (t0 t1 t2 : List ℕ) → t1 ≡ t0 ++ addrs_of xs → t2 ≡ t1 ++ addrs_of ys → t2 ≡ t0 ++ addrs_of (xs ++ ys)
both_addrs xs ys t0 t1 t2 e1 e2 =
    e2 ∙ ap (λ l. l ++ addrs_of ys) e1 ∙ append_assoc t0 (addrs_of xs) (addrs_of ys) ∙ ap (λ l. t0 ++ l) (sym (addrs_append xs ys))

abbrev taken_to : FlagDomain → Terms → Module → Insn → PointState → FlowStep
taken_to flags terms m insn x = goes terms m x.point.addr x.point.call_string (does_val flags insn x.point.addr x.state.core []).core x.state.words

abbrev on_to : Terms → Module → Insn → PointState → FlowStep
on_to terms m insn x = goes terms m x.point.addr x.point.call_string (past_val insn x.point.addr x.state.core) x.state.words

-- by the flags that the jump finds
abbrev turned : FlagDomain → Terms → Module → Insn → Condition → PointState → Option ℕ → FlowStep
turned flags terms m insn cn x known = turns_by known (is_secret (val x.state.core 2)) x.point.addr cn (taken_to flags terms m insn x) (on_to terms m insn x)

module _ (flags : FlagDomain) (terms : Terms) (m : Module) (text : List ℕ) (insn : Insn) (cn : Condition) (x : PointState) where
  pub jump_always : is_always cn ≡ true → step_jump flags terms m text insn cn x ≡ taken_to flags terms m insn x
  jump_always e = ap (λ b. cond b (taken_to flags terms m insn x) (turned flags terms m insn cn x (flags.known (val x.state.core 2)))) e

  jump_other : (k : Option ℕ) → is_always cn ≡ false → flags.known (val x.state.core 2) ≡ k → step_jump flags terms m text insn cn x ≡ turned flags terms m insn cn x k
  jump_other k e f =
      ap (λ b. cond b (taken_to flags terms m insn x) (turned flags terms m insn cn x (flags.known (val x.state.core 2)))) e ∙ ap (turned flags terms m insn cn x) f

  pub jump_known : (sr : ℕ) (b : Bool) → is_always cn ≡ false → flags.known (val x.state.core 2) ≡ Some sr → jumps cn sr ≡ b →
      step_jump flags terms m text insn cn x ≡ cond b (taken_to flags terms m insn x) (on_to terms m insn x)
  jump_known sr b e f g = jump_other (Some sr) e f ∙ ap (λ b. cond b (taken_to flags terms m insn x) (on_to terms m insn x)) g

  pub jump_open : is_always cn ≡ false → flags.known (val x.state.core 2) ≡ None →
      step_jump flags terms m text insn cn x ≡ also (violation_if (is_secret (val x.state.core 2)) x.point.addr SecretBranch 0) (both (taken_to flags terms m insn x) (on_to terms m insn x))
  jump_open e f = jump_other None e f

pub jump_same : (flags : FlagDomain) (terms : Terms) (m : Module) (text : List ℕ) (insn : Insn) (cn : Condition) (off : ℤ) (x : PointState) → insn ≡ Jump cn off →
    step_jump flags terms m text insn (condition_of insn) x ≡ step_insn flags terms m text (Some insn) x
jump_same flags terms m text insn cn off x e = ap (λ i. step_jump flags terms m text i (condition_of i) x) e ∙ sym (ap (λ i. step_insn flags terms m text (Some i) x) e)

-- ---- steps into the closed words of a stub
shut_same : (m : Module) (pc : ℕ) (gs : List PointState) → shut_violations m pc gs ≡ shut_at m pc (addrs_of gs)
shut_same m pc [] = refl
shut_same m pc (x ∷ gs) = ap (λ rs. violation_if (is_shut (word_number m x.point.addr)) pc UnknownTarget 0 ++ rs) (shut_same m pc gs)

pub shut_more : (m : Module) (pc a : ℕ) (more : List ℕ) (o p : Option Violation) → p ≡ noted (violation_if (is_shut (word_number m a)) pc UnknownTarget 0) o → noted (shut_at m pc (a ∷ more)) o ≡ noted (shut_at m pc more) p
shut_more m pc a more o p e = noted_append (violation_if (is_shut (word_number m a)) pc UnknownTarget 0) (shut_at m pc more) o ∙ ap (noted (shut_at m pc more)) (sym e)

pub shut_after : (m : Module) (pc : ℕ) (s : FlowStep) (ts : List ℕ) (o0 o1 o2 : Option Violation) → o1 ≡ noted s.violations o0 → ts ≡ addrs_of s.gives → o2 ≡ noted (shut_at m pc ts) o1 →
    o2 ≡ noted (s.violations ++ shut_violations m pc s.gives) o0
shut_after m pc s ts o0 o1 o2 e1 et e2 =
    e2 ∙ ap (λ t. noted (shut_at m pc t) o1) et ∙ ap (λ rs. noted rs o1) (sym (shut_same m pc s.gives)) ∙ ap (noted (shut_violations m pc s.gives)) e1 ∙ sym (noted_append s.violations (shut_violations m pc s.gives) o0)

pub stub_open : (flags : FlagDomain) (terms : Terms) (m : Module) (text : List ℕ) (x : PointState) → (word_number m x.point.addr == 17) ≡ false → is_open (word_number m x.point.addr) ≡ true → step_of flags terms m text x ≡ step_stub flags terms m text x
stub_open flags terms m text x e f =
    sym (ap (λ b. cond b (step_entries m text x) (shut_if (is_open (word_number m x.point.addr)) m x.point.addr (step_of flags terms m text x))) e
    ∙ ap (λ b. shut_if b m x.point.addr (step_of flags terms m text x)) f)

pub stub_shut : (flags : FlagDomain) (terms : Terms) (m : Module) (text : List ℕ) (x : PointState) → (word_number m x.point.addr == 17) ≡ false → is_open (word_number m x.point.addr) ≡ false → shut_if false m x.point.addr (step_of flags terms m text x) ≡ step_stub flags terms m text x
stub_shut flags terms m text x e f =
    sym (ap (λ b. cond b (step_entries m text x) (shut_if (is_open (word_number m x.point.addr)) m x.point.addr (step_of flags terms m text x))) e
    ∙ ap (λ b. shut_if b m x.point.addr (step_of flags terms m text x)) f)

pub entries_least : (m : Module) (pc : ℕ) (push : Reach) (ts : List RuleViolation) (o0 o1 o2 : Option Violation) → noted (reach_violations m pc (push ∷ [])) o0 ≡ o1 → o2 ≡ noted ts o1 → o2 ≡ noted (reach_violations m pc (push ∷ []) ++ ts) o0
entries_least m pc push ts o0 o1 o2 e1 e2 = e2 ∙ ap (noted ts) (sym e1) ∙ sym (noted_append (reach_violations m pc (push ∷ [])) ts o0)

pub entries_addrs : (m : Module) (text : List ℕ) (n : ℕ) (rs : List ℕ) (core words : List Val) → addrs_of (to_entries m text n rs core words) ≡ entry_addrs m text n
entries_addrs m text zero rs core words = refl
entries_addrs m text (suc n) rs core words = ap (λ l. text_word m text (38 + n) ∷ l) (entries_addrs m text n rs core words)

pub entries_more : (m : Module) (text : List ℕ) (n k : ℕ) (ts us : List ℕ) → k < n → us ≡ ts ++ text_word m text (38 + (n - 1 - k)) ∷ [] → ts ++ entry_addrs m text (n - k) ≡ us ++ entry_addrs m text (n - (k + 1))
entries_more m text n k ts us lt e =
    ap (λ j. ts ++ entry_addrs m text j) (let f : n - k ≡ suc (n - (k + 1)) = omega arith in f)
    ∙ ap (λ j. ts ++ text_word m text (38 + j) ∷ entry_addrs m text (n - (k + 1))) (let f : n - (k + 1) ≡ n - 1 - k = omega arith in f)
    ∙ sym (append_assoc ts (text_word m text (38 + (n - 1 - k)) ∷ []) (entry_addrs m text (n - (k + 1)))) ∙ ap (λ u. u ++ entry_addrs m text (n - (k + 1))) (sym e)
