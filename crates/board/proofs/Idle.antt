-- Cycles that only pass, on a board.
use Rattle.std.proofs.Common.{◌≡◌, ℕ, zero, suc, ◌-◌, ◌<◌, ◌≤◌, List, refl, sym, ◌∙◌, ap, arith, Bool, true, false, ◌&&◌, not, ◌==◌, Option, None, is_none}
use Rattle.sm_words.specs.Words.{reg}
use Rattle.sm_words.specs.declared.registers.TheConstants.{PC}
use Rattle.irq_padding.specs.Padding.{padding}
use Rattle.reg_backup.specs.declared.backup.After.{After}
use Rattle.reg_backup.specs.declared.backup.Phase.{Phase}
use Rattle.reg_backup.specs.declared.backup.Phase.TheVariants.{Run, Pad}
use Rattle.written_machine.specs.Cycle.{after_cycles, pc_of}
use Rattle.written_machine.specs.Passing.{OnlyPass, Pads, Waits, WaitsOutside, Sleeps, Leads, phase_later, passed}
use Rattle.written_machine.specs.Standing.{is_ready, is_resume, stands_at}
use Rattle.written_machine.specs.State.{State}
use Rattle.board.specs.internal.Ran.{StandsNotAt}

-- no cycle at all
pub none_pass : (s : State) → OnlyPass 0 s
none_pass s = by s.phase refl
  where
    by : (p : Phase) → s.phase ≡ p → OnlyPass 0 s
    by (Pad left) e = Pads left e (omega arith)
    by (Run rest) e = Waits rest e (omega arith) (λ m some few. absurd (omega (arith, some, few)))

-- ---- where it stands meanwhile

off : (a c d : Bool) → (a && false && c && d) ≡ false
off true c d = refl
off false c d = refl

-- in the midst of an instruction or of padding it stands nowhere
busy_apart : (addr : ℕ) (s : State) → is_ready s.phase ≡ false → stands_at addr s ≡ false
unfolding stands_at
busy_apart addr s e = ap (λ b. is_none s.active && b && not (is_resume s.after) && (pc_of s == addr)) e ∙ off (is_none s.active) (not (is_resume s.after)) (pc_of s == addr)

-- what stands at an address is told by these parts
alike_apart : (addr : ℕ) (s t : State) → s.active ≡ t.active → s.phase ≡ t.phase → s.after ≡ t.after → s.core ≡ t.core → stands_at addr s ≡ stands_at addr t
unfolding stands_at
alike_apart addr s t a p f c =
    ap (λ (x : Option ℕ). is_none x && is_ready s.phase && not (is_resume s.after) && (pc_of s == addr)) a
    ∙ ap (λ (x : Phase). is_none t.active && is_ready x && not (is_resume s.after) && (pc_of s == addr)) p
    ∙ ap (λ (x : After). is_none t.active && is_ready t.phase && not (is_resume x) && (pc_of s == addr)) f
    ∙ ap (λ (x : List ℕ). is_none t.active && is_ready t.phase && not (is_resume t.after) && (reg x PC == addr)) c

padding_busy : (left : ℕ) → 0 < left → is_ready (padding left).0 ≡ false
padding_busy zero h = absurd (omega (arith, h))
padding_busy (suc left) h = refl

run_busy : (rest : ℕ) → 0 < rest → is_ready (Run rest) ≡ false
run_busy zero h = absurd (omega (arith, h))
run_busy (suc rest) h = refl

both_off : (b c : Bool) → c ≡ b → (b && c) ≡ false → b ≡ false
both_off true c e h = sym e ∙ h
both_off false c e h = refl

module _ (law : (s : State) (n m : ℕ) → s.stop ≡ None → OnlyPass n s → 0 < m → m ≤ n → Leads m s (passed m s)) (addr all n : ℕ) (s : State) (runs : s.stop ≡ None) (only : OnlyPass all s) (enough : n ≤ all) where
  -- after some of them the phase is the one moved on
  moved : (m : ℕ) → 0 < m → m ≤ n → after_cycles s m ≡ passed m s
  moved m some few = sym (law s all m runs only some (omega (arith, few, enough))).state

  busy : (m : ℕ) → m < n → is_ready s.phase ≡ false → ((k : ℕ) → 0 < k → k < n → is_ready (phase_later k s.phase s.after).0 ≡ false) → stands_at addr (after_cycles s m) ≡ false
  busy zero few now then = busy_apart addr s now
  busy (suc m) few now then =
      ap (stands_at addr) (moved (suc m) (omega arith) (omega (arith, few))) ∙ busy_apart addr (passed (suc m) s) (then (suc m) (omega arith) few)

  waits : (m rest : ℕ) → m < n → s.phase ≡ Run rest → all ≤ rest → stands_at addr (after_cycles s m) ≡ false
  waits m rest few e within =
      busy m few (ap is_ready e ∙ run_busy rest (omega (arith, few, within, enough)))
      (λ k some less. ap (λ (p : Phase). is_ready (phase_later k p s.after).0) e ∙ run_busy (rest - k) (omega (arith, less, within, enough)))

  sleeping : (k : ℕ) → k ≤ n → s.phase ≡ Run 0 → stands_at addr (after_cycles s k) ≡ stands_at addr s
  sleeping zero few e = refl
  sleeping (suc k) few e =
      let none : 0 - suc k ≡ 0 = omega arith in
      ap (stands_at addr) (moved (suc k) (omega arith) few)
      ∙ alike_apart addr (passed (suc k) s) s refl
      (ap (λ (p : Phase). (phase_later (suc k) p s.after).0) e ∙ ap Run none ∙ sym e)
      (ap (λ (p : Phase). (phase_later (suc k) p s.after).1) e) refl

  by_case : OnlyPass all s → (stands_at addr s && stands_at addr (after_cycles s n)) ≡ false → (m : ℕ) → m < n → stands_at addr (after_cycles s m) ≡ false
  by_case (Pads left e within) ends m few =
      busy m few (ap is_ready e)
      (λ k some less. ap (λ (p : Phase). is_ready (phase_later k p s.after).0) e ∙ padding_busy (left - k) (omega (arith, less, within, enough)))
  by_case (WaitsOutside rest e within none) ends m few = waits m rest few e within
  by_case (Waits rest e within calm) ends m few = waits m rest few e within
  by_case (Sleeps e next none off_is calm) ends m few =
      sleeping m (omega (arith, few)) e ∙ both_off (stands_at addr s) (stands_at addr (after_cycles s n)) (sleeping n (omega arith) e) ends

  -- where it stands there neither before nor after them, it stands there at no time between
  pub missed_none : (stands_at addr s && stands_at addr (after_cycles s n)) ≡ false → StandsNotAt addr n s
  missed_none = by_case only
