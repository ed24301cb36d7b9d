-- A call, instruction by instruction.
use Rattle.std.proofs.Common.{◌≡◌, ◌≢◌, ◌<◌, ◌≤◌, ℕ, zero, suc, ◌+◌, ◌-◌, List, refl, sym, ap, ◌∙◌, arith, Bool, true, false, Option, Some, None}
use Rattle.sm_words.specs.Words.{reg}
use Rattle.insn_decode.specs.declared.insn.Insn.{Insn}
use Rattle.mod_layout.specs.Table.{holds}
use Rattle.cpu_step.specs.Lone.{Job, Lone, Exit, Closing, Broken, Running, Waits, Closes, Leaves, doing_by, doing, next_insn, later, at_once, in_time, outcome, lone_does, lone_step_by, lone_step, lone_after}
use Rattle.cpu_step.proofs.LoneLemmas.{after_step, after_more, delayed, delayed_none, delayed_more, later_is}
use Rattle.lone_run.specs.Jobs.{lone_between}

-- within an instruction
abbrev within : List ℕ → List ℕ → ℕ → Bool → Lone
within core ram r closing = record { core = core; data_bytes = ram; rest = r; closing = closing }

module _ (j : Job) (core ram : List ℕ) (closing : Bool) where
  waits : (r : ℕ) → doing j (within core ram (suc r) closing) ≡ Waits r
  unfolding doing
  waits r = refl

  waited : (r n : ℕ) → outcome j (suc n) (within core ram (suc r) closing) ≡ later (outcome j n (within core ram r closing))
  waited r n = ap (λ d. in_time d (outcome j n) j (within core ram (suc r) closing)) (waits r)

  outcome_waits : (r n : ℕ) → r ≤ n → outcome j n (within core ram r closing) ≡ delayed r (outcome j (n - r) (within core ram 0 closing))
  outcome_waits zero n h = ap (λ k. outcome j k (within core ram 0 closing)) (let e : n ≡ n - 0 = omega arith in e) ∙ delayed_none (outcome j (n - 0) (within core ram 0 closing))
  outcome_waits (suc r) zero h = absurd (omega arith)
  outcome_waits (suc r) (suc n) h =
      waited r n ∙ later_is (outcome j n (within core ram r closing)) ∙ ap (delayed 1) (outcome_waits r n (omega arith)) ∙ delayed_more 1 r (outcome j (n - r) (within core ram 0 closing))
      ∙ ap (λ k. delayed k (outcome j (n - r) (within core ram 0 closing))) (let e : 1 + r ≡ suc r = omega arith in e)
      ∙ ap (λ k. delayed (suc r) (outcome j k (within core ram 0 closing))) (let e : n - r ≡ suc n - suc r = omega arith in e)

  outcome_short : (r n : ℕ) → n < r → outcome j n (within core ram r closing) ≡ Running
  outcome_short zero n h = absurd (omega arith)
  outcome_short (suc r) zero h = ap (λ d. at_once d (within core ram (suc r) closing)) (waits r)
  outcome_short (suc r) (suc n) h = waited r n ∙ ap later (outcome_short r n (omega arith))

  after_waits : (n r : ℕ) → n ≤ r → lone_after j (within core ram r closing) n ≡ within core ram (r - n) closing
  after_waits zero r h = ap (λ k. within core ram k closing) (let e : r ≡ r - 0 = omega arith in e)
  after_waits (suc n) r h =
      ap (lone_step j) (after_waits n r (omega arith) ∙ ap (λ k. within core ram k closing) (let e : r - n ≡ suc (r - suc n) = omega arith in e))
      ∙ ap (λ d. lone_step_by d j (within core ram (suc (r - suc n)) closing)) (waits (r - suc n))

-- ---- between two instructions

doing_out : (j : Job) (core ram : List ℕ) → holds j.owner.text (reg core 0) ≡ false → doing j (lone_between core ram) ≡ Leaves
unfolding doing
doing_out j core ram e = ap (λ b. doing_by 0 false b (next_insn j (lone_between core ram))) e

doing_in : (j : Job) (core ram : List ℕ) (o : Option Insn) → holds j.owner.text (reg core 0) ≡ true → next_insn j (lone_between core ram) ≡ o → doing j (lone_between core ram) ≡ doing_by 0 false true o
unfolding doing
doing_in j core ram o e f = ap (λ b. doing_by 0 false b (next_insn j (lone_between core ram))) e ∙ ap (λ o. doing_by 0 false true o) f

doing_closed : (j : Job) (core ram : List ℕ) → doing j (within core ram 0 true) ≡ Closes
unfolding doing
doing_closed j core ram = refl

exits : (j : Job) (n : ℕ) (core ram : List ℕ) → holds j.owner.text (reg core 0) ≡ false → outcome j n (lone_between core ram) ≡ Exit core ram 0
exits j zero core ram e = ap (λ d. at_once d (lone_between core ram)) (doing_out j core ram e)
exits j (suc n) core ram e = ap (λ d. in_time d (outcome j n) j (lone_between core ram)) (doing_out j core ram e)

closes : (j : Job) (n : ℕ) (core ram : List ℕ) → outcome j n (within core ram 0 true) ≡ Closing core ram 0
closes j zero core ram = ap (λ d. at_once d (within core ram 0 true)) (doing_closed j core ram)
closes j (suc n) core ram = ap (λ d. in_time d (outcome j n) j (within core ram 0 true)) (doing_closed j core ram)

ends : (j : Job) (core ram : List ℕ) → holds j.owner.text (reg core 0) ≡ true → outcome j 0 (lone_between core ram) ≡ Running
ends j core ram e = ap (λ d. at_once d (lone_between core ram)) (doing_in j core ram (next_insn j (lone_between core ram)) e refl) ∙ by (next_insn j (lone_between core ram))
  where
    by : (o : Option Insn) → at_once (doing_by 0 false true o) (lone_between core ram) ≡ Running
    by None = refl
    by (Some insn) = refl

breaks : (j : Job) (n : ℕ) (core ram : List ℕ) → 0 < n → holds j.owner.text (reg core 0) ≡ true → next_insn j (lone_between core ram) ≡ None → outcome j n (lone_between core ram) ≡ Broken ram 0
breaks j zero core ram h e f = absurd (omega arith)
breaks j (suc n) core ram h e f = ap (λ d. in_time d (outcome j n) j (lone_between core ram)) (doing_in j core ram None e f)

-- an instruction of k cycles
module _ (j : Job) (core ram after left : List ℕ) (insn : Insn) (k : ℕ) (closing : Bool) (some : 1 ≤ k) (home : holds j.owner.text (reg core 0) ≡ true) (found : next_insn j (lone_between core ram) ≡ Some insn)
    (does_it : lone_does j insn (lone_between core ram) ≡ within after left (k - 1) closing) where
  step_is : lone_step j (lone_between core ram) ≡ within after left (k - 1) closing
  step_is = ap (λ d. lone_step_by d j (lone_between core ram)) (doing_in j core ram (Some insn) home found) ∙ does_it

  begun : (n : ℕ) → outcome j (suc n) (lone_between core ram) ≡ later (outcome j n (within after left (k - 1) closing))
  begun n = ap (λ d. in_time d (outcome j n) j (lone_between core ram)) (doing_in j core ram (Some insn) home found) ∙ ap (λ l. later (outcome j n l)) does_it

  goes : (n : ℕ) → k ≤ n → outcome j n (lone_between core ram) ≡ delayed k (outcome j (n - k) (within after left 0 closing))
  goes zero h = absurd (omega arith)
  goes (suc n) h =
      begun n ∙ later_is (outcome j n (within after left (k - 1) closing)) ∙ ap (delayed 1) (outcome_waits j after left closing (k - 1) n (omega arith))
      ∙ delayed_more 1 (k - 1) (outcome j (n - (k - 1)) (within after left 0 closing))
      ∙ ap (λ i. delayed i (outcome j (n - (k - 1)) (within after left 0 closing))) (let e : 1 + (k - 1) ≡ k = omega arith in e)
      ∙ ap (λ i. delayed k (outcome j i (within after left 0 closing))) (let e : n - (k - 1) ≡ suc n - k = omega arith in e)

  stays : (n : ℕ) → 0 < n → n < k → outcome j n (lone_between core ram) ≡ Running
  stays zero h g = absurd (omega arith)
  stays (suc n) h g = begun n ∙ ap later (outcome_short j after left closing (k - 1) n (omega arith))

  after_all : lone_after j (lone_between core ram) k ≡ within after left 0 closing
  after_all =
      ap (lone_after j (lone_between core ram)) (let e : k ≡ suc (k - 1) = omega arith in e) ∙ sym (after_step j (lone_between core ram) (k - 1)) ∙ ap (λ l. lone_after j l (k - 1)) step_is
      ∙ after_waits j after left closing (k - 1) (k - 1) (omega arith) ∙ ap (λ i. within after left i closing) (let e : k - 1 - (k - 1) ≡ 0 = omega arith in e)

  after_some : (n : ℕ) → 0 < n → n < k → (lone_after j (lone_between core ram) n).data_bytes ≡ left
  after_some zero h g = absurd (omega arith)
  after_some (suc n) h g =
      ap (λ l. l.data_bytes) (sym (after_step j (lone_between core ram) n) ∙ ap (λ l. lone_after j l n) step_is ∙ after_waits j after left closing n (k - 1) (omega arith))

-- ---- where a call stands

-- after so many of the cycles up to the limit
pub record At (j : Job) (start : Lone) (limit : ℕ) (core ram : List ℕ) (c : ℕ) : Type 0 where
  pub run : outcome j limit start ≡ delayed c (outcome j (limit - c) (lone_between core ram))
  pub here : lone_after j start c ≡ lone_between core ram
  pub few : c ≤ limit

module _ {j : Job} {start : Lone} {limit : ℕ} {core ram : List ℕ} {c : ℕ} (at : At j start limit core ram c) where
  pub at_exit : holds j.owner.text (reg core 0) ≡ false → outcome j limit start ≡ Exit core ram c
  at_exit e = at.run ∙ ap (delayed c) (exits j (limit - c) core ram e) ∙ ap (Exit core ram) (let f : 0 + c ≡ c = omega arith in f)

  pub at_limit : holds j.owner.text (reg core 0) ≡ true → c ≡ limit → outcome j limit start ≡ Running
  at_limit e f = at.run ∙ ap (λ n. delayed c (outcome j n (lone_between core ram))) (let g : limit - c ≡ 0 = omega arith in g) ∙ ap (delayed c) (ends j core ram e)

  pub data_limit : c ≡ limit → (lone_after j start limit).data_bytes ≡ ram
  data_limit f = ap (λ n. (lone_after j start n).data_bytes) (sym f) ∙ ap (λ l. l.data_bytes) at.here

  pub at_broken : holds j.owner.text (reg core 0) ≡ true → next_insn j (lone_between core ram) ≡ None → c ≢ limit → outcome j limit start ≡ Broken ram c
  at_broken e f ne = let few = at.few in at.run ∙ ap (delayed c) (breaks j (limit - c) core ram (omega arith) e f) ∙ ap (Broken ram) (let g : 0 + c ≡ c = omega arith in g)

  module _ {after left : List ℕ} {insn : Insn} {k : ℕ} {closing : Bool} (some : 1 ≤ k) (home : holds j.owner.text (reg core 0) ≡ true) (found : next_insn j (lone_between core ram) ≡ Some insn)
      (does_it : lone_does j insn (lone_between core ram) ≡ within after left (k - 1) closing) where
    pub at_short : c ≢ limit → limit - c < k → outcome j limit start ≡ Running
    at_short ne h = let few = at.few in at.run ∙ ap (delayed c) (stays j core ram after left insn k closing some home found does_it (limit - c) (omega arith) h)

    pub data_short : c ≢ limit → limit - c < k → (lone_after j start limit).data_bytes ≡ left
    data_short ne h =
        let few = at.few in
        ap (λ n. (lone_after j start n).data_bytes) (let e : limit ≡ c + (limit - c) = omega arith in e) ∙ ap (λ l. l.data_bytes) (after_more j start c (limit - c))
        ∙ ap (λ l. (lone_after j l (limit - c)).data_bytes) at.here ∙ after_some j core ram after left insn k closing some home found does_it (limit - c) (omega arith) h

    gone : k ≤ limit - c → outcome j limit start ≡ delayed (c + k) (outcome j (limit - (c + k)) (within after left 0 closing))
    gone h =
        at.run ∙ ap (delayed c) (goes j core ram after left insn k closing some home found does_it (limit - c) h) ∙ delayed_more c k (outcome j (limit - c - k) (within after left 0 closing))
        ∙ ap (λ n. delayed (c + k) (outcome j n (within after left 0 closing))) (let e : limit - c - k ≡ limit - (c + k) = omega arith in e)

    pub at_more : k ≤ limit - c → closing ≡ false → At j start limit after left (c + k)
    at_more h e =
        let few = at.few in
        record {
          run = gone h ∙ ap (λ b. delayed (c + k) (outcome j (limit - (c + k)) (within after left 0 b))) e;
          here = after_more j start c k ∙ ap (λ l. lone_after j l k) at.here ∙ after_all j core ram after left insn k closing some home found does_it ∙ ap (λ b. within after left 0 b) e;
          few = omega arith;
        }

    pub at_closed : k ≤ limit - c → closing ≡ true → outcome j limit start ≡ Closing after left (c + k)
    at_closed h e =
        gone h ∙ ap (λ b. delayed (c + k) (outcome j (limit - (c + k)) (within after left 0 b))) e ∙ ap (delayed (c + k)) (closes j (limit - (c + k)) after left)
        ∙ ap (Closing after left) (let f : 0 + (c + k) ≡ c + k = omega arith in f)
