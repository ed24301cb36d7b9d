-- From the start of a text with a stub to its word 10, or out again.
use Rattle.std.proofs.Common.{◌≡◌, ◌⊎◌, inl, inr, ℕ, zero, suc, ◌+◌, ◌-◌, ◌*◌, ◌%◌, ◌<◌, ◌≤◌, List, [], length, refl, sym, ap, ◌∙◌, subst, arith, Bool, true, false, cond, nat_lt, nat_le, ◌==◌, Some, get_or-set_same, length-set, ℤ, pos, negsuc}
use Rattle.std.proofs.lemmas.Bool.{cases_lt, and_left, and_right, lt-leb, le-ltb}
use Rattle.std.proofs.lemmas.Bool.Decides.{nat_tests}
use Rattle.sm_words.specs.Words.{reg, put, kept, add16, nth, word_at, bit}
use Rattle.insn_decode.specs.Code.{insn_of, length_of, distance}
use Rattle.sm_words.specs.Sums.{sum_of, low, complement, one_if}
use Rattle.cycle_table.specs.Cycles.{cycles_of}
use Rattle.cpu_step.specs.Effect.{does, does_freely, confined, confined_sr, jumps, two_result, with_flags}
use Rattle.cpu_step.specs.Plan.{plan, past}
use Rattle.sm_words.specs.declared.width.Width.TheVariants.{Word}
use Rattle.insn_decode.specs.declared.insn.TwoOp.TheVariants.{Mov, Cmp}
use Rattle.insn_decode.specs.declared.insn.Operand.TheVariants.{Reg, Const, Imm}
use Rattle.insn_decode.specs.declared.insn.Condition.{Condition}
use Rattle.insn_decode.specs.declared.insn.Condition.TheVariants.{NoCarry, Carry, Always}
use Rattle.insn_decode.specs.declared.insn.Insn.{Insn}
use Rattle.insn_decode.specs.declared.insn.Insn.TheVariants.{Two, Jump}
use Rattle.flow_rule.specs.Values.{FlagDomain}
use Rattle.flow_rule.proofs.FlagDomains.{SoundFlags}
use Rattle.mod_layout.specs.declared.Module.{Module}
use Rattle.mod_layout.specs.Table.{holds}
use Rattle.cpu_step.specs.Asked.{asks, effect}
use Rattle.cpu_step.specs.Lone.{Job, lone_does, all_inside, lone_who, Does, doing, job_of, outcome, Running, later, is_alone}
use Rattle.arm_balance.specs.Met.{text_byte, met}
use Rattle.flow_rule.specs.Terms.{Terms}
use Rattle.cpu_step.proofs.Alike.{ends_but}
use Rattle.entry_stubs.specs.Stub.{stub_front}
use Rattle.flow_rule.proofs.Cores.{put_other_reg, carry_bit, confined_small, confined_kept, away_even}
use Rattle.flow_laws.proofs.Words.{Shape}
use Rattle.flow_laws.proofs.Runs.{passes_near, passes_far, left_alike, at_rest, Passes}
use Rattle.flow_laws.specs.Releases.{Release}
use Rattle.flow_laws.proofs.Told.{EndsOr, crossing_or}
use Rattle.flow_laws.proofs.Instruction.{after, does_it, fetched, jump_so, even}
use Rattle.flow_rule.proofs.Stub.{StubFacts, met_one, met_two}
use Rattle.flow_laws.proofs.Open.{next_core, conf_reg, past_pc_of}

-- what the stub's first words keep
pub record Calm (c : List ℕ) (pc six seven : ℕ) : Type 0 where
  pub long : length c ≡ 16
  pub nine : reg c 2 < 512
  pub three : reg c 3 ≡ 0
  pub six_is : reg c 6 ≡ six
  pub seven_is : reg c 7 ≡ seven
  pub here : reg c 0 ≡ pc

moved : (c : List ℕ) (pc pc' six seven : ℕ) → pc ≡ pc' → Calm c pc six seven → Calm c pc' six seven
moved c pc pc' six seven e h = record { long = h.long; nine = h.nine; three = h.three; six_is = h.six_is; seven_is = h.seven_is; here = h.here ∙ e }

calm_of : (c x : List ℕ) (pc six seven : ℕ) → length x ≡ 16 → reg x 0 ≡ pc → reg x 3 ≡ 0 → reg x 6 ≡ six → reg x 7 ≡ seven → Calm (confined true c x) pc six seven
unfolding confined
calm_of c x pc six seven long here three s6 s7 =
    record {
      long = length-set x 2 _ ∙ long;
      nine = subst (λ i. i < 512) (sym (get_or-set_same x 2 (kept 2 (confined_sr (reg c 2) (reg x 2))) 0 (subst (λ i. 2 < i) (sym long) (omega arith)) ∙ confined_kept (reg c 2) (reg x 2))) (confined_small (reg c 2) (reg x 2));
      three = conf_reg c x 3 (λ e. absurd (omega arith)) ∙ three;
      six_is = conf_reg c x 6 (λ e. absurd (omega arith)) ∙ s6;
      seven_is = conf_reg c x 7 (λ e. absurd (omega arith)) ∙ s7;
      here = conf_reg c x 0 (λ e. absurd (omega arith)) ∙ here;
    }

past_calm : (insn : Insn) (len pc six seven : ℕ) (c : List ℕ) → length_of insn ≡ len → pc % 2 ≡ 0 → pc + 2 * len < 65536 → Calm c pc six seven →
    (length (past insn c) ≡ 16) × (reg (past insn c) 0 ≡ pc + 2 * len) × (reg (past insn c) 3 ≡ 0) × (reg (past insn c) 6 ≡ six) × (reg (past insn c) 7 ≡ seven)
past_calm insn len pc six seven c one ev small h = (
  length-set c 0 _ ∙ h.long,
  past_pc_of insn len pc c one h.here ev small h.long,
  put_other_reg c 0 _ 3 (λ e. absurd (omega arith)) ∙ h.three,
  put_other_reg c 0 _ 6 (λ e. absurd (omega arith)) ∙ h.six_is,
  put_other_reg c 0 _ 7 (λ e. absurd (omega arith)) ∙ h.seven_is,
)

-- a comparison
abbrev compares : ℕ → ℕ → Insn
compares x r = Two Cmp Word (Imm x) (Reg r)

abbrev carry_of : ℕ → ℕ → Bool
carry_of x v = nat_le 65536 (low Word (low Word v) + low Word (complement Word (low Word x)) + 1)

cmp_calm : (x r pc six seven : ℕ) (c : List ℕ) → pc % 2 ≡ 0 → pc + 4 < 65536 → Calm c pc six seven → Calm (next_core (compares x r) c []) (pc + 4) six seven
unfolding does_freely
cmp_calm x r pc six seven c ev small h =
    let p = past_calm (compares x r) 2 pc six seven c refl ev small h in
    let c1 = past (compares x r) c in
    calm_of c (put c1 2 _) (pc + 4) six seven (length-set c1 2 _ ∙ p.0) (put_other_reg c1 2 _ 0 (λ e. absurd (omega arith)) ∙ p.1) (put_other_reg c1 2 _ 3 (λ e. absurd (omega arith)) ∙ p.2)
    (put_other_reg c1 2 _ 6 (λ e. absurd (omega arith)) ∙ p.3) (put_other_reg c1 2 _ 7 (λ e. absurd (omega arith)) ∙ p.4)

cmp_carry : (x r v : ℕ) (c : List ℕ) → length c ≡ 16 → reg (past (compares x r) c) r ≡ v → bit 1 (reg (next_core (compares x r) c []) 2) ≡ one_if (carry_of x v)
unfolding does_freely confined
cmp_carry x r v c long e =
    let c1 = past (compares x r) c in
    let res = two_result Cmp Word (low Word x) (low Word (reg c1 r)) (bit 1 (reg c 2)) in
    let c2 = put c1 2 (with_flags res (reg c1 2)) in
    let len1 : length c1 ≡ 16 = length-set c 0 _ ∙ long in
    let len2 : length c2 ≡ 16 = length-set c1 2 _ ∙ len1 in
    ap (bit 1) (get_or-set_same c2 2 (kept 2 (confined_sr (reg c 2) (reg c2 2))) 0 (subst (λ i. 2 < i) (sym len2) (omega arith)) ∙ confined_kept (reg c 2) (reg c2 2)
    ∙ ap (confined_sr (reg c 2)) (get_or-set_same c1 2 (kept 2 (with_flags res (reg c1 2))) 0 (subst (λ i. 2 < i) (sym len1) (omega arith))))
    ∙ carry_bit (sum_of Word (low Word (reg c1 r)) (complement Word (low Word x)) 1) (reg c 2) (reg c1 2) ∙ ap (λ v. one_if (carry_of x v)) e

carry_says : (x v : ℕ) → x < 65536 → v < 65536 → (b : Bool) → carry_of x v ≡ b → cond b (x ≤ v) (v < x)
carry_says x v hx hv b e = by b e
  where
    sum : low Word (low Word v) + low Word (complement Word (low Word x)) + 1 ≡ v + 65536 - x
    sum = omega arith

    by : (b : Bool) → carry_of x v ≡ b → cond {A = Type 0} b (x ≤ v) (v < x)
    by true q = let s = sum in let g : 65536 ≤ low Word (low Word v) + low Word (complement Word (low Word x)) + 1 = grind (arith, nat_tests) in omega arith
    by false q = let s = sum in let g : low Word (low Word v) + low Word (complement Word (low Word x)) + 1 < 65536 = grind (arith, nat_tests) in omega arith

-- a jump
abbrev jump_core : Condition → ℤ → Bool → List ℕ → List ℕ
jump_core k off t c = confined true c (cond t (put (past (Jump k off) c) 0 (add16 (reg (past (Jump k off) c) 0) (distance off))) (past (Jump k off) c))

jump_calm : (k : Condition) (off : ℤ) (pc to six seven : ℕ) (c : List ℕ) (t : Bool) → pc % 2 ≡ 0 → pc + 2 < 65536 → kept 0 (add16 (pc + 2) (distance off)) ≡ to → Calm c pc six seven → Calm (jump_core k off t c) (cond t to (pc + 2)) six seven
jump_calm k off pc to six seven c true ev small e h =
    let p = past_calm (Jump k off) 1 pc six seven c refl ev small h in
    let c1 = past (Jump k off) c in
    calm_of c (put c1 0 (add16 (reg c1 0) (distance off))) to six seven (length-set c1 0 _ ∙ p.0)
    (get_or-set_same c1 0 (kept 0 (add16 (reg c1 0) (distance off))) 0 (subst (λ i. 0 < i) (sym p.0) (omega arith)) ∙ ap (λ i. kept 0 (add16 i (distance off))) p.1 ∙ e)
    (put_other_reg c1 0 _ 3 (λ e. absurd (omega arith)) ∙ p.2) (put_other_reg c1 0 _ 6 (λ e. absurd (omega arith)) ∙ p.3) (put_other_reg c1 0 _ 7 (λ e. absurd (omega arith)) ∙ p.4)
jump_calm k off pc to six seven c false ev small e h =
    let p = past_calm (Jump k off) 1 pc six seven c refl ev small h in
    calm_of c (past (Jump k off) c) (pc + 2) six seven p.0 p.1 p.2 p.3 p.4

module _ (terms : Terms) (key : List ℕ) (m : Module) (text : List ℕ) (caller : ℕ) (shape : Shape m) (domain : FlagDomain) (proper : SoundFlags domain) (n p : ℕ) (facts : StubFacts m text n p) (ps : List Release) (R : List ℕ → List ℕ → Type 0) (da db : List ℕ) where
  abbrev j : Job
  j = job_of key m text caller

  abbrev t0 : ℕ
  t0 = m.text.start

  -- from this core on the two calls end alike
  abbrev pub Alike : List ℕ → Type 0
  Alike c = (i : ℕ) → EndsOr ps terms.answers R j i (at_rest c da) (at_rest c db)

  word_is : (k w : ℕ) → k < 38 → nth k (stub_front t0 m.text.end m.ram.start n p) 0 ≡ w → word_at (text_byte m.text text) (t0 + 2 * k) ≡ w
  word_is k w lt e = facts.words k lt ∙ e

  in_stub : (a : ℕ) → t0 ≤ a → a < t0 + 76 → holds m.text a ≡ true
  in_stub a low high = let r = facts.room in let o = shape.text_order in let lt : a < m.text.end = omega arith in grind (arith, nat_tests)

  even_at : (k : ℕ) → (t0 + 2 * k) % 2 ≡ 0
  even_at k = let s0 = shape.text_start in omega arith

  small_at : (k : ℕ) → k < 38 → t0 + 2 * k < 65504
  small_at k lt = let r = facts.room in let o = shape.text_order in let h = shape.text_high in omega arith

  -- a step that reads and writes nothing
  before : (insn : Insn) (c c' : List ℕ) (r : ℕ) → doing j (at_rest c da) ≡ Does insn → doing j (at_rest c db) ≡ Does insn →
      lone_does j insn (at_rest c da) ≡ after c' da r false → lone_does j insn (at_rest c db) ≡ after c' db r false → Alike c' → Alike c
  before insn c c' r ea eb fa fb h i =
      crossing_or ps terms.answers R m j (suc r) (at_rest c da) (at_rest c db) (at_rest c' da) (at_rest c' db) (does_it j c da c' da insn r false ea fa) (does_it j c db c' db insn r false eb fb) i (λ i e. h i)

  does_at : (insn : Insn) (k : ℕ) (c d : List ℕ) → k < 38 → reg c 0 ≡ t0 + 2 * k → met m.text text (t0 + 2 * k) ≡ Some insn → is_alone insn ≡ true → all_inside j (asks (lone_who j) insn c) ≡ true → doing j (at_rest c d) ≡ Does insn
  does_at insn k c d lt e met_it alone ins =
      fetched terms key m text caller shape domain proper c d insn (ap (λ a. a % 2) e ∙ even_at k) (ap (λ a. holds m.text a) e ∙ in_stub (t0 + 2 * k) (omega arith) (omega arith)) (ap (λ a. met m.text text a) e ∙ met_it) alone ins

  before_cmp : (x r k : ℕ) (c : List ℕ) → k < 38 → reg c 0 ≡ t0 + 2 * k → met m.text text (t0 + 2 * k) ≡ Some (compares x r) → Alike (next_core (compares x r) c []) → Alike c
  unfolding lone_does asks effect does plan
  before_cmp x r k c lt e met_it h =
      before (compares x r) c (next_core (compares x r) c []) (cycles_of (compares x r) - 1) (does_at (compares x r) k c da lt e met_it refl refl) (does_at (compares x r) k c db lt e met_it refl refl) refl refl h

  before_jump : (cn : Condition) (off : ℤ) (k : ℕ) (c : List ℕ) (t : Bool) → k < 38 → reg c 0 ≡ t0 + 2 * k → met m.text text (t0 + 2 * k) ≡ Some (Jump cn off) → jumps cn (reg c 2) ≡ t → Alike (jump_core cn off t c) → Alike c
  unfolding asks plan
  before_jump cn off k c t lt e met_it et h =
      before (Jump cn off) c (jump_core cn off t c) 1 (does_at (Jump cn off) k c da lt e met_it refl refl) (does_at (Jump cn off) k c db lt e met_it refl refl)
      (jump_so terms key m text caller shape domain proper cn off c da ∙ ap (λ t. after (jump_core cn off t c) da 1 false) et) (jump_so terms key m text caller shape domain proper cn off c db ∙ ap (λ t. after (jump_core cn off t c) db 1 false) et) h

  -- ---- the instructions
  met_2 : met m.text text (t0 + 4) ≡ Some (Jump NoCarry (pos 4))
  unfolding insn_of
  met_2 = met_one m text (t0 + 4) 0x2804 _ (word_is 2 0x2804 (omega arith) refl) refl refl

  met_5 : met m.text text (t0 + 10) ≡ Some (Jump Carry (pos 1))
  unfolding insn_of
  met_5 = met_one m text (t0 + 10) 0x2c01 _ (word_is 5 0x2c01 (omega arith) refl) refl refl

  met_6 : met m.text text (t0 + 12) ≡ Some (Jump Always (negsuc 0))
  unfolding insn_of
  met_6 = met_one m text (t0 + 12) 0x3fff _ (word_is 6 0x3fff (omega arith) refl) refl refl

  met_9 : met m.text text (t0 + 18) ≡ Some (Jump Carry (pos 26))
  unfolding insn_of
  met_9 = met_one m text (t0 + 18) 0x2c1a _ (word_is 9 0x2c1a (omega arith) refl) refl refl

  met_36 : met m.text text (t0 + 72) ≡ Some (Two Mov Word (Const 0) (Reg 12))
  unfolding insn_of
  met_36 = met_one m text (t0 + 72) 0x430c _ (word_is 36 0x430c (omega arith) refl) refl refl

  met_37 : met m.text text (t0 + 74) ≡ Some (Two Mov Word (Reg 7) (Reg 0))
  unfolding insn_of
  met_37 = met_one m text (t0 + 74) 0x4700 _ (word_is 37 0x4700 (omega arith) refl) refl refl

  -- a comparison with what the next word says
  met_cmp : (k w x r : ℕ) → k < 36 → word_at (text_byte m.text text) (t0 + 2 * k) ≡ w → word_at (text_byte m.text text) (t0 + 2 * (k + 1)) ≡ x → insn_of w 0 0 ≡ Some (compares 0 r) → insn_of w x 0 ≡ Some (compares x r) → met m.text text (t0 + 2 * k) ≡ Some (compares x r)
  met_cmp k w x r lt e f g h =
      met_two m text (t0 + 2 * k) w x (compares 0 r) (compares x r) e (ap (λ a. word_at (text_byte m.text text) a) (let s : t0 + 2 * k + 2 ≡ t0 + 2 * (k + 1) = omega arith in s) ∙ f) g refl (in_stub (t0 + 2 * k + 2) (omega arith) (omega arith)) h

  met_0 : met m.text text (t0 + 0) ≡ Some (compares t0 7)
  unfolding insn_of
  met_0 = met_cmp 0 0x9037 t0 7 (omega arith) (word_is 0 0x9037 (omega arith) refl) (word_is 1 t0 (omega arith) refl) refl refl

  met_3 : met m.text text (t0 + 6) ≡ Some (compares m.text.end 7)
  unfolding insn_of
  met_3 = met_cmp 3 0x9037 m.text.end 7 (omega arith) (word_is 3 0x9037 (omega arith) refl) (word_is 4 m.text.end (omega arith) refl) refl refl

  met_7 : met m.text text (t0 + 14) ≡ Some (compares n 6)
  unfolding insn_of
  met_7 = met_cmp 7 0x9036 n 6 (omega arith) (word_is 7 0x9036 (omega arith) refl) (word_is 8 n (omega arith) refl) refl refl

  -- ---- a return address in the own text loops for ever
  loops_by : (fuel : ℕ) (c d : List ℕ) (six seven : ℕ) → Calm c (t0 + 12) six seven → (i : ℕ) → i < fuel → outcome j i (at_rest c d) ≡ Running
  unfolding asks plan
  loops_by zero c d six seven h i lt = absurd (omega arith)
  loops_by (suc fuel) c d six seven h i lt =
      let c' = jump_core Always (negsuc 0) true c in
      let goes : kept 0 (add16 (t0 + 12 + 2) (distance (negsuc 0))) ≡ t0 + 12 = back in
      let h' : Calm c' (t0 + 12) six seven = jump_calm Always (negsuc 0) (t0 + 12) (t0 + 12) six seven c true (even_at 6) (omega (arith, small_at 6)) goes h in
      let pass = does_it j c d c' d (Jump Always (negsuc 0)) 1 false (does_at (Jump Always (negsuc 0)) 6 c d (omega arith) h.here met_6 refl refl) (jump_so terms key m text caller shape domain proper Always (negsuc 0) c d) in
      by (cases_lt i 2) pass (λ i lt. loops_by fuel c' d six seven h' i lt)
    where
      back : kept 0 (add16 (t0 + 12 + 2) (distance (negsuc 0))) ≡ t0 + 12
      back = let a = small_at 6 (omega arith) in let b = shape.text_start in omega arith

      by : (i < 2) ⊎ (2 ≤ i) → Passes j 2 (at_rest c d) (at_rest (jump_core Always (negsuc 0) true c) d) → ((i : ℕ) → i < fuel → outcome j i (at_rest (jump_core Always (negsuc 0) true c) d) ≡ Running) → outcome j i (at_rest c d) ≡ Running
      by (inl near) pass go = passes_near j 2 _ _ pass i near
      by (inr far) pass go =
          let e : 2 + (i - 2) ≡ i = omega arith in
          ap (λ i. outcome j i (at_rest c d)) (sym e) ∙ passes_far j 2 _ _ pass (i - 2) ∙ ap (λ o. later (later o)) (go (i - 2) (omega arith))

  loops : (c : List ℕ) (six seven : ℕ) → Calm c (t0 + 12) six seven → Alike c
  loops c six seven h i =
      inl (subst (λ o. ends_but terms.answers R o (outcome j i (at_rest c db))) (sym (loops_by (suc i) c da six seven h i (omega arith))) (subst (λ o. ends_but terms.answers R Running o) (sym (loops_by (suc i) c db six seven h i (omega arith))) tt))

  -- ---- an unknown entry: the module is left
  module _ (six seven : ℕ) (small6 : six < 65536) (small7 : seven < 65536) (out : holds m.text seven ≡ false) (rest : R da db) where
    exits : (c : List ℕ) → Calm c (t0 + 72) six seven → Alike c
    unfolding lone_does asks effect does plan does_freely cycles_of
    exits c h =
        let i1 = Two Mov Word (Const 0) (Reg 12) in
        let i2 = Two Mov Word (Reg 7) (Reg 0) in
        let q = past_calm i1 1 (t0 + 72) six seven c refl (even_at 36) (omega (arith, small_at 36)) h in
        let c1 = past i1 c in
        let c2 = put c1 2 (reg c1 2) in
        let x = put c2 12 0 in
        let h1 : Calm (confined true c x) (t0 + 72 + 2) six seven =
        calm_of c x (t0 + 72 + 2) six seven (length-set c2 12 0 ∙ length-set c1 2 (kept 2 (reg c1 2)) ∙ q.0)
        (put_other_reg c2 12 0 0 (λ e. absurd (omega arith)) ∙ put_other_reg c1 2 (reg c1 2) 0 (λ e. absurd (omega arith)) ∙ q.1) (put_other_reg c2 12 0 3 (λ e. absurd (omega arith)) ∙ put_other_reg c1 2 (reg c1 2) 3 (λ e. absurd (omega arith)) ∙ q.2)
        (put_other_reg c2 12 0 6 (λ e. absurd (omega arith)) ∙ put_other_reg c1 2 (reg c1 2) 6 (λ e. absurd (omega arith)) ∙ q.3) (put_other_reg c2 12 0 7 (λ e. absurd (omega arith)) ∙ put_other_reg c1 2 (reg c1 2) 7 (λ e. absurd (omega arith)) ∙ q.4) in
        let d1 = confined true c x in
        let here1 : reg d1 0 ≡ t0 + 74 = h1.here ∙ (let e : t0 + 72 + 2 ≡ t0 + 74 = omega arith in e) in
        let y1 = past i2 d1 in
        let y2 = put y1 2 (reg y1 2) in
        let y = put y2 0 (low Word (reg y1 7)) in
        let d2 = confined true d1 y in
        let len2 : length y2 ≡ 16 = length-set y1 2 (kept 2 (reg y1 2)) ∙ length-set d1 0 (kept 0 (add16 (reg d1 0) (2 * length_of i2))) ∙ h1.long in
        let pc2 : reg d2 0 ≡ kept 0 (low Word seven) =
        conf_reg d1 y 0 (λ e. absurd (omega arith)) ∙ get_or-set_same y2 0 (kept 0 (low Word (reg y1 7))) 0 (subst (λ i. 0 < i) (sym len2) (omega arith))
        ∙ ap (λ v. kept 0 (low Word v)) (put_other_reg d1 0 (add16 (reg d1 0) (2 * length_of i2)) 7 (λ e. absurd (omega arith)) ∙ h1.seven_is) in
        let gone : holds m.text (reg d2 0) ≡ false = ap (λ a. holds m.text a) (pc2 ∙ floor) ∙ away_even m.text (even terms key m text caller shape domain proper) seven out in
        before i1 c d1 0 (does_at i1 36 c da (omega arith) h.here met_36 refl refl) (does_at i1 36 c db (omega arith) h.here met_36 refl refl) refl refl
        (before i2 d1 d2 1 (does_at i2 37 d1 da (omega arith) here1 met_37 refl refl) (does_at i2 37 d1 db (omega arith) here1 met_37 refl refl) refl refl
        (λ i. inl (left_alike terms.answers R j i d2 da d2 db refl gone gone rest)))
      where
        floor : kept 0 (low Word seven) ≡ seven - seven % 2
        floor = omega arith

    -- ---- word 7
    from_7 : ((c : List ℕ) → Calm c (t0 + 20) six seven → six < n → Alike c) → (c : List ℕ) → Calm c (t0 + 14) six seven → Alike c
    from_7 go c h =
        let c1 = next_core (compares n 6) c [] in
        let h1 : Calm c1 (t0 + 14 + 4) six seven = cmp_calm n 6 (t0 + 14) six seven c (even_at 7) (omega (arith, small_at 9)) h in
        let carry : bit 1 (reg c1 2) ≡ one_if (carry_of n six) = cmp_carry n 6 six c h.long (put_other_reg c 0 _ 6 (λ e. absurd (omega arith)) ∙ h.six_is) in
        let f = facts.few in
        before_cmp n 6 7 c (omega arith) h.here met_7
        (turn c1 (moved c1 (t0 + 14 + 4) (t0 + 18) six seven (omega arith) h1) carry (carry_of n six) refl (carry_says n six (omega arith) small6))
      where
        far : kept 0 (add16 (t0 + 18 + 2) (distance (pos 26))) ≡ t0 + 72
        far = let a = small_at 36 (omega arith) in let b = shape.text_start in omega arith

        turn : (c1 : List ℕ) → Calm c1 (t0 + 18) six seven → bit 1 (reg c1 2) ≡ one_if (carry_of n six) → (b : Bool) → carry_of n six ≡ b → ((b : Bool) → carry_of n six ≡ b → cond b (n ≤ six) (six < n)) → Alike c1
        turn c1 h carry true e says =
            before_jump Carry (pos 26) 9 c1 true (omega arith) h.here met_9 (ap (λ b. b == 1) carry ∙ ap (λ b. one_if b == 1) e)
            (exits _ (jump_calm Carry (pos 26) (t0 + 18) (t0 + 72) six seven c1 true (even_at 9) (omega (arith, small_at 9)) far h))
        turn c1 h carry false e says =
            before_jump Carry (pos 26) 9 c1 false (omega arith) h.here met_9 (ap (λ b. b == 1) carry ∙ ap (λ b. one_if b == 1) e)
            (go _ (moved _ (t0 + 18 + 2) (t0 + 20) six seven (omega arith) (jump_calm Carry (pos 26) (t0 + 18) (t0 + 72) six seven c1 false (even_at 9) (omega (arith, small_at 9)) far h)) (says false e))

  module _ (six seven : ℕ) (small6 : six < 65536) (small7 : seven < 65536)
      (rest : R da db) (go : holds m.text seven ≡ false → (c : List ℕ) → Calm c (t0 + 20) six seven → six < n → Alike c) where
    out_low : seven < t0 → holds m.text seven ≡ false
    out_low lt = and_left (nat_le t0 seven) (nat_lt seven m.text.end) (lt-leb t0 seven lt)

    out_high : m.text.end ≤ seven → holds m.text seven ≡ false
    out_high le = and_right (nat_le t0 seven) (nat_lt seven m.text.end) (le-ltb seven m.text.end le)

    seven_on : holds m.text seven ≡ false → (c : List ℕ) → Calm c (t0 + 14) six seven → Alike c
    seven_on out c h = from_7 six seven small6 small7 out rest (go out) c h

    from_3 : (c : List ℕ) → Calm c (t0 + 6) six seven → Alike c
    from_3 c h =
        let e = m.text.end in
        let c1 = next_core (compares e 7) c [] in
        let h1 : Calm c1 (t0 + 6 + 4) six seven = cmp_calm e 7 (t0 + 6) six seven c (even_at 3) (omega (arith, small_at 5)) h in
        let carry : bit 1 (reg c1 2) ≡ one_if (carry_of e seven) = cmp_carry e 7 seven c h.long (put_other_reg c 0 _ 7 (λ e. absurd (omega arith)) ∙ h.seven_is) in
        let hi = shape.text_high in
        before_cmp e 7 3 c (omega arith) h.here met_3
        (turn c1 (moved c1 (t0 + 6 + 4) (t0 + 10) six seven (omega arith) h1) carry (carry_of e seven) refl (carry_says e seven (omega arith) small7 (carry_of e seven) refl))
      where
        far : kept 0 (add16 (t0 + 10 + 2) (distance (pos 1))) ≡ t0 + 14
        far = let a = small_at 36 (omega arith) in let b = shape.text_start in omega arith

        turn : (c1 : List ℕ) → Calm c1 (t0 + 10) six seven → bit 1 (reg c1 2) ≡ one_if (carry_of m.text.end seven) → (b : Bool) → carry_of m.text.end seven ≡ b → cond (carry_of m.text.end seven) (m.text.end ≤ seven) (seven < m.text.end) → Alike c1
        turn c1 h carry true e says =
            before_jump Carry (pos 1) 5 c1 true (omega arith) h.here met_5 (ap (λ b. b == 1) carry ∙ ap (λ b. one_if b == 1) e)
            (seven_on (out_high (subst (λ b. cond b (m.text.end ≤ seven) (seven < m.text.end)) e says)) _ (jump_calm Carry (pos 1) (t0 + 10) (t0 + 14) six seven c1 true (even_at 5) (omega (arith, small_at 5)) far h))
        turn c1 h carry false e says =
            before_jump Carry (pos 1) 5 c1 false (omega arith) h.here met_5 (ap (λ b. b == 1) carry ∙ ap (λ b. one_if b == 1) e)
            (loops _ six seven (moved _ (t0 + 10 + 2) (t0 + 12) six seven (omega arith) (jump_calm Carry (pos 1) (t0 + 10) (t0 + 14) six seven c1 false (even_at 5) (omega (arith, small_at 5)) far h)))

    pub from_0 : (c : List ℕ) → Calm c (t0 + 0) six seven → Alike c
    from_0 c h =
        let c1 = next_core (compares t0 7) c [] in
        let h1 : Calm c1 (t0 + 0 + 4) six seven = cmp_calm t0 7 (t0 + 0) six seven c (even_at 0) (omega (arith, small_at 5)) h in
        let carry : bit 1 (reg c1 2) ≡ one_if (carry_of t0 seven) = cmp_carry t0 7 seven c h.long (put_other_reg c 0 _ 7 (λ e. absurd (omega arith)) ∙ h.seven_is) in
        before_cmp t0 7 0 c (omega arith) h.here met_0
        (turn c1 (moved c1 (t0 + 0 + 4) (t0 + 4) six seven (omega arith) h1) carry (carry_of t0 seven) refl (carry_says t0 seven (omega (arith, small_at 5)) small7 (carry_of t0 seven) refl))
      where
        far : kept 0 (add16 (t0 + 4 + 2) (distance (pos 4))) ≡ t0 + 14
        far = let a = small_at 36 (omega arith) in let b = shape.text_start in omega arith

        turn : (c1 : List ℕ) → Calm c1 (t0 + 4) six seven → bit 1 (reg c1 2) ≡ one_if (carry_of t0 seven) → (b : Bool) → carry_of t0 seven ≡ b → cond (carry_of t0 seven) (t0 ≤ seven) (seven < t0) → Alike c1
        turn c1 h carry false e says =
            before_jump NoCarry (pos 4) 2 c1 true (omega arith) h.here met_2 (ap (λ b. b == 0) carry ∙ ap (λ b. one_if b == 0) e)
            (seven_on (out_low (subst (λ b. cond b (t0 ≤ seven) (seven < t0)) e says)) _ (jump_calm NoCarry (pos 4) (t0 + 4) (t0 + 14) six seven c1 true (even_at 2) (omega (arith, small_at 5)) far h))
        turn c1 h carry true e says =
            before_jump NoCarry (pos 4) 2 c1 false (omega arith) h.here met_2 (ap (λ b. b == 0) carry ∙ ap (λ b. one_if b == 0) e)
            (from_3 _ (moved _ (t0 + 4 + 2) (t0 + 6) six seven (omega arith) (jump_calm NoCarry (pos 4) (t0 + 4) (t0 + 14) six seven c1 false (even_at 2) (omega (arith, small_at 5)) far h)))
