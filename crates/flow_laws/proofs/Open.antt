-- The steps of a text with a stub.
use Rattle.std.proofs.Common.{◌≡◌, ◌≢◌, ◌⊎◌, inl, inr, ℕ, zero, suc, ◌+◌, ◌*◌, ◌%◌, ◌<◌, ◌≤◌, List, [], ◌∷◌, length, refl, sym, ap, ◌∙◌, subst, arith, Bool, true, false, cond, nat_le, ◌==◌, ◌&&◌, ◌||◌, not, Some, get_or-set_same, length-set}
use Rattle.std.proofs.lemmas.Bool.{cases_lt, and_parts, or_parts, both_ways, eqb-true, leb-true, leb-false}
use Rattle.std.proofs.lemmas.Bool.Decides.{nat_tests}
use Rattle.sm_words.specs.Words.{reg, put, kept, add16, nth, word_at, bit}
use Rattle.insn_decode.specs.Code.{insn_of, length_of}
use Rattle.sm_words.specs.Sums.{low}
use Rattle.cycle_table.specs.Cycles.{cycles_of}
use Rattle.cpu_step.specs.Effect.{value_of, does, does_freely, confined, confined_sr, two_result, set_flags, with_flags}
use Rattle.cpu_step.specs.Plan.{plan, past, lowered}
use Rattle.sm_words.specs.declared.width.Width.TheVariants.{Word}
use Rattle.insn_decode.specs.declared.insn.TwoOp.TheVariants.{Mov, Add}
use Rattle.insn_decode.specs.declared.insn.OneOp.TheVariants.{Call}
use Rattle.insn_decode.specs.declared.insn.Operand.TheVariants.{Reg, Imm, Indexed, Absolute}
use Rattle.insn_decode.specs.declared.insn.Insn.{Insn}
use Rattle.insn_decode.specs.declared.insn.Insn.TheVariants.{Two, One}
use Rattle.pc_access.specs.declared.Kind.TheVariants.{Write}
use Rattle.pc_access.specs.declared.Access.{Access}
use Rattle.flow_rule.specs.Values.{FlagDomain}
use Rattle.flow_rule.proofs.FlagDomains.{SoundFlags}
use Rattle.mod_layout.specs.declared.Module.{Module}
use Rattle.mod_layout.specs.Table.{holds}
use Rattle.cpu_step.specs.Asked.{asks, effect}
use Rattle.cpu_step.specs.Lone.{Job, Lone, lone_byte, lone_does, lone_writes, all_inside, lone_who, Does, doing, job_of}
use Rattle.flow_rule.specs.Terms.{Terms}
use Rattle.flow_rule.specs.declared.Val.{Val}
use Rattle.flow_rule.specs.declared.Val.TheVariants.{Known}
use Rattle.flow_rule.specs.Values.{val, put_val}
use Rattle.flow_rule.specs.declared.Reason.TheVariants.{UnknownTarget}
use Rattle.flow_rule.specs.Iterations.{PointState}
use Rattle.flow_rule.specs.declared.Reach.{Reach}
use Rattle.flow_rule.specs.Does.{writes_val, past_val, lowered_val}
use Rattle.flow_rule.specs.Violations.{violation_if, reach_violations}
use Rattle.flow_rule.specs.CallStrings.{calls, ReturnTurn}
use Rattle.flow_rule.specs.Steps.{step_of, step_insn, step_plain}
use Rattle.flow_rule.specs.Stub.{text_word, entries_of, word_number, is_shut, is_open, shut_violations, shut_if, to_entries, step_entries, step_stub, call_entry}
use Rattle.arm_balance.specs.Met.{text_byte, met}
use Rattle.entry_stubs.specs.Stub.{stub_front}
use Rattle.flow_rule.proofs.Cores.{AgreeCore, put_agrees, put_other_reg, confined_agrees, ends_so}
use Rattle.flow_rule.proofs.Effects.{past_agrees, lowered_agrees}
use Rattle.flow_rule.proofs.Plans.{Fixed, fixed, none_left, none_right, none_if}
use Rattle.flow_laws.proofs.Words.{Shape, AgreeData, writes_agree, word_text}
use Rattle.flow_laws.proofs.Labelling.{Under, Among}
use Rattle.flow_laws.proofs.Runs.{at_rest, Ending, Stays, Left, Shut, Crossing}
use Rattle.flow_laws.proofs.Decoding.{met_regular}
use Rattle.flow_laws.proofs.Instruction.{landing_of, AgreeAt, even_at, weaken_at, RegularInsn, Landing, In, Out, after, does_it, fetched, Does_alike, Parts, plain_parts, two_alike, even, step_crossing}
use Rattle.flow_rule.proofs.Stub.{StubFacts, place_of_word, met_one, met_two}

abbrev pub IsOpen : ℕ → Type 0
IsOpen k = (k ≡ 10) ⊎ ((k ≡ 12) ⊎ ((k ≡ 14) ⊎ (k ≡ 16)))

-- at word k the entry number is below n, and the same in both runs; at word 17 it is doubled
abbrev pub HasEntry : ℕ → Bool → ℕ → List ℕ → List ℕ → Type 0
HasEntry n true k ca cb = (i : ℕ) × (i < n) × (reg ca 6 ≡ 2 * i) × (reg cb 6 ≡ 2 * i)
HasEntry n false k ca cb = IsOpen k × (reg ca 6 < n) × (reg ca 6 ≡ reg cb 6)

-- of the stub's closed words two runs stand at 10 to 17 alone
pub record AtStub (m : Module) (n : ℕ) (x : PointState) (ca da cb db : List ℕ) : Type 0 where
  pub agree : AgreeAt m x ca da cb db
  pub entry : word_number m x.point.addr ≤ 18 → HasEntry n (word_number m x.point.addr == 17) (word_number m x.point.addr) ca cb

pub weaken_stub : (m : Module) (n : ℕ) (x y : PointState) (ca da cb db : List ℕ) → Under x y → AtStub m n x ca da cb db → AtStub m n y ca da cb db
weaken_stub m n x y ca da cb db u h =
    record { agree = weaken_at m x y ca da cb db u h.agree; entry = subst (λ a. word_number m a ≤ 18 → HasEntry n (word_number m a == 17) (word_number m a) ca cb) (sym u.addr) h.entry }

shut_far : (k : ℕ) → is_shut k ≡ false → k ≤ 18 → ⊥
shut_far k e low = let far = leb-false k 18 (or_parts (nat_le k 18) (k == 36) (or_parts (nat_le k 18 || (k == 36)) (k == 37) e).0).0 in omega (arith, far)

not_shut : (m : Module) (pc : ℕ) (gs : List PointState) → shut_violations m pc gs ≡ [] → (y : PointState) → Among y gs → is_shut (word_number m y.point.addr) ≡ false
not_shut m pc [] e y h = absurd h
not_shut m pc (x ∷ gs) e y (inl f) = ap (λ y. is_shut (word_number m y.point.addr)) f ∙ none_if (is_shut (word_number m x.point.addr)) pc _ 0 (none_left (violation_if (is_shut (word_number m x.point.addr)) pc UnknownTarget 0) (shut_violations m pc gs) e)
not_shut m pc (x ∷ gs) e y (inr h) = not_shut m pc gs (none_right (violation_if (is_shut (word_number m x.point.addr)) pc UnknownTarget 0) (shut_violations m pc gs) e) y h

abbrev head_addr : List Access → ℕ
head_addr [] = 0
head_addr (x ∷ xs) = x.addr

abbrev pub next_core : Insn → List ℕ → List ℕ → List ℕ
next_core insn c vs = confined true c (does_freely insn c vs).core

pub conf_reg : (o c : List ℕ) (k : ℕ) → k ≢ 2 → reg (confined true o c) k ≡ reg c k
unfolding confined
conf_reg o c k ne = put_other_reg c 2 (confined_sr (reg o 2) (reg c 2)) k ne

pub past_pc_of : (insn : Insn) (len pc : ℕ) (c : List ℕ) → length_of insn ≡ len → reg c 0 ≡ pc → pc % 2 ≡ 0 → pc + 2 * len < 65536 → length c ≡ 16 → reg (past insn c) 0 ≡ pc + 2 * len
past_pc_of insn len pc c one e ev small long =
    get_or-set_same c 0 (kept 0 (add16 (reg c 0) (2 * length_of insn))) 0 (subst (λ i. 0 < i) (sym long) (omega arith))
    ∙ ap (λ i. kept 0 (add16 i (2 * length_of insn))) e ∙ ap (λ i. kept 0 (add16 pc (2 * i))) one ∙ even_kept
  where
    even_kept : kept 0 (add16 pc (2 * len)) ≡ pc + 2 * len
    even_kept = omega arith

module _ (terms : Terms) (key : List ℕ) (m : Module) (text : List ℕ) (caller : ℕ) (shape : Shape m) (domain : FlagDomain) (proper : SoundFlags domain) (n p : ℕ) (facts : StubFacts m text n p) where
  abbrev j : Job
  j = job_of key m text caller

  abbrev t0 : ℕ
  t0 = m.text.start

  inside : (a : ℕ) → t0 ≤ a → a < m.text.end → holds m.text a ≡ true
  inside a low high = grind (arith, nat_tests)

  text_in : (a : ℕ) → t0 ≤ a → a < t0 + 76 → holds m.text a ≡ true
  text_in a low high = let r = facts.room in let o = shape.text_order in inside a low (omega arith)

  regular : (pc : ℕ) (insn : Insn) → met m.text text pc ≡ Some insn → RegularInsn insn
  regular = met_regular m text

  word_at_place : (k : ℕ) → word_number m (t0 + 2 * k) ≡ k
  word_at_place k = omega arith

  -- ---- the closed words are not met from outside
  outside_crossing : (x : PointState) (ca da cb db : List ℕ) → AtStub m n x ca da cb db → (shut_if false m x.point.addr (step_of domain terms m text x)).violations ≡ [] →
      Crossing terms m j (AtStub m n) (step_of domain terms m text x).gives (at_rest ca da) (at_rest cb db)
  outside_crossing x ca da cb db at none =
      let s = step_of domain terms m text x in
      let n1 = none_right s.violations (shut_violations m x.point.addr s.gives) none in
      let n2 = none_left s.violations (shut_violations m x.point.addr s.gives) none in
      let k = step_crossing terms key m text caller shape domain proper regular x ca da cb db at.agree n2 in
      record { cycles = k.cycles; some = k.some; to_a = k.to_a; to_b = k.to_b; pass_a = k.pass_a; pass_b = k.pass_b; ending = by k.to_a k.to_b n1 k.ending }
    where
      by : (la lb : Lone) → shut_violations m x.point.addr (step_of domain terms m text x).gives ≡ [] → Ending terms m j (AgreeAt m) (step_of domain terms m text x).gives la lb → Ending terms m j (AtStub m n) (step_of domain terms m text x).gives la lb
      by la lb e (Stays y among ca da cb db at ea eb) =
          Stays y among ca da cb db (record { agree = at; entry = λ low. absurd (shut_far (word_number m y.point.addr) (not_shut m x.point.addr (step_of domain terms m text x).gives e y among) low) }) ea eb
      by la lb e (Left ca da cb db same out_a out_b ok_a ok_b agree ea eb) = Left ca da cb db same out_a out_b ok_a ok_b agree ea eb
      by la lb e (Shut same ea eb) = Shut same ea eb

  -- ---- an instruction among the words 10 to 16, to word k
  open_crossing : (insn : Insn) (gives : List PointState) (ws ca da cb db : List ℕ) (k : ℕ) (q : Parts terms key m text caller shape domain proper insn gives ws ca da cb db) →
      reg (confined true ca (does_freely insn ca q.values_a).core) 0 ≡ t0 + 2 * k → holds m.text (t0 + 2 * k) ≡ true →
      HasEntry n (k == 17) k (confined true ca (does_freely insn ca q.values_a).core) (confined true cb (does_freely insn cb q.values_b).core) → Crossing terms m j (AtStub m n) gives (at_rest ca da) (at_rest cb db)
  open_crossing insn gives ws ca da cb db k q pc inn next =
      record {
        cycles = suc q.rest;
        some = omega arith;
        to_a = at_rest _ q.left_a;
        to_b = at_rest _ q.left_b;
        pass_a = does_it j ca da _ q.left_a insn q.rest false q.doing_a q.so_a;
        pass_b = does_it j cb db _ q.left_b insn q.rest false q.doing_b q.so_b;
        ending = by _ _ pc next (landing_of terms m _ _ _ _ _ q.landing);
      }
    where
      by : (ca' cb' : List ℕ) → reg ca' 0 ≡ t0 + 2 * k → HasEntry n (k == 17) k ca' cb' → Landing terms m gives ca' q.left_a cb' q.left_b → Ending terms m j (AtStub m n) gives (at_rest ca' q.left_a) (at_rest cb' q.left_b)
      by ca' cb' pc next (In y among at) =
          let e : word_number m y.point.addr ≡ k = ap (word_number m) (sym at.pc_a ∙ pc) ∙ word_at_place k in
          Stays y among ca' q.left_a cb' q.left_b
          (record { agree = at; entry = λ low. subst (λ k. HasEntry n (k == 17) k ca' cb') (sym e) next }) refl refl
      by ca' cb' pc next (Out same o out_b p q agree) = absurd (both_ways (holds m.text (reg ca' 0)) o (ap (λ a. holds m.text a) pc ∙ inn))

  step_is : (x : PointState) (insn : Insn) → met m.text text x.point.addr ≡ Some insn → step_of domain terms m text x ≡ step_insn domain terms m text (Some insn) x
  step_is x insn e = ap (λ o. step_insn domain terms m text o x) e

  -- what the four instructions do to PC and R6
  moved_out : (r a pc : ℕ) (c vs : List ℕ) → reg c 0 ≡ pc → pc % 2 ≡ 0 → pc + 4 < 65536 → length c ≡ 16 →
      (reg (confined true c (does_freely (Two Mov Word (Reg r) (Absolute a)) c vs).core) 0 ≡ pc + 4) × (reg (confined true c (does_freely (Two Mov Word (Reg r) (Absolute a)) c vs).core) 6 ≡ reg c 6)
  unfolding does_freely
  moved_out r a pc c vs e ev small long =
      let insn = Two Mov Word (Reg r) (Absolute a) in (
        conf_reg c (put (past insn c) 2 (reg (past insn c) 2)) 0 (λ e. absurd (omega arith)) ∙ put_other_reg (past insn c) 2 (reg (past insn c) 2) 0 (λ e. absurd (omega arith)) ∙ past_pc_of insn 2 pc c refl e ev small long,
        conf_reg c (put (past insn c) 2 (reg (past insn c) 2)) 6 (λ e. absurd (omega arith)) ∙ put_other_reg (past insn c) 2 (reg (past insn c) 2) 6 (λ e. absurd (omega arith)) ∙ put_other_reg c 0 (add16 (reg c 0) (2 * length_of insn)) 6 (λ e. absurd (omega arith)),
      )

  moved_in : (a pc : ℕ) (c vs : List ℕ) → reg c 0 ≡ pc → pc % 2 ≡ 0 → pc + 4 < 65536 → length c ≡ 16 →
      (reg (confined true c (does_freely (Two Mov Word (Imm a) (Reg 1)) c vs).core) 0 ≡ pc + 4) × (reg (confined true c (does_freely (Two Mov Word (Imm a) (Reg 1)) c vs).core) 6 ≡ reg c 6)
  unfolding does_freely
  moved_in a pc c vs e ev small long =
      let insn = Two Mov Word (Imm a) (Reg 1) in
      let c2 = put (past insn c) 2 (reg (past insn c) 2) in (
        conf_reg c (put c2 1 (a % 65536)) 0 (λ e. absurd (omega arith)) ∙ put_other_reg c2 1 (a % 65536) 0 (λ e. absurd (omega arith)) ∙ put_other_reg (past insn c) 2 (reg (past insn c) 2) 0 (λ e. absurd (omega arith)) ∙ past_pc_of insn 2 pc c refl e ev small long,
        conf_reg c (put c2 1 (a % 65536)) 6 (λ e. absurd (omega arith)) ∙ put_other_reg c2 1 (a % 65536) 6 (λ e. absurd (omega arith)) ∙ put_other_reg (past insn c) 2 (reg (past insn c) 2) 6 (λ e. absurd (omega arith)) ∙ put_other_reg c 0 (add16 (reg c 0) (2 * length_of insn)) 6 (λ e. absurd (omega arith)),
      )

  doubled : (pc : ℕ) (c vs : List ℕ) → reg c 0 ≡ pc → pc % 2 ≡ 0 → pc + 2 < 65536 → length c ≡ 16 → reg c 6 < 64 →
      (reg (confined true c (does_freely (Two Add Word (Reg 6) (Reg 6)) c vs).core) 0 ≡ pc + 2) × (reg (confined true c (does_freely (Two Add Word (Reg 6) (Reg 6)) c vs).core) 6 ≡ 2 * reg c 6)
  unfolding does_freely
  doubled pc c vs e ev small long few =
      let insn = Two Add Word (Reg 6) (Reg 6) in
      let c1 = past insn c in
      let r1 : reg c1 6 ≡ reg c 6 = put_other_reg c 0 (add16 (reg c 0) (2 * length_of insn)) 6 (λ e. absurd (omega arith)) in
      let res = two_result Add Word (low Word (reg c1 6)) (low Word (reg c1 6)) (bit 1 (reg c 2)) in
      let c2 = set_flags res c1 in
      let len2 : length c2 ≡ 16 = length-set c1 2 _ ∙ length-set c 0 _ ∙ long in (
        conf_reg c (put c2 6 (value_of res)) 0 (λ e. absurd (omega arith)) ∙ put_other_reg c2 6 (value_of res) 0 (λ e. absurd (omega arith)) ∙ put_other_reg c1 2 (with_flags res (reg c1 2)) 0 (λ e. absurd (omega arith)) ∙ past_pc_of insn 1 pc c refl e ev small long,
        conf_reg c (put c2 6 (value_of res)) 6 (λ e. absurd (omega arith)) ∙ get_or-set_same c2 6 (kept 6 (value_of res)) 0 (subst (λ i. 6 < i) (sym len2) (omega arith)) ∙ ap (λ r. kept 6 (low Word (low Word (low Word r) + low Word (low Word r) + 0))) r1 ∙ twice (reg c 6) few,
      )
    where
      twice : (r : ℕ) → r < 64 → kept 6 (low Word (low Word (low Word r) + low Word (low Word r) + 0)) ≡ 2 * r
      twice r h = omega arith

  -- a word of the stub, and an instruction that begins there
  stub_word : (k w : ℕ) → k < 38 → nth k (stub_front t0 m.text.end m.ram.start n p) 0 ≡ w → word_at (text_byte m.text text) (t0 + 2 * k) ≡ w
  stub_word k w lt e = facts.words k lt ∙ e

  high_bits : (k : ℕ) → k < 38 → t0 + 2 * k < 65536
  high_bits k lt = let r = facts.room in let o = shape.text_order in let h = shape.text_high in omega arith

  even_place : (k : ℕ) → (t0 + 2 * k) % 2 ≡ 0
  even_place k = let s0 = shape.text_start in omega arith

  in_place : (k : ℕ) → k < 38 → holds m.text (t0 + 2 * k) ≡ true
  in_place k lt = text_in (t0 + 2 * k) (omega arith) (omega arith)

  pub met_10 : met m.text text (t0 + 20) ≡ Some (Two Mov Word (Reg 1) (Absolute m.ram.start))
  unfolding insn_of
  met_10 = met_two m text (t0 + 20) 0x4182 m.ram.start (Two Mov Word (Reg 1) (Absolute 0)) _ (stub_word 10 0x4182 (omega arith) refl) (next_word 20 10) refl refl (text_in (t0 + 20 + 2) (omega arith) (omega arith)) refl
    where
      next_word : (a k : ℕ) → word_at (text_byte m.text text) (t0 + 20 + 2) ≡ m.ram.start
      next_word a k = ap (λ i. word_at (text_byte m.text text) i) (let e : t0 + 20 + 2 ≡ t0 + 22 = omega arith in e) ∙ stub_word 11 m.ram.start (omega arith) refl

  pub met_12 : met m.text text (t0 + 24) ≡ Some (Two Mov Word (Reg 7) (Absolute (m.ram.start + 2)))
  unfolding insn_of
  met_12 = met_two m text (t0 + 24) 0x4782 (m.ram.start + 2) (Two Mov Word (Reg 7) (Absolute 0)) _ (stub_word 12 0x4782 (omega arith) refl) next_word refl refl (text_in (t0 + 24 + 2) (omega arith) (omega arith)) refl
    where
      next_word : word_at (text_byte m.text text) (t0 + 24 + 2) ≡ m.ram.start + 2
      next_word = ap (λ i. word_at (text_byte m.text text) i) (let e : t0 + 24 + 2 ≡ t0 + 26 = omega arith in e) ∙ stub_word 13 (m.ram.start + 2) (omega arith) refl

  pub met_14 : met m.text text (t0 + 28) ≡ Some (Two Mov Word (Imm p) (Reg 1))
  unfolding insn_of
  met_14 = met_two m text (t0 + 28) 0x4031 p (Two Mov Word (Imm 0) (Reg 1)) _ (stub_word 14 0x4031 (omega arith) refl) next_word refl refl (text_in (t0 + 28 + 2) (omega arith) (omega arith)) refl
    where
      next_word : word_at (text_byte m.text text) (t0 + 28 + 2) ≡ p
      next_word = ap (λ i. word_at (text_byte m.text text) i) (let e : t0 + 28 + 2 ≡ t0 + 30 = omega arith in e) ∙ stub_word 15 p (omega arith) refl

  pub met_16 : met m.text text (t0 + 32) ≡ Some (Two Add Word (Reg 6) (Reg 6))
  unfolding insn_of
  met_16 = met_one m text (t0 + 32) 0x5606 _ (stub_word 16 0x5606 (omega arith) refl) refl refl

  pub met_17 : met m.text text (t0 + 34) ≡ Some (call_entry m)
  unfolding insn_of
  met_17 = met_two m text (t0 + 34) 0x1296 (t0 + 76) (One Call Word (Indexed 6 0)) _ (stub_word 17 0x1296 (omega arith) refl) next_word refl refl (text_in (t0 + 34 + 2) (omega arith) (omega arith)) refl
    where
      next_word : word_at (text_byte m.text text) (t0 + 34 + 2) ≡ t0 + 76
      next_word = ap (λ i. word_at (text_byte m.text text) i) (let e : t0 + 34 + 2 ≡ t0 + 36 = omega arith in e) ∙ stub_word 18 (t0 + 76) (omega arith) refl

  -- each of the four
  module _ (x : PointState) (ca da cb db : List ℕ) (at : AgreeAt m x ca da cb db) (few : reg ca 6 < n) (equal : reg ca 6 ≡ reg cb 6) (none : (step_of domain terms m text x).violations ≡ []) where
    abbrev Crosses : Type 0
    Crosses = Crossing terms m j (AtStub m n) (step_of domain terms m text x).gives (at_rest ca da) (at_rest cb db)

    by_parts : (insn : Insn) (k k' : ℕ) → x.point.addr ≡ t0 + 2 * k → k < 38 → k' < 38 → met m.text text (t0 + 2 * k) ≡ Some insn → step_insn domain terms m text (Some insn) x ≡ step_plain domain terms m text insn x → Does_alike terms key m text caller shape domain proper insn →
        ((c vs : List ℕ) → reg c 0 ≡ t0 + 2 * k → length c ≡ 16 → reg c 6 < n → reg (confined true c (does_freely insn c vs).core) 0 ≡ t0 + 2 * k') →
        ((vs ws : List ℕ) → HasEntry n (k' == 17) k' (confined true ca (does_freely insn ca vs).core) (confined true cb (does_freely insn cb ws).core)) → Crosses
    by_parts insn k k' here lt lt' met_it plain alike pc next =
        let met_x : met m.text text x.point.addr ≡ Some insn = ap (λ a. met m.text text a) here ∙ met_it in
        let e : step_of domain terms m text x ≡ step_plain domain terms m text insn x = step_is x insn met_x ∙ plain in
        let q = plain_parts terms key m text caller shape domain proper insn alike x ca da cb db at met_x (ap (λ s. s.violations) (sym e) ∙ none) in
        subst (λ s. Crossing terms m j (AtStub m n) s.gives (at_rest ca da) (at_rest cb db)) (sym e)
        (open_crossing insn (step_plain domain terms m text insn x).gives _ ca da cb db k' q (pc ca q.values_a (at.pc_a ∙ here) at.core.long_a few) (in_place k' lt') (next q.values_a q.values_b))

    sixes : (k' : ℕ) (ca' cb' : List ℕ) → IsOpen k' → reg ca' 6 ≡ reg ca 6 → reg cb' 6 ≡ reg cb 6 → HasEntry n false k' ca' cb'
    sixes k' ca' cb' is ea eb = (is, subst (λ i. i < n) (sym ea) few, ea ∙ equal ∙ sym eb)

    at_10 : x.point.addr ≡ t0 + 2 * 10 → Crosses
    at_10 here =
        by_parts (Two Mov Word (Reg 1) (Absolute m.ram.start)) 10 12 here (omega arith) (omega arith) met_10 refl (two_alike terms key m text caller shape domain proper Mov Word (Reg 1) (Absolute m.ram.start) tt)
        (λ c vs e long few. (moved_out 1 m.ram.start (t0 + 20) c vs e (even_place 10) (omega (arith, high_bits 12)) long).0 ∙ (let e : t0 + 20 + 4 ≡ t0 + 24 = omega arith in e))
        (λ vs ws. sixes 12 (next_core (Two Mov Word (Reg 1) (Absolute m.ram.start)) ca vs) (next_core (Two Mov Word (Reg 1) (Absolute m.ram.start)) cb ws) (inr (inl refl)) (moved_out 1 m.ram.start (t0 + 20) ca vs (at.pc_a ∙ here) (even_place 10) (omega (arith, high_bits 12)) at.core.long_a).1 (moved_out 1 m.ram.start (t0 + 20) cb ws (at.pc_b ∙ here) (even_place 10) (omega (arith, high_bits 12)) at.core.long_b).1)

    at_12 : x.point.addr ≡ t0 + 2 * 12 → Crosses
    at_12 here =
        by_parts (Two Mov Word (Reg 7) (Absolute (m.ram.start + 2))) 12 14 here (omega arith) (omega arith) met_12 refl (two_alike terms key m text caller shape domain proper Mov Word (Reg 7) (Absolute (m.ram.start + 2)) tt)
        (λ c vs e long few. (moved_out 7 (m.ram.start + 2) (t0 + 24) c vs e (even_place 12) (omega (arith, high_bits 14)) long).0 ∙ (let e : t0 + 24 + 4 ≡ t0 + 28 = omega arith in e))
        (λ vs ws. sixes 14 (next_core (Two Mov Word (Reg 7) (Absolute (m.ram.start + 2))) ca vs) (next_core (Two Mov Word (Reg 7) (Absolute (m.ram.start + 2))) cb ws) (inr (inr (inl refl))) (moved_out 7 (m.ram.start + 2) (t0 + 24) ca vs (at.pc_a ∙ here) (even_place 12) (omega (arith, high_bits 14)) at.core.long_a).1 (moved_out 7 (m.ram.start + 2) (t0 + 24) cb ws (at.pc_b ∙ here) (even_place 12) (omega (arith, high_bits 14)) at.core.long_b).1)

    at_14 : x.point.addr ≡ t0 + 2 * 14 → Crosses
    at_14 here =
        by_parts (Two Mov Word (Imm p) (Reg 1)) 14 16 here (omega arith) (omega arith) met_14 refl (two_alike terms key m text caller shape domain proper Mov Word (Imm p) (Reg 1) tt)
        (λ c vs e long few. (moved_in p (t0 + 28) c vs e (even_place 14) (omega (arith, high_bits 16)) long).0 ∙ (let e : t0 + 28 + 4 ≡ t0 + 32 = omega arith in e))
        (λ vs ws. sixes 16 (next_core (Two Mov Word (Imm p) (Reg 1)) ca vs) (next_core (Two Mov Word (Imm p) (Reg 1)) cb ws) (inr (inr (inr refl))) (moved_in p (t0 + 28) ca vs (at.pc_a ∙ here) (even_place 14) (omega (arith, high_bits 16)) at.core.long_a).1 (moved_in p (t0 + 28) cb ws (at.pc_b ∙ here) (even_place 14) (omega (arith, high_bits 16)) at.core.long_b).1)

    at_16 : x.point.addr ≡ t0 + 2 * 16 → Crosses
    at_16 here =
        let f = facts.few in
        by_parts (Two Add Word (Reg 6) (Reg 6)) 16 17 here (omega arith) (omega arith) met_16 refl (two_alike terms key m text caller shape domain proper Add Word (Reg 6) (Reg 6) tt)
        (λ c vs e long few. (doubled (t0 + 32) c vs e (even_place 16) (omega (arith, high_bits 17)) long (omega arith)).0 ∙ (let e : t0 + 32 + 2 ≡ t0 + 34 = omega arith in e))
        (λ vs ws. (
          reg ca 6,
          few,
          (doubled (t0 + 32) ca vs (at.pc_a ∙ here) (even_place 16) (omega (arith, high_bits 17)) at.core.long_a (omega arith)).1,
          (doubled (t0 + 32) cb ws (at.pc_b ∙ here) (even_place 16) (omega (arith, high_bits 17)) at.core.long_b (subst (λ i. i < 64) equal (omega arith))).1 ∙ ap (λ i. 2 * i) (sym equal),
        ))

  -- ---- word 17
  -- where the call goes, and what it leaves
  abbrev entry_place : List ℕ → ℕ
  entry_place c = add16 (reg (past (call_entry m) c) 6) (t0 + 76)

  abbrev pushes_at : List ℕ → ℕ
  pushes_at c = reg (lowered (past (call_entry m) c)) 1

  abbrev push_access : ℕ → Access
  push_access a = record { kind = Write; addr = a; width = Word }

  abbrev entered : List ℕ → ℕ → List ℕ
  entered c v = confined true c (put (lowered (past (call_entry m) c)) 0 v)

  -- the address that the table has there
  abbrev entry_word : List ℕ → List ℕ → ℕ
  entry_word c d = low Word (word_at (lone_byte j d) (entry_place c))

  call_so : (c d : List ℕ) → lone_does j (call_entry m) (at_rest c d) ≡
      after (entered c (entry_word c d)) (lone_writes m d (push_access (pushes_at c) ∷ []) (reg (past (call_entry m) c) 0 ∷ [])) 4 false
  unfolding lone_does asks effect does does_freely plan cycles_of
  call_so c d = refl

  call_inside : (c : List ℕ) → holds m.text (entry_place c) ≡ true → entry_place c % 2 ≡ 0 → holds m.ram (pushes_at c) ≡ true → pushes_at c % 2 ≡ 0 → all_inside j (asks (lone_who j) (call_entry m) c) ≡ true
  unfolding asks plan
  call_inside c0 h ev h' ev' = by (holds m.text (entry_place c0)) (entry_place c0 % 2 == 1) (holds m.ram (pushes_at c0)) (pushes_at c0 % 2 == 1) h (odd (entry_place c0) ev) h' (odd (pushes_at c0) ev')
    where
      odd : (x : ℕ) → x % 2 ≡ 0 → (x % 2 == 1) ≡ false
      odd x e = ap (λ i. i == 1) e

      by : (a b c d : Bool) → a ≡ true → b ≡ false → c ≡ true → d ≡ false → ((not b && (a || holds m.ram (entry_place c0))) && ((not d && c) && true)) ≡ true
      by true false true false p q r s = refl
      by _ _ _ _ p q r s = absurd cc

  abbrev entry_point : ℕ → List ℕ → List Val → List Val → PointState
  entry_point i call_string core words =
      let a = text_word m text (38 + i) in
      record { point = record { addr = a; call_string = call_string }; state = record { core = put_val core 0 (Known a); words = words } }

  entry_among : (k i : ℕ) (call_string : List ℕ) (core words : List Val) → i < k → Among (entry_point i call_string core words) (to_entries m text k call_string core words)
  entry_among zero i call_string core words lt = absurd (omega arith)
  entry_among (suc k) i call_string core words lt = by (cases_lt i k) (λ l. entry_among k i call_string core words l)
    where
      by : (i < k) ⊎ (k ≤ i) → (i < k → Among (entry_point i call_string core words) (to_entries m text k call_string core words)) → Among (entry_point i call_string core words) (to_entries m text (suc k) call_string core words)
      by (inl l) go = inr (go l)
      by (inr ge) go = let e : i ≡ k = omega arith in inl (ap (λ i. entry_point i call_string core words) e)

  far_from : (a : ℕ) → t0 + 76 + 2 * n ≤ a → word_number m a ≤ 18 → ⊥
  far_from a past low = omega arith

  module _ (x : PointState) (ca da cb db : List ℕ) (at : AgreeAt m x ca da cb db) (here : x.point.addr ≡ t0 + 34) (i : ℕ) (lt : i < n) (six_a : reg ca 6 ≡ 2 * i) (six_b : reg cb 6 ≡ 2 * i) (none : (step_entries m text x).violations ≡ []) where
    abbrev core_val : List Val
    core_val = lowered_val (past_val (call_entry m) x.point.addr x.state.core)

    abbrev push : Reach
    push = record { kind = Write; addr = val core_val 1; width = Word }

    abbrev turned : ReturnTurn
    turned = calls x.point.addr x.point.call_string (x.point.addr + 4)

    abbrev goal_of : ℕ
    goal_of = text_word m text (38 + i)

    lowered_both : AgreeCore m.text core_val (lowered (past (call_entry m) ca)) (lowered (past (call_entry m) cb))
    lowered_both =
        lowered_agrees m.text (even terms key m text caller shape domain proper) (past_val (call_entry m) x.point.addr x.state.core) (past (call_entry m) ca) (past (call_entry m) cb)
        (past_agrees m.text (even terms key m text caller shape domain proper) (call_entry m) x.point.addr x.state.core ca cb at.pc_a at.pc_b at.core)

    pushed : Fixed m (push ∷ []) (push_access (pushes_at ca) ∷ []) × ((push_access (pushes_at cb) ∷ []) ≡ (push_access (pushes_at ca) ∷ []))
    pushed =
        fixed m x.point.addr (push ∷ []) (push_access (pushes_at ca) ∷ []) (push_access (pushes_at cb) ∷ [])
        (record { kind_a = refl; kind_b = refl; width_a = refl; width_b = refl; addr = lowered_both.at 1 (λ e. absurd (omega arith)) }, tt)
        (none_left (reach_violations m x.point.addr (push ∷ [])) turned.violations none)

    same_push : pushes_at cb ≡ pushes_at ca
    same_push = ap head_addr pushed.1

    place_is : (c : List ℕ) → reg c 6 ≡ 2 * i → entry_place c ≡ t0 + 2 * (38 + i)
    place_is c six =
        ap (λ r. add16 r (t0 + 76)) (put_other_reg c 0 (add16 (reg c 0) (2 * length_of (call_entry m))) 6 (λ e. absurd (omega arith)) ∙ six) ∙ sum
      where
        sum : add16 (2 * i) (t0 + 76) ≡ t0 + 2 * (38 + i)
        sum = let r = facts.room in let o = shape.text_order in let h = shape.text_high in omega arith

    in_table : holds m.text (t0 + 2 * (38 + i)) ≡ true
    in_table = let r = facts.room in let o = shape.text_order in inside (t0 + 2 * (38 + i)) (omega arith) (omega arith)

    value_is : (c d : List ℕ) → reg c 6 ≡ 2 * i → entry_word c d ≡ goal_of
    value_is c d six =
        ap (λ a. low Word (word_at (lone_byte j d) a)) (place_is c six)
        ∙ ap (low Word) (word_text key m text caller shape d (t0 + 2 * (38 + i)) (even_place (38 + i)) in_table)
        ∙ whole goal_of (facts.table i lt).2
      where
        whole : (g : ℕ) → g < m.text.end → low Word g ≡ g
        whole g l = let h = shape.text_high in omega arith

    goal_even : goal_of % 2 ≡ 0
    goal_even = (facts.table i lt).0

    goal_in : holds m.text goal_of ≡ true
    goal_in = let h1 = (facts.table i lt).1 in let h2 = (facts.table i lt).2 in inside goal_of (omega arith) h2

    core_both : AgreeCore m.text (put_val core_val 0 (Known goal_of)) (entered ca (entry_word ca da)) (entered cb (entry_word cb db))
    core_both =
        let h3 = put_agrees m.text (even terms key m text caller shape domain proper) core_val (lowered (past (call_entry m) ca)) (lowered (past (call_entry m) cb)) 0 (Known goal_of) (entry_word ca da) (entry_word cb db)
        (λ e. absurd (omega arith)) lowered_both (value_is ca da six_a, value_is cb db six_b) in
        confined_agrees m.text (even terms key m text caller shape domain proper) (put_val core_val 0 (Known goal_of)) ca cb _ _ at.core.mode_same
        (ends_so m.text (even terms key m text caller shape domain proper) _ _ _ _ _ h3 (sr_kept ca (entry_word ca da)) (sr_kept cb (entry_word cb db)))
      where
        sr_kept : (c : List ℕ) (v : ℕ) → reg (put (lowered (past (call_entry m) c)) 0 v) 2 ≡ reg c 2
        sr_kept c v =
            put_other_reg (lowered (past (call_entry m) c)) 0 v 2 (λ e. absurd (omega arith)) ∙ put_other_reg (past (call_entry m) c) 1 (add16 (reg (past (call_entry m) c) 1) 65534) 2 (λ e. absurd (omega arith))
            ∙ put_other_reg c 0 (add16 (reg c 0) (2 * length_of (call_entry m))) 2 (λ e. absurd (omega arith))

    returned : (c : List ℕ) → reg c 0 ≡ x.point.addr → length c ≡ 16 → reg (past (call_entry m) c) 0 ≡ x.point.addr + 4
    returned c e long =
        past_pc_of (call_entry m) 2 x.point.addr c refl e (ap (λ a. a % 2) here ∙ even_place 17) (subst (λ a. a + 4 < 65536) (sym here) (omega (arith, high_bits 19))) long

    words_both : AgreeData m (writes_val m x.state.words (push ∷ []) (Known (x.point.addr + 4) ∷ [])) (lone_writes m da (push_access (pushes_at ca) ∷ []) (reg (past (call_entry m) ca) 0 ∷ [])) (lone_writes m db (push_access (pushes_at ca) ∷ []) (reg (past (call_entry m) cb) 0 ∷ []))
    words_both =
        writes_agree m shape x.state.words da db (push ∷ []) (push_access (pushes_at ca) ∷ []) (Known (x.point.addr + 4) ∷ []) (reg (past (call_entry m) ca) 0 ∷ []) (reg (past (call_entry m) cb) 0 ∷ []) at.words pushed.0
        ((returned ca at.pc_a at.core.long_a, returned cb at.pc_b at.core.long_b), tt)

    push_fine : (holds m.ram (pushes_at ca) ≡ true) × (pushes_at ca % 2 ≡ 0)
    push_fine = by (pushes_at ca % 2 == 1) (holds m.ram (pushes_at ca)) refl refl pushed.0.3
      where
        by : (a b : Bool) → (pushes_at ca % 2 == 1) ≡ a → holds m.ram (pushes_at ca) ≡ b → (not a && b) ≡ true → (holds m.ram (pushes_at ca) ≡ true) × (pushes_at ca % 2 ≡ 0)
        by false true p q e = (q, not_odd (pushes_at ca) p)
          where
            not_odd : (a : ℕ) → (a % 2 == 1) ≡ false → a % 2 ≡ 0
            not_odd a e = let k : a % 2 ≢ 1 = grind (arith, nat_tests) in omega arith
        by false false p q e = absurd cc
        by true b p q e = absurd cc

    calls_entry : (c d : List ℕ) → reg c 0 ≡ x.point.addr → reg c 6 ≡ 2 * i → pushes_at c ≡ pushes_at ca → doing j (at_rest c d) ≡ Does (call_entry m)
    calls_entry c d e six same =
        fetched terms key m text caller shape domain proper c d (call_entry m) (ap (λ a. a % 2) (e ∙ here) ∙ even_place 17) (ap (λ a. holds m.text a) (e ∙ here) ∙ in_place 17 (omega arith)) (ap (λ a. met m.text text a) (e ∙ here) ∙ met_17) refl
        (call_inside c (ap (λ a. holds m.text a) (place_is c six) ∙ in_table) (ap (λ a. a % 2) (place_is c six) ∙ even_place (38 + i)) (ap (λ a. holds m.ram a) same ∙ push_fine.0) (ap (λ a. a % 2) same ∙ push_fine.1))

    entry_crossing : Crossing terms m j (AtStub m n) (step_entries m text x).gives (at_rest ca da) (at_rest cb db)
    entry_crossing =
        let va = entry_word ca da in
        let vb = entry_word cb db in
        let da' = lone_writes m da (push_access (pushes_at ca) ∷ []) (reg (past (call_entry m) ca) 0 ∷ []) in
        let db' = lone_writes m db (push_access (pushes_at ca) ∷ []) (reg (past (call_entry m) cb) 0 ∷ []) in
        let words = writes_val m x.state.words (push ∷ []) (Known (x.point.addr + 4) ∷ []) in
        let count : entries_of m text ≡ n = facts.words 8 (omega arith) in
        let low = (facts.table i lt).1 in
        record {
          cycles = 5;
          some = omega arith;
          to_a = at_rest (entered ca va) da';
          to_b = at_rest (entered cb vb) db';
          pass_a = does_it j ca da (entered ca va) da' (call_entry m) 4 false (calls_entry ca da at.pc_a six_a refl) (call_so ca da);
          pass_b = does_it j cb db (entered cb vb) db' (call_entry m) 4 false (calls_entry cb db at.pc_b six_b same_push) (call_so cb db ∙ ap (λ a. after (entered cb vb) (lone_writes m db (push_access a ∷ []) (reg (past (call_entry m) cb) 0 ∷ [])) 4 false) same_push);
          ending = Stays (entry_point i turned.call_string core_val words) (subst (λ k. Among (entry_point i turned.call_string core_val words) (to_entries m text k turned.call_string core_val words)) (sym count) (entry_among n i turned.call_string core_val words lt))
              (entered ca va) da' (entered cb vb) db'
              (record {
                agree = record { pc_a = pc_is ca va (value_is ca da six_a) at.core.long_a; pc_b = pc_is cb vb (value_is cb db six_b) at.core.long_b; core = core_both; words = words_both; in_text = goal_in };
                entry = λ f. absurd (far_from goal_of low f);
              }) refl refl;
        }
      where
        pc_is : (c : List ℕ) (v : ℕ) → v ≡ goal_of → length c ≡ 16 → reg (entered c v) 0 ≡ goal_of
        pc_is c v e long =
            let len : length (lowered (past (call_entry m) c)) ≡ 16 = length-set (past (call_entry m) c) 1 _ ∙ length-set c 0 _ ∙ long in
            conf_reg c (put (lowered (past (call_entry m) c)) 0 v) 0 (λ e. absurd (omega arith)) ∙ get_or-set_same (lowered (past (call_entry m) c)) 0 (kept 0 v) 0 (subst (λ i. 0 < i) (sym len) (omega arith)) ∙ ap (kept 0) e ∙ stays goal_of goal_even (small (facts.table i lt).2)
          where
            stays : (g : ℕ) → g % 2 ≡ 0 → g < 65536 → kept 0 g ≡ g
            stays g ev lt = omega arith

            small : goal_of < m.text.end → goal_of < 65536
            small l = let h = shape.text_high in omega arith

  -- ---- every step
  pub stub_crossing : (x : PointState) (ca da cb db : List ℕ) → AtStub m n x ca da cb db → (step_stub domain terms m text x).violations ≡ [] → Crossing terms m j (AtStub m n) (step_stub domain terms m text x).gives (at_rest ca da) (at_rest cb db)
  stub_crossing x ca da cb db at none = by (word_number m x.point.addr == 17) (is_open (word_number m x.point.addr)) refl refl at.entry none
    where
      place : (k : ℕ) → word_number m x.point.addr ≡ k → x.point.addr ≡ t0 + 2 * k
      place k e = place_of_word m x.point.addr k shape.text_start e (even_at m x ca da cb db at.agree) at.agree.in_text

      opened : IsOpen (word_number m x.point.addr) → reg ca 6 < n → reg ca 6 ≡ reg cb 6 → (step_of domain terms m text x).violations ≡ [] → Crossing terms m j (AtStub m n) (step_of domain terms m text x).gives (at_rest ca da) (at_rest cb db)
      opened (inl e) few equal none = at_10 x ca da cb db at.agree few equal none (place 10 e)
      opened (inr (inl e)) few equal none = at_12 x ca da cb db at.agree few equal none (place 12 e)
      opened (inr (inr (inl e))) few equal none = at_14 x ca da cb db at.agree few equal none (place 14 e)
      opened (inr (inr (inr e))) few equal none = at_16 x ca da cb db at.agree few equal none (place 16 e)

      by : (a b : Bool) → (word_number m x.point.addr == 17) ≡ a → is_open (word_number m x.point.addr) ≡ b → (word_number m x.point.addr ≤ 18 → HasEntry n a (word_number m x.point.addr) ca cb) →
          (cond a (step_entries m text x) (shut_if b m x.point.addr (step_of domain terms m text x))).violations ≡ [] → Crossing terms m j (AtStub m n) (cond a (step_entries m text x) (shut_if b m x.point.addr (step_of domain terms m text x))).gives (at_rest ca da) (at_rest cb db)
      by true b e f entry none =
          let k : word_number m x.point.addr ≡ 17 = eqb-true (word_number m x.point.addr) 17 e in
          let h = entry (omega (arith, k)) in
          entry_crossing x ca da cb db at.agree (place 17 k) h.0 h.1 h.2 h.3 none
      by false true e f entry none =
          let low = leb-true (word_number m x.point.addr) 16 (and_parts (nat_le 10 (word_number m x.point.addr)) (nat_le (word_number m x.point.addr) 16) f).1 in
          let h = entry (omega (arith, low)) in
          opened h.0 h.1 h.2 none
      by false false e f entry none = outside_crossing x ca da cb db at none
