-- One run along one arm.
use Rattle.std.proofs.Common.{◌≡◌, ◌≢◌, ℕ, zero, suc, ◌+◌, ◌*◌, ◌%◌, ◌<◌, ◌≤◌, List, [], ◌∷◌, ◌++◌, length, refl, sym, ap, ◌∙◌, subst, arith, Bool, true, false, cond, nat_lt, ◌==◌, ◌&&◌, Option, Some, None, get_or-set_same, length-set, ℤ}
use Rattle.std.proofs.lemmas.Bool.{eqb-true, ltb-true}
use Rattle.sm_words.specs.Words.{reg, put, kept, add16, nth}
use Rattle.insn_decode.specs.Code.{length_of, is_always, distance}
use Rattle.cycle_table.specs.Cycles.{cycles_of}
use Rattle.cpu_step.specs.Effect.{value_of, into_register, set_flags, written, with_flags, confined_sr, does_freely, confined, jumps}
use Rattle.cpu_step.specs.Plan.{stepped, lowered, writes_dst, plan, past}
use Rattle.cpu_step.specs.declared.result.Computed.{Computed}
use Rattle.sm_words.specs.declared.width.Width.{Width}
use Rattle.insn_decode.specs.declared.insn.TwoOp.{TwoOp}
use Rattle.insn_decode.specs.declared.insn.OneOp.{OneOp}
use Rattle.insn_decode.specs.declared.insn.OneOp.TheVariants.{Push, Call}
use Rattle.insn_decode.specs.declared.insn.Operand.{Operand}
use Rattle.insn_decode.specs.declared.insn.Operand.TheVariants.{Reg, Increment}
use Rattle.insn_decode.specs.declared.insn.Condition.{Condition}
use Rattle.insn_decode.specs.declared.insn.Insn.{Insn}
use Rattle.insn_decode.specs.declared.insn.Insn.TheVariants.{Two, One, Jump, Reti, Unit as UnitOp}
use Rattle.flow_rule.specs.Values.{FlagDomain}
use Rattle.flow_rule.proofs.FlagDomains.{SoundFlags}
use Rattle.mod_layout.specs.declared.Module.{Module}
use Rattle.mod_layout.specs.declared.Section.{Section}
use Rattle.mod_layout.specs.Table.{holds}
use Rattle.cpu_step.specs.Asked.{asks}
use Rattle.cpu_step.specs.Lone.{Job, Lone, lone_step, job_of}
use Rattle.flow_rule.specs.Terms.{Terms}
use Rattle.flow_rule.specs.declared.Val.{Val}
use Rattle.flow_rule.specs.declared.Val.TheVariants.{Known, Away, Public, Secret}
use Rattle.flow_rule.specs.Values.{flags_in, is_secret, val}
use Rattle.flow_rule.specs.Iterations.{PointState, RuleViolation, FlowStep}
use Rattle.flow_rule.specs.Does.{does_val, past_val}
use Rattle.flow_rule.specs.Going.{goes}
use Rattle.flow_rule.specs.Steps.{turns_by, step_plain, step_jump, step_insn, step_of}
use Rattle.flow_rule.proofs.Meaning.{Agrees}
use Rattle.flow_rule.proofs.Cores.{AgreeCore, put_other_reg, mode, confined_mode, confined_kept}
use Rattle.flow_rule.specs.Arms.{stepped_regs, written_reg, written_regs, Walk, Meets, Stops, walked, walk_on, walk}
use Rattle.arm_balance.specs.Met.{met}
use Rattle.arm_balance.specs.Balance.{arm_next}
use Rattle.flow_rule.proofs.Walks.{met_cycles, met_regs, met_words, MeetsJoin, time_to, walk_regs, walk_words, with_met, is_met, met_rest, if_always}
use Rattle.flow_laws.proofs.Words.{NotIn, word, Shape, IsData, AgreeData}
use Rattle.flow_laws.proofs.Runs.{at_rest, Passes}
use Rattle.flow_laws.proofs.Instruction.{always_jumps, AgreeAt, even_at, Single, Here, Gone, after, does_it, jump_so, Parts, plain_parts, two_alike, one_alike, way_single, way_val, fetched}
use Rattle.flow_laws.proofs.Decoding.{met_regular, two_cycles_some}
use Rattle.flow_laws.proofs.Open.{next_core, conf_reg}

not_left : (k : ℕ) (xs ys : List ℕ) → NotIn k (xs ++ ys) → NotIn k xs
not_left k [] ys h = tt
not_left k (x ∷ xs) ys h = (h.0, not_left k xs ys h.1)

not_right : (k : ℕ) (xs ys : List ℕ) → NotIn k (xs ++ ys) → NotIn k ys
not_right k [] ys h = h
not_right k (x ∷ xs) ys h = not_right k xs ys h.1

-- ---- registers that are not written
pub past_kept : (insn : Insn) (c : List ℕ) (k : ℕ) → k ≢ 0 → reg (past insn c) k ≡ reg c k
past_kept insn c k ne = put_other_reg c 0 (add16 (reg c 0) (2 * length_of insn)) k ne

stepped_kept : (w : Width) (o : Operand) (c : List ℕ) (k : ℕ) → NotIn k (stepped_regs o) → reg (stepped w o c) k ≡ reg c k
stepped_kept w (Increment r) c k h = put_other_reg c r _ k h.0
stepped_kept w _ c k h = refl

written_kept : (b : Bool) (d : Operand) (res : Computed) (c : List ℕ) (k : ℕ) → k ≢ 2 → NotIn k (written_reg b d) → reg (written b d res c).core k ≡ reg c k
written_kept true (Reg r) res c k ne h = by (r == 2)
  where
    by : (t : Bool) → reg (into_register t r res c) k ≡ reg c k
    by true = put_other_reg c 2 (value_of res) k ne
    by false = put_other_reg (set_flags res c) r (value_of res) k h.0 ∙ put_other_reg c 2 (with_flags res (reg c 2)) k ne
written_kept true _ res c k ne h = put_other_reg c 2 (with_flags res (reg c 2)) k ne
written_kept false _ res c k ne h = put_other_reg c 2 (with_flags res (reg c 2)) k ne

two_regs : (op : TwoOp) (w : Width) (s d : Operand) (c vs : List ℕ) (k : ℕ) → k ≢ 0 → k ≢ 2 → NotIn k (written_regs (Two op w s d)) → reg (next_core (Two op w s d) c vs) k ≡ reg c k
unfolding does_freely
two_regs op w s d c vs k n0 n2 h =
    let insn = Two op w s d in
    let c2 = stepped w s (past insn c) in
    conf_reg c (does_freely insn c vs).core k n2 ∙ written_kept (writes_dst op) d _ c2 k n2 (not_right k (stepped_regs s) (written_reg (writes_dst op) d) h)
    ∙ stepped_kept w s (past insn c) k (not_left k (stepped_regs s) (written_reg (writes_dst op) d) h) ∙ past_kept insn c k n0

one_regs : (op : OneOp) (w : Width) (a : Operand) (c vs : List ℕ) (k : ℕ) → k ≢ 0 → k ≢ 2 → op ≢ Call → NotIn k (written_regs (One op w a)) → reg (next_core (One op w a) c vs) k ≡ reg c k
unfolding does_freely
one_regs Push w a c vs k n0 n2 nc h =
    let insn = One Push w a in
    let c2 = stepped w a (past insn c) in
    conf_reg c (lowered c2) k n2 ∙ put_other_reg c2 1 _ k (not_right k (stepped_regs a) (1 ∷ []) h).0 ∙ stepped_kept w a (past insn c) k (not_left k (stepped_regs a) (1 ∷ []) h) ∙ past_kept insn c k n0
one_regs Call w a c vs k n0 n2 nc h = absurd (nc refl)
one_regs op w a c vs k n0 n2 nc h =
    let insn = One op w a in
    let c2 = stepped w a (past insn c) in
    conf_reg c (does_freely insn c vs).core k n2 ∙ written_kept true a _ c2 k n2 (not_right k (stepped_regs a) (written_reg true a) h)
    ∙ stepped_kept w a (past insn c) k (not_left k (stepped_regs a) (written_reg true a) h) ∙ past_kept insn c k n0

pub passes_on : (j : Job) (k i : ℕ) (l l' l2 : Lone) → Passes j k l l' → Passes j i l' l2 → Passes j (k + i) l l2
passes_on j zero i l l' l2 p q = let e : i ≡ zero + i = omega arith in subst (λ n. Passes j n l l2) e (subst (λ x. Passes j i x l2) (sym p) q)
passes_on j (suc k) i l l' l2 p q = let e : suc (k + i) ≡ suc k + i = omega arith in subst (λ n. Passes j n l l2) e (p.0, passes_on j k i (lone_step j l) l' l2 p.1 q)

-- where two runs agree, each agrees with itself
agree_each : (s : Section) (v : Val) (a b : ℕ) → Agrees s v a b → Agrees s v a a × Agrees s v b b
agree_each s (Known v) a b h = ((h.0, h.0), (h.1, h.1))
agree_each s Away a b h = ((refl, h.1, h.2), (refl, subst (λ i. i < 65536) h.0 h.1, ap (λ i. holds s i) (sym h.0) ∙ h.2))
agree_each s Public a b h = (refl, refl)
agree_each s Secret a b h = (tt, tt)

core_each : (s : Section) (v : List Val) (a b : List ℕ) → reg b 0 % 2 ≡ 0 → AgreeCore s v a b → AgreeCore s v a a × AgreeCore s v b b
core_each s v a b ev h =
    let each = λ (n : ℕ) (ne : n ≢ 2). agree_each s (val v n) (reg a n) (reg b n) (h.at n ne) in
    let flags = agree_each s (val v 2) (flags_in (reg a 2)) (flags_in (reg b 2)) h.flags in (
      record { short = h.short; long_a = h.long_a; long_b = h.long_a; at = λ n ne. (each n ne).0; flags = flags.0; mode_same = refl; nine_a = h.nine_a; nine_b = h.nine_a; even_pc = h.even_pc; zero_a = h.zero_a; zero_b = h.zero_a },
      record { short = h.short; long_a = h.long_b; long_b = h.long_b; at = λ n ne. (each n ne).1; flags = flags.1; mode_same = refl; nine_a = h.nine_b; nine_b = h.nine_b; even_pc = ev; zero_a = h.zero_b; zero_b = h.zero_b },
    )

pub at_each : (m : Module) (x : PointState) (ca da cb db : List ℕ) → AgreeAt m x ca da cb db → AgreeAt m x ca da ca da × AgreeAt m x cb db cb db
at_each m x ca da cb db h =
    let core = core_each m.text x.state.core ca cb (ap (λ i. i % 2) h.pc_b ∙ even_at m x ca da cb db h) h.core in
    let each = λ (i : ℕ). agree_each m.text (nth i x.state.words Secret) (word da i) (word db i) (h.words.at i) in (
      record { pc_a = h.pc_a; pc_b = h.pc_a; core = core.0; words = record { is_a = h.words.is_a; is_b = h.words.is_a; at = λ i. (each i).0 }; in_text = h.in_text },
      record { pc_a = h.pc_b; pc_b = h.pc_b; core = core.1; words = record { is_a = h.words.is_b; is_b = h.words.is_b; at = λ i. (each i).1 }; in_text = h.in_text },
    )

module _ (terms : Terms) (key : List ℕ) (m : Module) (text : List ℕ) (caller : ℕ) (shape : Shape m) (domain : FlagDomain) (proper : SoundFlags domain) where
  abbrev j : Job
  j = job_of key m text caller

  -- what one instruction of an arm leaves of one run
  record Moved (x : PointState) (gives : List PointState) (c d : List ℕ) (cycles : ℕ) (rs ws : List ℕ) : Type 0 where
    core : List ℕ
    data_left : List ℕ
    pass : Passes j cycles (at_rest c d) (at_rest core data_left)
    single : Single terms m gives core data_left core data_left
    regs : (k : ℕ) → k ≢ 0 → k ≢ 2 → NotIn k rs → reg core k ≡ reg c k
    words : (i : ℕ) → NotIn i ws → word data_left i ≡ word d i
    sr : mode (reg core 2) ≡ mode (reg c 2)

  single_self : (gives : List PointState) (ca da cb db : List ℕ) → Single terms m gives ca da cb db → Single terms m gives ca da ca da
  single_self gives ca da cb db (Here y one at) = Here y one (at_each m y ca da cb db at).0
  single_self gives ca da cb db (Gone nothing same out_a out_b p q agree) = Gone nothing refl out_a out_a p p (λ i d lt. refl)

  pub conf_mode : (c x : List ℕ) → length x ≡ 16 → mode (reg (confined true c x) 2) ≡ mode (reg c 2)
  unfolding confined
  conf_mode c x long =
      ap mode (get_or-set_same x 2 (kept 2 (confined_sr (reg c 2) (reg x 2))) 0 (subst (λ i. 2 < i) (sym long) (omega arith)) ∙ confined_kept (reg c 2) (reg x 2)) ∙ confined_mode (reg c 2) (reg x 2)

  conf_long : (c x : List ℕ) → length (confined true c x) ≡ length x
  unfolding confined
  conf_long c x = length-set x 2 _

  -- length and mode by the agreement that the instruction leaves
  by_parts : (insn : Insn) (x : PointState) (gives : List PointState) (c d : List ℕ) (rs ws : List ℕ) (q : Parts terms key m text caller shape domain proper insn gives ws c d c d) → 0 < cycles_of insn →
      length (next_core insn c q.values_a) ≡ 16 →
      ((k : ℕ) → k ≢ 0 → k ≢ 2 → NotIn k rs → reg (next_core insn c q.values_a) k ≡ reg c k) → Moved x gives c d (cycles_of insn) rs ws
  by_parts insn x gives c d rs ws q some long regs =
      let e : suc q.rest ≡ cycles_of insn = omega (arith, q.rest_is) in
      record {
        core = next_core insn c q.values_a;
        data_left = q.left_a;
        pass = subst (λ n. Passes j n (at_rest c d) (at_rest (next_core insn c q.values_a) q.left_a)) e (does_it j c d (next_core insn c q.values_a) q.left_a insn q.rest false q.doing_a q.so_a);
        single = single_self gives _ _ _ _ q.landing;
        regs = regs;
        words = q.kept_a;
        sr = conf_mode c (does_freely insn c q.values_a).core (sym (conf_long c (does_freely insn c q.values_a).core) ∙ long);
      }

  written_long : (b : Bool) (d : Operand) (res : Computed) (c : List ℕ) → length (written b d res c).core ≡ length c
  written_long true (Reg r) res c = by (r == 2)
    where
      by : (t : Bool) → length (into_register t r res c) ≡ length c
      by true = length-set c 2 _
      by false = length-set (set_flags res c) r _ ∙ length-set c 2 _
  written_long true _ res c = length-set c 2 _
  written_long false _ res c = length-set c 2 _

  stepped_long : (w : Width) (o : Operand) (c : List ℕ) → length (stepped w o c) ≡ length c
  stepped_long w (Increment r) c = length-set c r _
  stepped_long w _ c = refl

  two_long : (op : TwoOp) (w : Width) (s d : Operand) (c vs : List ℕ) → length c ≡ 16 → length (next_core (Two op w s d) c vs) ≡ 16
  unfolding does_freely
  two_long op w s d c vs long =
      let insn = Two op w s d in
      conf_long c (does_freely insn c vs).core ∙ written_long (writes_dst op) d _ (stepped w s (past insn c)) ∙ stepped_long w s (past insn c) ∙ length-set c 0 _ ∙ long

  one_long : (op : OneOp) (w : Width) (a : Operand) (c vs : List ℕ) → op ≢ Call → length c ≡ 16 → length (next_core (One op w a) c vs) ≡ 16
  unfolding does_freely
  one_long Push w a c vs nc long =
      let c2 = stepped w a (past (One Push w a) c) in
      conf_long c (lowered c2) ∙ length-set c2 1 _ ∙ stepped_long w a (past (One Push w a) c) ∙ length-set c 0 _ ∙ long
  one_long Call w a c vs nc long = absurd (nc refl)
  one_long op w a c vs nc long =
      let insn = One op w a in
      conf_long c (does_freely insn c vs).core ∙ written_long true a _ (stepped w a (past insn c)) ∙ stepped_long w a (past insn c) ∙ length-set c 0 _ ∙ long

  jump_move : (cn : Condition) (off : ℤ) (x : PointState) (c d : List ℕ) → AgreeAt m x c d c d → met m.text text x.point.addr ≡ Some (Jump cn off) → is_always cn ≡ true → (step_jump domain terms m text (Jump cn off) cn x).violations ≡ [] →
      Moved x (step_jump domain terms m text (Jump cn off) cn x).gives c d (cycles_of (Jump cn off)) [] (met_words (Some (Jump cn off)) m x)
  unfolding does_val cycles_of asks plan
  jump_move cn off x c d at e always none = by (is_always cn) always none
    where
      insn : Insn
      insn = Jump cn off

      goes_on : FlowStep
      goes_on = goes terms m x.point.addr x.point.call_string (way_val terms key m text caller shape domain proper cn off x c d c d at e true) x.state.words

      other : FlowStep
      other = turns_by (domain.known (val x.state.core 2)) (is_secret (val x.state.core 2)) x.point.addr cn goes_on (goes terms m x.point.addr x.point.call_string (past_val (Jump cn off) x.point.addr x.state.core) x.state.words)

      taken : jumps cn (reg c 2) ≡ true
      taken = always_jumps cn (reg c 2) always

      by : (t : Bool) → t ≡ true → (cond t goes_on other).violations ≡ [] → Moved x (cond t goes_on other).gives c d 2 [] (met_words (Some (Jump cn off)) m x)
      by false f none = absurd cc
      by true f none =
          let c1 = past (Jump cn off) c in
          let x1 = put c1 0 (add16 (reg c1 0) (distance off)) in
          let len : length x1 ≡ 16 = length-set c1 0 _ ∙ length-set c 0 _ ∙ at.core.long_a in
          record {
            core = confined true c x1;
            data_left = d;
            pass = does_it j c d (confined true c x1) d (Jump cn off) 1 false
                (fetched terms key m text caller shape domain proper c d (Jump cn off) at.core.even_pc (ap (λ a. holds m.text a) at.pc_a ∙ at.in_text) (ap (λ a. met m.text text a) at.pc_a ∙ e) refl refl)
                (jump_so terms key m text caller shape domain proper cn off c d ∙ ap (λ t. after (confined true c (cond t x1 c1)) d 1 false) taken);
            single = way_single terms key m text caller shape domain proper cn off x c d c d at e true none;
            regs = λ k n0 n2 no. conf_reg c x1 k n2 ∙ put_other_reg c1 0 (add16 (reg c1 0) (distance off)) k n0 ∙ past_kept (Jump cn off) c k n0;
            words = λ i no. refl;
            sr = conf_mode c x1 len;
          }

  -- one instruction of an arm
  arm_move : (x : PointState) (c d : List ℕ) (join next : ℕ) → AgreeAt m x c d c d → arm_next join x.point.addr (met m.text text x.point.addr) ≡ Some next → (step_of domain terms m text x).violations ≡ [] →
      Moved x (step_of domain terms m text x).gives c d (met_cycles (met m.text text x.point.addr)) (met_regs (met m.text text x.point.addr)) (met_words (met m.text text x.point.addr) m x)
  arm_move x c d join next at on none = by (met m.text text x.point.addr) refl on none
    where
      by : (o : Option Insn) → met m.text text x.point.addr ≡ o → arm_next join x.point.addr o ≡ Some next → (step_insn domain terms m text o x).violations ≡ [] → Moved x (step_insn domain terms m text o x).gives c d (met_cycles o) (met_regs o) (met_words o m x)
      by None e on none = absurd cc
      by (Some (Two op w s dst)) e on none =
          let h = two_alike terms key m text caller shape domain proper op w s dst (met_regular m text x.point.addr (Two op w s dst) e) in
          let q = plain_parts terms key m text caller shape domain proper (Two op w s dst) h x c d c d at e none in
          by_parts (Two op w s dst) x (step_plain domain terms m text (Two op w s dst) x).gives c d _ _ q (two_cycles_some op w s dst) (two_long op w s dst c q.values_a at.core.long_a)
          (λ k n0 n2 no. two_regs op w s dst c q.values_a k n0 n2 no)
      by (Some (One op w a)) e on none = one op (not_call op on) e none
        where
          not_call : (op : OneOp) → arm_next join x.point.addr (Some (One op w a)) ≡ Some next → op ≢ Call
          not_call Call on f = absurd cc
          not_call _ on f = absurd cc

          one : (op : OneOp) → op ≢ Call → met m.text text x.point.addr ≡ Some (One op w a) → (step_plain domain terms m text (One op w a) x).violations ≡ [] → Moved x (step_plain domain terms m text (One op w a) x).gives c d (cycles_of (One op w a)) (written_regs (One op w a)) (met_words (Some (One op w a)) m x)
          one op nc e none =
              let r = met_regular m text x.point.addr (One op w a) e in
              let h = one_alike terms key m text caller shape domain proper op w a r.0 in
              let q = plain_parts terms key m text caller shape domain proper (One op w a) h x c d c d at e none in
              by_parts (One op w a) x (step_plain domain terms m text (One op w a) x).gives c d _ _ q r.1 (one_long op w a c q.values_a nc at.core.long_a)
              (λ k n0 n2 no. one_regs op w a c q.values_a k n0 n2 nc no)
      by (Some (Jump cn off)) e on none = jump_move cn off x c d at e (if_always (is_always cn) _ _ _ next on) none
      by (Some Reti) e on none = absurd cc
      by (Some (UnitOp n)) e on none = absurd cc

  -- ---- a whole arm
  -- a run comes to the join in so many cycles, and writes these registers and words
  pub record Joins (cycles join : ℕ) (rs ws c d : List ℕ) : Type 0 where
    pub core : List ℕ
    pub data_left : List ℕ
    pub pass : Passes j cycles (at_rest c d) (at_rest core data_left)
    pub here : reg core 0 ≡ join
    pub fine : (v : List Val) × AgreeCore m.text v core core
    pub is_data : IsData m data_left
    pub regs : (k : ℕ) → k ≢ 0 → k ≢ 2 → NotIn k rs → reg core k ≡ reg c k
    pub words : (i : ℕ) → NotIn i ws → word data_left i ≡ word d i
    pub sr : mode (reg core 2) ≡ mode (reg c 2)

  abbrev pub Walked : Walk → ℕ → List ℕ → List ℕ → Type 0
  Walked w join c d = Joins (time_to w) join (walk_regs w) (walk_words w) c d

  -- a run that stands at a point, by itself
  pub record Alone (x : PointState) (c d : List ℕ) : Type 0 where
    pub pc : reg c 0 ≡ x.point.addr
    pub core : AgreeCore m.text x.state.core c c
    pub words : AgreeData m x.state.words d d

  -- other steps that do along an arm what the plain ones do
  abbrev pub Refines : (PointState → FlowStep) → Type 0
  Refines S = (x : PointState) (c d : List ℕ) (join next : ℕ) → AgreeAt m x c d c d → arm_next join x.point.addr (met m.text text x.point.addr) ≡ Some next → (S x).violations ≡ [] → ((step_of domain terms m text x).violations ≡ []) × ((S x).gives ≡ (step_of domain terms m text x).gives)

  module _ (S : PointState → FlowStep) (refine : Refines S) where
    -- what a run does along each walk to the join in so many steps
    abbrev pub Arrives : ℕ → ℕ → Type 0
    Arrives join fuel =
        (y : PointState) (c d : List ℕ) → Alone y c d → MeetsJoin (walk S m text join fuel y) →
        Walked (walk S m text join fuel y) join c d

    -- the walk from a point, by where an arm goes on there
    abbrev onward : ℕ → ℕ → Option ℕ → PointState → Walk
    onward join fuel o x = walk_on o (S x).violations (S x).gives m text x (walk S m text join fuel)

    abbrev met_at : PointState → Option Insn
    met_at x = met m.text text x.point.addr

    abbrev MovedAt : PointState → List PointState → List ℕ → List ℕ → Type 0
    MovedAt x gives c d = Moved x gives c d (met_cycles (met_at x)) (met_regs (met_at x)) (met_words (met_at x) m x)

    -- past its first instruction
    walk_more : (join fuel : ℕ) (x : PointState) (c d : List ℕ) → AgreeAt m x c d c d → (next : ℕ) →
        arm_next join x.point.addr (met_at x) ≡ Some next → Arrives join fuel →
        (rs : List RuleViolation) (gs : List PointState) → (S x).violations ≡ rs → (S x).gives ≡ gs →
        MeetsJoin (walk_on (Some next) rs gs m text x (walk S m text join fuel)) →
        Walked (walk_on (Some next) rs gs m text x (walk S m text join fuel)) join c d
    walk_more join fuel x c d at next on go (r ∷ rs) gs er eg meets = absurd meets
    walk_more join fuel x c d at next on go [] [] er eg meets = absurd meets
    walk_more join fuel x c d at next on go [] (y ∷ ys) er eg meets = by mv.single
      where
        mv : MovedAt x (S x).gives c d
        mv = let r = refine x c d join next at on er in
            subst (λ g. MovedAt x g c d) (sym r.1) (arm_move x c d join next at on r.0)

        by : Single terms m (S x).gives mv.core mv.data_left mv.core mv.data_left →
            Walked (walked (met_at x) m x (walk S m text join fuel y)) join c d
        by (Gone nothing same out_a out_b p q agree) = absurd (empty (eg_to nothing))
          where
            eg_to : (S x).gives ≡ [] → (y ∷ ys) ≡ []
            eg_to e = sym eg ∙ e

            empty : (y ∷ ys) ≡ [] → ⊥
            empty e = cc
        by (Here y1 one at1) =
            let e : y1 ≡ y = ap first_of_points (sym one ∙ eg) in
            let al : Alone y mv.core mv.data_left =
            subst (λ z. Alone z mv.core mv.data_left) e (record { pc = at1.pc_a; core = at1.core; words = at1.words }) in
            let rest = walk S m text join fuel y in
            let on_join = met_rest (met_at x) m x rest meets in
            subst (λ z. Walked z join c d) (sym (is_met (met_at x) m x rest meets))
            (joined rest on_join (go y mv.core mv.data_left al on_join))
          where
            first_of_points : List PointState → PointState
            first_of_points [] = y
            first_of_points (z ∷ zs) = z

            joined : (rest : Walk) → MeetsJoin rest → Walked rest join mv.core mv.data_left →
                Walked (with_met (met_at x) (met_words (met_at x) m x) rest) join c d
            joined (Stops a) meets w = absurd meets
            joined (Meets n rs ws) meets w =
                record {
                  core = w.core;
                  data_left = w.data_left;
                  pass = passes_on j (met_cycles (met_at x)) n (at_rest c d) (at_rest mv.core mv.data_left) (at_rest w.core w.data_left)
                      mv.pass w.pass;
                  here = w.here;
                  fine = w.fine;
                  is_data = w.is_data;
                  regs = λ k n0 n2 no. w.regs k n0 n2 (not_right k (met_regs (met_at x)) rs no)
                      ∙ mv.regs k n0 n2 (not_left k (met_regs (met_at x)) rs no);
                  words = λ i no. w.words i (not_right i (met_words (met_at x) m x) ws no)
                      ∙ mv.words i (not_left i (met_words (met_at x) m x) ws no);
                  sr = w.sr ∙ mv.sr;
                }

    pub walk_reach : (join fuel : ℕ) (x : PointState) → MeetsJoin (walk S m text join fuel x) → x.point.addr ≤ join
    walk_reach join zero x meets = absurd meets
    walk_reach join (suc fuel) x meets =
        by (x.point.addr == join) refl (holds m.text x.point.addr) (nat_lt x.point.addr join) refl meets
      where
        by : (b : Bool) → (x.point.addr == join) ≡ b → (p q : Bool) → nat_lt x.point.addr join ≡ q →
            MeetsJoin (cond b (Meets 0 [] []) (onward join fuel (arm_next join x.point.addr (cond (p && q) (met_at x) None)) x)) →
            x.point.addr ≤ join
        by true e p q f meets = let k = eqb-true x.point.addr join e in omega (arith, k)
        by false e true true f meets = let k = ltb-true x.point.addr join f in omega (arith, k)
        by false e true false f meets = absurd meets
        by false e false q f meets = absurd meets

    pub walk_arm : (join fuel : ℕ) → Arrives join fuel
    walk_arm join zero x c d at meets = absurd meets
    walk_arm join (suc fuel) x c d at meets =
        by (x.point.addr == join) refl (λ y c d al meets. walk_arm join fuel y c d al meets) meets
      where
        by_next : (o : Option ℕ) → arm_next join x.point.addr (met_at x) ≡ o → holds m.text x.point.addr ≡ true →
            Arrives join fuel → MeetsJoin (onward join fuel o x) → Walked (onward join fuel o x) join c d
        by_next None e t go meets = absurd meets
        by_next (Some next) e t go meets =
            let here : AgreeAt m x c d c d = record { pc_a = at.pc; pc_b = at.pc; core = at.core; words = at.words; in_text = t } in
            walk_more join fuel x c d here next e go (S x).violations (S x).gives refl refl meets

        by_test : (p q : Bool) → holds m.text x.point.addr ≡ p → Arrives join fuel →
            MeetsJoin (onward join fuel (arm_next join x.point.addr (cond (p && q) (met_at x) None)) x) →
            Walked (onward join fuel (arm_next join x.point.addr (cond (p && q) (met_at x) None)) x) join c d
        by_test true true e go meets = by_next (arm_next join x.point.addr (met_at x)) refl e go meets
        by_test true false e go meets = absurd meets
        by_test false q e go meets = absurd meets

        on : Option ℕ
        on = arm_next join x.point.addr (cond (holds m.text x.point.addr && nat_lt x.point.addr join) (met_at x) None)

        by : (b : Bool) → (x.point.addr == join) ≡ b → Arrives join fuel →
            MeetsJoin (cond b (Meets 0 [] []) (onward join fuel on x)) →
            Walked (cond b (Meets 0 [] []) (onward join fuel on x)) join c d
        by true e go meets =
            record {
              core = c;
              data_left = d;
              pass = refl;
              here = at.pc ∙ eqb-true x.point.addr join e;
              fine = (x.state.core, at.core);
              is_data = at.words.is_a;
              regs = λ k n0 n2 no. refl;
              words = λ i no. refl;
              sr = refl;
            }
        by false e go meets = by_test (holds m.text x.point.addr) (nat_lt x.point.addr join) refl go meets
