-- One instruction of two runs that stand at one point.
use Rattle.std.proofs.Common.{◌≡◌, inl, ℕ, zero, suc, ◌+◌, ◌-◌, ◌*◌, ◌/◌, ◌%◌, ◌<◌, List, [], ◌∷◌, ◌++◌, length, map, refl, sym, ap, ◌∙◌, subst, arith, Bool, true, false, cond, ◌==◌, nat_lt, ◌&&◌, ◌||◌, not, Option, Some, None, get_or-set_same, length-set, ℤ}
use Rattle.std.proofs.lemmas.Bool.{and_parts}
use Rattle.sm_words.specs.Words.{reg, put, kept, add16, word_at, bit}
use Rattle.insn_decode.specs.Code.{insn_of, length_of, is_always, distance}
use Rattle.cycle_table.specs.Cycles.{cycles_of}
use Rattle.cpu_step.specs.Effect.{jumped, does, does_freely, confined, jumps}
use Rattle.cpu_step.specs.Plan.{plan, past}
use Rattle.sm_words.specs.declared.width.Width.{Width}
use Rattle.insn_decode.specs.declared.insn.TwoOp.{TwoOp}
use Rattle.insn_decode.specs.declared.insn.OneOp.{OneOp}
use Rattle.insn_decode.specs.declared.insn.Operand.{Operand}
use Rattle.insn_decode.specs.declared.insn.Condition.{Condition}
use Rattle.insn_decode.specs.declared.insn.Condition.TheVariants.{NotZero, Zero, NoCarry, Carry, Negative, GreaterOrEqual, Less, Always}
use Rattle.insn_decode.specs.declared.insn.Insn.{Insn}
use Rattle.insn_decode.specs.declared.insn.Insn.TheVariants.{Two, One, Jump, Reti, Unit as UnitOp}
use Rattle.pc_access.specs.declared.Access.{Access}
use Rattle.flow_rule.specs.Values.{FlagDomain}
use Rattle.flow_rule.proofs.FlagDomains.{SoundFlags}
use Rattle.mod_layout.specs.declared.Module.{Module}
use Rattle.mod_layout.specs.Table.{holds, size_of}
use Rattle.cpu_step.specs.Fetched.{insn_at, later_word, word_in, insn_from}
use Rattle.attest.specs.Accesses.{reads_of, writes_of}
use Rattle.attest.specs.Units.{UnitName, Unprotect, OwnId, CallerId, Effect, unit_plan, unit_effect}
use Rattle.cpu_step.specs.Asked.{asks, effect}
use Rattle.cpu_step.specs.Lone.{Job, Lone, lone_byte, lone_who, is_alone, all_inside, may_do, next_insn, lone_read, lone_writes, lone_does, Does, doing, doing_by, lone_step_by, job_of, blank}
use Rattle.flow_rule.specs.Terms.{Terms}
use Rattle.flow_rule.specs.declared.Val.{Val}
use Rattle.flow_rule.specs.declared.Val.TheVariants.{Known, Away, Public, Secret}
use Rattle.flow_rule.specs.Values.{flags_in, is_secret, set_each, val, put_val}
use Rattle.flow_rule.specs.Iterations.{PointState, FlowStep}
use Rattle.flow_rule.specs.Does.{plan_val, does_val, past_val, read_val, writes_val, read_reaches, write_reaches}
use Rattle.flow_rule.specs.Violations.{reach_violations, exit_violations, word_violations}
use Rattle.flow_rule.specs.Going.{exit_step, goes_by, goes}
use Rattle.flow_rule.specs.CallStrings.{return_turn}
use Rattle.flow_rule.specs.Steps.{turns_by, step_plain, step_jump, step_unit, step_insn, step_of}
use Rattle.flow_rule.proofs.Goes.{goes_in, goes_unless}
use Rattle.flow_laws.specs.Laws.{AgreeOn}
use Rattle.flow_rule.proofs.Meaning.{Agrees, same}
use Rattle.flow_rule.proofs.Cores.{Even_section, AgreeCore, put_agrees, put_other_reg, confined_agrees, ends_so}
use Rattle.flow_rule.proofs.Effects.{Regular, AgreeList, DoneAgrees, one_does, two_does, past_agrees}
use Rattle.flow_rule.proofs.Plans.{Reached, fixed, inside, one_reached, two_reached, none_left, none_right}
use Rattle.flow_rule.specs.Arms.{written_words}
use Rattle.arm_balance.specs.Met.{text_byte, met}
use Rattle.flow_laws.proofs.Words.{NotIn, word, writes_keep, Shape, IsData, AgreeData, reads_agree, writes_agree, word_text}
use Rattle.flow_laws.proofs.Telling.{on_list, blanked, same_reg, same_but, agrees_on}
use Rattle.flow_laws.proofs.Labelling.{Under, Among, among_left, among_right}
use Rattle.flow_laws.proofs.Runs.{at_rest, Busy, Passes, Ending, Stays, Left, Shut, Crossing}

-- a jump under the condition that always holds is taken
pub always_jumps : (c : Condition) (sr : ℕ) → is_always c ≡ true → jumps c sr ≡ true
always_jumps Always sr e = refl
always_jumps _ sr e = absurd cc

-- a jump looks at the flags alone
pub jumps_flags : (c : Condition) (x : ℕ) → jumps c x ≡ jumps c (flags_in x)
jumps_flags c x = by c
  where
    carry : bit 1 x ≡ bit 1 (flags_in x)
    carry = omega arith

    zero_is : bit 2 x ≡ bit 2 (flags_in x)
    zero_is = omega arith

    negative : bit 4 x ≡ bit 4 (flags_in x)
    negative = omega arith

    overflow : bit 256 x ≡ bit 256 (flags_in x)
    overflow = omega arith

    signs : (bit 4 x == bit 256 x) ≡ (bit 4 (flags_in x) == bit 256 (flags_in x))
    signs = ap (λ i. i == bit 256 x) negative ∙ ap (λ i. bit 4 (flags_in x) == i) overflow

    by : (c : Condition) → jumps c x ≡ jumps c (flags_in x)
    by NotZero = ap (λ i. i == 0) zero_is
    by Zero = ap (λ i. i == 1) zero_is
    by NoCarry = ap (λ i. i == 0) carry
    by Carry = ap (λ i. i == 1) carry
    by Negative = ap (λ i. i == 1) negative
    by GreaterOrEqual = signs
    by Less = ap not signs
    by Always = refl

pub record AgreeAt (m : Module) (x : PointState) (ca da cb db : List ℕ) : Type 0 where
  pub pc_a : reg ca 0 ≡ x.point.addr
  pub pc_b : reg cb 0 ≡ x.point.addr
  pub core : AgreeCore m.text x.state.core ca cb
  pub words : AgreeData m x.state.words da db
  pub in_text : holds m.text x.point.addr ≡ true

pub even_at : (m : Module) (x : PointState) (ca da cb db : List ℕ) → AgreeAt m x ca da cb db → x.point.addr % 2 ≡ 0
even_at m x ca da cb db h = ap (λ i. i % 2) (sym h.pc_a) ∙ h.core.even_pc

pub weaken_at : (m : Module) (x y : PointState) (ca da cb db : List ℕ) → Under x y → AgreeAt m x ca da cb db → AgreeAt m y ca da cb db
weaken_at m x y ca da cb db u h =
    record {
      pc_a = h.pc_a ∙ sym u.addr;
      pc_b = h.pc_b ∙ sym u.addr;
      core = record {
        short = let p = u.core.shorter in let q = h.core.short in omega arith;
        long_a = h.core.long_a;
        long_b = h.core.long_b;
        at = λ n ne. u.core.weaker m.text n (reg ca n) (reg cb n) (h.core.at n ne);
        flags = u.core.weaker m.text 2 (flags_in (reg ca 2)) (flags_in (reg cb 2)) h.core.flags;
        mode_same = h.core.mode_same;
        nine_a = h.core.nine_a;
        nine_b = h.core.nine_b;
        even_pc = h.core.even_pc;
        zero_a = h.core.zero_a;
        zero_b = h.core.zero_b;
      };
      words = record { is_a = h.words.is_a; is_b = h.words.is_b; at = λ i. u.words.weaker m.text i _ _ (h.words.at i) };
      in_text = ap (λ a. holds m.text a) u.addr ∙ h.in_text;
    }

-- what decoding keeps
abbrev pub RegularInsn : Insn → Type 0
RegularInsn (Two op w s d) = Regular s
RegularInsn (One op w a) = Regular a × (0 < cycles_of (One op w a))
RegularInsn _ = Unit {0}

-- where an instruction leads
pub data Landing (terms : Terms) (m : Module) (gives : List PointState) (ca da cb db : List ℕ) : Type 0 where
  In : (y : PointState) (among : Among y gives) (at : AgreeAt m y ca da cb db) → Landing terms m gives ca da cb db
  Out : (same : blank terms.answers ca ≡ blank terms.answers cb) (out_a : holds m.text (reg ca 0) ≡ false) (out_b : holds m.text (reg cb 0) ≡ false) (ok_a : IsData m da) (ok_b : IsData m db) (agree : AgreeOn m terms.public da db) →
      Landing terms m gives ca da cb db

-- the one way of an instruction that is no branch
pub data Single (terms : Terms) (m : Module) (gives : List PointState) (ca da cb db : List ℕ) : Type 0 where
  Here : (y : PointState) (one : gives ≡ y ∷ []) (at : AgreeAt m y ca da cb db) → Single terms m gives ca da cb db
  Gone : (nothing : gives ≡ []) (same : blank terms.answers ca ≡ blank terms.answers cb) (out_a : holds m.text (reg ca 0) ≡ false) (out_b : holds m.text (reg cb 0) ≡ false) (ok_a : IsData m da) (ok_b : IsData m db)
      (agree : AgreeOn m terms.public da db) → Single terms m gives ca da cb db

pub landing_of : (terms : Terms) (m : Module) (gives : List PointState) (ca da cb db : List ℕ) → Single terms m gives ca da cb db → Landing terms m gives ca da cb db
landing_of terms m gives ca da cb db (Here y one at) = In y (subst (λ g. Among y g) (sym one) (inl refl)) at
landing_of terms m gives ca da cb db (Gone nothing same out_a out_b p q agree) = Out same out_a out_b p q agree

module _ (terms : Terms) (m : Module) where
  gone : (pc : ℕ) (v words : List Val) (ca da cb db : List ℕ) → AgreeCore m.text v ca cb → AgreeData m words da db → (exit_step terms m pc v words).violations ≡ [] → holds m.text (reg ca 0) ≡ false → holds m.text (reg cb 0) ≡ false →
      Single terms m [] ca da cb db
  gone pc v words ca da cb db h d e out_a out_b =
      let ws = word_violations m pc words terms.public in
      let rs = exit_violations 16 0 pc (set_each terms.answers Public v) in
      Gone refl (same_but m.text terms.answers pc v ca cb h (none_right ws rs e)) out_a out_b d.is_a d.is_b (agrees_on m terms.public pc words da db d (none_left ws rs e))

  lands_in : (t : Bool) (to pc : ℕ) (call_string : List ℕ) (v words : List Val) (ca da cb db : List ℕ) → AgreeCore m.text v ca cb → AgreeData m words da db → reg ca 0 ≡ to → reg cb 0 ≡ to → holds m.text to ≡ t →
      (goes_in terms t m to pc call_string v words).violations ≡ [] → Single terms m (goes_in terms t m to pc call_string v words).gives ca da cb db
  lands_in true to pc call_string v words ca da cb db h d ea eb t e =
      Here (record { point = record { addr = to; call_string = call_string }; state = record { core = v; words = words } }) refl
      (record { pc_a = ea; pc_b = eb; core = h; words = d; in_text = t })
  lands_in false to pc call_string v words ca da cb db h d ea eb t e =
      gone pc v words ca da cb db h d e (ap (λ a. holds m.text a) ea ∙ t) (ap (λ a. holds m.text a) eb ∙ t)

  lands_by : (p : Val) (pc : ℕ) (call_string : List ℕ) (v words : List Val) (ca da cb db : List ℕ) → AgreeCore m.text v ca cb → AgreeData m words da db → Agrees m.text p (reg ca 0) (reg cb 0) →
      (goes_by terms p m pc call_string v words).violations ≡ [] → Single terms m (goes_by terms p m pc call_string v words).gives ca da cb db
  lands_by (Known to) pc call_string v words ca da cb db h d g e = lands_in (holds m.text to) to pc call_string v words ca da cb db h d g.0 g.1 refl e
  lands_by Away pc call_string v words ca da cb db h d g e = gone pc v words ca da cb db h d e g.2 (ap (λ a. holds m.text a) (sym g.0) ∙ g.2)
  lands_by Public pc call_string v words ca da cb db h d g e = absurd cc
  lands_by Secret pc call_string v words ca da cb db h d g e = absurd cc

  pub lands : (pc : ℕ) (call_string : List ℕ) (v words : List Val) (ca da cb db : List ℕ) → AgreeCore m.text v ca cb → AgreeData m words da db →
      (goes terms m pc call_string v words).violations ≡ [] → Single terms m (goes terms m pc call_string v words).gives ca da cb db
  lands pc call_string v words ca da cb db h d e = lands_by (val v 0) pc call_string v words ca da cb db h d (h.at 0 (λ e. absurd (omega arith))) e

  lands_unless : (b : Bool) (pc : ℕ) (call_string : List ℕ) (v words : List Val) (ca da cb db : List ℕ) → AgreeCore m.text v ca cb → AgreeData m words da db →
      (goes_unless terms b m pc call_string v words).violations ≡ [] → Single terms m (goes_unless terms b m pc call_string v words).gives ca da cb db
  lands_unless true pc call_string v words ca da cb db h d e = absurd cc
  lands_unless false pc call_string v words ca da cb db h d e = lands pc call_string v words ca da cb db h d e

  land_left : (gs hs : List PointState) (ca da cb db : List ℕ) → Landing terms m gs ca da cb db → Landing terms m (gs ++ hs) ca da cb db
  land_left gs hs ca da cb db (In y among at) = In y (among_left y gs hs among) at
  land_left gs hs ca da cb db (Out same out_a out_b p q agree) = Out same out_a out_b p q agree

  land_right : (gs hs : List PointState) (ca da cb db : List ℕ) → Landing terms m hs ca da cb db → Landing terms m (gs ++ hs) ca da cb db
  land_right gs hs ca da cb db (In y among at) = In y (among_right y gs hs among) at
  land_right gs hs ca da cb db (Out same out_a out_b p q agree) = Out same out_a out_b p q agree

abbrev pub after : List ℕ → List ℕ → ℕ → Bool → Lone
after c d rest closing = record { core = c; data_bytes = d; rest = rest; closing = closing }

module _ (j : Job) where
  waits : (c d : List ℕ) (closing : Bool) (r : ℕ) → Passes j r (after c d r closing) (after c d 0 closing)
  unfolding doing
  waits c d closing zero = refl
  waits c d closing (suc r) = (tt, waits c d closing r)

  pub does_it : (c d c' d' : List ℕ) (insn : Insn) (r : ℕ) (closing : Bool) → doing j (at_rest c d) ≡ Does insn → lone_does j insn (at_rest c d) ≡ after c' d' r closing → Passes j (suc r) (at_rest c d) (after c' d' 0 closing)
  does_it c d c' d' insn r closing e f = (
    subst Busy (sym e) tt,
    subst (λ l. Passes j r l (after c' d' 0 closing)) (sym (ap (λ x. lone_step_by x j (at_rest c d)) e ∙ f)) (waits c' d' closing r),
  )

  doing_next : (c d : List ℕ) (insn : Insn) → holds j.owner.text (reg c 0) ≡ true → next_insn j (at_rest c d) ≡ Some insn → doing j (at_rest c d) ≡ Does insn
  unfolding doing
  doing_next c d insn e f = ap (λ t. doing_by 0 false t (next_insn j (at_rest c d))) e ∙ ap (doing_by 0 false true) f

module _ (terms : Terms) (key : List ℕ) (m : Module) (text : List ℕ) (caller : ℕ) (shape : Shape m) (domain : FlagDomain) (proper : SoundFlags domain) where
  abbrev pub j : Job
  j = job_of key m text caller

  pub even : Even_section m.text
  even = record { even_start = shape.text_start; even_end = shape.text_end }

  -- ---- the same instruction is met
  later_same : (d : List ℕ) (pc n k : ℕ) → pc % 2 ≡ 0 → word_in m.text pc n k ≡ true → later_word (lone_byte j d) pc n k ≡ later_word (text_byte m.text text) pc n k
  later_same d pc n k ev e = by (nat_lt k n) e
    where
      by : (c : Bool) → (not c || holds m.text (pc + 2 * k)) ≡ true → cond c (word_at (lone_byte j d) (pc + 2 * k)) 0 ≡ cond c (word_at (text_byte m.text text) (pc + 2 * k)) 0
      by true h = word_text key m text caller shape d (pc + 2 * k) (omega arith) h
      by false h = refl

  insn_same : (d : List ℕ) (pc n : ℕ) → pc % 2 ≡ 0 → holds m.text pc ≡ true → (word_in m.text pc n 1 && word_in m.text pc n 2) ≡ true → insn_at (lone_byte j d) pc n ≡ insn_at (text_byte m.text text) pc n
  insn_same d pc n ev t f =
      let h = and_parts (word_in m.text pc n 1) (word_in m.text pc n 2) f in
      let x = word_text key m text caller shape d pc ev t in
      let y = later_same d pc n 1 ev h.0 in
      let z = later_same d pc n 2 ev h.1 in
      ap (λ w. insn_of w (later_word (lone_byte j d) pc n 1) (later_word (lone_byte j d) pc n 2)) x
      ∙ ap (λ w. insn_of (word_at (text_byte m.text text) pc) w (later_word (lone_byte j d) pc n 2)) y
      ∙ ap (λ w. insn_of (word_at (text_byte m.text text) pc) (later_word (text_byte m.text text) pc n 1) w) z

  may_it : (c d : List ℕ) (insn : Insn) → is_alone insn ≡ true → all_inside j (asks (lone_who j) insn c) ≡ true → may_do j (at_rest c d) (Some insn) ≡ Some insn
  may_it c d insn p q = ap (λ b. cond (b && all_inside j (asks (lone_who j) insn c)) (Some insn) None) p ∙ ap (λ b. cond b (Some insn) None) q

  fetched_first : (f : Option Insn) (c d : List ℕ) (insn : Insn) → reg c 0 % 2 ≡ 0 → holds m.text (reg c 0) ≡ true →
      insn_from f (text_byte m.text text) m.text (reg c 0) ≡ Some insn → insn_from f (lone_byte j d) m.text (reg c 0) ≡ Some insn
  fetched_first None c d insn ev t e = absurd cc
  fetched_first (Some first) c d insn ev t e = by (reg c 0) (length_of first) ev t (word_in m.text (reg c 0) (length_of first) 1 && word_in m.text (reg c 0) (length_of first) 2) refl e
    where
      by : (pc n : ℕ) → pc % 2 ≡ 0 → holds m.text pc ≡ true → (b : Bool) → (word_in m.text pc n 1 && word_in m.text pc n 2) ≡ b →
          cond b (insn_at (text_byte m.text text) pc n) None ≡ Some insn → cond b (insn_at (lone_byte j d) pc n) None ≡ Some insn
      by pc n ev t false f e = absurd cc
      by pc n ev t true f e = insn_same d pc n ev t f ∙ e

  pub fetched : (c d : List ℕ) (insn : Insn) → reg c 0 % 2 ≡ 0 → holds m.text (reg c 0) ≡ true → met m.text text (reg c 0) ≡ Some insn →
      is_alone insn ≡ true → all_inside j (asks (lone_who j) insn c) ≡ true → doing j (at_rest c d) ≡ Does insn
  unfolding met next_insn
  fetched c d insn ev t e al ins =
      doing_next j c d insn t
      (ap (may_do j (at_rest c d)) (fetched_first (insn_of (word_at (lone_byte j d) (reg c 0)) 0 0) c d insn ev t
      (ap (λ w. insn_from (insn_of w 0 0) (text_byte m.text text) m.text (reg c 0)) (word_text key m text caller shape d (reg c 0) ev t) ∙ e)) ∙ may_it c d insn al ins)

  -- ---- from an instruction to a crossing
  crossing : (gives : List PointState) (ca da cb db ca' da' cb' db' : List ℕ) (insn : Insn) (r : ℕ) → doing j (at_rest ca da) ≡ Does insn → doing j (at_rest cb db) ≡ Does insn →
      lone_does j insn (at_rest ca da) ≡ after ca' da' r false → lone_does j insn (at_rest cb db) ≡ after cb' db' r false → Landing terms m gives ca' da' cb' db' → Crossing terms m j (AgreeAt m) gives (at_rest ca da) (at_rest cb db)
  crossing gives ca da cb db ca' da' cb' db' insn r ea eb fa fb l =
      record {
        cycles = suc r;
        some = omega arith;
        to_a = at_rest ca' da';
        to_b = at_rest cb' db';
        pass_a = does_it j ca da ca' da' insn r false ea fa;
        pass_b = does_it j cb db cb' db' insn r false eb fb;
        ending = by l;
      }
    where
      by : Landing terms m gives ca' da' cb' db' → Ending terms m j (AgreeAt m) gives (at_rest ca' da') (at_rest cb' db')
      by (In y among at) = Stays y among ca' da' cb' db' at refl refl
      by (Out same out_a out_b p q agree) = Left ca' da' cb' db' same out_a out_b p q agree refl refl

  -- an instruction that reads and writes, by what is shown of its plan and its effect
  pub record Does_alike (insn : Insn) : Type 0 where
    pub alone : is_alone insn ≡ true
    pub asks_is : (c : List ℕ) → asks (lone_who j) insn c ≡ plan insn c
    pub effect_is : (c xs : List ℕ) → effect (lone_who j) insn c xs ≡ record { core = confined true c (does_freely insn c xs).core; stored = (does_freely insn c xs).stored; cycles = cycles_of insn; closing = false }
    pub reached : (pc : ℕ) (v : List Val) (a b : List ℕ) → reg a 0 ≡ pc → reg b 0 ≡ pc → AgreeCore m.text v a b → Reached m.text (plan_val insn pc v) (plan insn a) (plan insn b)
    pub done : (pc : ℕ) (v : List Val) (a b : List ℕ) (vs : List Val) (xs ys : List ℕ) → reg a 0 ≡ pc → reg b 0 ≡ pc → AgreeCore m.text v a b → AgreeList m.text vs xs ys →
        DoneAgrees m.text (does_val domain insn pc v vs) (reg a 2) (reg b 2) (does_freely insn a xs) (does_freely insn b ys)

  pub does_so : (insn : Insn) (h : Does_alike insn) (c d : List ℕ) (xs : List Access) → plan insn c ≡ xs →
      lone_does j insn (at_rest c d) ≡ after (confined true c (does_freely insn c (map (lone_read j d) (reads_of xs))).core) (lone_writes m d (writes_of xs) (does_freely insn c (map (lone_read j d) (reads_of xs))).stored) (cycles_of insn - 1) false
  unfolding lone_does
  does_so insn h c d xs e =
      ap (λ ys. of ys (effect (lone_who j) insn c (map (lone_read j d) (reads_of ys)))) (h.asks_is c ∙ e) ∙ ap (λ e. of xs e) (h.effect_is c (map (lone_read j d) (reads_of xs)))
    where
      of : List Access → Effect → Lone
      of ys e = record { core = e.core; data_bytes = lone_writes m d (writes_of ys) e.stored; rest = e.cycles - 1; closing = e.closing }

  -- one instruction of both, in parts, which writes these words
  pub record Parts (insn : Insn) (gives : List PointState) (ws ca da cb db : List ℕ) : Type 0 where
    pub values_a : List ℕ
    pub values_b : List ℕ
    pub left_a : List ℕ
    pub left_b : List ℕ
    pub rest : ℕ
    pub rest_is : rest ≡ cycles_of insn - 1
    pub doing_a : doing j (at_rest ca da) ≡ Does insn
    pub doing_b : doing j (at_rest cb db) ≡ Does insn
    pub so_a : lone_does j insn (at_rest ca da) ≡ after (confined true ca (does_freely insn ca values_a).core) left_a rest false
    pub so_b : lone_does j insn (at_rest cb db) ≡ after (confined true cb (does_freely insn cb values_b).core) left_b rest false
    pub kept_a : (i : ℕ) → NotIn i ws → word left_a i ≡ word da i
    pub landing : Single terms m gives (confined true ca (does_freely insn ca values_a).core) left_a (confined true cb (does_freely insn cb values_b).core) left_b

  pub plain_parts : (insn : Insn) → Does_alike insn → (x : PointState) (ca da cb db : List ℕ) → AgreeAt m x ca da cb db → met m.text text x.point.addr ≡ Some insn → (step_plain domain terms m text insn x).violations ≡ [] →
      Parts insn (step_plain domain terms m text insn x).gives (written_words m (write_reaches (plan_val insn x.point.addr x.state.core))) ca da cb db
  plain_parts insn h x ca da cb db at e none =
      let pc = x.point.addr in
      let v = x.state.core in
      let rs = plan_val insn pc v in
      let vs = map (read_val m text x.state.words) (read_reaches rs) in
      let dv = does_val domain insn pc v vs in
      let t = return_turn insn pc x.point.call_string vs in
      let g = goes_unless terms t.stops m pc t.call_string dv.core (writes_val m x.state.words (write_reaches rs) dv.stored) in
      let n1 = none_left (reach_violations m pc rs ++ t.violations) g.violations none in
      let n2 = none_right (reach_violations m pc rs ++ t.violations) g.violations none in
      let n3 = none_left (reach_violations m pc rs) t.violations n1 in
      let f = fixed m pc rs (plan insn ca) (plan insn cb) (h.reached pc v ca cb at.pc_a at.pc_b at.core) n3 in
      let xs = plan insn ca in
      let ins = inside m pc j refl rs xs f.0 in
      let reads = reads_agree key m text caller shape x.state.words da db rs xs at.words f.0 in
      let va = map (lone_read j da) (reads_of xs) in
      let vb = map (lone_read j db) (reads_of xs) in
      let d = h.done pc v ca cb vs va vb at.pc_a at.pc_b at.core reads in
      let core = confined_agrees m.text even dv.core ca cb (does_freely insn ca va).core (does_freely insn cb vb).core at.core.mode_same d.ends in
      let words = writes_agree m shape x.state.words da db rs xs dv.stored (does_freely insn ca va).stored (does_freely insn cb vb).stored at.words f.0 d.stored in
      let ev_a = at.core.even_pc in
      let ev_b : reg cb 0 % 2 ≡ 0 = ap (λ i. i % 2) (at.pc_b ∙ sym at.pc_a) ∙ ev_a in
      record {
        values_a = va;
        values_b = vb;
        left_a = lone_writes m da (writes_of xs) (does_freely insn ca va).stored;
        left_b = lone_writes m db (writes_of xs) (does_freely insn cb vb).stored;
        rest = cycles_of insn - 1;
        rest_is = refl;
        doing_a = fetched ca da insn ev_a (ap (λ a. holds m.text a) at.pc_a ∙ at.in_text) (ap (λ a. met m.text text a) at.pc_a ∙ e) h.alone (ap (all_inside j) (h.asks_is ca) ∙ ins);
        doing_b = fetched cb db insn ev_b (ap (λ a. holds m.text a) at.pc_b ∙ at.in_text) (ap (λ a. met m.text text a) at.pc_b ∙ e) h.alone (ap (all_inside j) (h.asks_is cb ∙ f.1) ∙ ins);
        so_a = does_so insn h ca da xs refl;
        so_b = does_so insn h cb db xs f.1;
        kept_a = λ i k. writes_keep m shape da rs xs (does_freely insn ca va).stored i f.0 k;
        landing = lands_unless terms m t.stops pc t.call_string dv.core (writes_val m x.state.words (write_reaches rs) dv.stored) _ _ _ _ core words n2;
      }

  plain_crossing : (insn : Insn) → Does_alike insn → (x : PointState) (ca da cb db : List ℕ) → AgreeAt m x ca da cb db → met m.text text x.point.addr ≡ Some insn → (step_plain domain terms m text insn x).violations ≡ [] →
      Crossing terms m j (AgreeAt m) (step_plain domain terms m text insn x).gives (at_rest ca da) (at_rest cb db)
  plain_crossing insn h x ca da cb db at e none =
      let p = plain_parts insn h x ca da cb db at e none in
      crossing (step_plain domain terms m text insn x).gives ca da cb db _ _ _ _ insn p.rest p.doing_a p.doing_b p.so_a p.so_b (landing_of terms m _ _ _ _ _ p.landing)

  pub two_alike : (op : TwoOp) (w : Width) (s d : Operand) → Regular s → Does_alike (Two op w s d)
  unfolding asks effect does
  two_alike op w s d ok =
      record {
        alone = refl;
        asks_is = λ c. refl;
        effect_is = λ c xs. refl;
        reached = λ pc v a b ea eb h. two_reached m.text even op w s d pc v a b ok ea eb h;
        done = λ pc v a b vs xs ys ea eb h l. two_does m.text even domain proper op w s d pc v a b vs xs ys ok ea eb h l;
      }

  pub one_alike : (op : OneOp) (w : Width) (a : Operand) → Regular a → Does_alike (One op w a)
  unfolding asks effect does
  one_alike op w arg ok =
      record {
        alone = refl;
        asks_is = λ c. refl;
        effect_is = λ c xs. refl;
        reached = λ pc v a b ea eb h. one_reached m.text even op w arg pc v a b ok ea eb h;
        done = λ pc v a b vs xs ys ea eb h l. one_does m.text even domain proper op w arg pc v a b vs xs ys ok ea eb h l;
      }

  -- ---- jumps
  jumped_is : (t : Bool) (off : ℤ) (c : List ℕ) → jumped t off c ≡ cond t (put c 0 (add16 (reg c 0) (distance off))) c
  jumped_is true off c = refl
  jumped_is false off c = refl

  pub jump_so : (cn : Condition) (off : ℤ) (c d : List ℕ) →
      lone_does j (Jump cn off) (at_rest c d) ≡ after (confined true c (cond (jumps cn (reg c 2)) (put (past (Jump cn off) c) 0 (add16 (reg (past (Jump cn off) c) 0) (distance off))) (past (Jump cn off) c))) d 1 false
  unfolding lone_does asks effect does does_freely plan cycles_of
  jump_so cn off c d = ap (λ x. after (confined true c x) d 1 false) (jumped_is (jumps cn (reg c 2)) off (past (Jump cn off) c))

  pub past_pc : (insn : Insn) (pc : ℕ) (c : List ℕ) → length_of insn ≡ 1 → reg c 0 ≡ pc → pc % 2 ≡ 0 → length c ≡ 16 → reg (past insn c) 0 ≡ add16 pc 2
  past_pc insn pc c one e ev len =
      get_or-set_same c 0 (kept 0 (add16 (reg c 0) (2 * length_of insn))) 0 (subst (λ i. 0 < i) (sym len) (omega arith))
      ∙ ap (λ i. kept 0 (add16 i (2 * length_of insn))) e ∙ ap (λ i. kept 0 (add16 pc (2 * i))) one ∙ even_kept
    where
      even_kept : kept 0 (add16 pc (2 * 1)) ≡ add16 pc 2
      even_kept = omega arith

  module _ (cn : Condition) (off : ℤ) (x : PointState) (ca da cb db : List ℕ) (at : AgreeAt m x ca da cb db) (met_it : met m.text text x.point.addr ≡ Some (Jump cn off)) where
    abbrev pub insn : Insn
    insn = Jump cn off

    abbrev pub pc : ℕ
    pc = x.point.addr

    abbrev pub taken_of : List ℕ → List ℕ
    taken_of c = put (past insn c) 0 (add16 (reg (past insn c) 0) (distance off))

    abbrev pub way : Bool → List ℕ → List ℕ
    way t c = confined true c (cond t (taken_of c) (past insn c))

    abbrev pub way_val : Bool → List Val
    way_val t = cond t (put_val (past_val insn pc x.state.core) 0 (Known (add16 (add16 pc 2) (distance off)))) (past_val insn pc x.state.core)

    pub way_agrees : (t : Bool) → AgreeCore m.text (way_val t) (way t ca) (way t cb)
    way_agrees true =
        let h1 = past_agrees m.text even insn pc x.state.core ca cb at.pc_a at.pc_b at.core in
        let ea = past_pc insn pc ca refl at.pc_a (even_at m x ca da cb db at) at.core.long_a in
        let eb = past_pc insn pc cb refl at.pc_b (even_at m x ca da cb db at) at.core.long_b in
        let h2 = put_agrees m.text even (past_val insn pc x.state.core) (past insn ca) (past insn cb) 0 (Known (add16 (add16 pc 2) (distance off))) _ _ (λ e. absurd (omega arith)) h1
        (ap (λ i. add16 i (distance off)) ea, ap (λ i. add16 i (distance off)) eb) in
        confined_agrees m.text even _ ca cb (taken_of ca) (taken_of cb) at.core.mode_same
        (ends_so m.text even _ _ _ _ _ h2 (put_other_reg (past insn ca) 0 _ 2 (λ e. absurd (omega arith)) ∙ put_other_reg ca 0 _ 2 (λ e. absurd (omega arith)))
        (put_other_reg (past insn cb) 0 _ 2 (λ e. absurd (omega arith)) ∙ put_other_reg cb 0 _ 2 (λ e. absurd (omega arith))))
    way_agrees false =
        let h1 = past_agrees m.text even insn pc x.state.core ca cb at.pc_a at.pc_b at.core in
        confined_agrees m.text even _ ca cb (past insn ca) (past insn cb) at.core.mode_same
        (ends_so m.text even _ _ _ _ _ h1 (put_other_reg ca 0 _ 2 (λ e. absurd (omega arith))) (put_other_reg cb 0 _ 2 (λ e. absurd (omega arith))))

    pub way_crossing : (t : Bool) (gives : List PointState) → jumps cn (reg ca 2) ≡ t → jumps cn (reg cb 2) ≡ t → Landing terms m gives (way t ca) da (way t cb) db → Crossing terms m j (AgreeAt m) gives (at_rest ca da) (at_rest cb db)
    unfolding asks plan
    way_crossing t gives ea eb l =
        let ev_b : reg cb 0 % 2 ≡ 0 = ap (λ i. i % 2) (at.pc_b ∙ sym at.pc_a) ∙ at.core.even_pc in
        crossing gives ca da cb db (way t ca) da (way t cb) db insn 1
        (fetched ca da insn at.core.even_pc (ap (λ a. holds m.text a) at.pc_a ∙ at.in_text) (ap (λ a. met m.text text a) at.pc_a ∙ met_it) refl refl)
        (fetched cb db insn ev_b (ap (λ a. holds m.text a) at.pc_b ∙ at.in_text) (ap (λ a. met m.text text a) at.pc_b ∙ met_it) refl refl)
        (jump_so cn off ca da ∙ ap (λ t. after (way t ca) da 1 false) ea) (jump_so cn off cb db ∙ ap (λ t. after (way t cb) db 1 false) eb) l

    abbrev pub way_goes : Bool → FlowStep
    way_goes t = goes terms m pc x.point.call_string (way_val t) x.state.words

    pub way_single : (t : Bool) → (way_goes t).violations ≡ [] → Single terms m (way_goes t).gives (way t ca) da (way t cb) db
    way_single t e = lands terms m pc x.point.call_string (way_val t) x.state.words (way t ca) da (way t cb) db (way_agrees t) at.words e

    jump_crossing : (step_jump domain terms m text insn cn x).violations ≡ [] → Crossing terms m j (AgreeAt m) (step_jump domain terms m text insn cn x).gives (at_rest ca da) (at_rest cb db)
    unfolding does_val
    jump_crossing none = by (is_always cn) refl none
      where
        one_way : (t : Bool) → jumps cn (reg ca 2) ≡ t → jumps cn (reg cb 2) ≡ t → (cond t (way_goes true) (way_goes false)).violations ≡ [] →
            Crossing terms m j (AgreeAt m) (cond t (way_goes true) (way_goes false)).gives (at_rest ca da) (at_rest cb db)
        one_way true ea eb none = way_crossing true (way_goes true).gives ea eb (landing_of terms m _ _ _ _ _ (way_single true none))
        one_way false ea eb none = way_crossing false (way_goes false).gives ea eb (landing_of terms m _ _ _ _ _ (way_single false none))

        both_ways : flags_in (reg ca 2) ≡ flags_in (reg cb 2) → ((way_goes true).violations ++ (way_goes false).violations) ≡ [] →
            Crossing terms m j (AgreeAt m) ((way_goes true).gives ++ (way_goes false).gives) (at_rest ca da) (at_rest cb db)
        both_ways same none =
            turn (jumps cn (reg ca 2)) refl (jumps_flags cn (reg cb 2) ∙ ap (jumps cn) (sym same) ∙ sym (jumps_flags cn (reg ca 2)))
            (none_left (way_goes true).violations (way_goes false).violations none) (none_right (way_goes true).violations (way_goes false).violations none)
          where
            turn : (t : Bool) → jumps cn (reg ca 2) ≡ t → jumps cn (reg cb 2) ≡ jumps cn (reg ca 2) → (way_goes true).violations ≡ [] → (way_goes false).violations ≡ [] →
                Crossing terms m j (AgreeAt m) ((way_goes true).gives ++ (way_goes false).gives) (at_rest ca da) (at_rest cb db)
            turn true ea eb p q = way_crossing true _ ea (eb ∙ ea) (land_left terms m (way_goes true).gives (way_goes false).gives _ _ _ _ (landing_of terms m _ _ _ _ _ (way_single true p)))
            turn false ea eb p q = way_crossing false _ ea (eb ∙ ea) (land_right terms m (way_goes true).gives (way_goes false).gives _ _ _ _ (landing_of terms m _ _ _ _ _ (way_single false q)))

        -- by what is known of the flags
        open_turns : (u : Val) → Agrees m.text u (flags_in (reg ca 2)) (flags_in (reg cb 2)) → (turns_by None (is_secret u) pc cn (way_goes true) (way_goes false)).violations ≡ [] →
            Crossing terms m j (AgreeAt m) (turns_by None (is_secret u) pc cn (way_goes true) (way_goes false)).gives (at_rest ca da) (at_rest cb db)
        open_turns (Known f) h none = both_ways (h.0 ∙ sym h.1) none
        open_turns Away h none = both_ways h.0 none
        open_turns Public h none = both_ways h none
        open_turns Secret h none = absurd cc

        turns : (u : Val) (o : Option ℕ) → domain.known u ≡ o → Agrees m.text u (flags_in (reg ca 2)) (flags_in (reg cb 2)) → (turns_by o (is_secret u) pc cn (way_goes true) (way_goes false)).violations ≡ [] →
            Crossing terms m j (AgreeAt m) (turns_by o (is_secret u) pc cn (way_goes true) (way_goes false)).gives (at_rest ca da) (at_rest cb db)
        turns u (Some f) e h none = let g = proper.known m.text u f _ _ e h in one_way (jumps cn f) (jumps_flags cn (reg ca 2) ∙ ap (jumps cn) g.0) (jumps_flags cn (reg cb 2) ∙ ap (jumps cn) g.1) none
        turns u None e h none = open_turns u h none

        by : (c : Bool) → is_always cn ≡ c → (cond c (way_goes true) (turns_by (domain.known (val x.state.core 2)) (is_secret (val x.state.core 2)) pc cn (way_goes true) (way_goes false))).violations ≡ [] →
            Crossing terms m j (AgreeAt m) (cond c (way_goes true) (turns_by (domain.known (val x.state.core 2)) (is_secret (val x.state.core 2)) pc cn (way_goes true) (way_goes false))).gives (at_rest ca da) (at_rest cb db)
        by true e none =
            way_crossing true (way_goes true).gives (always_jumps cn (reg ca 2) e) (always_jumps cn (reg cb 2) e) (landing_of terms m _ _ _ _ _ (way_single true none))
        by false e none = turns (val x.state.core 2) (domain.known (val x.state.core 2)) refl at.core.flags none

  -- ---- unit instructions
  unit_does : UnitName → List ℕ → List ℕ → Lone
  unit_does u c d =
      let xs = unit_plan (lone_who j) u c in
      let e = unit_effect (lone_who j) u c (map (lone_read j d) (reads_of xs)) in
      record { core = e.core; data_bytes = lone_writes m d (writes_of xs) e.stored; rest = e.cycles - 1; closing = e.closing }

  unit_so : (n : UnitName) (u : UnitName) (c d : List ℕ) → n ≡ u → lone_does j (UnitOp n) (at_rest c d) ≡ unit_does u c d
  unfolding lone_does asks effect unit_does
  unit_so n u c d e = ap (λ u. unit_does u c d) e

  module _ (n : UnitName) (u : UnitName) (named : n ≡ u) (x : PointState) (ca da cb db : List ℕ) (at : AgreeAt m x ca da cb db) (met_it : met m.text text x.point.addr ≡ Some (UnitOp n)) (alone : is_alone (UnitOp n) ≡ true) where
    unit_fetched : (c d : List ℕ) → reg c 0 ≡ x.point.addr → all_inside j (unit_plan (lone_who j) u c) ≡ true → doing j (at_rest c d) ≡ Does (UnitOp n)
    unfolding asks
    unit_fetched c d pc ins =
        fetched c d (UnitOp n) (ap (λ i. i % 2) pc ∙ even_at m x ca da cb db at) (ap (λ a. holds m.text a) pc ∙ at.in_text) (ap (λ a. met m.text text a) pc ∙ met_it) alone (ap (λ u. all_inside j (unit_plan (lone_who j) u c)) named ∙ ins)

    tell_crossing : (value : ℕ) → unit_plan (lone_who j) u ca ≡ [] → unit_plan (lone_who j) u cb ≡ [] →
        unit_does u ca da ≡ after (put (past (UnitOp Unprotect) ca) 15 value) da 5 false → unit_does u cb db ≡ after (put (past (UnitOp Unprotect) cb) 15 value) db 5 false →
        (goes terms m x.point.addr x.point.call_string (put_val (past_val (UnitOp n) x.point.addr x.state.core) 15 Public) x.state.words).violations ≡ [] →
        Crossing terms m j (AgreeAt m) (goes terms m x.point.addr x.point.call_string (put_val (past_val (UnitOp n) x.point.addr x.state.core) 15 Public) x.state.words).gives (at_rest ca da) (at_rest cb db)
    tell_crossing value pa pb ea eb none =
        let h1 = past_agrees m.text even (UnitOp n) x.point.addr x.state.core ca cb at.pc_a at.pc_b at.core in
        let h2 = put_agrees m.text even (past_val (UnitOp n) x.point.addr x.state.core) (past (UnitOp n) ca) (past (UnitOp n) cb) 15 Public value value (λ e. absurd (omega arith)) h1 refl in
        crossing _ ca da cb db (put (past (UnitOp Unprotect) ca) 15 value) da (put (past (UnitOp Unprotect) cb) 15 value) db (UnitOp n) 5
        (unit_fetched ca da at.pc_a (ap (all_inside j) pa)) (unit_fetched cb db at.pc_b (ap (all_inside j) pb)) (unit_so n u ca da named ∙ ea) (unit_so n u cb db named ∙ eb)
        (landing_of terms m _ _ _ _ _ (lands terms m x.point.addr x.point.call_string _ x.state.words _ da _ db h2 at.words none))

    shut_crossing : (r : ℕ) → unit_plan (lone_who j) u ca ≡ [] → unit_plan (lone_who j) u cb ≡ [] →
        unit_does u ca da ≡ after (past (UnitOp Unprotect) ca) da r true → unit_does u cb db ≡ after (past (UnitOp Unprotect) cb) db r true →
        exit_violations 16 0 x.point.addr (set_each terms.answers Public x.state.core) ≡ [] → Crossing terms m j (AgreeAt m) [] (at_rest ca da) (at_rest cb db)
    unfolding doing
    shut_crossing r pa pb ea eb none =
        record {
          cycles = suc r;
          some = omega arith;
          to_a = after (past (UnitOp Unprotect) ca) da 0 true;
          to_b = after (past (UnitOp Unprotect) cb) db 0 true;
          pass_a = does_it j ca da _ _ (UnitOp n) r true (unit_fetched ca da at.pc_a (ap (all_inside j) pa)) (unit_so n u ca da named ∙ ea);
          pass_b = does_it j cb db _ _ (UnitOp n) r true (unit_fetched cb db at.pc_b (ap (all_inside j) pb)) (unit_so n u cb db named ∙ eb);
          ending = Shut (blanked terms.answers (past (UnitOp Unprotect) ca) (past (UnitOp Unprotect) cb) (length-set ca 0 _ ∙ at.core.long_a) (length-set cb 0 _ ∙ at.core.long_b) past_same) refl refl;
        }
      where
        past_same : (k : ℕ) → k < 16 → on_list terms.answers k ≡ false → reg (past (UnitOp Unprotect) ca) k ≡ reg (past (UnitOp Unprotect) cb) k
        past_same zero lt off = past_pc (UnitOp Unprotect) x.point.addr ca refl at.pc_a (even_at m x ca da cb db at) at.core.long_a ∙ sym (past_pc (UnitOp Unprotect) x.point.addr cb refl at.pc_b (even_at m x ca da cb db at) at.core.long_b)
        past_same (suc k) lt off =
            put_other_reg ca 0 _ (suc k) (λ e. absurd (omega arith)) ∙ same_reg m.text terms.answers x.point.addr x.state.core ca cb at.core none (suc k) lt off ∙ sym (put_other_reg cb 0 _ (suc k) (λ e. absurd (omega arith)))

  unit_crossing : (n : UnitName) (u : UnitName) → n ≡ u → (x : PointState) (ca da cb db : List ℕ) → AgreeAt m x ca da cb db → met m.text text x.point.addr ≡ Some (UnitOp n) → (step_unit terms m (UnitOp n) u x).violations ≡ [] →
      Crossing terms m j (AgreeAt m) (step_unit terms m (UnitOp n) u x).gives (at_rest ca da) (at_rest cb db)
  unfolding unit_does unit_plan unit_effect
  unit_crossing n Unprotect e x ca da cb db at met_it none = shut_crossing n Unprotect e x ca da cb db at met_it (ap (λ u. is_alone (UnitOp u)) e) (6 + size_of m.ram / 2 - 1) refl refl refl refl none
  unit_crossing n OwnId e x ca da cb db at met_it none = tell_crossing n OwnId e x ca da cb db at met_it (ap (λ u. is_alone (UnitOp u)) e) m.id refl refl refl refl none
  unit_crossing n CallerId e x ca da cb db at met_it none = tell_crossing n CallerId e x ca da cb db at met_it (ap (λ u. is_alone (UnitOp u)) e) caller refl refl refl refl none
  unit_crossing n _ e x ca da cb db at met_it none = absurd cc

  -- ---- any instruction
  pub step_crossing : ((pc : ℕ) (insn : Insn) → met m.text text pc ≡ Some insn → RegularInsn insn) → (x : PointState) (ca da cb db : List ℕ) → AgreeAt m x ca da cb db → (step_of domain terms m text x).violations ≡ [] → Crossing terms m j (AgreeAt m) (step_of domain terms m text x).gives (at_rest ca da) (at_rest cb db)
  step_crossing regular x ca da cb db at none = by (met m.text text x.point.addr) refl none
    where
      by : (o : Option Insn) → met m.text text x.point.addr ≡ o → (step_insn domain terms m text o x).violations ≡ [] → Crossing terms m j (AgreeAt m) (step_insn domain terms m text o x).gives (at_rest ca da) (at_rest cb db)
      by None e none = absurd cc
      by (Some (Two op w s d)) e none = plain_crossing (Two op w s d) (two_alike op w s d (regular x.point.addr (Two op w s d) e)) x ca da cb db at e none
      by (Some (One op w a)) e none = plain_crossing (One op w a) (one_alike op w a (regular x.point.addr (One op w a) e).0) x ca da cb db at e none
      by (Some (Jump c off)) e none = jump_crossing c off x ca da cb db at e none
      by (Some Reti) e none = absurd cc
      by (Some (UnitOp n)) e none = unit_crossing n n refl x ca da cb db at e none
