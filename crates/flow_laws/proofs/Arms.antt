-- Both arms of a branch: two runs agree at the join, but for what the arms write.
use Rattle.std.proofs.Common.{◌≡◌, ◌≢◌, inl, ℕ, suc, ◌+◌, ◌%◌, ◌<◌, ◌≤◌, List, [], ◌∷◌, ◌++◌, find, length, set, refl, sym, ap, ◌∙◌, subst, arith, Bool, true, false, cond, ◌==◌, ◌&&◌, not, Option, Some, None, get_or-set_same, length-set, ℤ}
use Rattle.std.proofs.lemmas.Bool.{not-false}
use Rattle.std.proofs.lemmas.Bool.Decides.{nat_tests}
use Rattle.sm_words.specs.Words.{reg, put, kept, add16, nth}
use Rattle.insn_decode.specs.Code.{is_always, distance}
use Rattle.cpu_step.specs.Effect.{confined, jumps}
use Rattle.cpu_step.specs.Plan.{plan, past}
use Rattle.insn_decode.specs.declared.insn.Condition.{Condition}
use Rattle.insn_decode.specs.declared.insn.Insn.{Insn}
use Rattle.insn_decode.specs.declared.insn.Insn.TheVariants.{Jump}
use Rattle.flow_rule.specs.Values.{FlagDomain}
use Rattle.flow_rule.proofs.FlagDomains.{SoundFlags}
use Rattle.mod_layout.specs.declared.Module.{Module}
use Rattle.mod_layout.specs.declared.Section.{Section}
use Rattle.mod_layout.specs.Table.{holds}
use Rattle.cpu_step.specs.Asked.{asks}
use Rattle.cpu_step.specs.Lone.{Job, job_of}
use Rattle.flow_rule.specs.Terms.{Terms}
use Rattle.flow_rule.specs.declared.AbstractState.{AbstractState}
use Rattle.flow_rule.specs.declared.Val.{Val}
use Rattle.flow_rule.specs.declared.Val.TheVariants.{Known, Secret}
use Rattle.flow_rule.specs.Values.{flags_in, is_secret, set_each, val, put_val, kept_val}
use Rattle.flow_rule.specs.declared.Reason.TheVariants.{Arm as ArmInsn}
use Rattle.flow_rule.specs.Iterations.{PointState, FlowStep}
use Rattle.flow_rule.specs.Does.{does_val, past_val}
use Rattle.flow_rule.specs.Violations.{violation_if}
use Rattle.flow_rule.proofs.Meaning.{Agrees, set_holds, agrees_as}
use Rattle.flow_rule.proofs.Cores.{AgreeCore, put_other_reg, mode}
use Rattle.flow_rule.proofs.Plans.{none_left, none_right, none_if}
use Rattle.arm_balance.specs.declared.Arm.{Arm}
use Rattle.flow_rule.specs.Arms.{clobbered_core, Walk, Meets, Stops, clobbered_by, walk, arm_start, arm_violations, step_arm, step_branch, step_arms_by, step_arms}
use Rattle.arm_balance.specs.Met.{met}
use Rattle.flow_rule.proofs.Walks.{MeetsJoin, time_to, walk_regs, walk_words, on_time}
use Rattle.flow_laws.proofs.Words.{NotIn, word, Shape}
use Rattle.flow_laws.proofs.Runs.{at_rest, Passes, Stays, Crossing, Standing}
use Rattle.flow_laws.proofs.Instruction.{AgreeAt, even_at, after, does_it, jump_so, past_pc, way_agrees, way_val, fetched}
use Rattle.flow_laws.proofs.Open.{conf_reg}
use Rattle.flow_laws.proofs.ArmRuns.{past_kept, passes_on, at_each, conf_mode, Joins, Refines, walk_reach, walk_arm}

-- ---- what the arms write is Secret
clobbered_core_long : (ns : List ℕ) (v : List Val) → length (clobbered_core ns v) ≡ length v
clobbered_core_long [] v = refl
clobbered_core_long (n ∷ ns) v = clobbered_core_long ns (put_val v n Secret) ∙ length-set v n (kept_val n Secret)

clobbered_long : (w : Walk) (l : AbstractState) → length (clobbered_by w l).core ≡ length l.core
clobbered_long (Meets cycles regs words) l = clobbered_core_long regs l.core
clobbered_long (Stops addr) l = refl

module _ (s : Section) where
  secret_kept : (n a b : ℕ) → (n ≡ 3 → (a ≡ 0) × (b ≡ 0)) → Agrees s (kept_val n Secret) a b
  secret_kept n a b zero3 = by (n == 2) (n == 3) refl
    where
      by : (c d : Bool) → (n == 3) ≡ d → Agrees s (cond c Secret (cond d (Known 0) Secret)) a b
      by true d e = tt
      by false true e = zero3 (grind (arith, nat_tests))
      by false false e = tt

  one_clobbered : (v : List Val) (n k a b : ℕ) → (n ≡ 3 → (a ≡ 0) × (b ≡ 0)) → (n ≢ k → Agrees s (val v n) a b) → Agrees s (val (put_val v k Secret) n) a b
  one_clobbered v n k a b zero3 h = set_holds (λ u. Agrees s u a b) v Secret k n (kept_val k Secret) tt (λ e. subst (λ i. Agrees s (kept_val i Secret) a b) e (secret_kept n a b zero3)) h

  clobbered_core_at : (ns : List ℕ) (v : List Val) (n a b : ℕ) → (n ≡ 3 → (a ≡ 0) × (b ≡ 0)) → (NotIn n ns → Agrees s (val v n) a b) → Agrees s (val (clobbered_core ns v) n) a b
  clobbered_core_at [] v n a b zero3 h = h tt
  clobbered_core_at (k ∷ ns) v n a b zero3 h = clobbered_core_at ns (put_val v k Secret) n a b zero3 (λ no. one_clobbered v n k a b zero3 (λ ne. h (ne, no)))

  clobbered_at : (ns : List ℕ) (v : List Val) (n a b : ℕ) → (NotIn n ns → Agrees s (nth n v Secret) a b) → Agrees s (nth n (set_each ns Secret v) Secret) a b
  clobbered_at [] v n a b h = h tt
  clobbered_at (k ∷ ns) v n a b h =
      clobbered_at ns (set v k Secret) n a b (λ no. set_holds (λ u. Agrees s u a b) v Secret k n Secret tt (λ e. tt) (λ ne. h (ne, no)))

  walk_clobbers : (w : Walk) (l : AbstractState) (n a b : ℕ) → (n ≡ 3 → (a ≡ 0) × (b ≡ 0)) →
      (NotIn n (walk_regs w) → Agrees s (val l.core n) a b) → Agrees s (val (clobbered_by w l).core n) a b
  walk_clobbers (Meets cycles regs words) l n a b zero3 h = clobbered_core_at regs l.core n a b zero3 h
  walk_clobbers (Stops addr) l n a b zero3 h = h tt

  walk_clobbers_word : (w : Walk) (l : AbstractState) (n a b : ℕ) → (NotIn n (walk_words w) → Agrees s (nth n l.words Secret) a b) →
      Agrees s (nth n (clobbered_by w l).words Secret) a b
  walk_clobbers_word (Meets cycles regs words) l n a b h = clobbered_at words l.words n a b h
  walk_clobbers_word (Stops addr) l n a b h = h tt

-- ---- both arms
module _ (terms : Terms) (key : List ℕ) (m : Module) (text : List ℕ) (caller : ℕ) (shape : Shape m) (domain : FlagDomain) (proper : SoundFlags domain) (S : PointState → FlowStep) (refine : Refines terms key m text caller shape domain proper S) (At : Standing) (down : (x : PointState) (ca da cb db : List ℕ) → At x ca da cb db → AgreeAt m x ca da cb db)
    (up : (x : PointState) (ca da cb db : List ℕ) → At x ca da cb db → (cn : Condition) (off : ℤ) → met m.text text x.point.addr ≡ Some (Jump cn off) → (y : PointState) (pa qa pb qb : List ℕ) → kept 0 (add16 x.point.addr 2) ≤ y.point.addr → AgreeAt m y pa qa pb qb → At y pa qa pb qb)
    (base : (x : PointState) (ca da cb db : List ℕ) → At x ca da cb db → (S x).violations ≡ [] → Crossing terms m (job_of key m text caller) At (S x).gives (at_rest ca da) (at_rest cb db)) where
  abbrev jj : Job
  jj = job_of key m text caller

  module _ (cn : Condition) (off : ℤ) (arm : Arm) (x : PointState) (ca da cb db : List ℕ) (at : AgreeAt m x ca da cb db) (met_it : met m.text text x.point.addr ≡ Some (Jump cn off)) (secret : is_secret (val x.state.core 2) ≡ true) where
    abbrev pc0 : ℕ
    pc0 = x.point.addr

    abbrev target : ℕ
    target = add16 (add16 pc0 2) (distance off)

    abbrev core_of : Bool → List Val
    core_of t = cond t (put_val (past_val (Jump cn off) pc0 x.state.core) 0 (Known target)) (past_val (Jump cn off) pc0 x.state.core)

    abbrev start_of_arm : Bool → PointState
    start_of_arm t = arm_start (Jump cn off) (cond t target (add16 pc0 2)) x (core_of t)

    abbrev walk_of : Bool → Walk
    walk_of t = walk S m text arm.join (suc arm.join) (start_of_arm t)

    abbrev jumped : Bool → List ℕ → List ℕ
    jumped t c = confined true c (cond t (put (past (Jump cn off) c) 0 (add16 (reg (past (Jump cn off) c) 0) (distance off))) (past (Jump cn off) c))

    -- one run from the branch to the join
    abbrev Crossed : Bool → List ℕ → List ℕ → Type 0
    Crossed t c d = Joins terms key m text caller shape domain proper (2 + arm.cycles) arm.join (walk_regs (walk_of t)) (walk_words (walk_of t)) c d

    arm_crossed : (t : Bool) (c d : List ℕ) → AgreeAt m x c d c d → jumps cn (reg c 2) ≡ t → MeetsJoin (walk_of t) →
        time_to (walk_of t) ≡ arm.cycles → Crossed t c d
    unfolding asks plan
    arm_crossed t c d self turn meets time =
        let ways = way_agrees terms key m text caller shape domain proper cn off x c d c d self met_it t in
        let first : Passes jj 2 (at_rest c d) (at_rest (jumped t c) d) =
        does_it jj c d (jumped t c) d (Jump cn off) 1 false
        (fetched terms key m text caller shape domain proper c d (Jump cn off) self.core.even_pc (ap (λ a. holds m.text a) self.pc_a ∙ self.in_text) (ap (λ a. met m.text text a) self.pc_a ∙ met_it) refl refl)
        (jump_so terms key m text caller shape domain proper cn off c d ∙ ap (λ t. after (jumped t c) d 1 false) turn) in
        let w = walk_arm terms key m text caller shape domain proper S refine arm.join (suc arm.join) (start_of_arm t) (jumped t c) d
        (record { pc = lands_at t c self.pc_a (even_at m x c d c d self) self.core.long_a; core = from_ways t ways; words = self.words }) meets in
        record {
          core = w.core;
          data_left = w.data_left;
          pass = passes_on jj 2 arm.cycles (at_rest c d) (at_rest (jumped t c) d) (at_rest w.core w.data_left) first (subst (λ n. Passes jj n (at_rest (jumped t c) d) (at_rest w.core w.data_left)) time w.pass);
          here = w.here;
          fine = w.fine;
          is_data = w.is_data;
          regs = λ k n0 n2 no. w.regs k n0 n2 no ∙ jump_keeps t k n0 n2;
          words = w.words;
          sr = w.sr ∙ jump_mode t self.core.long_a;
        }
      where
        from_ways : (t : Bool) → AgreeCore m.text (way_val terms key m text caller shape domain proper cn off x c d c d self met_it t) (jumped t c) (jumped t c) → AgreeCore m.text (core_of t) (jumped t c) (jumped t c)
        from_ways true h = h
        from_ways false h = h

        inner : Bool → List ℕ
        inner t = cond t (put (past (Jump cn off) c) 0 (add16 (reg (past (Jump cn off) c) 0) (distance off))) (past (Jump cn off) c)

        jump_keeps : (t : Bool) (k : ℕ) → k ≢ 0 → k ≢ 2 → reg (jumped t c) k ≡ reg c k
        jump_keeps true k n0 n2 = conf_reg c (inner true) k n2 ∙ put_other_reg (past (Jump cn off) c) 0 _ k n0 ∙ past_kept (Jump cn off) c k n0
        jump_keeps false k n0 n2 = conf_reg c (inner false) k n2 ∙ past_kept (Jump cn off) c k n0

        jump_mode : (t : Bool) → length c ≡ 16 → mode (reg (jumped t c) 2) ≡ mode (reg c 2)
        jump_mode true long = conf_mode terms key m text caller shape domain proper c (inner true) (length-set (past (Jump cn off) c) 0 _ ∙ length-set c 0 _ ∙ long)
        jump_mode false long = conf_mode terms key m text caller shape domain proper c (inner false) (length-set c 0 _ ∙ long)

        lands_at : (t : Bool) (c : List ℕ) → reg c 0 ≡ pc0 → pc0 % 2 ≡ 0 → length c ≡ 16 → reg (jumped t c) 0 ≡ kept 0 (cond t target (add16 pc0 2))
        lands_at true c e ev long =
            let c1 = past (Jump cn off) c in
            let len : length c1 ≡ 16 = length-set c 0 _ ∙ long in
            conf_reg c (put c1 0 (add16 (reg c1 0) (distance off))) 0 (λ e. absurd (omega arith)) ∙ get_or-set_same c1 0 (kept 0 (add16 (reg c1 0) (distance off))) 0 (subst (λ i. 0 < i) (sym len) (omega arith))
            ∙ ap (λ i. kept 0 (add16 i (distance off))) (past_pc terms key m text caller shape domain proper (Jump cn off) pc0 c refl e ev long)
        lands_at false c e ev long =
            conf_reg c (past (Jump cn off) c) 0 (λ e. absurd (omega arith)) ∙ past_pc terms key m text caller shape domain proper (Jump cn off) pc0 c refl e ev long ∙ stays
          where
            stays : add16 pc0 2 ≡ kept 0 (add16 pc0 2)
            stays = omega arith

    -- what holds of either arm holds of the one that a run takes
    at_turn : (P : Bool → Type 0) → P false → P true → (t : Bool) → P t
    at_turn P first second true = second
    at_turn P first second false = first

    -- Secret where the arm writes that the jump does not take, and where either does
    abbrev clobbered_first : AbstractState
    clobbered_first = clobbered_by (walk_of false) x.state

    abbrev clobbered_both : AbstractState
    clobbered_both = clobbered_by (walk_of true) clobbered_first

    abbrev joined_point : PointState
    joined_point = record {
      point = record { addr = arm.join; call_string = x.point.call_string };
      state = record { core = set clobbered_both.core 0 (Known arm.join); words = clobbered_both.words };
    }

    joined_at : (ta tb : Bool) (p : Crossed ta ca da) (q : Crossed tb cb db) → holds m.text arm.join ≡ true → AgreeAt m joined_point p.core p.data_left q.core q.data_left
    joined_at ta tb p q inn =
        record {
          pc_a = p.here;
          pc_b = q.here;
          core = record {
            short =
                let same = length-set clobbered_both.core 0 (Known arm.join) ∙ clobbered_long (walk_of true) clobbered_first ∙ clobbered_long (walk_of false) x.state in
                subst (λ i. i ≤ 16) (sym same) at.core.short;
            long_a = p.fine.1.long_a;
            long_b = q.fine.1.long_a;
            at = λ n ne. set_holds (λ u. Agrees m.text u (reg p.core n) (reg q.core n)) clobbered_both.core Secret 0 n (Known arm.join) tt (λ e. (ap (reg p.core) e ∙ p.here, ap (reg q.core) e ∙ q.here))
                (λ n0. walk_clobbers m.text (walk_of true) clobbered_first n (reg p.core n) (reg q.core n) (zeros n)
                (λ free1. walk_clobbers m.text (walk_of false) x.state n (reg p.core n) (reg q.core n) (zeros n) (λ free0. others n n0 ne free0 free1)));
            flags = set_holds (λ u. Agrees m.text u (flags_in (reg p.core 2)) (flags_in (reg q.core 2))) clobbered_both.core Secret 0 2 (Known arm.join) tt (λ e. absurd (omega arith))
                (λ n0. walk_clobbers m.text (walk_of true) clobbered_first 2 (flags_in (reg p.core 2)) (flags_in (reg q.core 2)) (λ e. absurd (omega arith))
                (λ free1. walk_clobbers m.text (walk_of false) x.state 2 (flags_in (reg p.core 2)) (flags_in (reg q.core 2)) (λ e. absurd (omega arith)) (λ free0. is_flag (val x.state.core 2) secret _ _)));
            mode_same = p.sr ∙ at.core.mode_same ∙ sym q.sr;
            nine_a = p.fine.1.nine_a;
            nine_b = q.fine.1.nine_a;
            even_pc = p.fine.1.even_pc;
            zero_a = p.fine.1.zero_a;
            zero_b = q.fine.1.zero_a;
          };
          words = record {
            is_a = p.is_data;
            is_b = q.is_data;
            at = λ i. walk_clobbers_word m.text (walk_of true) clobbered_first i
                (word p.data_left i) (word q.data_left i)
                (λ free1. walk_clobbers_word m.text (walk_of false) x.state i (word p.data_left i) (word q.data_left i)
                (λ free0. let kept_by = λ (t : Bool). at_turn (λ t. NotIn i (walk_words (walk_of t))) free0 free1 t in
                agrees_as m.text _ _ _ _ _ _ refl (p.words i (kept_by ta)) (q.words i (kept_by tb)) (at.words.at i)));
          };
          in_text = inn;
        }
      where
        is_flag : (v : Val) → is_secret v ≡ true → (a b : ℕ) → Agrees m.text v a b
        is_flag Secret e a b = tt
        is_flag _ e a b = absurd cc

        others : (n : ℕ) → n ≢ 0 → n ≢ 2 → NotIn n (walk_regs (walk_of false)) → NotIn n (walk_regs (walk_of true)) → Agrees m.text (val x.state.core n) (reg p.core n) (reg q.core n)
        others n n0 n2 free0 free1 =
            let kept_by = λ (t : Bool). at_turn (λ t. NotIn n (walk_regs (walk_of t))) free0 free1 t in
            agrees_as m.text _ _ _ _ _ _ refl (p.regs n n0 n2 (kept_by ta)) (q.regs n n0 n2 (kept_by tb)) (at.core.at n n2)

        zeros : (n : ℕ) → n ≡ 3 → (reg p.core n ≡ 0) × (reg q.core n ≡ 0)
        zeros n e = (ap (λ i. reg p.core i) e ∙ p.fine.1.zero_a, ap (λ i. reg q.core i) e ∙ q.fine.1.zero_a)

    arm_crossing : At x ca da cb db → (step_arm S m text (Jump cn off) target arm x).violations ≡ [] → Crossing terms m jj At (step_arm S m text (Jump cn off) target arm x).gives (at_rest ca da) (at_rest cb db)
    unfolding does_val
    arm_crossing standing none =
        let r0 = violation_if (not (holds m.text arm.join)) pc0 ArmInsn arm.join in
        let rs0 = arm_violations pc0 arm.cycles 0 (walk_of false) in
        let rs1 = arm_violations pc0 arm.cycles 1 (walk_of true) in
        let both : (r0 ++ rs0) ≡ [] = none_left (r0 ++ rs0) rs1 none in
        let inn : holds m.text arm.join ≡ true =
        not-false (holds m.text arm.join) (none_if (not (holds m.text arm.join)) pc0 ArmInsn arm.join (none_left r0 rs0 both)) in
        let t0 = on_time pc0 arm.cycles 0 (walk_of false) (none_right r0 rs0 both) in
        let t1 = on_time pc0 arm.cycles 1 (walk_of true) (none_right (r0 ++ rs0) rs1 none) in
        let ta = jumps cn (reg ca 2) in
        let tb = jumps cn (reg cb 2) in
        let each = at_each m x ca da cb db at in
        let p = arm_crossed ta ca da each.0 refl (at_turn (λ t. MeetsJoin (walk_of t)) t0.0 t1.0 ta) (at_turn (λ t. time_to (walk_of t) ≡ arm.cycles) t0.1 t1.1 ta) in
        let q = arm_crossed tb cb db each.1 refl (at_turn (λ t. MeetsJoin (walk_of t)) t0.0 t1.0 tb) (at_turn (λ t. time_to (walk_of t) ≡ arm.cycles) t0.1 t1.1 tb) in
        record {
          cycles = 2 + arm.cycles;
          some = omega arith;
          to_a = at_rest p.core p.data_left;
          to_b = at_rest q.core q.data_left;
          pass_a = p.pass;
          pass_b = q.pass;
          ending = Stays joined_point (inl refl) p.core p.data_left q.core q.data_left (up x ca da cb db standing cn off met_it joined_point p.core p.data_left q.core q.data_left (walk_reach terms key m text caller shape domain proper S refine arm.join (suc arm.join) (start_of_arm false) t0.0) (joined_at ta tb p q inn)) refl refl;
        }

  -- ---- every step, with certificates
  pub arms_crossing : (arms : List Arm) (x : PointState) (ca da cb db : List ℕ) → At x ca da cb db → (step_arms S arms m text x).violations ≡ [] →
      Crossing terms m jj At (step_arms S arms m text x).gives (at_rest ca da) (at_rest cb db)
  unfolding step_arms
  arms_crossing arms x ca da cb db at none = by (met m.text text x.point.addr) refl none
    where
      plain : (S x).violations ≡ [] → Crossing terms m jj At (S x).gives (at_rest ca da) (at_rest cb db)
      plain none = base x ca da cb db at none

      found : (cn : Condition) (off : ℤ) → met m.text text x.point.addr ≡ Some (Jump cn off) → is_secret (val x.state.core 2) ≡ true → (o : Option Arm) →
          (step_branch o S m text (Jump cn off) x (add16 (add16 x.point.addr 2) (distance off))).violations ≡ [] →
          Crossing terms m jj At (step_branch o S m text (Jump cn off) x (add16 (add16 x.point.addr 2) (distance off))).gives (at_rest ca da) (at_rest cb db)
      found cn off e s None none = plain none
      found cn off e s (Some arm) none = arm_crossing cn off arm x ca da cb db (down x ca da cb db at) e s at none

      jump_by : (cn : Condition) (off : ℤ) → met m.text text x.point.addr ≡ Some (Jump cn off) → (a b : Bool) → is_secret (val x.state.core 2) ≡ b →
          (cond (a && b) (step_branch (find (λ arm. arm.branch == x.point.addr) arms) S m text (Jump cn off) x (add16 (add16 x.point.addr 2) (distance off))) (S x)).violations ≡ [] →
          Crossing terms m jj At (cond (a && b) (step_branch (find (λ arm. arm.branch == x.point.addr) arms) S m text (Jump cn off) x (add16 (add16 x.point.addr 2) (distance off))) (S x)).gives (at_rest ca da) (at_rest cb db)
      jump_by cn off e true true s none = found cn off e s (find (λ arm. arm.branch == x.point.addr) arms) none
      jump_by cn off e true false s none = plain none
      jump_by cn off e false b s none = plain none

      by : (o : Option Insn) → met m.text text x.point.addr ≡ o → (step_arms_by o S arms m text x).violations ≡ [] → Crossing terms m jj At (step_arms_by o S arms m text x).gives (at_rest ca da) (at_rest cb db)
      by (Some (Jump cn off)) e none = jump_by cn off e (not (is_always cn)) (is_secret (val x.state.core 2)) refl none
      by _ e none = plain none
