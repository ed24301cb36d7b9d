-- Settling in both runs, and a whole cycle.
use Rattle.std.proofs.Common.{◌≡◌, ◌⊎◌, inl, inr, ℕ, zero, suc, ◌+◌, List, [], ◌∷◌, refl, sym, ap, ◌∙◌, subst, arith, Bool, true, false, ◌==◌, Option, Some, None}
use Rattle.attest.specs.Done.{own_of}
use Rattle.cpu_step.specs.Lone.{Doing, Waits, Closes, Leaves, Does, doing, doing_by, next_insn, job_of, is_answer, blank}
use Rattle.insn_decode.specs.declared.insn.Insn.{Insn}
use Rattle.run_laws.specs.Events.{EndsCall}
use Rattle.run_laws.specs.Frames.{rest_of}
use Rattle.mod_layout.specs.Table.{size_of, holds, without}
use Rattle.mod_layout.specs.declared.Module.{Module}
use Rattle.pc_access.specs.Rights.{is_id}
use Rattle.reg_backup.specs.Saved.{closing_after, is_close}
use Rattle.reg_backup.specs.declared.backup.After.{After}
use Rattle.reg_backup.specs.declared.backup.After.TheVariants.{Next, Close}
use Rattle.reg_backup.specs.declared.backup.Backup.{Backup}
use Rattle.reg_backup.specs.declared.backup.Phase.{Phase}
use Rattle.reg_backup.specs.declared.backup.Phase.TheVariants.{Run}
use Rattle.reg_backup.specs.declared.frames.Frame.{Frame}
use Rattle.reg_backup.specs.declared.frames.Frame.TheVariants.{Plain, Module as Held}
use Rattle.sm_words.specs.Sums.{one_if}
use Rattle.sm_words.specs.Words.{cleared}
use Rattle.tracer.specs.declared.Event.{Event}
use Rattle.written_machine.specs.Cycle.{Settled, unsettled, pc_of, in_text, leave_if, close_of, settle_by, settle_in, settle}
use Rattle.written_machine.specs.Peers.{section}
use Rattle.written_machine.specs.State.{State}
use Rattle.std.specs.List.{list_all}
use Rattle.cpu_step.proofs.Blank.{pc_equal}
use Rattle.isolation.proofs.Active.{active_some, said}
use Rattle.isolation.proofs.EvenBy.{AlwaysEvenBy}
use Rattle.isolation.proofs.Evenly.{Together, next_together}
use Rattle.isolation.proofs.Hide.{veil_if, veil_frames, hide_by, hide}
use Rattle.isolation.proofs.Relation.{times, none_found, backup_of, run_by, lone_of, IsOpen, same_secret, Open as IsOpenNow, Keeps, Twins, Ready, BothActive, both_active, twins_stay, seen_veiled, seen_active}
use Rattle.isolation.proofs.Settled.{settle_stays}
use Rattle.isolation.proofs.Settling.{hide_settled, settle_veiled}
use Rattle.run_laws.proofs.Ways.{or_unsettled}

-- frames that are not the module's hide nothing
frame_by : (c : Bool) (b : Backup) (n : ℕ) → one_if c + n ≡ 0 → veil_if c b ≡ b
frame_by true b n e = absurd (omega arith)
frame_by false b n e = refl

frames_same : (m : ℕ) (fs : List Frame) → times m fs ≡ 0 → veil_frames m fs ≡ fs
frames_same m [] e = refl
frames_same m (Plain ∷ fs) e = ap (λ l. Plain ∷ l) (frames_same m fs e)
frames_same m (Held b ∷ fs) e =
    let r : times m fs ≡ 0 = omega arith in
    ap (λ x. Held x ∷ veil_frames m fs) (frame_by (b.module == m) b (times m fs) e) ∙ ap (λ l. Held b ∷ l) (frames_same m fs r)

module _ (m : ℕ) (own : Module) (key text : List ℕ) where
  abbrev pub closed_state : State → State
  closed_state s = record s { memory = cleared own.ram.start (size_of own.ram) s.memory; table = without m s.table; active = None; after = Next }

  abbrev pub left_state : State → State
  left_state s = record s { active = None }

  -- how an active module is settled
  abbrev pub settled_as : Doing → State → Settled
  settled_as Closes s = record { state = closed_state s; events = Event.Close m ∷ []; left = 0 }
  settled_as Leaves s = record { state = left_state s; events = Event.Leave m (pc_of s) ∷ []; left = m }
  settled_as _ s = unsettled s

  module _ (s : State) (k : Keeps m own key text s) (act : is_id m s.active ≡ true) where
    active_is : s.active ≡ Some m
    active_is = active_some m s.active act

    own_is : own_of s.active s.table ≡ Some own
    own_is = ap (λ o. own_of o s.table) active_is ∙ k.sound.found

    settle_run : (p : Phase) → s.phase ≡ p → settle s ≡ or_unsettled (settle_in p s) s
    unfolding settle
    settle_run p e = ap (λ q. or_unsettled (settle_in q s) s) e

    rest_zero : (a : After) → rest_of s.phase ≡ 0 → s.after ≡ a → settle s ≡ or_unsettled (settle_by a s) s
    rest_zero a e f = settle_run (Run 0) ((k.proper act).0 ∙ ap Run e) ∙ ap (λ x. or_unsettled (settle_by x s) s) f

    stays_in : (b : Bool) → in_text (Some own) (pc_of s) ≡ b → or_unsettled (settle_by Next s) s ≡ or_unsettled (leave_if b (Some m) s) s
    stays_in b e =
        ap (λ o. or_unsettled (leave_if (in_text o (pc_of s)) s.active s) s) own_is
        ∙ ap (λ x. or_unsettled (leave_if x s.active s) s) e ∙ ap (λ a. or_unsettled (leave_if b a s) s) active_is

    open_settled : (r : ℕ) (c t : Bool) (n : Option Insn) → rest_of s.phase ≡ r → is_close s.after ≡ c → holds own.text (pc_of s) ≡ t → settle s ≡ settled_as (doing_by r c t n) s
    open_settled (suc r) c t n er ec et = settle_run (Run (suc r)) ((k.proper act).0 ∙ ap Run er)
    open_settled zero true t n er ec et =
        rest_zero Close er ((k.proper act).1 ∙ ap closing_after ec)
        ∙ ap (λ o. or_unsettled (close_of s.active o s) s) own_is ∙ ap (λ a. or_unsettled (close_of a (Some own) s) s) active_is
    open_settled zero false false n er ec et = rest_zero Next er ((k.proper act).1 ∙ ap closing_after ec) ∙ stays_in false et
    open_settled zero false true None er ec et = rest_zero Next er ((k.proper act).1 ∙ ap closing_after ec) ∙ stays_in true et
    open_settled zero false true (Some i) er ec et = rest_zero Next er ((k.proper act).1 ∙ ap closing_after ec) ∙ stays_in true et

    pub settled_doing : settle s ≡ settled_as (doing (job_of key own text s.caller) (lone_of (backup_of m s) (section own.ram s.memory))) s
    unfolding doing
    settled_doing = open_settled (rest_of s.phase) (is_close s.after) (holds own.text (pc_of s)) (next_insn (job_of key own text s.caller) (lone_of (backup_of m s) (section own.ram s.memory))) refl refl refl

    pub no_times : times m s.frames ≡ 0
    no_times = let a : one_if (is_id m s.active) ≡ 1 = ap one_if act in let k1 = k.once in omega arith

  -- ---- settled alike
  module _ (answers : List ℕ) where
    pub record Settles (ua ub : Settled) : Type 0 where
      pub left : ua.left ≡ ub.left
      pub states : (ua.state ≡ ub.state) ⊎ Ready m own key text answers ua.state ub.state

    -- they tell the same; where that ends a call, its cores are equal but for the answers; and if in these too, they go on alike
    pub record SettlesBut (a b : State) (ua ub : Settled) : Type 0 where
      pub events : ua.events ≡ ub.events
      pub cores : EndsCall m ua.events → blank answers a.core ≡ blank answers b.core
      pub settles : (EndsCall m ua.events → a.core ≡ b.core) → Settles ua ub

    module _ (a b : State) (twins : Twins m own key text answers a b) where
      pub outside_settles : is_id m a.active ≡ false → SettlesBut a b (settle a) (settle b)
      outside_settles out_a =
          let out_b : is_id m b.active ≡ false = ap (is_id m) (sym (seen_active m own key text a b twins.seen)) ∙ out_a in
          let v = seen_veiled m own key text a b twins.seen out_a in
          let h : hide_settled m own (settle a) ≡ hide_settled m own (settle b) = sym (settle_veiled m own a out_a) ∙ ap settle v ∙ settle_veiled m own b out_b in
          let r : Ready m own key text answers a b = record { twins = twins; now_a = twins.open_a out_a; now_b = twins.open_b out_b } in
          record {
            events = ap (λ u. u.events) h;
            cores = λ e. ap (λ (s : State). blank answers s.core) v;
            settles = λ same. record {
              left = ap (λ u. u.left) h;
              states = inr (twins_stay m own key text answers a b (settle a).state (settle b).state r (settle_stays m own key text a twins.keeps_a out_a) (settle_stays m own key text b twins.keeps_b out_b) (ap (λ u. u.state) h));
            };
          }

      module _ (answers_ok : list_all is_answer answers ≡ true) (act_a : is_id m a.active ≡ true) where
        both : BothActive m own key text answers a b
        both = both_active m own key text answers a b twins act_a

        frames_alike : a.frames ≡ b.frames
        frames_alike =
            sym (frames_same m a.frames (no_times a twins.keeps_a act_a)) ∙ ap (λ s. s.frames) both.seen ∙ frames_same m b.frames (no_times b twins.keeps_b both.other)

        closed_same : a.core ≡ b.core → rest_of a.phase ≡ 0 → rest_of b.phase ≡ 0 → closed_state a ≡ closed_state b
        closed_same core ra rb =
            let pa = (twins.keeps_a.proper act_a).0 ∙ ap Run ra in
            let pb = (twins.keeps_b.proper both.other).0 ∙ ap Run rb in
            let build : State → List ℕ → List Frame → Phase → State = λ h c fs p. record h { core = c; frames = fs; phase = p; table = without m h.table; active = None; after = Next } in
            ap (λ h. build h a.core a.frames a.phase) both.seen ∙ ap (λ c. build (hide_by true m own b) c a.frames a.phase) core
            ∙ ap (λ fs. build (hide_by true m own b) b.core fs a.phase) frames_alike ∙ ap (build (hide_by true m own b) b.core b.frames) (pa ∙ sym pb)

        left_ready : a.core ≡ b.core → AlwaysEvenBy answers key own text (section own.ram a.memory) (section own.ram b.memory) → rest_of a.phase ≡ 0 → rest_of b.phase ≡ 0 → is_close a.after ≡ false → is_close b.after ≡ false → Ready m own key text answers (left_state a) (left_state b)
        left_ready core even ra rb ca cb =
            let pa = (twins.keeps_a.proper act_a).0 ∙ ap Run ra in
            let pb = (twins.keeps_b.proper both.other).0 ∙ ap Run rb in
            let aa = (twins.keeps_a.proper act_a).1 ∙ ap closing_after ca in
            let ab = (twins.keeps_b.proper both.other).1 ∙ ap closing_after cb in
            let build : State → List ℕ → Phase → After → State = λ h c p f. record h { core = c; phase = p; after = f; active = None } in
            let seen : hide m own (left_state a) ≡ hide m own (left_state b) =
            ap (λ h. build h a.core a.phase a.after) both.seen ∙ ap (λ c. build (hide_by true m own b) c a.phase a.after) core
            ∙ ap (λ p. build (hide_by true m own b) b.core p a.after) (pa ∙ sym pb) ∙ ap (build (hide_by true m own b) b.core b.phase) (aa ∙ sym ab) in
            let fa = none_found m a.frames (no_times a twins.keeps_a act_a) in
            let fb = none_found m b.frames (no_times b twins.keeps_b both.other) in
            let oa = subst (λ r. IsOpenNow m own key text r (section own.ram a.memory)) (sym fa) tt in
            let ob = subst (λ r. IsOpenNow m own key text r (section own.ram b.memory)) (sym fb) tt in
            let ta = no_times a twins.keeps_a act_a in
            let tb = no_times b twins.keeps_b both.other in
            record {
              twins = record {
                seen = seen;
                secret = same_secret m own key text answers fa fb refl refl even;
                keeps_a = left_keeps a twins.keeps_a ta;
                keeps_b = left_keeps b twins.keeps_b tb;
                open_a = λ h. oa;
                open_b = λ h. ob;
              };
              now_a = oa;
              now_b = ob;
            }
          where
            left_keeps : (s : State) → Keeps m own key text s → times m s.frames ≡ 0 → Keeps m own key text (left_state s)
            left_keeps s k t = record { sound = k.sound; key_is = k.key_is; text_is = k.text_is; once = omega arith; proper = λ h. absurd cc }

        still : (x y : Doing) → doing (job_of key own text a.caller) (lone_of (backup_of m a) (section own.ram a.memory)) ≡ x → doing (job_of key own text b.caller) (lone_of (backup_of m b) (section own.ram b.memory)) ≡ y → IsOpen x → IsOpen y → SettlesBut a b (unsettled a) (unsettled b)
        still x y ea eb oa ob =
            let na = subst (λ c. IsOpenNow m own key text (run_by c m a) (section own.ram a.memory)) (sym act_a) (subst IsOpen (sym ea) oa) in
            let nb = subst (λ c. IsOpenNow m own key text (run_by c m b) (section own.ram b.memory)) (sym both.other) (subst IsOpen (sym eb) ob) in
            record { events = refl; cores = λ e. absurd e; settles = λ same. record { left = refl; states = inr (record { twins = twins; now_a = na; now_b = nb }) } }

        inside_by : (x y : Doing) → doing (job_of key own text a.caller) (lone_of (backup_of m a) (section own.ram a.memory)) ≡ x → doing (job_of key own text b.caller) (lone_of (backup_of m b) (section own.ram b.memory)) ≡ y →
            Together answers key own text (job_of key own text a.caller) x y (lone_of (backup_of m a) (section own.ram a.memory)) (lone_of (backup_of m b) (section own.ram b.memory)) → SettlesBut a b (settled_as x a) (settled_as y b)
        unfolding doing
        inside_by Closes Closes ea eb t =
            let na = said (rest_of a.phase) (is_close a.after) (holds own.text (pc_of a)) _ Closes ea in
            let nb = said (rest_of b.phase) (is_close b.after) (holds own.text (pc_of b)) _ Closes eb in
            record { events = refl; cores = λ e. t; settles = λ same. record { left = refl; states = inl (closed_same (same (inl refl)) na.0 nb.0) } }
        inside_by Leaves Leaves ea eb t =
            let na = said (rest_of a.phase) (is_close a.after) (holds own.text (pc_of a)) _ Leaves ea in
            let nb = said (rest_of b.phase) (is_close b.after) (holds own.text (pc_of b)) _ Leaves eb in
            record {
              events = ap (λ pc. Event.Leave m pc ∷ []) (pc_equal answers a.core b.core answers_ok t.0);
              cores = λ e. t.0;
              settles = λ same. let core = same (inl refl) in record { left = refl; states = inr (left_ready core (t.1 core) na.0 nb.0 na.1 nb.1) };
            }
        inside_by (Waits r) (Waits r') ea eb t = still (Waits r) (Waits r') ea eb tt tt
        inside_by (Waits r) (Does i) ea eb t = still (Waits r) (Does i) ea eb tt tt
        inside_by (Does i) (Waits r) ea eb t = still (Does i) (Waits r) ea eb tt tt
        inside_by (Does i) (Does i') ea eb t = still (Does i) (Does i') ea eb tt tt
        inside_by _ _ ea eb t = absurd t

        pub inside_settles : SettlesBut a b (settle a) (settle b)
        inside_settles =
            let la = lone_of (backup_of m a) (section own.ram a.memory) in
            let lb = lone_of (backup_of m b) (section own.ram b.memory) in
            let ja = job_of key own text a.caller in
            let jb = job_of key own text b.caller in
            let t = next_together answers key own text ja la lb both.secret.1 in
            let t' = subst (λ j. Together answers key own text ja (doing ja la) (doing j lb) la lb) (sym both.job) t in
            let r = inside_by (doing ja la) (doing jb lb) refl refl t' in
            subst (λ u. SettlesBut a b u (settle b)) (sym (settled_doing a twins.keeps_a act_a)) (subst (λ u. SettlesBut a b (settled_as (doing ja la) a) u) (sym (settled_doing b twins.keeps_b both.other)) r)
