-- A cycle in which the module is active in both runs: they go on together.
use Rattle.std.proofs.Common.{◌≡◌, inr, ℕ, List, refl, sym, ap, ◌∙◌, subst, true, false, Option, Some, ⊎_elim, zero, suc, ◌+◌, ◌*◌, ◌%◌, [], ◌∷◌, length, map, arith, Bool, not, ◌||◌, ◌==◌, None}
use Rattle.attest.specs.Accesses.{reads_of}
use Rattle.cpu_step.specs.Asked.{asks}
use Rattle.cpu_step.specs.Fetched.{insn_in}
use Rattle.cpu_step.specs.Lone.{Lone, job_of, Job, Doing, Waits, Closes, Leaves, Breaks, Does, doing, doing_by, next_insn, lone_does, lone_step_by, lone_read, lone_who, lone_byte, is_alone}
use Rattle.insn_decode.specs.declared.insn.Insn.{Insn}
use Rattle.run_laws.specs.Frames.{rest_of}
use Rattle.mod_layout.specs.Table.{size_of, place_of, holds}
use Rattle.mod_layout.specs.declared.Module.{Module}
use Rattle.mod_layout.specs.declared.Place.{Place}
use Rattle.mod_layout.specs.declared.Place.TheVariants.{Entry}
use Rattle.pc_access.specs.Rights.{is_id, is_held, refuse_if, right, right_at}
use Rattle.pc_access.specs.declared.Kind.TheVariants.{Fetch}
use Rattle.pc_access.specs.declared.Rule.{Rule}
use Rattle.reg_backup.specs.Held.{held_ids}
use Rattle.reg_backup.specs.Saved.{closing_after, is_close}
use Rattle.reg_backup.specs.declared.backup.Backup.{Backup}
use Rattle.reg_backup.specs.declared.backup.Phase.TheVariants.{Run}
use Rattle.reg_backup.specs.declared.frames.Frame.{Frame}
use Rattle.reg_backup.specs.declared.frames.Frame.TheVariants.{Plain, Module as Held}
use Rattle.sm_words.specs.Sums.{one_if}
use Rattle.sm_words.specs.Words.{cleared, reg, IsCore}
use Rattle.std.proofs.lemmas.Bool.Decides.{nat_tests}
use Rattle.written_machine.specs.Cycle.{Step, act, quiet, told, pc_of, due, arrive_inside, turn, begin, enter_at, enter, fetch, unless}
use Rattle.written_machine.specs.Peers.{section}
use Rattle.written_machine.specs.State.{State}
use Rattle.cpu_step.specs.LoneLaws.{GoesOn}
use Rattle.isolation.proofs.Evenly.{Evenly, Together, next_together}
use Rattle.isolation.proofs.Hide.{veil_core, hide_by, hide}
use Rattle.isolation.proofs.Inside.{Moves, may_some, did_act}
use Rattle.run_laws.proofs.Rights.{own_id}
use Rattle.isolation.proofs.Relation.{run_by, run_of, Secret, same_secret, Keeps, Twins, Alike, times, backup_of, lone_of, IsOpen, Open as IsOpenNow, Ready, Outer, outer_alike, BothActive, both_active}
use Rattle.isolation.proofs.Settled.{close_is, arrive_inside_stays}
use Rattle.run_laws.proofs.Gie.{effect_gie}
use Rattle.isolation.proofs.Settling.{arrive_hidden, due_hidden}
use Rattle.run_laws.proofs.Cases.{turn_as, interrupted}

abbrev pub moved : State → Lone → List ℕ → State
moved s l' memory = record s { core = l'.core; memory = memory; phase = Run l'.rest; after = closing_after l'.closing }

pub moved_run : (m : ℕ) (s : State) (l' : Lone) (memory : List ℕ) → is_id m s.active ≡ true → run_of m (moved s l' memory) ≡ Some record { «module» = m; caller = s.caller; core = l'.core; rest = l'.rest; closing = l'.closing }
moved_run m s l' memory act =
    ap (λ c. run_by c m (moved s l' memory)) act
    ∙ ap (λ c. let r : Backup = record { «module» = m; caller = s.caller; core = l'.core; rest = l'.rest; closing = c } in Some r) (close_is l'.closing)

module _ (m : ℕ) (own : Module) (key text : List ℕ) where
  pub moved_keeps : (s : State) (l' : Lone) (memory : List ℕ) → Keeps m own key text s → section own.text memory ≡ section own.text s.memory → Keeps m own key text (moved s l' memory)
  moved_keeps s l' memory k t =
      record { sound = k.sound; key_is = k.key_is; text_is = t ∙ k.text_is; once = k.once; proper = λ h. (refl, ap closing_after (sym (close_is l'.closing))) }

  moved_hidden : (s : State) (l' : Lone) (memory : List ℕ) → is_id m s.active ≡ true → cleared own.ram.start (size_of own.ram) memory ≡ cleared own.ram.start (size_of own.ram) s.memory → veil_core l'.core ≡ veil_core s.core → hide m own (moved s l' memory) ≡ hide_by true m own s
  moved_hidden s l' memory act rest gie = rw (act, gie, rest) refl

  pub moves_alike : (answers : List ℕ) (a b : State) (la lb : Lone) (ua ub : Step) → Keeps m own key text a → Keeps m own key text b → is_id m a.active ≡ true → is_id m b.active ≡ true → hide_by true m own a ≡ hide_by true m own b → Moves own a la ua → Moves own b lb ub → veil_core la.core ≡ veil_core a.core → veil_core lb.core ≡ veil_core b.core → Evenly answers key own text (job_of key own text a.caller) la lb → Alike m own key text answers ua ub
  moves_alike answers a b la lb ua ub ka kb act_a act_b seen va vb ga gb ev =
      let xa : Backup = record { «module» = m; caller = a.caller; core = la.core; rest = la.rest; closing = la.closing } in
      let xb : Backup = record { «module» = m; caller = b.caller; core = lb.core; rest = lb.rest; closing = lb.closing } in
      let s : Secret m own key text answers (Some xa) (Some xb) la.data_bytes lb.data_bytes = (ap (λ u. u.caller) seen, ev) in
      let t : Twins m own key text answers (moved a la va.memory) (moved b lb vb.memory) = record {
        seen = moved_hidden a la va.memory act_a va.rest ga ∙ seen ∙ sym (moved_hidden b lb vb.memory act_b vb.rest gb);
        secret = same_secret m own key text answers (moved_run m a la va.memory act_a) (moved_run m b lb vb.memory act_b) va.bytes vb.bytes s;
        keeps_a = moved_keeps a la va.memory ka va.text;
        keeps_b = moved_keeps b lb vb.memory kb vb.text;
        open_a = λ h. absurd (let x : true ≡ false = sym act_a ∙ h in cc);
        open_b = λ h. absurd (let x : true ≡ false = sym act_b ∙ h in cc);
      } in
      rw (va.is, vb.is) (record { events = refl; related = inr t })

pub active_some : (m : ℕ) (a : Option ℕ) → is_id m a ≡ true → a ≡ Some m
active_some m None e = cc
active_some m (Some x) e = let same : x ≡ m = grind (arith, nat_tests) in ap Some same

-- ---- what the next instruction may be
next_alone : (j : Job) (l : Lone) (insn : Insn) → next_insn j l ≡ Some insn → is_alone insn ≡ true
unfolding next_insn
next_alone j l insn e = (may_some j l (insn_in (lone_byte j l.data_bytes) j.owner.text (reg l.core 0)) insn e).1

pub does_gie : (j : Job) (l : Lone) (insn : Insn) → next_insn j l ≡ Some insn → length l.core ≡ 16 → veil_core (lone_does j insn l).core ≡ veil_core l.core
unfolding lone_does
does_gie j l insn e len =
    let g = effect_gie insn (lone_who j) l.core (map (lone_read j l.data_bytes) (reads_of (asks (lone_who j) insn l.core))) (next_alone j l insn e) refl len in
    ap (λ b. 0 ∷ 0 ∷ 8 * b ∷ []) g

-- ---- what the module is about to do
abbrev Said : ℕ → Bool → Bool → Option Insn → Doing → Type 0
Said r c t n (Waits r') = r ≡ suc r'
Said r c t n Closes = (r ≡ 0) × (c ≡ true)
Said r c t n Leaves = (r ≡ 0) × (c ≡ false) × (t ≡ false)
Said r c t n (Does i) = (r ≡ 0) × (t ≡ true) × (n ≡ Some i)
Said r c t n Breaks = Unit {0}

pub said : (r : ℕ) (c t : Bool) (n : Option Insn) (x : Doing) → doing_by r c t n ≡ x → Said r c t n x
said r c t n x e = subst (Said r c t n) e (by r c t n)
  where
    by : (r : ℕ) (c t : Bool) (n : Option Insn) → Said r c t n (doing_by r c t n)
    by (suc r) c t n = refl
    by zero true t n = (refl, refl)
    by zero false false n = (refl, refl, refl)
    by zero false true None = tt
    by zero false true (Some i) = (refl, refl, refl)

held_by : (c : Bool) (n : ℕ) (x : Bool) → one_if c + n ≡ 0 → (n ≡ 0 → x ≡ false) → (c || x) ≡ false
held_by true n x e h = absurd (omega arith)
held_by false n x e h = h (omega arith)

pub not_held : (m : ℕ) (fs : List Frame) → times m fs ≡ 0 → is_held m (held_ids fs) ≡ false
not_held m [] e = refl
not_held m (Plain ∷ fs) e = not_held m fs e
not_held m (Held b ∷ fs) e = held_by (b.module == m) (times m fs) (is_held m (held_ids fs)) e (λ z. not_held m fs z)

module _ (m : ℕ) (own : Module) (key text : List ℕ) (s : State) (k : Keeps m own key text s) (active_is : s.active ≡ Some m) where
  pub act_moves : (l : Lone) (insn : Insn) → pc_of s % 2 ≡ 0 → holds own.text (pc_of s) ≡ true → l.core ≡ s.core → l.data_bytes ≡ section own.ram s.memory → next_insn (job_of key own text s.caller) l ≡ Some insn → Moves own s (lone_does (job_of key own text s.caller) insn l) (act s)
  act_moves l insn even here core_is bytes_are e =
      did_act m own s.table k.sound (job_of key own text s.caller) refl s refl active_is k.text_is k.key_is refl even here l core_is bytes_are insn e

  is_active : is_id m s.active ≡ true
  is_active = ap (is_id m) active_is ∙ (own_id m)

  no_frame : is_held m (held_ids s.frames) ≡ false
  no_frame = not_held m s.frames (let a : one_if (is_id m s.active) ≡ 1 = ap one_if is_active in let k1 = k.once in omega arith)

  fetch_allowed : holds own.text (pc_of s) ≡ true → right s.table s.active (held_ids s.frames) (fetch s) ≡ None
  unfolding right
  fetch_allowed here =
      ap (λ a. right_at (place_of s.table (pc_of s)) a (held_ids s.frames) Fetch (pc_of s)) active_is
      ∙ ⊎_elim
      (λ p. ap (λ x. right_at x (Some m) (held_ids s.frames) Fetch (pc_of s)) p ∙ ap (λ b. refuse_if (not b) Rule.FetchNotEntry (pc_of s) m) (own_id m))
      (λ p. ap (λ x. right_at x (Some m) (held_ids s.frames) Fetch (pc_of s)) p ∙ ap (λ b. refuse_if b Rule.Reenter (pc_of s) m) no_frame)
      (k.sound.in_text (pc_of s) here)

  enter_some : (p : Place) (left : ℕ) → enter_at p (Some m) left s ≡ quiet s
  enter_some (Entry id) left = refl
  enter_some _ left = refl

  pub enter_inside : (left : ℕ) → enter left s ≡ quiet s
  unfolding enter
  enter_inside left = ap (λ a. enter_at (place_of s.table (pc_of s)) a left s) active_is ∙ enter_some (place_of s.table (pc_of s)) left

  begin_inside : (left : ℕ) → holds own.text (pc_of s) ≡ true → begin left s ≡ act s
  unfolding begin
  begin_inside left here =
      ap (λ d. unless d s (let e = enter left s in told e.events (act e.state))) (fetch_allowed here) ∙ ap (λ e. told e.events (act e.state)) (enter_inside left)

  waits_moves : (left r : ℕ) → due s ≡ None → rest_of s.phase ≡ suc r → Moves own s (record (lone_of (backup_of m s) (section own.ram s.memory)) { rest = r }) (turn left s)
  waits_moves left r d e =
      let p = k.proper is_active in
      record {
        memory = s.memory;
        is = turn_as left s None (Some m) (Run (suc r)) d active_is (p.0 ∙ ap Run e) ∙ ap (λ a. let u : Step = quiet (record s { phase = Run r; after = a }) in u) p.1;
        bytes = refl;
        rest = refl;
        text = refl;
      }

  does_moves : (left : ℕ) (insn : Insn) → due s ≡ None → pc_of s % 2 ≡ 0 → rest_of s.phase ≡ 0 → holds own.text (pc_of s) ≡ true → next_insn (job_of key own text s.caller) (lone_of (backup_of m s) (section own.ram s.memory)) ≡ Some insn → Moves own s (lone_does (job_of key own text s.caller) insn (lone_of (backup_of m s) (section own.ram s.memory))) (turn left s)
  does_moves left insn d even e here next =
      let p = k.proper is_active in
      let to : turn left s ≡ act s = turn_as left s None (Some m) (Run 0) d active_is (p.0 ∙ ap Run e) ∙ begin_inside left here in
      subst (Moves own s (lone_does (job_of key own text s.caller) insn (lone_of (backup_of m s) (section own.ram s.memory)))) (sym to)
      (act_moves (lone_of (backup_of m s) (section own.ram s.memory)) insn even here refl refl next)

  -- its turn is its own next step, and GIE stays
  pub turn_moves : (left : ℕ) (x : Doing) → IsCore s.core → due s ≡ None → doing (job_of key own text s.caller) (lone_of (backup_of m s) (section own.ram s.memory)) ≡ x → GoesOn x →
      Moves own s (lone_step_by x (job_of key own text s.caller) (lone_of (backup_of m s) (section own.ram s.memory))) (turn left s) × (veil_core (lone_step_by x (job_of key own text s.caller) (lone_of (backup_of m s) (section own.ram s.memory))).core ≡ veil_core s.core)
  unfolding doing
  turn_moves left (Waits r) ok d e g = (waits_moves left r d (said (rest_of s.phase) (is_close s.after) (holds own.text (pc_of s)) _ (Waits r) e), refl)
  turn_moves left (Does i) ok d e g =
      let w = said (rest_of s.phase) (is_close s.after) (holds own.text (pc_of s)) _ (Does i) e in
      (does_moves left i d ok.even_pc w.0 w.1 w.2, does_gie (job_of key own text s.caller) (lone_of (backup_of m s) (section own.ram s.memory)) i w.2 ok.sixteen)
  turn_moves left _ ok d e g = absurd g

pub arrives_at : (m v left : ℕ) (s : State) → s.active ≡ Some m → s.phase ≡ Run (rest_of s.phase) → due s ≡ Some v → turn left s ≡ interrupted v m s
arrives_at m v left s e p d = turn_as left s (Some v) (Some m) (Run (rest_of s.phase)) d e p

pub arrived_none : (m v id : ℕ) (s : State) → is_id m (interrupted v id s).state.active ≡ false
unfolding arrive_inside
arrived_none m v id s = refl

module _ (m : ℕ) (own : Module) (key text answers : List ℕ) (a b : State) (ready : Ready m own key text answers a b) (act_a : is_id m a.active ≡ true) (ok_a : IsCore a.core) (ok_b : IsCore b.core) where
  both : BothActive m own key text answers a b
  both = both_active m own key text answers a b ready.twins act_a

  some_a : a.active ≡ Some m
  some_a = active_some m a.active act_a

  some_b : b.active ≡ Some m
  some_b = active_some m b.active both.other

  open_a : IsOpen (doing (job_of key own text a.caller) (lone_of (backup_of m a) (section own.ram a.memory)))
  open_a = subst (λ c. IsOpenNow m own key text (run_by c m a) (section own.ram a.memory)) act_a ready.now_a

  open_b : IsOpen (doing (job_of key own text b.caller) (lone_of (backup_of m b) (section own.ram b.memory)))
  open_b = subst (λ c. IsOpenNow m own key text (run_by c m b) (section own.ram b.memory)) both.other ready.now_b

  -- an arrival, which sees no secret
  arrives : (v : ℕ) → Alike m own key text answers (interrupted v m a) (interrupted v m b)
  arrives v =
      outer_alike m own key text answers a b (interrupted v m a) (interrupted v m b) (interrupted v m (hide_by true m own a)) (interrupted v m (hide_by true m own b)) ready
      (outer a ready.twins.keeps_a some_a) (outer b ready.twins.keeps_b some_b) (ap (interrupted v m) both.seen)
    where
      outer : (s : State) → Keeps m own key text s → s.active ≡ Some m → Outer m own key text s (interrupted v m s) (interrupted v m (hide_by true m own s))
      outer s k e =
          record {
            same = arrive_hidden m own true s.table k.sound v m s (own_id m) ∙ ap (λ c. let u : Step = record (interrupted v m s) { state = hide_by c m own (interrupted v m s).state } in u) (sym (arrived_none m v m s));
            stays = arrive_inside_stays m own key text v m s k e;
          }

  finish : (left : ℕ) (x y : Doing) → due a ≡ None → due b ≡ None →
      doing (job_of key own text a.caller) (lone_of (backup_of m a) (section own.ram a.memory)) ≡ x →
      doing (job_of key own text b.caller) (lone_of (backup_of m b) (section own.ram b.memory)) ≡ y →
      GoesOn x → GoesOn y →
      Evenly answers key own text (job_of key own text a.caller) (lone_step_by x (job_of key own text a.caller) (lone_of (backup_of m a) (section own.ram a.memory))) (lone_step_by y (job_of key own text b.caller) (lone_of (backup_of m b) (section own.ram b.memory))) → Alike m own key text answers (turn left a) (turn left b)
  finish left x y da db ea eb ga gb ev =
      let va = turn_moves m own key text a ready.twins.keeps_a some_a left x ok_a da ea ga in
      let vb = turn_moves m own key text b ready.twins.keeps_b some_b left y ok_b db eb gb in
      moves_alike m own key text answers a b (lone_step_by x (job_of key own text a.caller) (lone_of (backup_of m a) (section own.ram a.memory))) (lone_step_by y (job_of key own text b.caller) (lone_of (backup_of m b) (section own.ram b.memory))) (turn left a) (turn left b) ready.twins.keeps_a ready.twins.keeps_b act_a both.other both.seen va.0 vb.0 va.1 vb.1 ev

  -- both go on
  go : (left : ℕ) (x y : Doing) → due a ≡ None → due b ≡ None →
      doing (job_of key own text a.caller) (lone_of (backup_of m a) (section own.ram a.memory)) ≡ x →
      doing (job_of key own text b.caller) (lone_of (backup_of m b) (section own.ram b.memory)) ≡ y →
      IsOpen x → IsOpen y →
      Together answers key own text (job_of key own text a.caller) x y (lone_of (backup_of m a) (section own.ram a.memory)) (lone_of (backup_of m b) (section own.ram b.memory)) → Alike m own key text answers (turn left a) (turn left b)
  go left (Waits r) (Waits r') da db ea eb oa ob t = finish left (Waits r) (Waits r') da db ea eb tt tt t
  go left (Waits r) (Does i) da db ea eb oa ob t = finish left (Waits r) (Does i) da db ea eb tt tt (subst (λ j. Evenly answers key own text (job_of key own text a.caller) (record (lone_of (backup_of m a) (section own.ram a.memory)) { rest = r }) (lone_does j i (lone_of (backup_of m b) (section own.ram b.memory)))) (sym both.job) t)
  go left (Does i) (Waits r) da db ea eb oa ob t = finish left (Does i) (Waits r) da db ea eb tt tt t
  go left (Does i) (Does i') da db ea eb oa ob t = finish left (Does i) (Does i') da db ea eb tt tt (subst (λ j. Evenly answers key own text (job_of key own text a.caller) (lone_does (job_of key own text a.caller) i (lone_of (backup_of m a) (section own.ram a.memory))) (lone_does j i' (lone_of (backup_of m b) (section own.ram b.memory)))) (sym both.job) t)
  go left Closes y da db ea eb oa ob t = absurd oa
  go left Leaves y da db ea eb oa ob t = absurd oa
  go left _ _ da db ea eb oa ob t = absurd t

  due_same : due a ≡ due b
  due_same = sym (due_hidden m own a) ∙ ap due ready.twins.seen ∙ due_hidden m own b

  by_due : (left : ℕ) (d : Option ℕ) → due a ≡ d → due b ≡ d → Alike m own key text answers (turn left a) (turn left b)
  by_due left None da db =
      go left _ _ da db refl refl open_a open_b (subst (λ j. Together answers key own text (job_of key own text a.caller) (doing (job_of key own text a.caller) (lone_of (backup_of m a) (section own.ram a.memory))) (doing j (lone_of (backup_of m b) (section own.ram b.memory))) (lone_of (backup_of m a) (section own.ram a.memory)) (lone_of (backup_of m b) (section own.ram b.memory))) (sym both.job) (next_together answers key own text (job_of key own text a.caller) _ _ both.secret.1))
  by_due left (Some v) da db =
      let pa = ready.twins.keeps_a.proper act_a in
      let pb = ready.twins.keeps_b.proper both.other in
      rw (arrives_at m v left a some_a pa.0 da, arrives_at m v left b some_b pb.0 db) (arrives v)

  pub active_turn : (left : ℕ) → Alike m own key text answers (turn left a) (turn left b)
  active_turn left = by_due left (due a) refl (sym due_same)
