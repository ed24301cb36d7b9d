-- The relation between two runs, and what keeps it.
use Rattle.std.proofs.Common.{◌≡◌, ◌⊎◌, inr, ⊎_elim, ℕ, ◌+◌, ◌≤◌, List, [], ◌∷◌, refl, sym, ap, ◌∙◌, subst, arith, Bool, true, false, ◌==◌, Option, Some, None}
use Rattle.cpu_step.specs.Lone.{Doing, Closes, Leaves, doing, job_of}
use Rattle.run_laws.specs.Frames.{rest_of}
use Rattle.mod_layout.specs.declared.Module.{Module}
use Rattle.pc_access.specs.Rights.{is_id}
use Rattle.reg_backup.specs.Saved.{closing_after, is_close}
use Rattle.reg_backup.specs.declared.backup.Backup.{Backup}
use Rattle.reg_backup.specs.declared.backup.Phase.TheVariants.{Run}
use Rattle.reg_backup.specs.declared.frames.Frame.{Frame}
use Rattle.reg_backup.specs.declared.frames.Frame.TheVariants.{Plain, Module as Held}
use Rattle.sm_words.specs.Sums.{one_if}
use Rattle.written_machine.specs.Cycle.{Step}
use Rattle.written_machine.specs.Peers.{section}
use Rattle.written_machine.specs.State.{State}
pub use Rattle.isolation.specs.Calls.{found_if, find_held, backup_of, run_by, run_of, lone_of}
pub use Rattle.run_laws.specs.Frames.{times}
use Rattle.isolation.proofs.EvenBy.{AlwaysEvenBy}
use Rattle.isolation.proofs.Evenly.{Evenly}
use Rattle.isolation.proofs.Hide.{veil, hide_by, hide}
use Rattle.run_laws.proofs.Rights.{Sound}

-- a module in no frame is not found
found_by : (c : Bool) (b : Backup) (o : Option Backup) (n : ℕ) → one_if c + n ≡ 0 → o ≡ None → found_if c b o ≡ None
found_by true b o n e h = absurd (omega arith)
found_by false b o n e h = h

pub none_found : (m : ℕ) (fs : List Frame) → times m fs ≡ 0 → find_held m fs ≡ None
none_found m [] e = refl
none_found m (Plain ∷ fs) e = none_found m fs e
none_found m (Held b ∷ fs) e =
    let r : times m fs ≡ 0 = omega arith in found_by (b.module == m) b (find_held m fs) (times m fs) e (none_found m fs r)

abbrev pub IsOpen : Doing → Type 0
IsOpen Closes = ⊥
IsOpen Leaves = ⊥
IsOpen _ = Unit {0}

-- a module that is active has a rest, and is closing or not
abbrev pub Proper : ℕ → State → Type 0
Proper m s = is_id m s.active ≡ true → (s.phase ≡ Run (rest_of s.phase)) × (s.after ≡ closing_after (is_close s.after))

module _ (m : ℕ) (own : Module) (key text : List ℕ) where
  -- it neither closes nor leaves before its next cycle
  abbrev pub Open : Option Backup → List ℕ → Type 0
  Open None d = Unit {0}
  Open (Some r) d = IsOpen (doing (job_of key own text r.caller) (lone_of r d))

  -- what one run keeps
  pub record Keeps (s : State) : Type 0 where
    pub sound : Sound m own s.table
    pub key_is : s.key ≡ key
    pub text_is : section own.text s.memory ≡ text
    pub once : one_if (is_id m s.active) + times m s.frames ≤ 1
    pub proper : Proper m s

  -- the module stands where it stood
  pub record Stays (s t : State) : Type 0 where
    pub bytes : section own.ram t.memory ≡ section own.ram s.memory
    pub run : run_of m t ≡ run_of m s
    pub keeps : Keeps t

  pub stays_self : (s : State) → Keeps s → Stays s s
  stays_self s k = record { bytes = refl; run = refl; keeps = k }

  open_stays : (s t : State) → Stays s t → Open (run_of m s) (section own.ram s.memory) → Open (run_of m t) (section own.ram t.memory)
  open_stays s t st o =
      subst (λ d. Open (run_of m t) d) (sym st.bytes) (subst (λ r. Open r (section own.ram s.memory)) (sym st.run) o)

  -- one run's step, and the same step of the state without its secrets
  pub record Outer (s : State) (t t' : Step) : Type 0 where
    pub same : t' ≡ record t { state = hide m own t.state }
    pub stays : Stays s t.state

  -- ---- what is seen of both
  pub seen : {A : Type 0} (f : State → A) → ((c : Bool) (s : State) → f (hide_by c m own s) ≡ f s) → (a b : State) → hide m own a ≡ hide m own b → f a ≡ f b
  seen f same a b e = sym (same (is_id m a.active) a) ∙ ap f e ∙ same (is_id m b.active) b

  -- what is never hidden
  pub hidden_same : (c : Bool) (s : State) → ((hide_by c m own s).active ≡ s.active) × ((hide_by c m own s).stop ≡ s.stop) × ((hide_by c m own s).devices ≡ s.devices) × ((hide_by c m own s).caller ≡ s.caller)
  hidden_same true s = (refl, refl, refl, refl)
  hidden_same false s = (refl, refl, refl, refl)

  pub seen_active : (a b : State) → hide m own a ≡ hide m own b → a.active ≡ b.active
  seen_active a b e = seen (λ s. s.active) (λ c s. (hidden_same c s).0) a b e

  -- where it is not active, the two are alike but for its data and its frame
  pub seen_veiled : (a b : State) → hide m own a ≡ hide m own b → is_id m a.active ≡ false → veil m own a ≡ veil m own b
  seen_veiled a b e o =
      let o' = ap (is_id m) (sym (seen_active a b e)) ∙ o in
      ap (λ c. hide_by c m own a) (sym o) ∙ e ∙ ap (λ c. hide_by c m own b) o'

  module _ (answers : List ℕ) where
    -- what the module will tell is the same in both runs
    abbrev pub Secret : Option Backup → Option Backup → List ℕ → List ℕ → Type 0
    Secret (Some ra) (Some rb) da db = (ra.caller ≡ rb.caller) × Evenly answers key own text (job_of key own text ra.caller) (lone_of ra da) (lone_of rb db)
    Secret None None da db = AlwaysEvenBy answers key own text da db
    Secret _ _ da db = ⊥

    pub same_secret : {ra ra' rb rb' : Option Backup} {da da' db db' : List ℕ} → ra' ≡ ra → rb' ≡ rb → da' ≡ da → db' ≡ db → Secret ra rb da db → Secret ra' rb' da' db'
    same_secret e f g h s = rw (e, f, g, h) s

    pub record Twins (a b : State) : Type 0 where
      pub seen : hide m own a ≡ hide m own b
      pub secret : Secret (run_of m a) (run_of m b) (section own.ram a.memory) (section own.ram b.memory)
      pub keeps_a : Keeps a
      pub keeps_b : Keeps b
      pub open_a : is_id m a.active ≡ false → Open (run_of m a) (section own.ram a.memory)
      pub open_b : is_id m b.active ≡ false → Open (run_of m b) (section own.ram b.memory)

    -- once it is settled
    pub record Ready (a b : State) : Type 0 where
      pub twins : Twins a b
      pub now_a : Open (run_of m a) (section own.ram a.memory)
      pub now_b : Open (run_of m b) (section own.ram b.memory)

    secret_stays : (a b a' b' : State) → Stays a a' → Stays b b' → Secret (run_of m a) (run_of m b) (section own.ram a.memory) (section own.ram b.memory) → Secret (run_of m a') (run_of m b') (section own.ram a'.memory) (section own.ram b'.memory)
    secret_stays a b a' b' sa sb h = same_secret sa.run sb.run sa.bytes sb.bytes h

    -- both stay, and are seen alike
    pub twins_stay : (a b a' b' : State) → Ready a b → Stays a a' → Stays b b' → hide m own a' ≡ hide m own b' → Ready a' b'
    twins_stay a b a' b' r sa sb e =
        let oa = open_stays a a' sa r.now_a in
        let ob = open_stays b b' sb r.now_b in
        record {
          twins = record { seen = e; secret = secret_stays a b a' b' sa sb r.twins.secret; keeps_a = sa.keeps; keeps_b = sb.keeps; open_a = λ h. oa; open_b = λ h. ob };
          now_a = oa;
          now_b = ob;
        }

    -- the same before it is settled, where the module stays inactive or active
    pub twins_stay_before : (a b a' b' : State) → Twins a b → Stays a a' → Stays b b' → hide m own a' ≡ hide m own b' → a'.active ≡ a.active → b'.active ≡ b.active → Twins a' b'
    twins_stay_before a b a' b' r sa sb e ea eb =
        record {
          seen = e;
          secret = secret_stays a b a' b' sa sb r.secret;
          keeps_a = sa.keeps;
          keeps_b = sb.keeps;
          open_a = λ h. open_stays a a' sa (r.open_a (ap (is_id m) (sym ea) ∙ h));
          open_b = λ h. open_stays b b' sb (r.open_b (ap (is_id m) (sym eb) ∙ h));
        }

    -- the runs are the same once the module is gone
    abbrev pub Related : State → State → Type 0
    Related a b = (a ≡ b) ⊎ Twins a b

    pub record Alike (ta tb : Step) : Type 0 where
      pub events : ta.events ≡ tb.events
      pub related : Related ta.state tb.state

    pub outer_alike : (a b : State) (ta tb ta' tb' : Step) → Ready a b → Outer a ta ta' → Outer b tb tb' → ta' ≡ tb' → Alike ta tb
    outer_alike a b ta tb ta' tb' r oa ob e =
        let h : record ta { state = hide m own ta.state } ≡ record tb { state = hide m own tb.state } = sym oa.same ∙ e ∙ ob.same in
        let seen = ap (λ u. u.state) h in
        record { events = ap (λ u. u.events) h; related = inr (twins_stay a b ta.state tb.state r oa.stays ob.stays seen).twins }

    -- so it is also where the module is gone
    pub related_seen : {A : Type 0} (f : State → A) → ((c : Bool) (s : State) → f (hide_by c m own s) ≡ f s) → (a b : State) → Related a b → f a ≡ f b
    related_seen f same a b r = ⊎_elim (λ e. ap f e) (λ t. seen f same a b t.seen) r

    -- where it is active in one of two twins, it is in both
    pub record BothActive (a b : State) : Type 0 where
      pub other : is_id m b.active ≡ true
      pub seen : hide_by true m own a ≡ hide_by true m own b
      pub secret : Secret (Some (backup_of m a)) (Some (backup_of m b)) (section own.ram a.memory) (section own.ram b.memory)
      pub job : job_of key own text b.caller ≡ job_of key own text a.caller

    pub both_active : (a b : State) → Twins a b → is_id m a.active ≡ true → BothActive a b
    both_active a b twins act =
        let other = ap (is_id m) (sym (seen_active a b twins.seen)) ∙ act in
        let secret : Secret (Some (backup_of m a)) (Some (backup_of m b)) (section own.ram a.memory) (section own.ram b.memory) =
        same_secret (ap (λ c. run_by c m a) (sym act)) (ap (λ c. run_by c m b) (sym other)) refl refl twins.secret in
        record {
          other = other;
          seen = ap (λ c. hide_by c m own a) (sym act) ∙ twins.seen ∙ ap (λ c. hide_by c m own b) other;
          secret = secret;
          job = ap (job_of key own text) (sym secret.0);
        }
