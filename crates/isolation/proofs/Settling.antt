-- Settling, ticking and arriving, with one module hidden.
use Rattle.std.proofs.Common.{◌≡◌, ℕ, zero, ◌*◌, ◌/◌, ◌%◌, List, [], ◌∷◌, refl, sym, ap, ◌∙◌, arith, Bool, true, false, ◌==◌, Option, Some, None}
use Rattle.attest.specs.Done.{own_of}
use Rattle.mod_layout.specs.Table.{Table, place_of, size_of}
use Rattle.mod_layout.specs.declared.Module.{Module}
use Rattle.mod_layout.specs.declared.Place.{Place}
use Rattle.mod_layout.specs.declared.Place.TheVariants.{Entry}
use Rattle.pc_access.specs.Rights.{is_id}
use Rattle.reg_backup.specs.Saved.{closing_after}
use Rattle.reg_backup.specs.declared.backup.After.{After}
use Rattle.reg_backup.specs.declared.backup.After.TheVariants.{Next, Handler, Resume, Close}
use Rattle.reg_backup.specs.declared.backup.Backup.{Backup}
use Rattle.reg_backup.specs.declared.backup.Phase.{Phase}
use Rattle.reg_backup.specs.declared.backup.Phase.TheVariants.{Run}
use Rattle.reg_backup.specs.declared.frames.Frame.{Frame}
use Rattle.reg_backup.specs.declared.frames.Frame.TheVariants.{Module as Held}
use Rattle.sm_words.specs.Status.{is_gie}
use Rattle.sm_words.specs.Words.{reg}
use Rattle.tracer.specs.declared.Event.{Event}
use Rattle.written_machine.specs.Cycle.{Settled, unsettled, pc_of, ticked, resume_from, close_of, in_text, leave_if, settle_by, settle_in, settle, due, arrive_inside, enter_at, enter}
use Rattle.written_machine.specs.State.{State}
use Rattle.run_laws.proofs.Tame.{ticked_active}
use Rattle.run_laws.proofs.Bytes.{cleared_comm}
use Rattle.isolation.proofs.Hide.{veil_core, veil_if, veil_frames, veil, veil_step, hide_by, hide, length_veiled, vector_cleared}
use Rattle.run_laws.proofs.Rights.{Sound}
use Rattle.run_laws.proofs.Cases.{interrupted}
use Rattle.run_laws.proofs.Ways.{or_unsettled}

abbrev pub hide_settled : ℕ → Module → Settled → Settled
hide_settled m own u = record u { state = hide m own u.state }

module _ (m : ℕ) (own : Module) where
  ticked_by : (b : Bool) (s : State) → ticked (hide_by b m own s) ≡ hide_by b m own (ticked s)
  unfolding ticked
  ticked_by true s = refl
  ticked_by false s = refl

  pub ticked_hidden : (s : State) → ticked (hide m own s) ≡ hide m own (ticked s)
  ticked_hidden s = ticked_by (is_id m s.active) s ∙ ap (λ a. hide_by (is_id m a) m own (ticked s)) (sym (ticked_active s))

  gie_veiled : (core : List ℕ) → is_gie (veil_core core) ≡ is_gie core
  gie_veiled core =
      let e : (8 * ((reg core 2 / 8) % 2) / 8) % 2 ≡ (reg core 2 / 8) % 2 = omega arith in
      ap (λ b. b == 1) e

  pub gie_hidden : (b : Bool) (s : State) → is_gie (hide_by b m own s).core ≡ is_gie s.core
  gie_hidden true s = gie_veiled s.core
  gie_hidden false s = refl

  due_by : (b : Bool) (s : State) → due (hide_by b m own s) ≡ due s
  unfolding due
  due_by false s = rw (length_veiled m s.frames) refl
  due_by true s = rw (length_veiled m s.frames, gie_veiled s.core) refl

  pub due_hidden : (s : State) → due (hide m own s) ≡ due s
  due_hidden s = due_by (is_id m s.active) s

  -- ---- an arrival inside a module
  pub arrive_hidden : (c : Bool) (t : Table) → Sound m own t → (v id : ℕ) (s : State) → (id == m) ≡ c → interrupted v id (hide_by c m own s) ≡ veil_step m own (interrupted v id s)
  unfolding arrive_inside
  arrive_hidden true t sound v id s e = rw (vector_cleared m own t sound s.memory v, e) refl
  arrive_hidden false t sound v id s e = rw (vector_cleared m own t sound s.memory v, e) refl

  -- ---- settling while another or none is active
  resume_by : (c : Bool) (b : Backup) (fs : List Frame) (s : State) →
      (let x = veil_if c b in
      let u : Settled = record {
        state = record (veil m own s) { core = x.core; active = Some x.module; caller = x.caller; frames = veil_frames m fs; phase = Run x.rest; after = closing_after x.closing };
        events = Event.Resume x.module ∷ [];
        left = 0;
      } in u)
      ≡ record {
        state = hide_by c m own (record s { core = b.core; active = Some b.module; caller = b.caller; frames = fs; phase = Run b.rest; after = closing_after b.closing });
        events = Event.Resume b.module ∷ [];
        left = 0;
      }
  resume_by true b fs s = refl
  resume_by false b fs s = refl

  module _ (s : State) (other : is_id m s.active ≡ false) where
    unsettled_veiled : unsettled (veil m own s) ≡ hide_settled m own (unsettled s)
    unsettled_veiled = ap (λ b. unsettled (hide_by b m own s)) (sym other)

    resume_veiled : (fs : List Frame) → or_unsettled (resume_from (veil_frames m fs) (veil m own s)) (veil m own s) ≡ hide_settled m own (or_unsettled (resume_from fs s) s)
    resume_veiled (Held b ∷ fs) = resume_by (b.module == m) b fs s
    resume_veiled _ = unsettled_veiled

    close_veiled : (a : Option ℕ) (o : Option Module) → or_unsettled (close_of a o (veil m own s)) (veil m own s) ≡ hide_settled m own (or_unsettled (close_of a o s) s)
    close_veiled (Some id) (Some x) = rw (cleared_comm x.ram.start (size_of x.ram) own.ram.start (size_of own.ram) s.memory) refl
    close_veiled _ _ = unsettled_veiled

    leave_veiled : (b : Bool) (a : Option ℕ) → or_unsettled (leave_if b a (veil m own s)) (veil m own s) ≡ hide_settled m own (or_unsettled (leave_if b a s) s)
    leave_veiled false (Some id) = refl
    leave_veiled _ _ = unsettled_veiled

    settle_by_veiled : (a : After) → or_unsettled (settle_by a (veil m own s)) (veil m own s) ≡ hide_settled m own (or_unsettled (settle_by a s) s)
    settle_by_veiled Resume = resume_veiled s.frames
    settle_by_veiled Close = close_veiled s.active (own_of s.active s.table)
    settle_by_veiled Handler = rw other refl
    settle_by_veiled Next = leave_veiled (in_text (own_of s.active s.table) (pc_of s)) s.active

    settle_in_veiled : (p : Phase) → or_unsettled (settle_in p (veil m own s)) (veil m own s) ≡ hide_settled m own (or_unsettled (settle_in p s) s)
    settle_in_veiled (Run zero) = settle_by_veiled s.after
    settle_in_veiled _ = unsettled_veiled

    pub settle_veiled : settle (veil m own s) ≡ hide_settled m own (settle s)
    unfolding settle
    settle_veiled = settle_in_veiled s.phase

  -- ---- entering
  enter_by : (p : Place) (a : Option ℕ) (left : ℕ) (s : State) → enter_at p a left (veil m own s) ≡ veil_step m own (enter_at p a left s)
  enter_by (Entry id) None left s = refl
  enter_by _ _ left s = refl

  pub enter_veiled : (left : ℕ) (s : State) → enter left (veil m own s) ≡ veil_step m own (enter left s)
  unfolding enter
  enter_veiled left s = enter_by (place_of s.table (pc_of s)) s.active left s
