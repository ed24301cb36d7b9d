-- Ticking, settling, arriving and waiting keep the relation.
use Rattle.std.proofs.Common.{◌≡◌, ℕ, ◌+◌, List, ◌∷◌, refl, sym, ap, ◌∙◌, arith, Bool, true, false, ◌==◌, Some}
use Rattle.attest.specs.Done.{own_of}
use Rattle.devices.specs.Devices.{Devices}
use Rattle.mod_layout.specs.Table.{size_of}
use Rattle.mod_layout.specs.declared.Module.{Module}
use Rattle.pc_access.specs.Rights.{is_id}
use Rattle.reg_backup.specs.Saved.{closing_after, is_close}
use Rattle.reg_backup.specs.declared.backup.After.TheVariants.{Next}
use Rattle.reg_backup.specs.declared.backup.Backup.{Backup}
use Rattle.reg_backup.specs.declared.backup.Phase.TheVariants.{Run}
use Rattle.reg_backup.specs.declared.frames.Frame.{Frame}
use Rattle.reg_backup.specs.declared.frames.Frame.TheVariants.{Module as Held}
use Rattle.sm_words.specs.Sums.{one_if}
use Rattle.std.proofs.lemmas.Bool.Decides.{nat_tests}
use Rattle.written_machine.specs.Cycle.{ticked, close_of, leave_if, settle, arrive_inside}
use Rattle.written_machine.specs.State.{State}
use Rattle.run_laws.proofs.Bytes.{part_cleared}
use Rattle.isolation.proofs.Outside.{light, stays_by}
use Rattle.isolation.proofs.Relation.{find_held, found_if, times, backup_of, run_by, Keeps, Stays, stays_self}
use Rattle.run_laws.proofs.Tables.{sound_without}
use Rattle.run_laws.proofs.Ways.{settle_ways, or_unsettled}
use Rattle.run_laws.proofs.Cases.{interrupted}

pub close_is : (c : Bool) → is_close (closing_after c) ≡ c
close_is true = refl
close_is false = refl

module _ (m : ℕ) (own : Module) (key text : List ℕ) where
  abbrev St : State → State → Type 0
  St = Stays m own key text

  -- ---- devices and cycles
  pub passing_stays : (s : State) (d : Devices) (n : ℕ) → Keeps m own key text s → St s (record s { devices = d; cycle = n })
  passing_stays s d n k = record {
    bytes = refl;
    run = same_run (is_id m s.active);
    keeps = record { sound = k.sound; key_is = k.key_is; text_is = k.text_is; once = k.once; proper = k.proper };
  }
    where
      same_run : (c : Bool) → run_by c m (record s { devices = d; cycle = n }) ≡ run_by c m s
      same_run true = refl
      same_run false = refl

  pub ticked_stays : (s : State) → Keeps m own key text s → St s (ticked s)
  unfolding ticked
  ticked_stays s k = passing_stays s _ s.cycle k

  module _ (s : State) (k : Keeps m own key text s) (other : is_id m s.active ≡ false) where
    -- a module is resumed
    resumed_state : Backup → List Frame → State
    resumed_state b fs = record s { core = b.core; active = Some b.module; caller = b.caller; frames = fs; phase = Run b.rest; after = closing_after b.closing }

    resumed_run : (c : Bool) (b : Backup) (fs : List Frame) → (b.module == m) ≡ c → run_by c m (resumed_state b fs) ≡ found_if c b (find_held m fs)
    unfolding resumed_state
    resumed_run true b fs e =
        let id : m ≡ b.module = grind (arith, nat_tests) in
        ap (λ i. let r : Backup = record { «module» = i; caller = b.caller; core = b.core; rest = b.rest; closing = is_close (closing_after b.closing) } in Some r) id
        ∙ ap (λ c. let r : Backup = record b { closing = c } in Some r) (close_is b.closing)
    resumed_run false b fs e = refl

    resumed_stays : (b : Backup) (fs : List Frame) → s.frames ≡ Held b ∷ fs → St s (resumed_state b fs)
    unfolding resumed_state
    resumed_stays b fs e =
        let o : one_if (is_id m s.active) ≡ 0 = ap one_if other in
        let t : times m s.frames ≡ one_if (b.module == m) + times m fs = ap (times m) e in
        let k1 = k.once in
        record {
          bytes = refl;
          run = resumed_run (b.module == m) b fs refl ∙ ap (find_held m) (sym e) ∙ ap (λ c. run_by c m s) (sym other);
          keeps = record { sound = k.sound; key_is = k.key_is; text_is = k.text_is; once = omega arith; proper = λ h. (refl, ap closing_after (sym (close_is b.closing))) };
        }

    closed_stays : (id : ℕ) (x : Module) → s.active ≡ Some id → own_of (Some id) s.table ≡ Some x → St s (or_unsettled (close_of (Some id) (Some x) s) s).state
    closed_stays id x e f =
        let ne : (id == m) ≡ false = ap (is_id m) (sym e) ∙ other in
        let p = k.sound.others id x f ne in
        stays_by m own key text s (or_unsettled (close_of (Some id) (Some x) s) s).state k other refl
        (part_cleared own.ram.start (size_of own.ram) x.ram.start (size_of x.ram) s.memory p.0)
        (part_cleared own.text.start (size_of own.text) x.ram.start (size_of x.ram) s.memory p.1)
        refl refl refl (sound_without m own s.table id ne k.sound)

    pub settle_stays : St s (settle s).state
    unfolding resumed_state
    settle_stays =
        settle_ways s (λ u. St s u.state) (stays_self m own key text s k) resumed_stays closed_stays (λ e. light m own key text s k other (record s { after = Next }) (refl, refl, refl, refl, refl))
        (λ id a. stays_by m own key text s (or_unsettled (leave_if false (Some id) s) s).state k other refl refl refl refl refl refl k.sound)

  -- ---- an arrival inside a module, also this one
  pub arrive_inside_stays : (v id : ℕ) (s : State) → Keeps m own key text s → s.active ≡ Some id → St s (interrupted v id s).state
  unfolding arrive_inside
  arrive_inside_stays v id s k e =
      let a : one_if (is_id m s.active) ≡ one_if (id == m) = ap (λ o. one_if (is_id m o)) e in
      let k1 = k.once in
      record {
        bytes = refl;
        run = arrived_run (id == m) refl ∙ ap (λ o. run_by (is_id m o) m s) (sym e);
        keeps = record { sound = k.sound; key_is = k.key_is; text_is = k.text_is; once = omega arith; proper = λ h. absurd cc };
      }
    where
      arrived_run : (c : Bool) → (id == m) ≡ c → found_if c (backup_of id s) (find_held m s.frames) ≡ run_by c m s
      arrived_run true f = let same : id ≡ m = grind (arith, nat_tests) in ap (λ i. Some (backup_of i s)) same
      arrived_run false f = refl
