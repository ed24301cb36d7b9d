-- What the outside, handlers and other modules do keeps the relation.
use Rattle.std.proofs.Common.{◌≡◌, ◌≢◌, ℕ, ◌%◌, List, [], ◌∷◌, refl, sym, ap, ◌∙◌, subst, arith, true, false, Option, Some, None, drop}
use Rattle.attest.specs.Accesses.{reads_of, writes_of}
use Rattle.cpu_step.specs.Asked.{asks, effect}
use Rattle.insn_decode.specs.declared.insn.Insn.{Insn}
use Rattle.insn_decode.specs.declared.insn.Insn.TheVariants.{Reti}
use Rattle.mod_layout.specs.First.{first_in}
use Rattle.mod_layout.specs.Table.{size_of, place_of}
use Rattle.mod_layout.specs.declared.Module.{Module}
use Rattle.mod_layout.specs.declared.Place.TheVariants.{Data}
use Rattle.pc_access.specs.Rights.{is_id, right}
use Rattle.pc_access.specs.declared.Stop.{Stop}
use Rattle.reg_backup.specs.Held.{held_ids}
use Rattle.reg_backup.specs.declared.frames.Frame.{Frame}
use Rattle.reg_backup.specs.declared.frames.Frame.TheVariants.{Module as Held}
use Rattle.sm_words.specs.Sums.{one_if}
use Rattle.sm_words.specs.Words.{reg}
use Rattle.written_machine.specs.Cycle.{Step, stopped, denied, pc_of, push_both, pushes, plain_if, arrive_outside, port_of, who_of, perform, attempt, returned_by, reti_by, act}
use Rattle.written_machine.specs.Peers.{section}
use Rattle.written_machine.specs.Ports.{take_reads}
use Rattle.written_machine.specs.State.{State}
use Rattle.run_laws.proofs.Frames.{times_plain}
use Rattle.isolation.proofs.Hide.{veil, veil_step, hide_by, arrive_outside_veiled, act_veiled}
use Rattle.run_laws.proofs.Ports.{put_writes_part, take_reads_memory}
use Rattle.isolation.proofs.Relation.{find_held, times, run_by, Keeps, Stays, Outer}
use Rattle.run_laws.proofs.Rights.{Sound, writes_out, text_writes_out}
use Rattle.run_laws.proofs.Tables.{sound_after}
use Rattle.run_laws.proofs.Ways.{attempt_ways, act_with, outside_ways}

found_plain : (m : ℕ) (fs : List Frame) → find_held m (plain_if fs) ≡ find_held m fs
found_plain m [] = refl
found_plain m (f ∷ fs) = refl

module _ (m : ℕ) (own : Module) (key text : List ℕ) where
  -- a step that leaves the module's data and text, and adds and takes off no frame of a module
  pub stays_by : (s t : State) → Keeps m own key text s → is_id m s.active ≡ false → is_id m t.active ≡ false → section own.ram t.memory ≡ section own.ram s.memory →
      section own.text t.memory ≡ section own.text s.memory → find_held m t.frames ≡ find_held m s.frames →
      times m t.frames ≡ times m s.frames → t.key ≡ s.key → Sound m own t.table → Stays m own key text s t
  stays_by s t k other o bytes texts found tm keys sound =
      record {
        bytes = bytes;
        run = ap (λ c. run_by c m t) o ∙ found ∙ ap (λ c. run_by c m s) (sym other);
        keeps = record {
          sound = sound;
          key_is = keys ∙ k.key_is;
          text_is = texts ∙ k.text_is;
          once = let e : one_if (is_id m t.active) ≡ one_if (is_id m s.active) = ap one_if (o ∙ sym other) in let e1 = k.once in omega arith;
          proper = λ h. absurd (let x : true ≡ false = sym h ∙ o in cc);
        };
      }

  module _ (s : State) (k : Keeps m own key text s) (other : is_id m s.active ≡ false) where
    -- it changes none of memory, table, key, frames and active module
    abbrev pub Light : State → Type 0
    Light t = (t.active ≡ s.active) × (t.memory ≡ s.memory) × (t.frames ≡ s.frames) × (t.key ≡ s.key) × (t.table ≡ s.table)

    pub light : (t : State) → Light t → Stays m own key text s t
    light t l = stays_by s t k other (ap (is_id m) l.0 ∙ other) (ap (section own.ram) l.1) (ap (section own.text) l.1) (ap (find_held m) l.2) (ap (times m) l.2) l.3 (subst (Sound m own) (sym l.4) k.sound)

    -- what is not active is hidden by the data and the frames alone
    pub outer_by : (t t' : Step) → t.state.active ≡ s.active → t' ≡ veil_step m own t → Stays m own key text s t.state → Outer m own key text s t t'
    outer_by t t' same e st =
        let o : is_id m t.state.active ≡ false = ap (is_id m) same ∙ other in
        record { same = e ∙ ap (λ c. let u : Step = record t { state = hide_by c m own t.state } in u) (sym o); stays = st }

    -- a step that keeps the active module, and leaves m where it stood
    abbrev Acts : Step → Type 0
    Acts u = (u.state.active ≡ s.active) × Stays m own key text s u.state

    light_acts : (u : Step) → Light u.state → Acts u
    light_acts u l = (l.0, light u.state l)

    arrives : (v : ℕ) → Acts (arrive_outside v s)
    arrives v =
        let p = port_of s in
        let vs = reg s.core 0 ∷ reg s.core 2 ∷ [] in
        outside_ways s Acts v (λ d. light_acts (denied d s) (refl, refl, refl, refl, refl))
        (λ e. (
          refl,
          stays_by s (push_both v s).state k other other
              (put_writes_part own.ram.start (size_of own.ram) (pushes s) p vs (writes_out m own s.table k.sound None (held_ids s.frames) refl (pushes s) e))
              (put_writes_part own.text.start (size_of own.text) (pushes s) p vs (text_writes_out m own s.table k.sound None (held_ids s.frames) (pushes s) e))
              (found_plain m s.frames) (times_plain m s.frames) refl k.sound,
        ))

    pub arrived_active : (v : ℕ) → (arrive_outside v s).state.active ≡ s.active
    arrived_active v = (arrives v).0

    pub arrive_outside_outer : (v : ℕ) → Outer m own key text s (arrive_outside v s) (arrive_outside v (veil m own s))
    arrive_outside_outer v =
        outer_by (arrive_outside v s) (arrive_outside v (veil m own s)) (arrived_active v) (arrive_outside_veiled m own s.table k.sound v s refl) (arrives v).1

    -- ---- instructions
    -- what is done, where frames may go that are no module's
    perform_stays : (insn : Insn) (fs : List Frame) → find_held m fs ≡ find_held m s.frames → times m fs ≡ times m s.frames → first_in (right s.table s.active (held_ids s.frames)) (asks (who_of s) insn s.core) ≡ None →
        Stays m own key text s (record (perform insn s).state { frames = fs })
    unfolding perform
    perform_stays insn fs f t e =
        let xs = asks (who_of s) insn s.core in
        let g = take_reads (port_of s) (reads_of xs) in
        let x = effect (who_of s) insn s.core g.value in
        let same = take_reads_memory own.ram.start (size_of own.ram) (reads_of xs) (port_of s) in
        stays_by s (record (perform insn s).state { frames = fs }) k other other
        (put_writes_part own.ram.start (size_of own.ram) (writes_of xs) g.port x.stored (writes_out m own s.table k.sound s.active (held_ids s.frames) other xs e) ∙ ap (section own.ram) same)
        (put_writes_part own.text.start (size_of own.text) (writes_of xs) g.port x.stored (text_writes_out m own s.table k.sound s.active (held_ids s.frames) xs e) ∙ ap (section own.text) same)
        f t refl (sound_after m own s.table insn s.core k.sound)

    attempt_acts : (insn : Insn) → Acts (attempt insn s)
    unfolding perform
    attempt_acts insn = attempt_ways s Acts insn (λ d. light_acts (denied d s) (refl, refl, refl, refl, refl)) (λ e. (refl, perform_stays insn s.frames refl refl e))

    returned_acts : find_held m (drop 1 s.frames) ≡ find_held m s.frames → times m (drop 1 s.frames) ≡ times m s.frames → Acts (let t = attempt Reti s in returned_by t.state.stop t)
    unfolding perform
    returned_acts f t = attempt_ways s (λ u. Acts (returned_by u.state.stop u)) Reti (λ d. light_acts (denied d s) (refl, refl, refl, refl, refl)) (by s.stop)
      where
        by : (o : Option Stop) → first_in (right s.table s.active (held_ids s.frames)) (asks (who_of s) Reti s.core) ≡ None → Acts (returned_by o (perform Reti s))
        by (Some stop) e = (refl, perform_stays Reti s.frames refl refl e)
        by None e = (refl, perform_stays Reti (drop 1 s.frames) f t e)

    reti_acts : (fs : List Frame) → s.frames ≡ fs → Acts (reti_by None fs s)
    reti_acts (Held b ∷ fs) e = light_acts (reti_by None (Held b ∷ fs) s) (refl, refl, refl, refl, refl)
    reti_acts _ e = returned_acts (rw e refl) (rw e refl)

    reti_of_acts : (a : Option ℕ) → Acts (reti_by a s.frames s)
    reti_of_acts (Some id) = light_acts (reti_by (Some id) s.frames s) (refl, refl, refl, refl, refl)
    reti_of_acts None = reti_acts s.frames refl

    act_acts : Acts (act s)
    act_acts = act_with s Acts (λ rule. light_acts (stopped rule (pc_of s) 0 s) (refl, refl, refl, refl, refl)) (reti_of_acts s.active) attempt_acts

    pub act_outer : pc_of s % 2 ≡ 0 → place_of s.table (pc_of s) ≢ Data m → Outer m own key text s (act s) (act (veil m own s))
    act_outer even ne =
        let a = act_acts in
        outer_by (act s) (act (veil m own s)) a.0 (act_veiled m own s.table k.sound s refl other even ne) a.1

    pub act_active : (act s).state.active ≡ s.active
    act_active = act_acts.0
