-- A state with one module's secrets taken out, and what the outside does to it.
use Rattle.std.proofs.Common.{◌≡◌, ◌≢◌, ℕ, suc, ◌+◌, ◌*◌, ◌%◌, ◌≤◌, List, [], ◌∷◌, length, get_or, refl, sym, ap, ◌∙◌, subst, arith, Bool, true, false, nat_lt, cond, not, ◌&&◌, ◌||◌, ◌==◌, Option, Some, None, drop}
use Rattle.attest.specs.Accesses.{reads_of, writes_of}
use Rattle.cpu_step.specs.Asked.{asks, effect}
use Rattle.cpu_step.specs.Fetched.{later_word, insn_at}
use Rattle.insn_decode.specs.Code.{insn_of, length_of}
use Rattle.insn_decode.specs.declared.insn.Insn.{Insn}
use Rattle.insn_decode.specs.declared.insn.Insn.TheVariants.{Reti}
use Rattle.mod_layout.specs.First.{first_in}
use Rattle.mod_layout.specs.Table.{Table, place_of, size_of}
use Rattle.mod_layout.specs.declared.Module.{Module}
use Rattle.mod_layout.specs.declared.Place.TheVariants.{Data}
use Rattle.pc_access.specs.Rights.{right, is_id}
use Rattle.pc_access.specs.declared.Denied.{Denied}
use Rattle.pc_access.specs.declared.Stop.{Stop}
use Rattle.reg_backup.specs.Held.{held_ids}
use Rattle.reg_backup.specs.declared.backup.After.TheVariants.{Next}
use Rattle.reg_backup.specs.declared.backup.Backup.{Backup}
use Rattle.reg_backup.specs.declared.backup.Phase.TheVariants.{Run}
use Rattle.reg_backup.specs.declared.frames.Frame.{Frame}
use Rattle.reg_backup.specs.declared.frames.Frame.TheVariants.{Plain, Module as Held}
use Rattle.sm_words.specs.Words.{cleared, reg, bit, word_at}
use Rattle.sm_words.specs.declared.width.Width.TheVariants.{Word}
use Rattle.std.proofs.lemmas.Bool.{and_parts}
use Rattle.tracer.specs.declared.Event.{Event}
use Rattle.written_machine.specs.Cycle.{Step, pc_of, byte_of, vector_in, push_both, pushes, plain_if, arrive_outside, at_home, home_word, is_home, who_of, port_of, perform, attempt, returned_by, reti_by, act_on, act_home, act_first, act, unless}
use Rattle.written_machine.specs.Ports.{take_reads, put_writes}
use Rattle.written_machine.specs.State.{State}
use Rattle.run_laws.proofs.Bytes.{Out, get_cleared}
use Rattle.run_laws.proofs.Each.{Each}
use Rattle.run_laws.proofs.Ports.{OutBy, OutAccess, take_reads_veiled, put_writes_veiled}
use Rattle.run_laws.proofs.Rights.{Sound, reads_out, writes_out, out_place_next}

-- of a hidden core GIE alone is seen
abbrev pub veil_core : List ℕ → List ℕ
veil_core core = 0 ∷ 0 ∷ 8 * bit 8 (reg core 2) ∷ []

abbrev pub veil_if : Bool → Backup → Backup
veil_if true b = record b { core = veil_core b.core; rest = 0; closing = false }
veil_if false b = b

abbrev pub veil_frame : ℕ → Frame → Frame
veil_frame m Plain = Plain
veil_frame m (Held b) = Held (veil_if (b.module == m) b)

abbrev pub veil_frames : ℕ → List Frame → List Frame
veil_frames m [] = []
veil_frames m (f ∷ fs) = veil_frame m f ∷ veil_frames m fs

-- the module's data are 0, and so is what its frame holds
abbrev pub veil : ℕ → Module → State → State
veil m own s = record s { memory = cleared own.ram.start (size_of own.ram) s.memory; frames = veil_frames m s.frames }

abbrev pub veil_step : ℕ → Module → Step → Step
veil_step m own t = record t { state = veil m own t.state }

-- while it is active its registers, rest and closing are hidden too
abbrev pub hide_by : Bool → ℕ → Module → State → State
hide_by true m own s = record (veil m own s) { core = veil_core s.core; phase = Run 0; after = Next }
hide_by false m own s = veil m own s

abbrev pub hide : ℕ → Module → State → State
hide m own s = hide_by (is_id m s.active) m own s

pub held_ids_if : (m : ℕ) (c : Bool) (b : Backup) → (veil_if c b).module ≡ b.module
held_ids_if m true b = refl
held_ids_if m false b = refl

pub held_ids_veiled : (m : ℕ) (fs : List Frame) → held_ids (veil_frames m fs) ≡ held_ids fs
held_ids_veiled m [] = refl
held_ids_veiled m (Plain ∷ fs) = held_ids_veiled m fs
held_ids_veiled m (Held b ∷ fs) = rw (held_ids_if m (b.module == m) b, held_ids_veiled m fs) refl

pub length_veiled : (m : ℕ) (fs : List Frame) → length (veil_frames m fs) ≡ length fs
length_veiled m [] = refl
length_veiled m (f ∷ fs) = ap suc (length_veiled m fs)

plain_veiled : (m : ℕ) (fs : List Frame) → plain_if (veil_frames m fs) ≡ veil_frames m (plain_if fs)
plain_veiled m [] = refl
plain_veiled m (f ∷ fs) = refl

module _ (m : ℕ) (own : Module) (t : Table) (sound : Sound m own t) where
  -- a word that is not the module's is seen
  word_cleared : (mem : List ℕ) (a : ℕ) → OutBy Word own.ram.start (size_of own.ram) a → word_at (λ x. get_or (cleared own.ram.start (size_of own.ram) mem) x 0) a ≡ word_at (λ x. get_or mem x 0) a
  word_cleared mem a out = rw (get_cleared own.ram.start (size_of own.ram) mem a out.0, get_cleared own.ram.start (size_of own.ram) mem (a + 1) out.1) refl

  vector_out : (a : ℕ) → 65504 ≤ a → Out own.ram.start (size_of own.ram) a
  vector_out a h low = let e = sound.own_ok.ram_ok.high in let o = sound.own_ok.ram_ok.order in omega arith

  pub vector_cleared : (mem : List ℕ) (v : ℕ) → vector_in (cleared own.ram.start (size_of own.ram) mem) v ≡ vector_in mem v
  vector_cleared mem v = word_cleared mem (65504 + 2 * v) (vector_out (65504 + 2 * v) (omega arith), vector_out (65504 + 2 * v + 1) (omega arith))

  -- ---- an arrival outside
  push_veiled : (d : Option Denied) (v : ℕ) (s : State) → (d ≡ None → Each (OutAccess own.ram.start (size_of own.ram)) (pushes s)) → unless d (veil m own s) (push_both v (veil m own s)) ≡ veil_step m own (unless d s (push_both v s))
  push_veiled (Some d) v s out = refl
  push_veiled None v s out =
      let p = port_of s in
      let vs = reg s.core 0 ∷ reg s.core 2 ∷ [] in
      rw (put_writes_veiled own.ram.start (size_of own.ram) (pushes s) p vs (out refl), vector_cleared (put_writes p (pushes s) vs).memory v, plain_veiled m s.frames) refl

  pub arrive_outside_veiled : (v : ℕ) (s : State) → s.table ≡ t → arrive_outside v (veil m own s) ≡ veil_step m own (arrive_outside v s)
  unfolding arrive_outside
  arrive_outside_veiled v s e =
      ap (λ ids. unless (first_in (right s.table None ids) (pushes s)) (veil m own s) (push_both v (veil m own s))) (held_ids_veiled m s.frames)
      ∙ push_veiled (first_in (right s.table None (held_ids s.frames)) (pushes s)) v s
      (λ n. writes_out m own t sound None (held_ids s.frames) refl (pushes s) (ap (λ u. first_in (right u None (held_ids s.frames)) (pushes s)) (sym e) ∙ n))

  module _ (s : State) (table_is : s.table ≡ t) (other : is_id m s.active ≡ false) where
    -- ---- an instruction's accesses and changes
    perform_veiled : (insn : Insn) → Each (OutAccess own.ram.start (size_of own.ram)) (reads_of (asks (who_of s) insn s.core)) → Each (OutAccess own.ram.start (size_of own.ram)) (writes_of (asks (who_of s) insn s.core)) → perform insn (veil m own s) ≡ veil_step m own (perform insn s)
    unfolding perform
    perform_veiled insn out_r out_w =
        let xs = asks (who_of s) insn s.core in
        let p = port_of s in
        let g = take_reads p (reads_of xs) in
        let e = effect (who_of s) insn s.core g.value in
        rw (take_reads_veiled own.ram.start (size_of own.ram) (reads_of xs) p out_r, put_writes_veiled own.ram.start (size_of own.ram) (writes_of xs) g.port e.stored out_w) refl

    pub attempt_veiled : (insn : Insn) → attempt insn (veil m own s) ≡ veil_step m own (attempt insn s)
    unfolding attempt
    attempt_veiled insn =
        let xs = asks (who_of s) insn s.core in
        ap (λ ids. unless (first_in (right s.table s.active ids) xs) (veil m own s) (perform insn (veil m own s))) (held_ids_veiled m s.frames)
        ∙ by_check (first_in (right s.table s.active (held_ids s.frames)) xs) refl
      where
        by_check : (d : Option Denied) → first_in (right s.table s.active (held_ids s.frames)) (asks (who_of s) insn s.core) ≡ d → unless d (veil m own s) (perform insn (veil m own s)) ≡ veil_step m own (unless d s (perform insn s))
        by_check (Some d) e = refl
        by_check None e =
            let xs = asks (who_of s) insn s.core in
            let e' = ap (λ u. first_in (right u s.active (held_ids s.frames)) xs) (sym table_is) ∙ e in
            perform_veiled insn (reads_out m own t sound s.active (held_ids s.frames) other xs e') (writes_out m own t sound s.active (held_ids s.frames) other xs e')

    without_newest_veiled : (fs : List Frame) → drop 1 (veil_frames m fs) ≡ veil_frames m (drop 1 fs)
    without_newest_veiled [] = refl
    without_newest_veiled (f ∷ fs) = refl

    returned_veiled : (o : Option Stop) (u : Step) → returned_by o (veil_step m own u) ≡ veil_step m own (returned_by o u)
    returned_veiled (Some stop) u = refl
    returned_veiled None u =
        ap (λ fs. let v : Step = record { state = record (veil m own u.state) { frames = fs }; events = Event.Reti ∷ u.events } in v) (without_newest_veiled u.state.frames)

    reti_veiled : (fs : List Frame) → reti_by None (veil_frames m fs) (veil m own s) ≡ veil_step m own (reti_by None fs s)
    reti_veiled (Held b ∷ fs) = refl
    reti_veiled _ = ap (λ u. returned_by u.state.stop u) (attempt_veiled Reti) ∙ returned_veiled (attempt Reti s).state.stop (attempt Reti s)

    reti_of_veiled : (o : Option ℕ) → reti_by o (veil m own s).frames (veil m own s) ≡ veil_step m own (reti_by o s.frames s)
    reti_of_veiled (Some id) = refl
    reti_of_veiled None = reti_veiled s.frames

    act_by_veiled : (insn : Insn) → act_on (Some insn) (veil m own s) ≡ veil_step m own (act_on (Some insn) s)
    act_by_veiled Reti = reti_of_veiled s.active
    act_by_veiled insn = attempt_veiled insn

    act_on_veiled : (o : Option Insn) → act_on o (veil m own s) ≡ veil_step m own (act_on o s)
    act_on_veiled None = refl
    act_on_veiled (Some insn) = act_by_veiled insn

    -- ---- the words of an instruction
    not_home : (active : Option ℕ) → at_home active (Data m) ≡ true → ⊥
    not_home None e = cc
    not_home (Some id) e = cc

    later_by : (b : Bool) (a : ℕ) (c : Bool) → a % 2 ≡ 0 → (not b || (c && at_home s.active (place_of s.table a))) ≡ true → cond b (word_at (byte_of (veil m own s)) a) 0 ≡ cond b (word_at (byte_of s) a) 0
    later_by false a c even h = refl
    later_by true a true even h =
        word_cleared s.memory a (out_place_next m own t sound a even (λ d. not_home s.active (subst (λ p. at_home s.active p ≡ true) (ap (λ u. place_of u a) table_is ∙ d) h)))
    later_by true a false even h = cc

    later_veiled : (n k : ℕ) → pc_of s % 2 ≡ 0 → home_word s.table s.active (pc_of s) n k ≡ true → later_word (byte_of (veil m own s)) (pc_of s) n k ≡ later_word (byte_of s) (pc_of s) n k
    later_veiled n k even h = later_by (nat_lt k n) (pc_of s + 2 * k) (nat_lt (pc_of s + 2 * k) 65536) (omega arith) h

    insn_veiled : (n : ℕ) → pc_of s % 2 ≡ 0 → OutBy Word own.ram.start (size_of own.ram) (pc_of s) → is_home s.table s.active (pc_of s) n ≡ true → insn_at (byte_of (veil m own s)) (pc_of s) n ≡ insn_at (byte_of s) (pc_of s) n
    insn_veiled n even out h =
        let h1 : home_word s.table s.active (pc_of s) n 1 ≡ true = (and_parts _ (home_word s.table s.active (pc_of s) n 2) h).0 in
        let h2 : home_word s.table s.active (pc_of s) n 2 ≡ true = (and_parts (home_word s.table s.active (pc_of s) n 1) _ h).1 in
        rw (word_cleared s.memory (pc_of s) out, later_veiled n 1 even h1, later_veiled n 2 even h2) refl

    act_home_veiled : (b : Bool) (n : ℕ) → pc_of s % 2 ≡ 0 → OutBy Word own.ram.start (size_of own.ram) (pc_of s) → is_home s.table s.active (pc_of s) n ≡ b → act_home b n (veil m own s) ≡ veil_step m own (act_home b n s)
    act_home_veiled false n even out h = refl
    act_home_veiled true n even out h =
        ap (λ o. act_on o (veil m own s)) (insn_veiled n even out h) ∙ act_on_veiled (insn_at (byte_of s) (pc_of s) n)

    act_first_veiled : (o : Option Insn) → pc_of s % 2 ≡ 0 → OutBy Word own.ram.start (size_of own.ram) (pc_of s) → act_first o (veil m own s) ≡ veil_step m own (act_first o s)
    act_first_veiled None even out = refl
    act_first_veiled (Some first) even out = act_home_veiled (is_home s.table s.active (pc_of s) (length_of first)) (length_of first) even out refl

    -- an instruction of another, or of the outside
    pub act_veiled : pc_of s % 2 ≡ 0 → place_of t (pc_of s) ≢ Data m → act (veil m own s) ≡ veil_step m own (act s)
    unfolding act
    act_veiled even ne =
        let out = out_place_next m own t sound (pc_of s) even ne in
        ap (λ w. act_first (insn_of w 0 0) (veil m own s)) (word_cleared s.memory (pc_of s) out) ∙ act_first_veiled (insn_of (word_at (byte_of s) (pc_of s)) 0 0) even out
