-- What peers write is the same: their traces, their end lines, what is seen of them, and where they stand.
use Rattle.image_text.specs.Image.{Image}
use Rattle.isolation.specs.Calls.{AnswersAgree}
use Rattle.mod_layout.specs.Table.{place_of}
use Rattle.mod_layout.specs.declared.Place.{Place}
use Rattle.mod_layout.specs.declared.Place.TheVariants.{Open, Data}
use Rattle.pc_access.specs.Rights.{is_id}
use Rattle.pc_access.specs.declared.Stop.{Stop}
use Rattle.reg_backup.specs.declared.backup.Backup.{Backup}
use Rattle.reg_backup.specs.declared.frames.Frame.{Frame}
use Rattle.reg_backup.specs.declared.frames.Frame.TheVariants.{Plain, Module as Held}
use Rattle.schedule_file.specs.declared.Entry.{Entry as Scheduled}
use Rattle.written_machine.specs.Cycle.{cycle}
use Rattle.written_machine.specs.Peers.{PeersBut, Peers}
use Rattle.written_machine.specs.Standing.{stands_at}
use Rattle.written_machine.specs.State.{State}
use Rattle.written_machine.specs.Trace.{event_lines, end_by, end_line_of, lines_after, trace}
use Rattle.written_machine.specs.View.{boot, at, is_hidden_by, Seen, SeenPlain, SeenHidden, SeenWhole, seen_frame, seen_byte, View, view_of}
use Rattle.written_machine.specs.declared.Hidden.TheVariants.{All as AllHidden, Only}
use Rattle.tracer.specs.Lines.{end_line_at}
use Rattle.std.proofs.Common.{◌≡◌, ℕ, zero, suc, ◌+◌, List, [], ◌∷◌, ◌++◌, map, refl, sym, ap, ◌∙◌, arith, Bool, true, false, nat_lt, cond, ◌==◌, Option, Some, None, is_some}
use mathlib.Core.Path.{fun_ext}
use Rattle.isolation.proofs.Follow.{after_more}
use Rattle.isolation.proofs.Whole.{views_while, events_while, phases_while, none_differs}

-- ---- a view that hides all modules, from one that hides one
coarse_frame : Seen → Seen
coarse_frame SeenPlain = SeenPlain
coarse_frame (SeenHidden id) = SeenHidden id
coarse_frame (SeenWhole b) = SeenHidden b.module

coarse_byte : Place → Option ℕ → Option ℕ
coarse_byte (Data id) b = None
coarse_byte _ b = b

coarse : View → View
coarse v = record {
  byte = λ a. cond (nat_lt a 512) None (coarse_byte (place_of v.table a) (v.byte a));
  registers = cond (is_some v.active) None v.registers;
  active = v.active;
  frames = map coarse_frame v.frames;
  cycle = v.cycle;
  table = v.table;
  devices = v.devices;
  stop = v.stop;
}

module _ (m : ℕ) where
  frame_by : (c : Bool) (b : Backup) → coarse_frame (cond c (SeenHidden b.module) (SeenWhole b)) ≡ SeenHidden b.module
  unfolding coarse_frame
  frame_by true b = refl
  frame_by false b = refl

  frames_coarse : (fs : List Frame) → map coarse_frame (map (seen_frame (Only m)) fs) ≡ map (seen_frame AllHidden) fs
  unfolding coarse_frame
  frames_coarse [] = refl
  frames_coarse (Plain ∷ fs) = ap (λ l. SeenPlain ∷ l) (frames_coarse fs)
  frames_coarse (Held b ∷ fs) = rw (frame_by (b.module == m) b, frames_coarse fs) refl

  byte_coarse : (p : Place) (b : ℕ) → coarse_byte p (seen_byte (Only m) p b) ≡ seen_byte AllHidden p b
  unfolding coarse_byte
  byte_coarse Open b = refl
  byte_coarse _ b = refl

  low_coarse : (c : Bool) (p : Place) (b : ℕ) → cond c None (coarse_byte p (cond c None (seen_byte (Only m) p b))) ≡ cond c None (seen_byte AllHidden p b)
  low_coarse true p b = refl
  low_coarse false p b = byte_coarse p b

  registers_coarse : (o : Option ℕ) (core : List ℕ) → cond (is_some o) None (cond (is_hidden_by (Only m) o) None (Some core)) ≡ cond (is_hidden_by AllHidden o) None (Some core)
  registers_coarse None core = refl
  registers_coarse (Some id) core = refl

  all_hidden : (s : State) → coarse (view_of s (Only m)) ≡ view_of s AllHidden
  unfolding coarse view_of
  all_hidden s =
      let build : (ℕ → Option ℕ) → Option (List ℕ) → List Seen → View = λ f r fs. record { byte = f; registers = r; active = s.active; frames = fs; cycle = s.cycle; table = s.table; devices = s.devices; stop = s.stop } in
      let v = view_of s (Only m) in
      ap (λ f. build f (coarse v).registers (coarse v).frames) (fun_ext (λ a. low_coarse (nat_lt a 512) (place_of s.table a) _))
      ∙ ap (λ r. build (view_of s AllHidden).byte r (coarse v).frames) (registers_coarse s.active s.core)
      ∙ ap (build (view_of s AllHidden).byte (view_of s AllHidden).registers) (frames_coarse s.frames)

-- ---- what two states tell that are seen alike
module _ (m : ℕ) (s t : State) (v : view_of s (Only m) ≡ view_of t (Only m)) where
  seen_cycle : s.cycle ≡ t.cycle
  unfolding view_of
  seen_cycle = ap (λ x. x.cycle) v

  pub seen_active : s.active ≡ t.active
  unfolding view_of
  seen_active = ap (λ x. x.active) v

  pub seen_core : is_hidden_by (Only m) s.active ≡ false → s.core ≡ t.core
  unfolding view_of
  seen_core e =
      let a : Some s.core ≡ Some t.core =
      sym (ap (λ c. cond c None (Some s.core)) e) ∙ ap (λ x. x.registers) v ∙ ap (λ c. cond c None (Some t.core)) (ap (is_hidden_by (Only m)) (sym seen_active) ∙ e) in
      cc

  outside_core : s.active ≡ None → s.core ≡ t.core
  outside_core e = seen_core (ap (is_hidden_by (Only m)) e)

  core_same : (o : Option ℕ) → s.active ≡ o → end_by None o s.core ≡ end_by None o t.core
  core_same None e = ap (end_by None None) (outside_core e)
  core_same (Some id) e = refl

  end_same : (o : Option Stop) → end_by o s.active s.core ≡ end_by o s.active t.core
  end_same (Some stop) = refl
  end_same None = core_same s.active refl

  end_lines : end_line_of s ≡ end_line_of t
  unfolding view_of
  end_lines =
      ap (λ c. end_line_at c (end_by s.stop s.active s.core)) seen_cycle
      ∙ ap (end_line_at t.cycle) (end_same s.stop ∙ ap (λ x. end_by x.stop s.active t.core) v ∙ ap (λ a. end_by t.stop a t.core) seen_active)

  pub all_seen : view_of s AllHidden ≡ view_of t AllHidden
  all_seen = sym (all_hidden m s) ∙ ap coarse v ∙ all_hidden m t

-- while the answers agree
module _ (a b : Image) (m : ℕ) (answers : List ℕ) (schedule : List Scheduled) (peers : PeersBut a b m answers) where
  pub cycles_while : (k : ℕ) → AnswersAgree a b m answers schedule k → (at a schedule k).cycle ≡ (at b schedule k).cycle
  cycles_while k agree = seen_cycle m (at a schedule k) (at b schedule k) (views_while a b m answers schedule peers k agree)

  lines_same : (k : ℕ) → AnswersAgree a b m answers schedule (suc k) → event_lines (at a schedule k).cycle (cycle (at a schedule k)).events ≡ event_lines (at b schedule k).cycle (cycle (at b schedule k)).events
  lines_same k agree =
      ap (λ c. event_lines c (cycle (at a schedule k)).events) (cycles_while k (λ j lt. agree j (omega arith)))
      ∙ ap (event_lines (at b schedule k).cycle) (events_while a b m answers schedule peers k agree)

  pub lines_while : (k n : ℕ) → AnswersAgree a b m answers schedule (n + k) → lines_after (at a schedule k) n ≡ lines_after (at b schedule k) n
  lines_while k zero agree = refl
  lines_while k (suc n) agree =
      rw (lines_while k n (λ j lt. agree j (omega arith)), after_more a schedule k n, after_more b schedule k n, lines_same (n + k) (λ j lt. agree j (omega arith))) refl

  pub ends_while : (k : ℕ) → AnswersAgree a b m answers schedule k → end_line_of (at a schedule k) ≡ end_line_of (at b schedule k)
  ends_while k agree = end_lines m (at a schedule k) (at b schedule k) (views_while a b m answers schedule peers k agree)

  -- both have one trace
  pub traces_while : (n : ℕ) → AnswersAgree a b m answers schedule n → trace a schedule n ≡ trace b schedule n
  traces_while n agree =
      ap (λ l. l ++ end_line_of (at a schedule n)) (lines_while 0 n (λ j lt. agree j (omega arith))) ∙ ap (λ l. lines_after (boot b schedule) n ++ l) (ends_while n agree)

module _ (a b : Image) (m : ℕ) (schedule : List Scheduled) (peers : Peers a b m) where
  agree : (k : ℕ) → AnswersAgree a b m [] schedule k
  agree = none_differs a b m schedule

  views : (k : ℕ) → view_of (at a schedule k) (Only m) ≡ view_of (at b schedule k) (Only m)
  views k = views_while a b m [] schedule peers k (agree k)

  -- ---- where the outside stands
  stands_by : (s t : State) (addr : ℕ) (o : Option ℕ) → s.active ≡ o → t.active ≡ o → (s.active ≡ None → (s.phase ≡ t.phase) × (s.after ≡ t.after)) → (s.active ≡ None → s.core ≡ t.core) → stands_at addr s ≡ stands_at addr t
  unfolding stands_at
  stands_by s t addr (Some id) es et p c = rw (es, et) refl
  stands_by s t addr None es et p c = let q = p es in rw (es, et, q.0, q.1, c es) refl

  pub stands_same : (addr k : ℕ) → stands_at addr (at a schedule k) ≡ stands_at addr (at b schedule k)
  stands_same addr k =
      let s = at a schedule k in
      let t = at b schedule k in
      stands_by s t addr s.active refl (sym (seen_active m s t (views k))) (λ e. phases_while a b m [] schedule peers k (agree k) (ap (is_id m) e)) (outside_core m s t (views k))

  -- what is seen where every module is hidden
  pub outside_equal : (k : ℕ) → view_of (at a schedule k) AllHidden ≡ view_of (at b schedule k) AllHidden
  outside_equal k = all_seen m (at a schedule k) (at b schedule k) (views k)
