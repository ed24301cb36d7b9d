-- A whole cycle, and a whole run.
use Rattle.std.proofs.Common.{◌≡◌, ◌≢◌, inl, inr, ⊎_elim, ℕ, zero, suc, ◌+◌, ◌*◌, ◌<◌, ◌≤◌, List, [], ◌∷◌, ◌++◌, length, get_or, map, replicate, refl, sym, ap, ◌∙◌, subst, arith, Bool, true, false, nat_lt, cond, ◌==◌, Option, Some, None, All, filter, ext_get_or}
use Rattle.cpu_step.specs.Lone.{is_answer, blank}
use Rattle.devices.specs.Devices.{Devices}
use Rattle.image_text.specs.Image.{Image, IsImage}
use Rattle.run_laws.specs.Events.{EndsCall, ends_call}
use Rattle.isolation.specs.Calls.{AnswersAgree}
use Rattle.mod_layout.proofs.Found.{ends_of, share_sym}
use Rattle.mod_layout.proofs.TableLemmas.{apart_of}
use Rattle.mod_layout.specs.Table.{Table, size_of, module_of, holds, place_of}
use Rattle.mod_layout.specs.declared.Module.{Module}
use Rattle.mod_layout.specs.declared.Place.{Place}
use Rattle.mod_layout.specs.declared.Place.TheVariants.{Data}
use Rattle.mod_layout.specs.declared.Section.{Section}
use Rattle.pc_access.specs.Rights.{is_id}
use Rattle.pc_access.specs.declared.Stop.{Stop}
use Rattle.reg_backup.specs.declared.backup.Backup.{Backup}
use Rattle.reg_backup.specs.declared.frames.Frame.{Frame}
use Rattle.reg_backup.specs.declared.frames.Frame.TheVariants.{Plain, Module as Held}
use Rattle.schedule_file.specs.declared.Entry.{Entry as Scheduled}
use Rattle.sm_words.specs.Status.{is_gie}
use Rattle.sm_words.specs.Words.{cleared, put, reg, word_at, IsCore}
use Rattle.std.proofs.lemmas.Bool.{cases_lt}
use Rattle.std.proofs.lemmas.Bool.Decides.{nat_tests}
use Rattle.tracer.specs.declared.Event.{Event}
use Rattle.written_machine.proofs.Stops.{cycle_by}
use Rattle.written_machine.specs.Cycle.{Step, Settled, told, settle, ticked, turn, sent_event, counted_by, move, cycle}
use Rattle.written_machine.specs.Peers.{section, PeersBut, Peers}
use Rattle.written_machine.specs.State.{State}
use Rattle.written_machine.specs.View.{boot, at, is_hidden_by, Seen, seen_frame, seen_byte, View, view_of}
use Rattle.written_machine.specs.declared.Hidden.TheVariants.{Only}
use Rattle.std.specs.List.{list_all}
use Rattle.std.proofs.lemmas.List.Elements.{All-nil}
use mathlib.Core.Path.{fun_ext}
use Rattle.cpu_step.proofs.Blank.{no_answer_differs}
use Rattle.isolation.proofs.Active.{active_turn}
use Rattle.isolation.proofs.EvenBy.{each_bound}
use Rattle.run_laws.proofs.Bytes.{Out, get_cleared, length_cleared, get_in_cleared, part_cleared}
use Rattle.isolation.proofs.Ending.{Settles, SettlesBut, outside_settles, inside_settles}
use Rattle.run_laws.proofs.Fine.{Fine, FineSettled, settled_fine, fine_at}
use Rattle.isolation.proofs.Hide.{veil_if, veil_frames, veil_core, hide_by, hide}
use Rattle.isolation.proofs.Relation.{Twins, Ready, Related, Alike, twins_stay_before, hidden_same, seen, related_seen, seen_veiled}
use Rattle.run_laws.proofs.Rights.{Sound, out_place, holds_in}
use Rattle.isolation.proofs.Settled.{passing_stays, ticked_stays}
use Rattle.isolation.proofs.Settling.{ticked_hidden, gie_hidden}
use Rattle.run_laws.proofs.Tables.{sound_from}
use Rattle.isolation.proofs.Turns.{outside_turn}
use Rattle.run_laws.proofs.Tame.{ticked_active, settled_ends, move_filter, cycle_ends}

module _ (m : ℕ) (own : Module) (key text answers : List ℕ) (answers_ok : list_all is_answer answers ≡ true) where
  ticked_twins : (a b : State) → Twins m own key text answers a b → Twins m own key text answers (ticked a) (ticked b)
  ticked_twins a b t =
      twins_stay_before m own key text answers a b (ticked a) (ticked b) t (ticked_stays m own key text a t.keeps_a) (ticked_stays m own key text b t.keeps_b)
      (sym (ticked_hidden m own a) ∙ ap ticked t.seen ∙ ticked_hidden m own b) (ticked_active a) (ticked_active b)

  settle_by_place : (c : Bool) (a b : State) → Twins m own key text answers a b → is_id m a.active ≡ c → SettlesBut m own key text answers a b (settle a) (settle b)
  settle_by_place true a b t e = inside_settles m own key text answers a b t answers_ok e
  settle_by_place false a b t e = outside_settles m own key text answers a b t e

  settled_but : (a b : State) → Twins m own key text answers a b → SettlesBut m own key text answers (ticked a) (ticked b) (settle (ticked a)) (settle (ticked b))
  settled_but a b t = settle_by_place (is_id m (ticked a).active) (ticked a) (ticked b) (ticked_twins a b t) refl

  turn_by_place : (c : Bool) (left : ℕ) (a b : State) → Ready m own key text answers a b → IsCore a.core → IsCore b.core → left < 65536 → is_id m a.active ≡ c → Alike m own key text answers (turn left a) (turn left b)
  turn_by_place true left a b r oa ob small e = active_turn m own key text answers a b r e oa ob left
  turn_by_place false left a b r oa ob small e = outside_turn m own key text answers a b r e oa ob left small

  alike_same : (t u : Step) → t ≡ u → Alike m own key text answers t u
  alike_same t u e = record { events = ap (λ s. s.events) e; related = inl (ap (λ s. s.state) e) }

  turns : (ua ub : Settled) → Settles m own key text answers ua ub → FineSettled ua → FineSettled ub → Alike m own key text answers (turn ua.left ua.state) (turn ub.left ub.state)
  turns ua ub s fa fb =
      ⊎_elim
      (λ e. alike_same (turn ua.left ua.state) (turn ub.left ub.state) (ap (λ l. turn l ua.state) s.left ∙ ap (turn ub.left) e))
      (λ r. subst (λ l. Alike m own key text answers (turn ua.left ua.state) (turn l ub.state)) s.left (turn_by_place (is_id m ua.state.active) ua.left ua.state ub.state r fa.fine.core_ok fb.fine.core_ok fa.left_small refl))
      s.states

  -- ---- the cycle number
  counts : State → State
  counts s = record s { cycle = s.cycle + 1 }

  counts_hidden : (c : Bool) (s : State) → hide_by c m own (counts s) ≡ counts (hide_by c m own s)
  unfolding counts
  counts_hidden true s = refl
  counts_hidden false s = refl

  counts_twins : (a b : State) → Twins m own key text answers a b → Twins m own key text answers (counts a) (counts b)
  unfolding counts
  counts_twins a b t =
      twins_stay_before m own key text answers a b (counts a) (counts b) t
      (passing_stays m own key text a a.devices (a.cycle + 1) t.keeps_a) (passing_stays m own key text b b.devices (b.cycle + 1) t.keeps_b)
      (counts_hidden (is_id m a.active) a ∙ ap counts t.seen ∙ sym (counts_hidden (is_id m b.active) b)) refl refl

  seen_stop : (a b : State) → hide m own a ≡ hide m own b → a.stop ≡ b.stop
  seen_stop a b e = seen m own key text (λ s. s.stop) (λ c s. (hidden_same m own key text c s).1) a b e

  counted_alike_by : (o : Option Stop) (es : List Event) (ta tb : Step) → ta.events ≡ tb.events → Twins m own key text answers ta.state tb.state → Alike m own key text answers (counted_by o (told es ta)) (counted_by o (told es tb))
  unfolding counts
  counted_alike_by (Some stop) es ta tb e t = record { events = ap (λ x. es ++ x) e; related = inr t }
  counted_alike_by None es ta tb e t =
      record {
        events = ap (λ x. es ++ x ++ sent_event ta.state.devices.sent) e
            ∙ ap (λ (d : Devices). es ++ tb.events ++ sent_event d.sent) (seen m own key text (λ s. s.devices) (λ c s. (hidden_same m own key text c s).2) ta.state tb.state t.seen);
        related = inr (counts_twins ta.state tb.state t);
      }

  finish : List Event → Step → Step
  finish es t = counted_by t.state.stop (told es t)

  counted_alike : (ea eb : List Event) (ta tb : Step) → ea ≡ eb → Alike m own key text answers ta tb → Alike m own key text answers (finish ea ta) (finish eb tb)
  unfolding finish
  counted_alike ea eb ta tb e r =
      subst (λ es. Alike m own key text answers (finish ea ta) (finish es tb)) e
      (⊎_elim
      (λ s. alike_same (finish ea ta) (finish ea tb) (ap (λ st. let t : Step = record { state = st; events = ta.events } in finish ea t) s ∙ ap (λ es. let t : Step = record { state = tb.state; events = es } in finish ea t) r.events))
      (λ t. subst (λ o. Alike m own key text answers (finish ea ta) (counted_by o (told ea tb))) (seen_stop ta.state tb.state t.seen) (counted_alike_by ta.state.stop ea ta tb r.events t))
      r.related)

  -- where this step ends a call of the module, the answers are equal
  abbrev Agrees : Step → State → State → Type 0
  Agrees t a b = EndsCall m t.events → All (λ r. reg a.core r ≡ reg b.core r) answers

  move_alike : (a b : State) → Twins m own key text answers a b → Fine a → Fine b → Agrees (move a) a b → Alike m own key text answers (move a) (move b)
  unfolding move finish ticked
  move_alike a b t fa fb agree =
      let s = settled_but a b t in
      let same : EndsCall m (settle (ticked a)).events → a.core ≡ b.core = λ e. no_answer_differs answers a.core b.core (s.cores e) (agree (settled_ends m a e)) in
      let u = turns (settle (ticked a)) (settle (ticked b)) (s.settles same) (settled_fine a fa) (settled_fine b fb) in
      counted_alike (settle (ticked a)).events (settle (ticked b)).events (turn (settle (ticked a)).left (settle (ticked a)).state) (turn (settle (ticked b)).left (settle (ticked b)).state) s.events u

  cycle_by_alike : (o : Option Stop) (a b : State) → Twins m own key text answers a b → Fine a → Fine b → Agrees (cycle_by o a) a b → Alike m own key text answers (cycle_by o a) (cycle_by o b)
  cycle_by_alike (Some stop) a b t fa fb agree = record { events = refl; related = inr t }
  cycle_by_alike None a b t fa fb agree = move_alike a b t fa fb agree

  -- one cycle keeps the relation, and tells the same
  pub cycle_alike : (a b : State) → Related m own key text answers a b → Fine a → Fine b → Agrees (cycle a) a b → Alike m own key text answers (cycle a) (cycle b)
  cycle_alike a b r fa fb agree =
      ⊎_elim
      (λ e. alike_same (cycle a) (cycle b) (ap cycle e))
      (λ t. subst (λ o. Alike m own key text answers (cycle a) (cycle_by o b)) (seen_stop a b t.seen) (cycle_by_alike a.stop a b t fa fb agree))
      r

  -- whatever its answers, it ends a call in both or in neither
  ends_by : (o : Option Stop) (a b : State) → Twins m own key text answers a b → filter (ends_call m) (cycle_by o a).events ≡ filter (ends_call m) (cycle_by o b).events
  ends_by (Some stop) a b t = refl
  ends_by None a b t = move_filter m a ∙ ap (filter (ends_call m)) (settled_but a b t).events ∙ sym (move_filter m b)

  ends_alike : (a b : State) → Related m own key text answers a b → filter (ends_call m) (cycle a).events ≡ filter (ends_call m) (cycle b).events
  ends_alike a b r =
      ⊎_elim
      (λ e. ap (λ s. filter (ends_call m) (cycle s).events) e)
      (λ t. subst (λ o. filter (ends_call m) (cycle a).events ≡ filter (ends_call m) (cycle_by o b).events) (seen_stop a b t.seen) (ends_by a.stop a b t))
      r

  cores_alike : (a b : State) → Related m own key text answers a b → EndsCall m (cycle a).events → blank answers a.core ≡ blank answers b.core
  unfolding ticked
  cores_alike a b r h = ⊎_elim (λ e. ap (λ (s : State). blank answers s.core) e) (λ t. (settled_but a b t).cores (cycle_ends m a.stop a refl h).1) r

  runs_alike : (a b : Image) (schedule : List Scheduled) → Related m own key text answers (boot a schedule) (boot b schedule) → IsImage a → IsImage b → (k : ℕ) → AnswersAgree a b m answers schedule k → Related m own key text answers (at a schedule k) (at b schedule k)
  runs_alike a b schedule r ia ib zero agree = r
  runs_alike a b schedule r ia ib (suc k) agree =
      let before = runs_alike a b schedule r ia ib k (λ j lt. agree j (omega arith)) in
      (cycle_alike (at a schedule k) (at b schedule k) before (fine_at a schedule k ia) (fine_at b schedule k ib) (agree k (omega arith))).related

  -- ---- the views
  frame_seen : (c : Bool) (b : Backup) → (b.module == m) ≡ c → seen_frame (Only m) (Held (veil_if c b)) ≡ seen_frame (Only m) (Held b)
  frame_seen true b e = ap (λ d. cond d (Seen.SeenHidden (veil_if true b).module) (Seen.SeenWhole (veil_if true b))) e ∙ sym (ap (λ d. cond d (Seen.SeenHidden b.module) (Seen.SeenWhole b)) e)
  frame_seen false b e = refl

  seen_frames : (fs : List Frame) → map (seen_frame (Only m)) (veil_frames m fs) ≡ map (seen_frame (Only m)) fs
  seen_frames [] = refl
  seen_frames (Plain ∷ fs) = ap (λ l. Seen.SeenPlain ∷ l) (seen_frames fs)
  seen_frames (Held b ∷ fs) = ap (λ x. x ∷ map (seen_frame (Only m)) (veil_frames m fs)) (frame_seen (b.module == m) b refl) ∙ ap (λ l. seen_frame (Only m) (Held b) ∷ l) (seen_frames fs)

  data_by : (c : Bool) (x y : ℕ) → (c ≡ false → x ≡ y) → (let u : Option ℕ = cond c None (Some x) in u) ≡ cond c None (Some y)
  data_by true x y h = refl
  data_by false x y h = ap Some (h refl)

  byte_seen : (p : Place) (x y : ℕ) → (p ≢ Data m → x ≡ y) → seen_byte (Only m) p x ≡ seen_byte (Only m) p y
  byte_seen (Data id) x y h = data_by (id == m) x y (λ c. h (λ e. let same : id ≡ m = cc in let t : (id == m) ≡ true = grind (arith, nat_tests) in let f : true ≡ false = sym t ∙ c in cc))
  byte_seen _ x y h = ap Some (h (λ e. cc))

  hid : (a : Option ℕ) → is_hidden_by (Only m) a ≡ is_id m a
  hid None = refl
  hid (Some id) = refl

  -- the view is that of the state without the secrets
  view_by : (c : Bool) (s : State) → Sound m own s.table → is_id m s.active ≡ c → view_of (hide_by c m own s) (Only m) ≡ view_of s (Only m)
  unfolding view_of
  view_by true s k e =
      let build : (ℕ → Option ℕ) → Option (List ℕ) → List Seen → View = λ f r fs. record { byte = f; registers = r; active = s.active; frames = fs; cycle = s.cycle; table = s.table; devices = s.devices; stop = s.stop } in
      let h : is_hidden_by (Only m) s.active ≡ true = hid s.active ∙ e in
      ap (λ f. build f (cond (is_hidden_by (Only m) s.active) None (Some (veil_core s.core))) (map (seen_frame (Only m)) (veil_frames m s.frames))) (fun_ext (λ a. ap (λ o. cond (nat_lt a 512) None o) (byte_seen (place_of s.table a) (get_or (cleared own.ram.start (size_of own.ram) s.memory) a 0) (get_or s.memory a 0) (λ ne. get_cleared own.ram.start (size_of own.ram) s.memory a (out_place m own s.table k a ne)))))
      ∙ ap (λ r. build (λ a. cond (nat_lt a 512) None (seen_byte (Only m) (place_of s.table a) (get_or s.memory a 0))) r (map (seen_frame (Only m)) (veil_frames m s.frames))) (ap (λ c. let u : Option (List ℕ) = cond c None (Some (veil_core s.core)) in u) h ∙ sym (ap (λ c. let u : Option (List ℕ) = cond c None (Some s.core) in u) h))
      ∙ ap (build (λ a. cond (nat_lt a 512) None (seen_byte (Only m) (place_of s.table a) (get_or s.memory a 0))) (cond (is_hidden_by (Only m) s.active) None (Some s.core))) (seen_frames s.frames)
  view_by false s k e =
      let build : (ℕ → Option ℕ) → List Seen → View = λ f fs. record { byte = f; registers = cond (is_hidden_by (Only m) s.active) None (Some s.core); active = s.active; frames = fs; cycle = s.cycle; table = s.table; devices = s.devices; stop = s.stop } in
      ap (λ f. build f (map (seen_frame (Only m)) (veil_frames m s.frames))) (fun_ext (λ a. ap (λ o. cond (nat_lt a 512) None o) (byte_seen (place_of s.table a) (get_or (cleared own.ram.start (size_of own.ram) s.memory) a 0) (get_or s.memory a 0) (λ ne. get_cleared own.ram.start (size_of own.ram) s.memory a (out_place m own s.table k a ne)))))
      ∙ ap (build (λ a. cond (nat_lt a 512) None (seen_byte (Only m) (place_of s.table a) (get_or s.memory a 0)))) (seen_frames s.frames)

  pub view_alike : (a b : State) → Related m own key text answers a b → view_of a (Only m) ≡ view_of b (Only m)
  view_alike a b r =
      ⊎_elim
      (λ e. ap (λ s. view_of s (Only m)) e)
      (λ t. sym (view_by (is_id m a.active) a t.keeps_a.sound refl) ∙ ap (λ s. view_of s (Only m)) t.seen ∙ view_by (is_id m b.active) b t.keeps_b.sound refl)
      r

-- ---- the beginning
not_in : (r : Section) (x : ℕ) → holds r x ≡ false → r.start < r.end → r.start ≤ x → r.start + size_of r ≤ x
not_in r x e o low = ⊎_elim (λ lt. absurd (let t = holds_in r x low lt in let f : true ≡ false = sym t ∙ e in cc)) (λ ge. omega arith) (cases_lt x r.end)

module _ (a b : Image) (m : ℕ) (answers : List ℕ) (schedule : List Scheduled) (peers : PeersBut a b m answers) where
  abbrev own : Module
  own = peers.owner

  sound_a : Sound m own a.table
  sound_a = sound_from m own a.table peers.differ.images.0.table_ok peers.differ.owned

  out_byte : (x : ℕ) → 65504 ≤ x → get_or a.memory x 0 ≡ get_or b.memory x 0
  out_byte x h = peers.differ.elsewhere x (let e = sound_a.own_ok.ram_ok.high in grind (arith, nat_tests))

  by_place : (i : ℕ) (c : Bool) → holds own.ram i ≡ c → get_or (cleared own.ram.start (size_of own.ram) a.memory) i 0 ≡ get_or (cleared own.ram.start (size_of own.ram) b.memory) i 0
  by_place i true e =
      let p = ends_of own.ram i e in
      get_in_cleared own.ram.start (size_of own.ram) a.memory i p.0 (omega (arith, p.0, p.1)) ∙ sym (get_in_cleared own.ram.start (size_of own.ram) b.memory i p.0 (omega (arith, p.0, p.1)))
  by_place i false e =
      let out : Out own.ram.start (size_of own.ram) i = λ low. not_in own.ram i e sound_a.own_ok.ram_ok.order low in
      get_cleared own.ram.start (size_of own.ram) a.memory i out ∙ peers.differ.elsewhere i e ∙ sym (get_cleared own.ram.start (size_of own.ram) b.memory i out)

  cleared_same : cleared own.ram.start (size_of own.ram) a.memory ≡ cleared own.ram.start (size_of own.ram) b.memory
  cleared_same =
      let lo = own.ram.start in
      let n = size_of own.ram in
      let len : length (cleared lo n a.memory) ≡ length (cleared lo n b.memory) = length_cleared lo n a.memory ∙ peers.differ.images.0.full ∙ sym (length_cleared lo n b.memory ∙ peers.differ.images.1.full) in
      ext_get_or 0 (cleared lo n a.memory) (cleared lo n b.memory) len (λ i h. by_place i (holds own.ram i) refl)

  text_same : section own.text b.memory ≡ section own.text a.memory
  text_same =
      let lo = own.text.start in
      let n = size_of own.text in
      let ok = sound_a.own_ok in
      let apart = apart_of own.ram own.text ok.ram_ok.order ok.text_ok.order (share_sym own.text own.ram ok.apart) in
      sym (part_cleared lo n own.ram.start (size_of own.ram) b.memory apart) ∙ ap (section own.text) (sym cleared_same) ∙ part_cleared lo n own.ram.start (size_of own.ram) a.memory apart

  boot_seen : hide m own (boot a schedule) ≡ hide m own (boot b schedule)
  boot_seen =
      let word : word_at (λ x. get_or a.memory x 0) 65534 ≡ word_at (λ x. get_or b.memory x 0) 65534 =
      ap (λ v. v + 256 * get_or a.memory 65535 0) (out_byte 65534 (omega arith)) ∙ ap (λ v. get_or b.memory 65534 0 + 256 * v) (out_byte 65535 (omega arith)) in
      let build : ℕ → List ℕ → Table → List ℕ → ℕ → State = λ w mem t k sp. record (boot a schedule) { core = put (replicate 16 0) 0 w; memory = mem; table = t; key = k; handler_sp = sp } in
      ap (λ w. build w (cleared own.ram.start (size_of own.ram) a.memory) a.table a.node_key a.handler_sp) word
      ∙ ap (λ mem. build (word_at (λ x. get_or b.memory x 0) 65534) mem a.table a.node_key a.handler_sp) cleared_same
      ∙ ap (λ t. build (word_at (λ x. get_or b.memory x 0) 65534) (cleared own.ram.start (size_of own.ram) b.memory) t a.node_key a.handler_sp) peers.differ.table
      ∙ ap (λ k. build (word_at (λ x. get_or b.memory x 0) 65534) (cleared own.ram.start (size_of own.ram) b.memory) b.table k a.handler_sp) peers.differ.node_key
      ∙ ap (λ sp. build (word_at (λ x. get_or b.memory x 0) 65534) (cleared own.ram.start (size_of own.ram) b.memory) b.table b.node_key sp) peers.differ.handler_sp

  boot_twins : Twins m own a.node_key (section own.text a.memory) answers (boot a schedule) (boot b schedule)
  boot_twins =
      record {
        seen = boot_seen;
        secret = each_bound answers a.node_key own (section own.text a.memory) (section own.ram a.memory) (section own.ram b.memory) peers.even;
        keeps_a = record { sound = sound_a; key_is = refl; text_is = refl; once = omega arith; proper = λ h. absurd cc };
        keeps_b = record { sound = subst (Sound m own) peers.differ.table sound_a; key_is = sym peers.differ.node_key; text_is = text_same; once = omega arith; proper = λ h. absurd cc };
        open_a = λ h. tt;
        open_b = λ h. tt;
      }

  abbrev RelatedAt : ℕ → Type 0
  RelatedAt k = Related m own a.node_key (section own.text a.memory) answers (at a schedule k) (at b schedule k)

  related_at : (k : ℕ) → AnswersAgree a b m answers schedule k → RelatedAt k
  related_at k agree = runs_alike m own a.node_key (section own.text a.memory) answers peers.answers_ok a b schedule (inr boot_twins) peers.differ.images.0 peers.differ.images.1 k agree

  -- while the answers agree, the two runs are seen alike, and tell the same
  pub views_while : (k : ℕ) → AnswersAgree a b m answers schedule k → view_of (at a schedule k) (Only m) ≡ view_of (at b schedule k) (Only m)
  views_while k agree = view_alike m own a.node_key (section own.text a.memory) answers peers.answers_ok (at a schedule k) (at b schedule k) (related_at k agree)

  pub events_while : (k : ℕ) → AnswersAgree a b m answers schedule (suc k) → (cycle (at a schedule k)).events ≡ (cycle (at b schedule k)).events
  events_while k agree =
      (cycle_alike m own a.node_key (section own.text a.memory) answers peers.answers_ok (at a schedule k) (at b schedule k) (related_at k (λ j lt. agree j (omega arith)))
      (fine_at a schedule k peers.differ.images.0) (fine_at b schedule k peers.differ.images.1) (agree k (omega arith))).events

  pub callers_while : (k : ℕ) → AnswersAgree a b m answers schedule k → (at a schedule k).caller ≡ (at b schedule k).caller
  callers_while k agree = related_seen m own a.node_key (section own.text a.memory) answers (λ s. s.caller)
      (λ c s. (hidden_same m own a.node_key (section own.text a.memory) c s).3) (at a schedule k) (at b schedule k)
      (related_at k agree)

  pub gie_while : (k : ℕ) → AnswersAgree a b m answers schedule k → is_gie (at a schedule k).core ≡ is_gie (at b schedule k).core
  gie_while k agree = related_seen m own a.node_key (section own.text a.memory) answers (λ s. is_gie s.core)
      (gie_hidden m own) (at a schedule k) (at b schedule k) (related_at k agree)

  -- while the module is not active
  pub phases_while : (k : ℕ) → AnswersAgree a b m answers schedule k → is_id m (at a schedule k).active ≡ false →
      ((at a schedule k).phase ≡ (at b schedule k).phase) × ((at a schedule k).after ≡ (at b schedule k).after)
  phases_while k agree e =
      ⊎_elim
      (λ p. (ap (λ u. u.phase) p, ap (λ u. u.after) p))
      (λ x. let v = seen_veiled m own a.node_key (section own.text a.memory) (at a schedule k) (at b schedule k) x.seen e in
      (ap (λ u. u.phase) v, ap (λ u. u.after) v))
      (related_at k agree)

  -- the next cycle ends a call in both or in neither, and then the other registers are equal
  pub ends_while : (k : ℕ) → AnswersAgree a b m answers schedule k → filter (ends_call m) (cycle (at a schedule k)).events ≡ filter (ends_call m) (cycle (at b schedule k)).events
  ends_while k agree = ends_alike m own a.node_key (section own.text a.memory) answers peers.answers_ok (at a schedule k) (at b schedule k) (related_at k agree)

  pub cores_while : (k : ℕ) → AnswersAgree a b m answers schedule k → EndsCall m (cycle (at a schedule k)).events → blank answers (at a schedule k).core ≡ blank answers (at b schedule k).core
  cores_while k agree = cores_alike m own a.node_key (section own.text a.memory) answers peers.answers_ok (at a schedule k) (at b schedule k) (related_at k agree)

-- ---- where no register is an answer
pub none_differs : (a b : Image) (m : ℕ) (schedule : List Scheduled) (k : ℕ) → AnswersAgree a b m [] schedule k
none_differs a b m schedule k j lt e = All-nil (λ r. reg (at a schedule j).core r ≡ reg (at b schedule j).core r)

-- once the module has left the table
pub gone_equal : (a b : Image) (m : ℕ) (schedule : List Scheduled) (peers : Peers a b m) (k : ℕ) → module_of m (at a schedule k).table ≡ None → at a schedule k ≡ at b schedule k
gone_equal a b m schedule peers k e =
    ⊎_elim (λ p. p) (λ x. absurd (let f : Some peers.owner ≡ None = sym x.keeps_a.sound.found ∙ e in cc))
    (related_at a b m [] schedule peers k (none_differs a b m schedule k))
