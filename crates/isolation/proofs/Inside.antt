-- What the module does while it is active is what it does by itself.
use Rattle.std.proofs.Common.{◌≡◌, ℕ, ◌+◌, ◌-◌, ◌*◌, ◌/◌, ◌%◌, List, [], ◌∷◌, get_or, set, map, refl, sym, ap, ◌∙◌, subst, arith, Bool, true, false, nat_lt, cond, not, ◌&&◌, ◌||◌, ◌==◌, Option, Some, None, ⊎_elim}
use Rattle.attest.specs.Accesses.{is_read, is_write, reads_of, writes_of}
use Rattle.attest.specs.Done.{own_of}
use Rattle.attest.specs.Units.{Doer, UnitName, Unprotect, Protect, Attest, Tag, IdOf, OwnId, CallerId, unit_plan, unit_effect, Effect, table_by}
use Rattle.cpu_step.specs.Asked.{asks, effect, table_after}
use Rattle.cpu_step.specs.Fetched.{later_word, insn_at, word_in, insn_from, insn_in}
use Rattle.cpu_step.specs.Lone.{Job, Lone, lone_byte, lone_who, is_alone, is_inside, all_inside, lone_read, lone_write, lone_writes, may_do, next_insn, lone_does}
use Rattle.insn_decode.specs.Code.{insn_of, length_of}
use Rattle.insn_decode.specs.declared.insn.Insn.{Insn}
use Rattle.insn_decode.specs.declared.insn.Insn.TheVariants.{Reti, Unit as UnitOp}
use Rattle.mod_layout.proofs.Found.{ends_of}
use Rattle.mod_layout.specs.First.{first_in}
use Rattle.mod_layout.specs.Table.{Table, place_of, module_of, size_of, holds}
use Rattle.mod_layout.specs.declared.Module.{Module}
use Rattle.mod_layout.specs.declared.Section.{Section}
use Rattle.pc_access.specs.Rights.{right, right_at, misaligned, refuse_if}
use Rattle.pc_access.specs.declared.Access.{Access}
use Rattle.pc_access.specs.declared.Kind.TheVariants.{Fetch, Read, Write}
use Rattle.pc_access.specs.declared.Rule.{Rule}
use Rattle.pc_access.specs.declared.Rule.TheVariants.{Misaligned}
use Rattle.reg_backup.specs.Held.{held_ids}
use Rattle.reg_backup.specs.Saved.{closing_after}
use Rattle.reg_backup.specs.declared.backup.Phase.TheVariants.{Run}
use Rattle.sm_words.specs.Words.{cleared, reg, word_at}
use Rattle.sm_words.specs.declared.width.Width.{Width}
use Rattle.sm_words.specs.declared.width.Width.TheVariants.{Byte, Word}
use Rattle.std.proofs.lemmas.Bool.{cases_lt, not-true, and_parts, or_cases, or_right}
use Rattle.std.proofs.lemmas.Bool.Decides.{nat_tests}
use Rattle.tracer.specs.declared.Event.TheVariants.{Protect as Made}
use Rattle.written_machine.specs.Cycle.{Step, pc_of, byte_of, at_home, home_word, is_home, who_of, port_of, perform, attempt, act_on, act_home, act_first, act}
use Rattle.written_machine.specs.Peers.{section}
use Rattle.written_machine.specs.Ports.{Port, read_in, read_byte, read_width, write_byte, write_width, take_reads, put_writes}
use Rattle.written_machine.specs.State.{State}
use Rattle.std.specs.Option.{option_or}
use Rattle.pc_access.specs.declared.Kind.{Kind}
use Rattle.run_laws.proofs.Bytes.{Out, get_part, part_set_in, part_set_out, cleared_set}
use Rattle.run_laws.proofs.Each.{Each}
use Rattle.run_laws.proofs.Rights.{Sound, own_id, holds_in, each_read, each_write, even_of}

-- a step of the active module
pub record Moves (own : Module) (s : State) (l' : Lone) (u : Step) : Type 0 where
  pub memory : List ℕ
  pub is : u ≡ record { state = record s { core = l'.core; memory = memory; phase = Run l'.rest; after = closing_after l'.closing }; events = [] }
  pub bytes : section own.ram memory ≡ l'.data_bytes
  pub rest : cleared own.ram.start (size_of own.ram) memory ≡ cleared own.ram.start (size_of own.ram) s.memory
  pub text : section own.text memory ≡ section own.text s.memory

-- each byte of an access is there
abbrev pub InBy : Width → (ℕ → Bool) → ℕ → Type 0
InBy Byte P a = P a ≡ true
InBy Word P a = (P a ≡ true) × (P (a + 1) ≡ true)

holds_next : (s : Section) (a : ℕ) → s.end % 2 ≡ 0 → a % 2 ≡ 0 → holds s a ≡ true → holds s (a + 1) ≡ true
holds_next s a end even h = let p = ends_of s a h in holds_in s (a + 1) (omega (arith, p.0)) (omega (arith, p.1))

-- ---- instructions that a module may do by itself do not look at the table
unit_plan_alone : (x : UnitName) (w w' : Doer) (core : List ℕ) → is_alone (UnitOp x) ≡ true → w.own ≡ w'.own → unit_plan w x core ≡ unit_plan w' x core
unfolding unit_plan
unit_plan_alone Protect w w' core e o = cc
unit_plan_alone Attest w w' core e o = cc
unit_plan_alone Tag w w' core e o = rw o refl
unit_plan_alone IdOf w w' core e o = cc
unit_plan_alone _ w w' core e o = refl

asks_alone : (insn : Insn) (w w' : Doer) (core : List ℕ) → is_alone insn ≡ true → w.own ≡ w'.own → asks w insn core ≡ asks w' insn core
unfolding asks
asks_alone (UnitOp n) w w' core e o = unit_plan_alone n w w' core e o
asks_alone _ w w' core e o = refl

unit_effect_alone : (x : UnitName) (w w' : Doer) (core values : List ℕ) → is_alone (UnitOp x) ≡ true → w.own ≡ w'.own → w.caller ≡ w'.caller → w.key ≡ w'.key → unit_effect w x core values ≡ unit_effect w' x core values
unfolding unit_effect
unit_effect_alone Unprotect w w' core values e o c k = rw o refl
unit_effect_alone Tag w w' core values e o c k = rw (o, k) refl
unit_effect_alone OwnId w w' core values e o c k = rw o refl
unit_effect_alone CallerId w w' core values e o c k = rw (o, c) refl
unit_effect_alone _ w w' core values e o c k = cc

effect_alone : (insn : Insn) (w w' : Doer) (core values : List ℕ) → is_alone insn ≡ true → w.own ≡ w'.own → w.caller ≡ w'.caller → w.key ≡ w'.key → effect w insn core values ≡ effect w' insn core values
unfolding effect
effect_alone (UnitOp n) w w' core values e o c k = unit_effect_alone n w w' core values e o c k
effect_alone _ w w' core values e o c k = rw o refl

table_by_alone : (x : UnitName) (t : Table) (core : List ℕ) → is_alone (UnitOp x) ≡ true → table_by x t core ≡ t
table_by_alone Protect t core e = cc
table_by_alone _ t core e = refl

pub table_alone : (insn : Insn) (t : Table) (core : List ℕ) → is_alone insn ≡ true → table_after t insn core ≡ t
unfolding table_after
table_alone (UnitOp n) t core e = table_by_alone n t core e
table_alone _ t core e = refl

-- what the instruction that comes next says
pub may_some : (j : Job) (l : Lone) (o : Option Insn) (insn : Insn) → may_do j l o ≡ Some insn → (o ≡ Some insn) × (is_alone insn ≡ true) × (all_inside j (asks (lone_who j) insn l.core) ≡ true)
may_some j l None insn e = absurd cc
may_some j l (Some x) insn e = chosen (is_alone x && all_inside j (asks (lone_who j) x l.core)) refl e
  where
    chosen : (b : Bool) → (is_alone x && all_inside j (asks (lone_who j) x l.core)) ≡ b → cond b (Some x) None ≡ Some insn → (Some x ≡ Some insn) × (is_alone insn ≡ true) × (all_inside j (asks (lone_who j) insn l.core) ≡ true)
    chosen true h f =
        let same : x ≡ insn = cc in
        let p = and_parts (is_alone x) (all_inside j (asks (lone_who j) x l.core)) h in
        (f, subst (λ i. is_alone i ≡ true) same p.0, subst (λ i. all_inside j (asks (lone_who j) i l.core) ≡ true) same p.1)
    chosen false h f = absurd cc

pub home_some : (b : Bool) (o : Option Insn) (insn : Insn) → cond b o None ≡ Some insn → (b ≡ true) × (o ≡ Some insn)
home_some true o insn e = (refl, e)
home_some false o insn e = absurd cc

module _ (m : ℕ) (own : Module) (t : Table) (sound : Sound m own t) (j : Job) (owner : j.owner ≡ own) where
  abbrev pub in_sections : ℕ → Bool
  in_sections a = holds own.text a || holds own.ram a

  not_low : (a : ℕ) → in_sections a ≡ true → nat_lt a 512 ≡ false
  not_low a h = let l = sound.own_ok.text_ok.low in let r = sound.own_ok.ram_ok.low in grind (arith, nat_tests)

  module _ (mem : List ℕ) (text_is : section own.text mem ≡ j.text) where
    -- the machine's bytes are the module's
    same_by : (b : Bool) (a : ℕ) → holds own.text a ≡ b → in_sections a ≡ true → get_or mem a 0 ≡ cond b (get_or j.text (a - own.text.start) 0) (get_or (section own.ram mem) (a - own.ram.start) 0)
    same_by true a e h =
        let p = ends_of own.text a e in
        get_part own.text.start (size_of own.text) mem a p.0 (omega (arith, p.0, p.1)) ∙ ap (λ l. get_or l (a - own.text.start) 0) text_is
    same_by false a e h =
        let r : holds own.ram a ≡ true = ap (λ b. b || holds own.ram a) (sym e) ∙ h in
        let p = ends_of own.ram a r in
        get_part own.ram.start (size_of own.ram) mem a p.0 (omega (arith, p.0, p.1))

    same_byte : (a : ℕ) → in_sections a ≡ true → get_or mem a 0 ≡ lone_byte j (section own.ram mem) a
    same_byte a h =
        same_by (holds own.text a) a refl h
        ∙ ap (λ o. cond (holds o.text a) (get_or j.text (a - o.text.start) 0) (get_or (section own.ram mem) (a - o.ram.start) 0)) (sym owner)

    same_word : (a : ℕ) → InBy Word in_sections a → word_at (λ x. get_or mem x 0) a ≡ word_at (lone_byte j (section own.ram mem)) a
    same_word a h = rw (same_byte a h.0, same_byte (a + 1) h.1) refl

  read_in_same : (p : Port) (a : ℕ) → in_sections a ≡ true → read_byte p a ≡ record { port = p; value = get_or p.memory a 0 }
  read_in_same p a h = ap (λ b. read_in b p a) (not_low a h)

  read_same : (w : Width) (p : Port) (text_is : section own.text p.memory ≡ j.text) (k : Kind) (a : ℕ) → InBy w in_sections a → read_width w p a ≡ record { port = p; value = lone_read j (section own.ram p.memory) (record { kind = k; addr = a; width = w }) }
  read_same Byte p text_is k a h = rw (read_in_same p a h, same_byte p.memory text_is a h) refl
  read_same Word p text_is k a h = rw (read_in_same p a h.0, read_in_same p (a + 1) h.1, same_word p.memory text_is a h) refl

  pub reads_same : (xs : List Access) (p : Port) → section own.text p.memory ≡ j.text → Each (λ x. InBy x.width in_sections x.addr) xs → take_reads p xs ≡ record { port = p; value = map (lone_read j (section own.ram p.memory)) xs }
  reads_same [] p text_is h = refl
  reads_same (x ∷ xs) p text_is h = rw (read_same x.width p text_is x.kind x.addr h.0, reads_same xs p text_is h.1) refl

  -- ---- writes
  pub record Writes (p q : Port) (d : List ℕ) : Type 0 where
    pub devices : q.devices ≡ p.devices
    pub bytes : section own.ram q.memory ≡ d
    pub rest : cleared own.ram.start (size_of own.ram) q.memory ≡ cleared own.ram.start (size_of own.ram) p.memory
    pub text : section own.text q.memory ≡ section own.text p.memory

  text_out : (a : ℕ) → holds own.ram a ≡ true → Out own.text.start (size_of own.text) a
  text_out a h low =
      let o = sound.own_ok.text_ok.order in
      ⊎_elim (λ lt. absurd (let k = holds_in own.text a low lt in let f = sound.apart a k in cc)) (λ ge. omega arith) (cases_lt a own.text.end)

  write_byte_same : (p : Port) (a v : ℕ) → holds own.ram a ≡ true → Writes p (write_byte p a v) (set (section own.ram p.memory) (a - own.ram.start) v)
  write_byte_same p a v h =
      let r = ends_of own.ram a h in
      let lo = own.ram.start in
      let n = size_of own.ram in
      rw (not_low a (or_right (holds own.text a) (holds own.ram a) h)) (record {
        devices = refl;
        bytes = part_set_in lo n p.memory a v r.0 (omega (arith, r.0, r.1));
        rest = cleared_set lo n p.memory a v r.0 (omega (arith, r.0, r.1));
        text = part_set_out own.text.start (size_of own.text) p.memory a v (text_out a h);
      })

  write_same : (w : Width) (p : Port) (a v : ℕ) → InBy w (λ x. holds own.ram x) a → Writes p (write_width w p a v) (lone_write own w (section own.ram p.memory) a v)
  write_same Byte p a v h = write_byte_same p a (v % 256) h
  write_same Word p a v h =
      let x = write_byte_same p a (v % 256) h.0 in
      let p1 = write_byte p a (v % 256) in
      let y = write_byte_same p1 (a + 1) (v / 256 % 256) h.1 in
      record {
        devices = y.devices ∙ x.devices;
        bytes = y.bytes ∙ ap (λ d. set d (a + 1 - own.ram.start) (v / 256 % 256)) x.bytes;
        rest = y.rest ∙ x.rest;
        text = y.text ∙ x.text;
      }

  pub writes_same : (xs : List Access) (p : Port) (vs : List ℕ) → Each (λ x. InBy x.width (λ a. holds own.ram a) x.addr) xs → Writes p (put_writes p xs vs) (lone_writes own (section own.ram p.memory) xs vs)
  writes_same (x ∷ xs) p (v ∷ vs) h =
      let w = write_same x.width p x.addr v h.0 in
      let p1 = write_width x.width p x.addr v in
      let r = writes_same xs p1 vs h.1 in
      record {
        devices = r.devices ∙ w.devices;
        bytes = r.bytes ∙ ap (λ d. lone_writes own d xs vs) w.bytes;
        rest = r.rest ∙ w.rest;
        text = r.text ∙ w.text;
      }
  writes_same _ p _ h = record { devices = refl; bytes = refl; rest = refl; text = refl }

  -- ---- accesses that stay inside are allowed
  sections_next : (a : ℕ) → a % 2 ≡ 0 → in_sections a ≡ true → in_sections (a + 1) ≡ true
  sections_next a even h =
      let e1 = sound.own_ok.text_ok.even_end in let e2 = sound.own_ok.ram_ok.even_end in
      ⊎_elim
      (λ x. ap (λ b. b || holds own.ram (a + 1)) (holds_next own.text a sound.own_ok.text_ok.even_end even x))
      (λ x. or_right (holds own.text (a + 1)) (holds own.ram (a + 1)) (holds_next own.ram a sound.own_ok.ram_ok.even_end even x))
      (or_cases (holds own.text a) (holds own.ram a) h)

  in_width : (w : Width) (P : ℕ → Bool) (a : ℕ) → misaligned w a ≡ false → ((x : ℕ) → x % 2 ≡ 0 → P x ≡ true → P (x + 1) ≡ true) → P a ≡ true → InBy w P a
  in_width Byte P a e next h = h
  in_width Word P a e next h = (h, next a (even_of Word a e refl) h)

  inside_read : (k : Kind) (w : Width) (a : ℕ) → is_read k ≡ true → is_inside j (record { kind = k; addr = a; width = w }) ≡ true → InBy w in_sections a
  inside_read Read w a f h =
      let h' = subst (λ (o : Module). (not (misaligned w a) && (holds o.text a || holds o.ram a)) ≡ true) owner h in
      in_width w in_sections a (not-true (misaligned w a) (and_parts (not (misaligned w a)) (in_sections a) h').0) sections_next (and_parts (not (misaligned w a)) (in_sections a) h').1
  inside_read _ w a f h = cc

  inside_write : (k : Kind) (w : Width) (a : ℕ) → is_write k ≡ true → is_inside j (record { kind = k; addr = a; width = w }) ≡ true → InBy w (λ x. holds own.ram x) a
  inside_write Write w a f h =
      let h' = subst (λ (o : Module). (not (misaligned w a) && holds o.ram a) ≡ true) owner h in
      in_width w (λ x. holds own.ram x) a (not-true (misaligned w a) (and_parts (not (misaligned w a)) (holds own.ram a) h').0) (λ x even g. holds_next own.ram x sound.own_ok.ram_ok.even_end even g) (and_parts (not (misaligned w a)) (holds own.ram a) h').1
  inside_write _ w a f h = cc

  inside_each : (xs : List Access) → all_inside j xs ≡ true → Each (λ x. is_inside j x ≡ true) xs
  inside_each [] h = tt
  inside_each (x ∷ xs) h = let p = and_parts (is_inside j x) (all_inside j xs) h in (p.0, inside_each xs p.1)

  all_reads : (xs : List Access) → all_inside j xs ≡ true → Each (λ x. InBy x.width in_sections x.addr) (reads_of xs)
  all_reads xs h = each_read (λ x. InBy x.width in_sections x.addr) (λ x. is_inside j x ≡ true) (λ x. inside_read x.kind x.width x.addr) xs (inside_each xs h)

  all_writes : (xs : List Access) → all_inside j xs ≡ true → Each (λ x. InBy x.width (λ a. holds own.ram a) x.addr) (writes_of xs)
  all_writes xs h = each_write (λ x. InBy x.width (λ a. holds own.ram a) x.addr) (λ x. is_inside j x ≡ true) (λ x. inside_write x.kind x.width x.addr) xs (inside_each xs h)

  module _ (held : List ℕ) where
    -- the module may read its sections and write its data
    may_read : (a : ℕ) → in_sections a ≡ true → right_at (place_of t a) (Some m) held Read a ≡ None
    may_read a h =
        ⊎_elim
        (λ x. ⊎_elim (λ p. rw p refl) (λ p. rw p refl) (sound.in_text a x))
        (λ x. subst (λ p. right_at p (Some m) held Read a ≡ None) (sym (sound.in_data a x)) (ap (λ b. refuse_if (not b) Rule.ReadData a m) (own_id m)))
        (or_cases (holds own.text a) (holds own.ram a) h)

    may_write : (a : ℕ) → holds own.ram a ≡ true → right_at (place_of t a) (Some m) held Write a ≡ None
    may_write a x = subst (λ p. right_at p (Some m) held Write a ≡ None) (sym (sound.in_data a x)) (ap (λ b. refuse_if (not b) Rule.WriteData a m) (own_id m))

    allowed_by : (k : Kind) (w : Width) (a : ℕ) → is_inside j (record { kind = k; addr = a; width = w }) ≡ true → right t (Some m) held (record { kind = k; addr = a; width = w }) ≡ None
    unfolding right
    allowed_by Read w a h =
        let h' = subst (λ (o : Module). (not (misaligned w a) && (holds o.text a || holds o.ram a)) ≡ true) owner h in
        let e = not-true (misaligned w a) (and_parts (not (misaligned w a)) (in_sections a) h').0 in
        ap (λ b. option_or (refuse_if b Misaligned a 0) (right_at (place_of t a) (Some m) held Read a)) e ∙ may_read a (and_parts (not (misaligned w a)) (in_sections a) h').1
    allowed_by Write w a h =
        let h' = subst (λ (o : Module). (not (misaligned w a) && holds o.ram a) ≡ true) owner h in
        let e = not-true (misaligned w a) (and_parts (not (misaligned w a)) (holds own.ram a) h').0 in
        ap (λ b. option_or (refuse_if b Misaligned a 0) (right_at (place_of t a) (Some m) held Write a)) e ∙ may_write a (and_parts (not (misaligned w a)) (holds own.ram a) h').1
    allowed_by Fetch w a h = absurd (let k = (and_parts (not (misaligned w a)) false h).1 in cc)

    all_allowed : (xs : List Access) → all_inside j xs ≡ true → first_in (right t (Some m) held) xs ≡ None
    all_allowed [] h = refl
    all_allowed (x ∷ xs) h =
        ap (λ d. option_or d (first_in (right t (Some m) held) xs)) (allowed_by x.kind x.width x.addr (and_parts (is_inside j x) (all_inside j xs) h).0) ∙ all_allowed xs (and_parts (is_inside j x) (all_inside j xs) h).1

  -- ---- words in the text
  text_even : (a : ℕ) → a % 2 ≡ 0 → holds own.text a ≡ true → InBy Word in_sections a
  text_even a even h =
      let x : in_sections a ≡ true = ap (λ b. b || holds own.ram a) h in (x, sections_next a even x)

  home_here : (a : ℕ) → holds own.text a ≡ true → at_home (Some m) (place_of t a) ≡ true
  home_here a h = ⊎_elim (λ p. rw p (own_id m)) (λ p. rw p (own_id m)) (sound.in_text a h)

  home_by : (b : Bool) (a : ℕ) → (not b || holds own.text a) ≡ true → (not b || (nat_lt a 65536 && at_home (Some m) (place_of t a))) ≡ true
  home_by false a h = refl
  home_by true a h =
      let e = sound.own_ok.text_ok.high in
      let p = ends_of own.text a h in
      let lt : nat_lt a 65536 ≡ true = grind (arith, nat_tests) in
      ap (λ b. b && at_home (Some m) (place_of t a)) lt ∙ home_here a h

  later_by : (mem : List ℕ) → section own.text mem ≡ j.text → (b : Bool) (a : ℕ) → a % 2 ≡ 0 → (not b || holds own.text a) ≡ true → cond b (word_at (λ x. get_or mem x 0) a) 0 ≡ cond b (word_at (lone_byte j (section own.ram mem)) a) 0
  later_by mem text_is false a even h = refl
  later_by mem text_is true a even h = same_word mem text_is a (text_even a even h)

  -- ---- the instruction
  module _ (s : State) (table_is : s.table ≡ t) (active_is : s.active ≡ Some m) (text_is : section own.text s.memory ≡ j.text) (key_is : s.key ≡ j.key) (caller_is : s.caller ≡ j.caller) where
    own_is : (who_of s).own ≡ (lone_who j).own
    own_is = ap (λ a. own_of a s.table) active_is ∙ ap (λ u. module_of m u) table_is ∙ sound.found ∙ ap Some (sym owner)

    made_none : (insn : Insn) → is_alone insn ≡ true →
        cond ((table_after s.table insn s.core).given == s.table.given) [] (Made (table_after s.table insn s.core).given ∷ []) ≡ []
    made_none insn e = rw (table_alone insn s.table s.core e, own_id s.table.given) refl

    pub perform_inside : (insn : Insn) → is_alone insn ≡ true → (xs : List Access) → asks (who_of s) insn s.core ≡ xs → (e : Effect) → effect (who_of s) insn s.core (map (lone_read j (section own.ram s.memory)) (reads_of xs)) ≡ e → Each (λ x. InBy x.width in_sections x.addr) (reads_of xs) → Each (λ x. InBy x.width (λ a. holds own.ram a) x.addr) (writes_of xs) → perform insn s ≡ record { state = record s { core = e.core; memory = (put_writes (port_of s) (writes_of xs) e.stored).memory; phase = Run (e.cycles - 1); after = closing_after e.closing }; events = [] }
    unfolding perform
    perform_inside insn alone xs xs_is e e_is rs ws =
        let r = reads_same (reads_of xs) (port_of s) text_is rs in
        let w = writes_same (writes_of xs) (port_of s) e.stored ws in
        rw (xs_is, r, e_is, w.devices, made_none insn alone, table_alone insn s.table s.core alone) refl

    attempt_inside : (insn : Insn) → (xs : List Access) → asks (who_of s) insn s.core ≡ xs → all_inside j xs ≡ true → attempt insn s ≡ perform insn s
    unfolding attempt
    attempt_inside insn xs xs_is h =
        rw (xs_is, table_is, active_is, all_allowed (held_ids s.frames) xs h) refl

    act_by_alone : (insn : Insn) → is_alone insn ≡ true → act_on (Some insn) s ≡ attempt insn s
    act_by_alone Reti e = cc
    act_by_alone _ e = refl

    -- the module's own next instruction is the machine's
    module _ (even : pc_of s % 2 ≡ 0) (here : holds own.text (pc_of s) ≡ true) (l : Lone) (core_is : l.core ≡ s.core) (bytes_are : l.data_bytes ≡ section own.ram s.memory) where
      home_word_same : (n k : ℕ) → word_in j.owner.text (pc_of s) n k ≡ true → home_word s.table s.active (pc_of s) n k ≡ true
      home_word_same n k h =
          let h' = subst (λ (o : Module). (not (nat_lt k n) || holds o.text (pc_of s + 2 * k)) ≡ true) owner h in
          ap (λ u. home_word u s.active (pc_of s) n k) table_is ∙ ap (λ a. home_word t a (pc_of s) n k) active_is ∙ home_by (nat_lt k n) (pc_of s + 2 * k) h'

      later_same : (n k : ℕ) → word_in j.owner.text (pc_of s) n k ≡ true → later_word (byte_of s) (pc_of s) n k ≡ later_word (lone_byte j (section own.ram s.memory)) (pc_of s) n k
      later_same n k h =
          let h' = subst (λ (o : Module). (not (nat_lt k n) || holds o.text (pc_of s + 2 * k)) ≡ true) owner h in
          later_by s.memory text_is (nat_lt k n) (pc_of s + 2 * k) (omega arith) h'

      first_word_same : word_at (byte_of s) (pc_of s) ≡ word_at (lone_byte j (section own.ram s.memory)) (pc_of s)
      first_word_same = same_word s.memory text_is (pc_of s) (text_even (pc_of s) even here)

      insn_same : (n : ℕ) → word_in j.owner.text (pc_of s) n 1 ≡ true → word_in j.owner.text (pc_of s) n 2 ≡ true → insn_at (byte_of s) (pc_of s) n ≡ insn_at (lone_byte j (section own.ram s.memory)) (pc_of s) n
      insn_same n h1 h2 = rw (first_word_same, later_same n 1 h1, later_same n 2 h2) refl

      did_perform : (insn : Insn) → is_alone insn ≡ true → all_inside j (asks (lone_who j) insn s.core) ≡ true → (u : Step) → u ≡ perform insn s → Moves own s (lone_does j insn (record { core = s.core; data_bytes = section own.ram s.memory; rest = l.rest; closing = l.closing })) u
      unfolding lone_does
      did_perform insn alone h u u_is =
          let xs = asks (lone_who j) insn s.core in
          let xs_is = asks_alone insn (who_of s) (lone_who j) s.core alone own_is in
          let values = map (lone_read j (section own.ram s.memory)) (reads_of xs) in
          let e = effect (lone_who j) insn s.core values in
          let e_is = effect_alone insn (who_of s) (lone_who j) s.core values alone own_is caller_is key_is in
          let q = put_writes (port_of s) (writes_of xs) e.stored in
          let w = writes_same (writes_of xs) (port_of s) e.stored (all_writes xs h) in
          record {
            memory = q.memory;
            is = u_is ∙ perform_inside insn alone xs xs_is e e_is (all_reads xs h) (all_writes xs h);
            bytes = w.bytes ∙ ap (λ o. lone_writes o (section own.ram s.memory) (writes_of xs) e.stored) (sym owner);
            rest = w.rest;
            text = w.text;
          }

      did_first : (o : Option Insn) (insn : Insn) → insn_from o (lone_byte j (section own.ram s.memory)) j.owner.text (pc_of s) ≡ Some insn → is_alone insn ≡ true → all_inside j (asks (lone_who j) insn s.core) ≡ true →
          Moves own s (lone_does j insn l) (act_first o s)
      did_first None insn e alone inside = absurd cc
      did_first (Some first) insn e alone inside =
          let n = length_of first in
          let same_l : l ≡ record { core = s.core; data_bytes = section own.ram s.memory; rest = l.rest; closing = l.closing } =
          ap (λ c. let v : Lone = record l { core = c } in v) core_is ∙ ap (λ d. let v : Lone = record l { core = s.core; data_bytes = d } in v) bytes_are in
          let p = home_some (word_in j.owner.text (pc_of s) n 1 && word_in j.owner.text (pc_of s) n 2) (insn_at (lone_byte j (section own.ram s.memory)) (pc_of s) n) insn e in
          let t1 = (and_parts (word_in j.owner.text (pc_of s) n 1) (word_in j.owner.text (pc_of s) n 2) p.0).0 in
          let t2 = (and_parts (word_in j.owner.text (pc_of s) n 1) (word_in j.owner.text (pc_of s) n 2) p.0).1 in
          let home : is_home s.table s.active (pc_of s) n ≡ true =
          ap (λ b. b && home_word s.table s.active (pc_of s) n 2) (home_word_same n 1 t1) ∙ home_word_same n 2 t2 in
          let to : act_first (Some first) s ≡ perform insn s =
          ap (λ b. act_home b n s) home
          ∙ ap (λ o. act_on o s) (insn_same n t1 t2 ∙ p.1)
          ∙ act_by_alone insn alone
          ∙ attempt_inside insn (asks (lone_who j) insn s.core) (asks_alone insn (who_of s) (lone_who j) s.core alone own_is) inside in
          subst (λ v. Moves own s (lone_does j insn v) (act_first (Some first) s)) (sym same_l) (did_perform insn alone inside (act_first (Some first) s) to)

      pub did_act : (insn : Insn) → next_insn j l ≡ Some insn → Moves own s (lone_does j insn l) (act s)
      unfolding act next_insn
      did_act insn e =
          let q = may_some j l (insn_in (lone_byte j l.data_bytes) j.owner.text (reg l.core 0)) insn e in
          let inside = subst (λ c. all_inside j (asks (lone_who j) insn c) ≡ true) core_is q.2 in
          let e' = subst (λ c. insn_in (lone_byte j l.data_bytes) j.owner.text (reg c 0) ≡ Some insn) core_is q.0 in
          let e'' = subst (λ d. insn_in (lone_byte j d) j.owner.text (pc_of s) ≡ Some insn) bytes_are e' in
          subst (λ w. Moves own s (lone_does j insn l) (act_first (insn_of w 0 0) s)) (sym first_word_same)
          (did_first (insn_of (word_at (lone_byte j (section own.ram s.memory)) (pc_of s)) 0 0) insn e'' q.1 inside)
