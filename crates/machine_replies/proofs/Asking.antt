-- The addresses that an instruction asks for are words, and so is what a refusal tells.
use Rattle.std.proofs.Common.{◌≡◌, ℕ, zero, suc, ◌+◌, ◌*◌, ◌-◌, ◌≤◌, List, [], ◌∷◌, ◌++◌, refl, arith, Bool, true, false, cond, nat_le, ◌&&◌, Option, Some, None}
use Rattle.std.proofs.lemmas.Bool.Decides.{nat_tests}
use Rattle.std.specs.Option.{option_or}
use Rattle.sm_words.specs.Words.{reg, add16, IsCore}
use Rattle.sm_words.specs.declared.width.Width.{Width}
use Rattle.insn_decode.specs.Code.{insn_of, words_of}
use Rattle.insn_decode.specs.Means.{Means, Source, Destination}
use Rattle.insn_decode.specs.declared.insn.Insn.{Insn}
use Rattle.insn_decode.specs.declared.insn.Insn.TheVariants.{Two, One, Jump, Reti, Unit as UnitOp}
use Rattle.insn_decode.specs.declared.insn.OneOp.{OneOp}
use Rattle.insn_decode.specs.declared.insn.OneOp.TheVariants.{Push, Call}
use Rattle.insn_decode.specs.declared.insn.Operand.{Operand}
use Rattle.insn_decode.specs.declared.insn.Operand.TheVariants.{Indexed, Symbolic, Absolute, Indirect, Increment}
use Rattle.insn_decode.proofs.Table.{insn_means}
use Rattle.sm_words.proofs.Cores.{put_core}
use Rattle.mod_layout.specs.Table.{Table, own_of, place_in, place_of, module_of, is_entry, holds, size_of, takes}
use Rattle.mod_layout.specs.Tables.{AreModules, IsModule, IsTable}
use Rattle.mod_layout.specs.declared.Module.{Module}
use Rattle.mod_layout.specs.declared.Place.{Place}
use Rattle.mod_layout.specs.declared.Place.TheVariants.{Open, Entry, Text, Data}
use Rattle.mod_layout.proofs.Found.{module_found, and_true, place_by}
use Rattle.mod_layout.proofs.TableLemmas.{taken}
use Rattle.mod_layout.specs.First.{first_in}
use Rattle.pc_access.specs.Rights.{right, right_at, refuse_if, misaligned}
use Rattle.pc_access.specs.declared.Rule.TheVariants.{Misaligned}
use Rattle.pc_access.specs.declared.Access.{Access}
use Rattle.pc_access.specs.declared.Denied.{Denied}
use Rattle.pc_access.specs.declared.Kind.{Kind}
use Rattle.pc_access.specs.declared.Kind.TheVariants.{Fetch, Read, Write}
use Rattle.pc_access.specs.declared.Rule.{Rule}
use Rattle.attest.specs.Units.{Doer, UnitName, Protect, Attest, Tag, unit_plan, each_byte, text_reads, attest_plan, tag_plan, in_range, text_at, attested, new_text, new_ram}
use Rattle.cpu_step.specs.Asked.{asks}
use Rattle.cpu_step.specs.Plan.{plan, place, past, stepped, lowered, access_if, one_writes, reads_dst, writes_dst}
use Rattle.tracer.specs.Laws.{IsWord}
use Rattle.run_laws.proofs.Each.{Each}
use Rattle.run_laws.proofs.Fine.{TableFine}

-- ---- what a refusal tells

-- the module of a place, if it is of one, has a word as its id
abbrev pub IsWordPlace : Place → Type 0
IsWordPlace Open = Unit {0}
IsWordPlace (Entry id) = IsWord id
IsWordPlace (Text id) = IsWord id
IsWordPlace (Data id) = IsWord id

place_by_word : (entry text ram : Bool) (id : ℕ) (rest : Place) → IsWord id → IsWordPlace rest → IsWordPlace (place_by entry text ram id rest)
place_by_word false false false id rest h g = g
place_by_word _ _ _ id rest h g = h

place_in_word : (given : ℕ) (ms : List Module) (a : ℕ) → AreModules given ms → IsWord given → IsWordPlace (place_in ms a)
place_in_word given [] a are h = tt
place_in_word given (m ∷ ms) a are h =
    place_by_word (is_entry m.text a) (holds m.text a) (holds m.ram a) m.id (place_in ms a) (let k = are.0.known in omega arith) (place_in_word given ms a are.2 h)

pub place_word : (t : Table) (a : ℕ) → TableFine t → IsWordPlace (place_of t a)
unfolding place_of
place_word t a f = place_in_word t.given t.modules a f.0.modules f.1

-- the address and the module of a refusal are words
abbrev pub IsWordDenied : Option Denied → Type 0
IsWordDenied None = Unit {0}
IsWordDenied (Some d) = IsWord d.addr × IsWord d.«module»

refuse_word : (b : Bool) (rule : Rule) (addr id : ℕ) → IsWord addr → IsWord id → IsWordDenied (refuse_if b rule addr id)
refuse_word true rule addr id h g = (h, g)
refuse_word false rule addr id h g = tt

right_at_word : (p : Place) (active : Option ℕ) (held : List ℕ) (kind : Kind) (a : ℕ) → IsWordPlace p → IsWord a → IsWordDenied (right_at p active held kind a)
right_at_word (Entry id) active held Fetch a h g = refuse_word _ _ a id g h
right_at_word (Text id) active held Fetch a h g = refuse_word _ _ a id g h
right_at_word (Data id) active held Fetch a h g = (g, h)
right_at_word Open active held Fetch a h g = refuse_word _ _ a 0 g (omega arith)
right_at_word (Data id) active held Read a h g = refuse_word _ _ a id g h
right_at_word (Data id) active held Write a h g = refuse_word _ _ a id g h
right_at_word (Entry id) active held Write a h g = (g, h)
right_at_word (Text id) active held Write a h g = (g, h)
right_at_word _ active held _ a h g = tt

aligned_word : (b : Bool) (a : ℕ) (rest : Option Denied) → IsWord a → IsWordDenied rest → IsWordDenied (option_or (refuse_if b Misaligned a 0) rest)
aligned_word true a rest g h = (g, omega arith)
aligned_word false a rest g h = h

kind_word : (t : Table) (active : Option ℕ) (held : List ℕ) (k : Kind) (w : Width) (a : ℕ) → TableFine t → IsWord a → IsWordDenied (right t active held (record { kind = k; addr = a; width = w }))
unfolding right
kind_word t active held Fetch w a f g = right_at_word (place_of t a) active held Fetch a (place_word t a f) g
kind_word t active held Read w a f g = aligned_word (misaligned w a) a _ g (right_at_word (place_of t a) active held Read a (place_word t a f) g)
kind_word t active held Write w a f g = aligned_word (misaligned w a) a _ g (right_at_word (place_of t a) active held Write a (place_word t a f) g)

pub right_word : (t : Table) (active : Option ℕ) (held : List ℕ) (x : Access) → TableFine t → IsWord x.addr → IsWordDenied (right t active held x)
right_word t active held x f g = kind_word t active held x.kind x.width x.addr f g

or_word : (p q : Option Denied) → IsWordDenied p → IsWordDenied q → IsWordDenied (option_or p q)
or_word (Some d) q h g = h
or_word None q h g = g

-- an access at a word
abbrev pub AtWord : Access → Type 0
AtWord x = IsWord x.addr

pub denied_word : (t : Table) (active : Option ℕ) (held : List ℕ) (xs : List Access) → TableFine t → Each AtWord xs → IsWordDenied (first_in (right t active held) xs)
denied_word t active held [] f h = tt
denied_word t active held (x ∷ xs) f h = or_word (right t active held x) (first_in (right t active held) xs) (right_word t active held x f h.0) (denied_word t active held xs f h.1)

-- ---- what an instruction asks for

-- an operand whose address stands in it has a word there
abbrev pub IsWordOperand : Operand → Type 0
IsWordOperand (Absolute x) = IsWord x
IsWordOperand _ = Unit {0}

abbrev pub IsWordInsn : Insn → Type 0
IsWordInsn (Two op w s d) = IsWordOperand s × IsWordOperand d
IsWordInsn (One op w a) = IsWordOperand a
IsWordInsn _ = Unit {0}

source_word : {mode r x : ℕ} {o : Operand} → Source mode r x o → IsWord x → IsWordOperand o
source_word (Source.absolute x) h = h
source_word _ h = tt

destination_word : {mode r x : ℕ} {o : Operand} → Destination mode r x o → IsWord x → IsWordOperand o
destination_word (Destination.to_absolute x) h = h
destination_word _ h = tt

either_word : (b : Bool) (x y : ℕ) → IsWord x → IsWord y → IsWord (cond b x y)
either_word true x y h g = h
either_word false x y h g = g

means_word : {w0 w1 w2 n : ℕ} {insn : Insn} → Means w0 w1 w2 insn n → IsWord w1 → IsWord w2 → IsWordInsn insn
means_word (Means.format_one op s d e source destination) h g = (source_word source h, destination_word destination (either_word _ _ _ g h))
means_word (Means.format_two op a e f source fits) h g = source_word source h
means_word (Means.jump condition e code) h g = tt
means_word _ h g = tt

pub insn_word : (w0 w1 w2 : ℕ) (insn : Insn) → insn_of w0 w1 w2 ≡ Some insn → IsWord w1 → IsWord w2 → IsWordInsn insn
insn_word w0 w1 w2 insn e h g = means_word (insn_means w0 w1 w2 insn e) h g

-- an address that an operand may have is a word
abbrev AtMaybe : Option ℕ → Type 0
AtMaybe None = Unit {0}
AtMaybe (Some a) = IsWord a

place_of_word : (o : Operand) (core : List ℕ) (ext : ℕ) → IsCore core → IsWordOperand o → AtMaybe (place o core ext)
place_of_word (Indexed r x) core ext c h = omega arith
place_of_word (Symbolic x) core ext c h = omega arith
place_of_word (Absolute x) core ext c h = h
place_of_word (Indirect r) core ext c h = c.words r
place_of_word (Increment r) core ext c h = c.words r
place_of_word _ core ext c h = tt

access_word : (b : Bool) (k : Kind) (w : Width) (a : Option ℕ) → AtMaybe a → Each AtWord (access_if b k w a)
access_word true k w (Some a) h = (h, tt)
access_word true k w None h = tt
access_word false k w a h = tt

both_words : (xs ys : List Access) → Each AtWord xs → Each AtWord ys → Each AtWord (xs ++ ys)
both_words [] ys h g = g
both_words (x ∷ xs) ys h g = (h.0, both_words xs ys h.1 g)

one_writes_word : (op : OneOp) (w : Width) (a : Option ℕ) (sp : ℕ) → AtMaybe a → IsWord sp → Each AtWord (one_writes op w a sp)
one_writes_word Push w a sp h g = (g, tt)
one_writes_word Call w a sp h g = (g, tt)
one_writes_word _ w a sp h g = access_word true Write w a h

stepped_core : (w : Width) (o : Operand) (core : List ℕ) → IsCore core → IsCore (stepped w o core)
stepped_core w (Increment r) core c = put_core core r _ c
stepped_core w _ core c = c

past_core : (insn : Insn) (core : List ℕ) → IsCore core → IsCore (past insn core)
past_core insn core c = put_core core 0 _ c

lowered_core : (core : List ℕ) → IsCore core → IsCore (lowered core)
lowered_core core c = put_core core 1 _ c

plan_word : (insn : Insn) (core : List ℕ) → IsCore core → IsWordInsn insn → Each AtWord (plan insn core)
unfolding plan
plan_word (Two op w s d) core c h =
    let core1 = past (Two op w s d) core in
    let ext = add16 (reg core 0) 2 in
    let a = place_of_word s core1 ext (past_core (Two op w s d) core c) h.0 in
    let b = place_of_word d (stepped w s core1) (add16 ext (2 * words_of s)) (stepped_core w s core1 (past_core (Two op w s d) core c)) h.1 in
    let second = place d (stepped w s core1) (add16 ext (2 * words_of s)) in
    both_words (access_if true Read w (place s core1 ext) ++ access_if (reads_dst op) Read w second) (access_if (writes_dst op) Write w second)
    (both_words (access_if true Read w (place s core1 ext)) (access_if (reads_dst op) Read w second) (access_word true Read w _ a) (access_word (reads_dst op) Read w second b))
    (access_word (writes_dst op) Write w second b)
plan_word (One op w arg) core c h =
    let core1 = past (One op w arg) core in
    let ext = add16 (reg core 0) 2 in
    let a = place_of_word arg core1 ext (past_core (One op w arg) core c) h in
    let low = lowered_core (stepped w arg core1) (stepped_core w arg core1 (past_core (One op w arg) core c)) in
    both_words (access_if true Read w (place arg core1 ext)) _ (access_word true Read w _ a) (one_writes_word op w _ _ a (low.words 1))
plan_word Reti core c h = (c.words 1, (omega arith, tt))
plan_word (Jump k o) core c h = tt
plan_word (UnitOp n) core c h = tt

-- ---- what a unit instruction asks for

each_word : (k : Kind) (a n : ℕ) → a + n ≤ 65536 → Each AtWord (each_byte k a n)
each_word k a zero h = tt
each_word k a (suc n) h = (omega arith, each_word k (a + 1) n (omega arith))

-- a module, if there is one
abbrev pub IsMaybeModule : ℕ → Option Module → Type 0
IsMaybeModule given None = Unit {0}
IsMaybeModule given (Some m) = IsModule given m

text_word : (given : ℕ) (m : Module) → IsModule given m → Each AtWord (text_reads m)
text_word given m is = each_word Read m.text.start (size_of m.text) (let a = is.text_ok.order in let b = is.text_ok.high in omega arith)

found_module : (t : Table) (id : ℕ) (o : Option Module) → IsTable t → module_of id t ≡ o → IsMaybeModule t.given o
found_module t id None ok e = tt
found_module t id (Some m) ok e = module_found t.given id m t.modules ok.modules e

pub own_module : (t : Table) (active : Option ℕ) → IsTable t → IsMaybeModule t.given (own_of active t)
own_module t None ok = tt
own_module t (Some id) ok = found_module t id (module_of id t) ok refl

text_at_module : (t : Table) (p : Place) → IsTable t → IsMaybeModule t.given (text_at t p)
text_at_module t (Text id) ok = found_module t id (module_of id t) ok refl
text_at_module t (Entry id) ok = found_module t id (module_of id t) ok refl
text_at_module t Open ok = tt
text_at_module t (Data id) ok = tt

range_end : (a b : ℕ) → in_range a b ≡ true → (a ≤ b) × (b ≤ 65536)
range_end a b e =
    let p = and_true (nat_le 512 a && nat_le b 65536) (nat_le a b) e in
    let q = and_true (nat_le 512 a) (nat_le b 65536) p.0 in
    let r = q.1 in let s = p.1 in
    (grind (arith, nat_tests), grind (arith, nat_tests))

attest_by : (b : Bool) (given : ℕ) (own other : Module) (a : ℕ) → in_range a (a + 16) ≡ b → IsModule given own → IsModule given other
    → Each AtWord (cond b (each_byte Read a 16 ++ text_reads other ++ text_reads own) [])
attest_by true given own other a e h g =
    both_words (each_byte Read a 16) _ (each_word Read a 16 (range_end a (a + 16) e).1) (both_words (text_reads other) _ (text_word given other g) (text_word given own h))
attest_by false given own other a e h g = tt

attest_word : (given : ℕ) (own other : Option Module) (a : ℕ) → IsMaybeModule given own → IsMaybeModule given other → Each AtWord (attest_plan own other a)
attest_word given (Some own) (Some other) a h g = attest_by (in_range a (a + 16)) given own other a refl h g
attest_word given (Some own) None a h g = tt
attest_word given None other a h g = tt

tag_by : (c : Bool) (given : ℕ) (own : Module) (a b out : ℕ) → (in_range a b && in_range out (out + 16)) ≡ c → IsModule given own
    → Each AtWord (cond c (each_byte Read a (b - a) ++ each_byte Write out 16 ++ text_reads own) [])
tag_by true given own a b out e h =
    let p = and_true (in_range a b) (in_range out (out + 16)) e in
    let r = range_end a b p.0 in
    let le = r.0 in let high = r.1 in
    both_words (each_byte Read a (b - a) ++ each_byte Write out 16) (text_reads own)
    (both_words (each_byte Read a (b - a)) (each_byte Write out 16) (each_word Read a (b - a) (omega arith)) (each_word Write out 16 (range_end out (out + 16) p.1).1))
    (text_word given own h)
tag_by false given own a b out e h = tt

tag_word : (given : ℕ) (own : Option Module) (a b out : ℕ) → IsMaybeModule given own → Each AtWord (tag_plan own a b out)
tag_word given (Some own) a b out h = tag_by (in_range a b && in_range out (out + 16)) given own a b out refl h
tag_word given None a b out h = tt

protect_by : (c : Bool) (t : Table) (core : List ℕ) → takes t (new_text core) (new_ram core) ≡ c → Each AtWord (cond c (each_byte Write (reg core 14) (size_of (new_ram core))) [])
protect_by true t core e =
    let ok = (taken t (new_text core) (new_ram core) e).ram_ok in
    let a = ok.order in let b = ok.high in
    each_word Write (reg core 14) (size_of (new_ram core)) (omega arith)
protect_by false t core e = tt

unit_word : (x : UnitName) (who : Doer) (core : List ℕ) → IsTable who.table → IsMaybeModule who.table.given who.own → Each AtWord (unit_plan who x core)
unfolding unit_plan
unit_word Protect who core ok own = protect_by (takes who.table (new_text core) (new_ram core)) who.table core refl
unit_word Attest who core ok own = attest_word who.table.given who.own (attested who core) (reg core 13) own (text_at_module who.table (place_of who.table (reg core 12)) ok)
unit_word Tag who core ok own = tag_word who.table.given who.own (reg core 12) (reg core 13) (reg core 14) own
unit_word _ who core ok own = tt

pub asks_word : (who : Doer) (insn : Insn) (core : List ℕ) → IsCore core → IsTable who.table → IsMaybeModule who.table.given who.own → IsWordInsn insn → Each AtWord (asks who insn core)
unfolding asks
asks_word who (UnitOp n) core c ok own h = unit_word n who core ok own
asks_word who (Two op w s d) core c ok own h = plan_word (Two op w s d) core c h
asks_word who (One op w a) core c ok own h = plan_word (One op w a) core c h
asks_word who (Jump k o) core c ok own h = plan_word (Jump k o) core c h
asks_word who Reti core c ok own h = plan_word Reti core c h
