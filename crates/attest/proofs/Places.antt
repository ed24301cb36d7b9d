-- Which accesses are refused to no one: reads of a text, and writes to the data of a module that a table takes.
use Rattle.std.proofs.Common.{◌≡◌, ◌⊎◌, ⊎_elim, ℕ, zero, suc, ◌+◌, ◌<◌, ◌≤◌, List, [], ◌∷◌, ◌++◌, Bool, true, false, nat_le, ◌&&◌, ◌||◌, ◌==◌, Option, Some, None, refl, sym, ◌∙◌, ap, subst, arith}
use Rattle.std.proofs.lemmas.Bool.Decides.{nat_tests}
use Rattle.std.proofs.lemmas.Option.{none-some}
use Rattle.std.specs.Option.{option_or}
use Rattle.sm_words.specs.declared.width.Width.TheVariants.{Byte}
use Rattle.mod_layout.specs.declared.Section.{Section}
use Rattle.mod_layout.specs.declared.Module.{Module}
use Rattle.mod_layout.specs.declared.TheConstants.{DEVICES_END}
use Rattle.mod_layout.specs.declared.Place.{Place}
use Rattle.mod_layout.specs.declared.Place.TheVariants.{Open, Entry, Text, Data}
use Rattle.mod_layout.specs.Table.{Table, holds, share_byte, size_of, place_in, place_of, module_of, with_module}
use Rattle.mod_layout.specs.Tables.{IsModule, Separate, AreModules, IsTable}
use Rattle.mod_layout.proofs.Found.{outside, no_entry, within, elsewhere, found_first, separate_found, SeparateFrom, place_by, find_module}
pub use Rattle.mod_layout.proofs.Found.{and_true, module_found}
use Rattle.pc_access.specs.declared.Kind.{Kind}
use Rattle.pc_access.specs.declared.Kind.TheVariants.{Read, Write}
use Rattle.mod_layout.specs.First.{first_in}
use Rattle.pc_access.specs.Rights.{right, right_at, access_of}
use Rattle.attest.specs.Units.{each_byte, in_range, text_at, text_reads}
use Rattle.attest.specs.Done.{own_of}

-- where each access is allowed none is refused
pub all_allowed : (t : Table) (active : Option ℕ) (held : List ℕ) (kind : Kind) (a n : ℕ) →
    ((k : ℕ) → a ≤ k → k < a + n → right t active held (access_of kind k Byte) ≡ None) → first_in (right t active held) (each_byte kind a n) ≡ None
all_allowed t active held kind a zero free = refl
all_allowed t active held kind a (suc n) free =
    let here : a < a + suc n = omega arith in
    let rest : first_in (right t active held) (each_byte kind (a + 1) n) ≡ None =
    all_allowed t active held kind (a + 1) n (λ k low high. free k (omega arith) (omega arith)) in
    ap (λ d. option_or d (first_in (right t active held) (each_byte kind (a + 1) n))) (free a (omega arith) here) ∙ rest

-- ---- reads of a text

-- anything may be read there but by its rights: it is no data
abbrev NoData : Place → Type 0
NoData Open = Unit {0}
NoData (Entry id) = Unit {0}
NoData (Text id) = Unit {0}
NoData (Data id) = ⊥

in_text : (e r : Bool) (id : ℕ) (rest : Place) → NoData (place_by e true r id rest)
in_text true r id rest = tt
in_text false r id rest = tt

past_ram : (e t : Bool) (id : ℕ) (rest : Place) → NoData rest → NoData (place_by e t false id rest)
past_ram false false id rest h = h
past_ram _ _ id rest h = tt

read_freely : (p : Place) (active : Option ℕ) (held : List ℕ) (a : ℕ) → NoData p → right_at p active held Read a ≡ None
read_freely (Data id) active held a h = absurd h
read_freely _ active held a h = refl

text_is_no_data : (given id a : ℕ) (m : Module) (ms : List Module) → AreModules given ms → find_module id ms ≡ Some m →
    m.text.start ≤ a → a < m.text.end → NoData (place_in ms a)
text_is_no_data given id a m [] are e low high = tt
text_is_no_data given id a m (y ∷ ms) are e low high =
    let entry = (a == y.text.start) || (a == y.text.start + 1) in
    let rest = place_in ms a in
    ⊎_elim
    (λ k.
    let here : holds y.text a ≡ true = ap (λ (x : Module). holds x.text a) k ∙ within m.text a low high in
    subst (λ (b : Bool). NoData (place_by entry b (holds y.ram a) y.id rest)) (sym here) (in_text entry (holds y.ram a) y.id rest))
    (λ k.
    let apart : share_byte y.ram m.text ≡ false = (separate_found y m id ms are.1 k).ram_text in
    let out : holds y.ram a ≡ false = outside y.ram a (elsewhere y.ram m.text a low high apart) in
    subst (λ (b : Bool). NoData (place_by entry (holds y.text a) b y.id rest)) (sym out)
    (past_ram entry (holds y.text a) y.id rest (text_is_no_data given id a m ms are.2 k low high)))
    (found_first y m (find_module id ms) (y.id == id) e)

-- a text may be read by anyone
pub text_allowed : (t : Table) (active : Option ℕ) (held : List ℕ) (id : ℕ) (m : Module) → IsTable t → module_of id t ≡ Some m →
    first_in (right t active held) (text_reads m) ≡ None
unfolding right place_of
text_allowed t active held id m ok found =
    let order : m.text.start < m.text.end = (module_found t.given id m t.modules ok.modules found).text_ok.order in
    all_allowed t active held Read m.text.start (size_of m.text)
    (λ k low high. read_freely (place_of t k) active held k (text_is_no_data t.given id k m t.modules ok.modules found low (omega arith)))

-- ---- the data of a module that a table takes

separate_end : (x new : Module) (ms : List Module) → SeparateFrom x (ms ++ new ∷ []) → Separate x new
separate_end x new [] s = s.0
separate_end x new (y ∷ ms) s = separate_end x new ms s.1

open_ram : (given a : ℕ) (new : Module) (ms : List Module) → AreModules given (ms ++ new ∷ []) → new.ram.start ≤ a → a < new.ram.end →
    place_in ms a ≡ Open
open_ram given a new [] are low high = refl
open_ram given a new (y ∷ ms) are low high =
    let s = separate_end y new ms are.1 in
    let rest = place_in ms a in
    let past_text = elsewhere y.text new.ram a low high s.text_ram in
    let past_data = elsewhere y.ram new.ram a low high s.rams in
    rw (no_entry y.text a are.0.text_ok (outside y.text a past_text), outside y.text a past_text, outside y.ram a past_data) (open_ram given a new ms are.2 low high)

last_ok : (given : ℕ) (new : Module) (ms : List Module) → AreModules given (ms ++ new ∷ []) → IsModule given new
last_ok given new [] are = are.0
last_ok given new (y ∷ ms) are = last_ok given new ms are.2

-- its data may be written by anyone before it is taken
pub ram_allowed : (t : Table) (active : Option ℕ) (held : List ℕ) (vendor : ℕ) (text ram : Section) → IsTable (with_module t vendor text ram) →
    first_in (right t active held) (each_byte Write ram.start (size_of ram)) ≡ None
unfolding right place_of
ram_allowed t active held vendor text ram ok =
    let new : Module = record { id = t.given + 1; vendor = vendor; text = text; ram = ram } in
    let order : ram.start < ram.end = (last_ok (t.given + 1) new t.modules ok.modules).ram_ok.order in
    all_allowed t active held Write ram.start (size_of ram)
    (λ k low high. ap (λ p. right_at p active held Write k) (open_ram (t.given + 1) k new t.modules ok.modules low (omega arith)))

-- ---- the running module, and the one that attest is asked about

pub own_text_allowed : (t : Table) (active active' : Option ℕ) (held : List ℕ) (m : Module) → IsTable t → own_of active' t ≡ Some m →
    first_in (right t active held) (text_reads m) ≡ None
own_text_allowed t active None held m ok e = absurd (none-some m e)
own_text_allowed t active (Some id) held m ok e = text_allowed t active held id m ok e

pub other_text_allowed : (t : Table) (active : Option ℕ) (place : Place) (held : List ℕ) (m : Module) → IsTable t → text_at t place ≡ Some m →
    first_in (right t active held) (text_reads m) ≡ None
other_text_allowed t active (Entry id) held m ok e = text_allowed t active held id m ok e
other_text_allowed t active (Text id) held m ok e = text_allowed t active held id m ok e
other_text_allowed t active _ held m ok e = absurd (none-some m e)

-- ---- ranges

pub record InRange (a b : ℕ) : Type 0 where
  pub low : DEVICES_END ≤ a
  pub high : b ≤ 65536
  pub order : a ≤ b

pub range_of : (a b : ℕ) → in_range a b ≡ true → InRange a b
range_of a b e =
    let p = and_true (nat_le DEVICES_END a && nat_le b 0x10000) (nat_le a b) e in
    let q = and_true (nat_le DEVICES_END a) (nat_le b 0x10000) p.0 in
    let q0 = q.0 in let q1 = q.1 in let p1 = p.1 in
    record { low = grind (arith, nat_tests); high = grind (arith, nat_tests); order = grind (arith, nat_tests) }
