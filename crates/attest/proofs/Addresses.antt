-- Every access of a unit instruction is to a byte of the memory, past the devices.
use Rattle.std.proofs.Common.{◌≡◌, ◌≢◌, ℕ, zero, suc, ◌+◌, ◌-◌, ◌<◌, ◌≤◌, List, [], ◌∷◌, ◌++◌, Bool, true, false, if◌then◌else◌, ◌&&◌, Option, Some, None, refl, arith}
use Rattle.sm_words.specs.Words.{reg}
use Rattle.sm_words.specs.declared.width.Width.TheVariants.{Byte}
use Rattle.mod_layout.specs.declared.Module.{Module}
use Rattle.mod_layout.specs.declared.TheConstants.{DEVICES_END}
use Rattle.mod_layout.specs.declared.Place.{Place}
use Rattle.mod_layout.specs.declared.Place.TheVariants.{Entry, Text}
use Rattle.mod_layout.specs.Table.{place_of, size_of, takes}
use Rattle.mod_layout.specs.Tables.{IsSection, IsTable}
use Rattle.mod_layout.proofs.TableLemmas.{taken}
use Rattle.pc_access.specs.declared.Kind.{Kind}
use Rattle.pc_access.specs.declared.Kind.TheVariants.{Fetch, Read, Write}
use Rattle.pc_access.specs.declared.Access.{Access}
use Rattle.attest.specs.Units.{UnitName, Protect, Attest, Tag, Doer, attest_plan, attested, each_byte, in_range, new_ram, new_text, tag_plan, text_at, text_reads, unit_plan}
use Rattle.attest.proofs.Places.{and_true, module_found, range_of}

pub record IsMemoryByte (x : Access) : Type 0 where
  pub plain : x.kind ≢ Fetch
  pub byte : x.width ≡ Byte
  pub low : DEVICES_END ≤ x.addr
  pub high : x.addr < 65536

abbrev pub AreMemoryBytes : List Access → Type 0
AreMemoryBytes [] = Unit {0}
AreMemoryBytes (x ∷ xs) = IsMemoryByte x × AreMemoryBytes xs

both : (xs ys : List Access) → AreMemoryBytes xs → AreMemoryBytes ys → AreMemoryBytes (xs ++ ys)
both [] ys h k = k
both (x ∷ xs) ys h k = (h.0, both xs ys h.1 k)

in_row : (kind : Kind) (a n : ℕ) → kind ≢ Fetch → DEVICES_END ≤ a → a + n ≤ 65536 → AreMemoryBytes (each_byte kind a n)
in_row kind a zero plain low high = tt
in_row kind a (suc n) plain low high =
    (record { plain = plain; byte = refl; low = low; high = omega arith }, in_row kind (a + 1) n plain (omega arith) (omega arith))

pub no_read : Read ≢ Fetch
no_read e = cc

pub no_write : Write ≢ Fetch
no_write e = cc

in_text : (m : Module) → IsSection m.text → AreMemoryBytes (text_reads m)
in_text m ok = let o = ok.order in let h = ok.high in in_row Read m.text.start (size_of m.text) no_read ok.low (omega arith)

if_so : (b c : Bool) (xs : List Access) → c ≡ b → (c ≡ true → AreMemoryBytes xs) → AreMemoryBytes (if b then xs else [])
if_so true c xs e h = h e
if_so false c xs e h = tt

module _ (who : Doer) (core : List ℕ) (ok : IsTable who.table) (own_ok : (m : Module) → who.own ≡ Some m → IsSection m.text) where
  other_ok : (p : Place) (m : Module) → text_at who.table p ≡ Some m → IsSection m.text
  other_ok (Entry id) m e = (module_found who.table.given id m who.table.modules ok.modules e).text_ok
  other_ok (Text id) m e = (module_found who.table.given id m who.table.modules ok.modules e).text_ok
  other_ok _ m e = absurd (cc)

  attest_bytes : (own other : Option Module) (a : ℕ) → who.own ≡ own → ((m : Module) → other ≡ Some m → IsSection m.text) → AreMemoryBytes (attest_plan own other a)
  attest_bytes (Some own) (Some other) a e f =
      if_so (in_range a (a + 16)) (in_range a (a + 16)) _ refl (λ h.
      both (each_byte Read a 16 ++ text_reads other) (text_reads own)
      (both (each_byte Read a 16) (text_reads other) (in_row Read a 16 no_read (range_of a (a + 16) h).low (range_of a (a + 16) h).high) (in_text other (f other refl)))
      (in_text own (own_ok own e)))
  attest_bytes _ _ a e f = tt

  tag_bytes : (own : Option Module) (a b out : ℕ) → who.own ≡ own → AreMemoryBytes (tag_plan own a b out)
  tag_bytes (Some own) a b out e =
      if_so (in_range a b && in_range out (out + 16)) (in_range a b && in_range out (out + 16)) _ refl (λ h.
      let parts = and_true (in_range a b) (in_range out (out + 16)) h in
      let r = range_of a b parts.0 in
      let s = range_of out (out + 16) parts.1 in
      let o = r.order in let t = r.high in
      both (each_byte Read a (b - a) ++ each_byte Write out 16) (text_reads own)
      (both (each_byte Read a (b - a)) (each_byte Write out 16) (in_row Read a (b - a) no_read r.low (omega arith)) (in_row Write out 16 no_write s.low s.high))
      (in_text own (own_ok own e)))
  tag_bytes None a b out e = tt

  pub plan_bytes : (x : UnitName) → AreMemoryBytes (unit_plan who x core)
  unfolding unit_plan
  plan_bytes Protect = if_so (takes who.table (new_text core) (new_ram core)) (takes who.table (new_text core) (new_ram core)) _ refl (λ h.
      let ram = (taken who.table (new_text core) (new_ram core) h).ram_ok in
      let o = ram.order in let t = ram.high in
      in_row Write (reg core 14) (size_of (new_ram core)) no_write ram.low (omega arith))
  plan_bytes Attest = attest_bytes who.own (attested who core) (reg core 13) refl (λ m e. other_ok (place_of who.table (reg core 12)) m e)
  plan_bytes Tag = tag_bytes who.own (reg core 12) (reg core 13) (reg core 14) refl
  plan_bytes _ = tt
