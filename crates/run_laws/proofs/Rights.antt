-- What is allowed to others stays out of the module's data.
use Rattle.std.proofs.Common.{◌≡◌, ◌≢◌, ◌⊎◌, ℕ, ◌+◌, ◌%◌, ◌≤◌, List, [], ◌∷◌, refl, ap, subst, arith, Bool, true, false, cond, not, ◌==◌, Option, Some, None, ⊎_elim}
use Rattle.attest.specs.Accesses.{is_read, is_write, reads_of, writes_of}
use Rattle.mod_layout.proofs.TableLemmas.{Apart}
use Rattle.mod_layout.specs.First.{first_in}
use Rattle.mod_layout.specs.Table.{Table, place_of, module_of, size_of, holds}
use Rattle.mod_layout.specs.Tables.{IsModule, IsTable}
use Rattle.mod_layout.specs.declared.Module.{Module}
use Rattle.mod_layout.specs.declared.Place.TheVariants.{Entry, Text, Data}
use Rattle.pc_access.specs.Rights.{right, right_at, misaligned, is_id}
use Rattle.pc_access.specs.declared.Access.{Access}
use Rattle.pc_access.specs.declared.Kind.TheVariants.{Read, Write}
use Rattle.pc_access.specs.declared.Rule.TheVariants.{ReadData, WriteData}
use Rattle.sm_words.specs.declared.width.Width.{Width}
use Rattle.sm_words.specs.declared.width.Width.TheVariants.{Byte, Word}
use Rattle.std.proofs.lemmas.Bool.{cases_lt}
use Rattle.std.proofs.lemmas.Bool.Decides.{nat_tests}
use Rattle.pc_access.proofs.RightLemmas.{aligned_both, refused_not}
use Rattle.mod_layout.proofs.FirstLemmas.{both_none}
use Rattle.pc_access.specs.declared.Kind.{Kind}
pub use Rattle.mod_layout.proofs.Found.{within as holds_in}
use Rattle.run_laws.proofs.Bytes.{Out}
use Rattle.run_laws.proofs.Each.{Each}
use Rattle.run_laws.proofs.Ports.{OutBy, OutAccess}

-- what the table says of one module
pub record Sound (m : ℕ) (own : Module) (t : Table) : Type 0 where
  pub is_table : IsTable t
  pub found : module_of m t ≡ Some own
  pub own_ok : IsModule t.given own
  pub in_data : (a : ℕ) → holds own.ram a ≡ true → place_of t a ≡ Data m
  pub in_text : (a : ℕ) → holds own.text a ≡ true → (place_of t a ≡ Text m) ⊎ (place_of t a ≡ Entry m)
  pub entry_only : (a : ℕ) → place_of t a ≡ Entry m → a % 2 ≡ 0 → a ≡ own.text.start
  pub apart : (a : ℕ) → holds own.text a ≡ true → holds own.ram a ≡ false
  pub others : (id : ℕ) (x : Module) → module_of id t ≡ Some x → (id == m) ≡ false → Apart x.ram own.ram × Apart x.ram own.text

allowed_each : (t : Table) (active : Option ℕ) (held : List ℕ) (xs : List Access) →
    first_in (right t active held) xs ≡ None → Each (λ x. right t active held x ≡ None) xs
allowed_each t active held [] e = tt
allowed_each t active held (x ∷ xs) e =
    let p = both_none (right t active held x) (first_in (right t active held) xs) e in (p.0, allowed_each t active held xs p.1)

-- what holds of each read or write of a kind that may be
each_if : (P : Access → Type 0) (b : Bool) (x : Access) (ys : List Access) → (b ≡ true → P x) → Each P ys → Each P (cond b (x ∷ ys) ys)
each_if P true x ys f h = (f refl, h)
each_if P false x ys f h = h

pub each_read : (P Q : Access → Type 0) → ((x : Access) → is_read x.kind ≡ true → Q x → P x) → (xs : List Access) → Each Q xs → Each P (reads_of xs)
each_read P Q f [] h = tt
each_read P Q f (x ∷ xs) h = each_if P (is_read x.kind) x (reads_of xs) (λ e. f x e h.0) (each_read P Q f xs h.1)

pub each_write : (P Q : Access → Type 0) → ((x : Access) → is_write x.kind ≡ true → Q x → P x) → (xs : List Access) → Each Q xs → Each P (writes_of xs)
each_write P Q f [] h = tt
each_write P Q f (x ∷ xs) h = each_if P (is_write x.kind) x (writes_of xs) (λ e. f x e h.0) (each_write P Q f xs h.1)

pub own_id : (m : ℕ) → (m == m) ≡ true
own_id m = grind (arith, nat_tests)

pub even_of : (w : Width) (a : ℕ) → misaligned w a ≡ false → (w ≡ Word) → a % 2 ≡ 0
even_of Byte a e f = cc
even_of Word a e f = let k : a % 2 ≢ 1 = grind (arith, nat_tests) in omega arith

-- the byte after an even address is out where that one is
out_next : (lo n a : ℕ) → lo % 2 ≡ 0 → a % 2 ≡ 0 → Out lo n a → Out lo n (a + 1)
out_next lo n a start even out low =
    let low' : lo ≤ a = omega arith in
    let k : lo + n ≤ a = out low' in
    omega arith

out_width : (w : Width) (lo n a : ℕ) → lo % 2 ≡ 0 → misaligned w a ≡ false → Out lo n a → OutBy w lo n a
out_width Byte lo n a start e out = out
out_width Word lo n a start e out = (out, out_next lo n a start (even_of Word a e refl) out)

module _ (m : ℕ) (own : Module) (t : Table) (sound : Sound m own t) where
  -- an address that is not the module's data is out of them
  pub out_place : (a : ℕ) → place_of t a ≢ Data m → Out own.ram.start (size_of own.ram) a
  out_place a ne low =
      let lt = sound.own_ok.ram_ok.order in
      ⊎_elim (λ in_ram. absurd (ne (sound.in_data a (holds_in own.ram a low in_ram)))) (λ past. omega arith) (cases_lt a own.ram.end)

  pub out_place_next : (a : ℕ) → a % 2 ≡ 0 → place_of t a ≢ Data m → OutBy Word own.ram.start (size_of own.ram) a
  out_place_next a even ne = (out_place a ne, out_next own.ram.start (size_of own.ram) a sound.own_ok.ram_ok.even_start even (out_place a ne))

  module _ (active : Option ℕ) (held : List ℕ) (other : is_id m active ≡ false) where
    not_read : (a : ℕ) → right_at (place_of t a) active held Read a ≡ None → place_of t a ≢ Data m
    not_read a e d =
        let e' = subst (λ p. right_at p active held Read a ≡ None) d e in
        let b = refused_not (not (is_id m active)) ReadData a m e' in let c = ap not other in cc

    not_written : (a : ℕ) → right_at (place_of t a) active held Write a ≡ None → place_of t a ≢ Data m
    not_written a e d =
        let e' = subst (λ p. right_at p active held Write a ≡ None) d e in
        let b = refused_not (not (is_id m active)) WriteData a m e' in let c = ap not other in cc

    read_out : (k : Kind) (w : Width) (a : ℕ) → is_read k ≡ true → right t active held (record { kind = k; addr = a; width = w }) ≡ None →
        OutBy w own.ram.start (size_of own.ram) a
    unfolding right
    read_out Read w a f e =
        let p = aligned_both (misaligned w a) a (right_at (place_of t a) active held Read a) e in
        out_width w own.ram.start (size_of own.ram) a sound.own_ok.ram_ok.even_start p.0 (out_place a (not_read a p.1))
    read_out _ w a f e = cc

    write_out : (k : Kind) (w : Width) (a : ℕ) → is_write k ≡ true → right t active held (record { kind = k; addr = a; width = w }) ≡ None →
        OutBy w own.ram.start (size_of own.ram) a
    unfolding right
    write_out Write w a f e =
        let p = aligned_both (misaligned w a) a (right_at (place_of t a) active held Write a) e in
        out_width w own.ram.start (size_of own.ram) a sound.own_ok.ram_ok.even_start p.0 (out_place a (not_written a p.1))
    write_out _ w a f e = cc

    pub reads_out : (xs : List Access) → first_in (right t active held) xs ≡ None → Each (OutAccess own.ram.start (size_of own.ram)) (reads_of xs)
    reads_out xs e = each_read (OutAccess own.ram.start (size_of own.ram)) (λ x. right t active held x ≡ None)
        (λ x. read_out x.kind x.width x.addr) xs (allowed_each t active held xs e)

    pub writes_out : (xs : List Access) → first_in (right t active held) xs ≡ None → Each (OutAccess own.ram.start (size_of own.ram)) (writes_of xs)
    writes_out xs e = each_write (OutAccess own.ram.start (size_of own.ram)) (λ x. right t active held x ≡ None)
        (λ x. write_out x.kind x.width x.addr) xs (allowed_each t active held xs e)

-- what is allowed to be written, to anyone, stays out of the module's text
module _ (m : ℕ) (own : Module) (t : Table) (sound : Sound m own t) (active : Option ℕ) (held : List ℕ) where
  not_text : (a : ℕ) → right_at (place_of t a) active held Write a ≡ None → holds own.text a ≡ true → ⊥
  not_text a e h =
      ⊎_elim
      (λ d. let e' = subst (λ p. right_at p active held Write a ≡ None) d e in cc)
      (λ d. let e' = subst (λ p. right_at p active held Write a ≡ None) d e in cc)
      (sound.in_text a h)

  text_out_of : (a : ℕ) → right_at (place_of t a) active held Write a ≡ None → Out own.text.start (size_of own.text) a
  text_out_of a e low =
      let lt = sound.own_ok.text_ok.order in
      ⊎_elim (λ in_it. absurd (not_text a e (holds_in own.text a low in_it))) (λ past. omega arith) (cases_lt a own.text.end)

  text_out : (k : Kind) (w : Width) (a : ℕ) → is_write k ≡ true → right t active held (record { kind = k; addr = a; width = w }) ≡ None →
      OutBy w own.text.start (size_of own.text) a
  unfolding right
  text_out Write w a f e =
      let p = aligned_both (misaligned w a) a (right_at (place_of t a) active held Write a) e in
      out_width w own.text.start (size_of own.text) a sound.own_ok.text_ok.even_start p.0 (text_out_of a p.1)
  text_out _ w a f e = cc

  pub text_writes_out : (xs : List Access) → first_in (right t active held) xs ≡ None → Each (OutAccess own.text.start (size_of own.text)) (writes_of xs)
  text_writes_out xs e = each_write (OutAccess own.text.start (size_of own.text)) (λ x. right t active held x ≡ None)
      (λ x. text_out x.kind x.width x.addr) xs (allowed_each t active held xs e)
