-- On accesses checked one by one.
use Rattle.std.proofs.Common.{◌≡◌, ◌≢◌, ℕ, suc, ◌+◌, List, [], Option, Some, None, refl}
use Rattle.sm_words.specs.declared.width.Width.TheVariants.{Byte}
use Rattle.mod_layout.specs.declared.Place.{Place}
use Rattle.mod_layout.specs.declared.Place.TheVariants.{Open}
use Rattle.mod_layout.specs.Table.{Table, place_of}
use Rattle.pc_access.specs.declared.Kind.{Kind}
use Rattle.pc_access.specs.declared.Kind.TheVariants.{Fetch, Read, Write}
use Rattle.pc_access.specs.declared.Denied.{Denied}
use Rattle.mod_layout.specs.First.{first_in}
use Rattle.pc_access.specs.Rights.{right, right_at, access_of}
use Rattle.attest.specs.Units.{each_byte}

pub read_anyhow : (p : Place) (active : Option ℕ) (held held' : List ℕ) (a : ℕ) → right_at p active held Read a ≡ right_at p active held' Read a
read_anyhow Open active held held' a = refl
read_anyhow _ active held held' a = refl

pub write_anyhow : (p : Place) (active : Option ℕ) (held held' : List ℕ) (a : ℕ) → right_at p active held Write a ≡ right_at p active held' Write a
write_anyhow Open active held held' a = refl
write_anyhow _ active held held' a = refl

-- the modules held matter to fetches alone
pub right-held : (t : Table) (active : Option ℕ) (held held' : List ℕ) (kind : Kind) (a : ℕ) → kind ≢ Fetch →
    right t active held (access_of kind a Byte) ≡ right t active held' (access_of kind a Byte)
unfolding right
right-held t active held held' Fetch a plain = absurd (plain refl)
right-held t active held held' Read a plain = read_anyhow (place_of t a) active held held' a
right-held t active held held' Write a plain = write_anyhow (place_of t a) active held held' a

-- where the first is allowed the others decide
pub denied-later : (t : Table) (active : Option ℕ) (held : List ℕ) (kind : Kind) (a n m : ℕ) → kind ≢ Fetch → n ≡ suc m →
    right t active [] (access_of kind a Byte) ≡ None →
    first_in (right t active held) (each_byte kind a n) ≡ first_in (right t active held) (each_byte kind (a + 1) m)
denied-later t active held kind a n m plain e free =
    rw (e, right-held t active held [] kind a plain, free) refl

-- where the first is refused it decides
pub denied-now : (t : Table) (active : Option ℕ) (held : List ℕ) (kind : Kind) (a n m : ℕ) (d : Denied) → kind ≢ Fetch → n ≡ suc m →
    right t active [] (access_of kind a Byte) ≡ Some d →
    first_in (right t active held) (each_byte kind a n) ≡ Some d
denied-now t active held kind a n m d plain e refused =
    rw (e, right-held t active held [] kind a plain, refused) refl
