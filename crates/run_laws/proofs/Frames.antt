-- A module that is entered has no frame.
use Rattle.std.proofs.Common.{◌≡◌, ℕ, ◌+◌, List, [], ◌∷◌, refl, subst, arith, Bool, true, false, ◌||◌, ◌==◌, Option, None}
use Rattle.sm_words.specs.Sums.{one_if}
use Rattle.mod_layout.specs.Table.{place_of}
use Rattle.mod_layout.specs.declared.Place.TheVariants.{Entry}
use Rattle.pc_access.specs.Rights.{right, right_at, is_held}
use Rattle.pc_access.specs.declared.Denied.{Denied}
use Rattle.pc_access.specs.declared.Rule.{Rule}
use Rattle.pc_access.specs.declared.Kind.TheVariants.{Fetch}
use Rattle.reg_backup.specs.Held.{held_ids}
use Rattle.reg_backup.specs.declared.frames.Frame.{Frame}
use Rattle.reg_backup.specs.declared.frames.Frame.TheVariants.{Plain, Module as Held}
use Rattle.written_machine.specs.Cycle.{pc_of, plain_if, fetch}
use Rattle.written_machine.specs.State.{State}
use Rattle.run_laws.specs.Frames.{times}
use Rattle.pc_access.proofs.RightLemmas.{refused_not}

pub times_plain : (m : ℕ) (fs : List Frame) → times m (plain_if fs) ≡ times m fs
times_plain m [] = refl
times_plain m (f ∷ fs) = refl

pub times_none : (m : ℕ) (fs : List Frame) → is_held m (held_ids fs) ≡ false → times m fs ≡ 0
times_none m [] e = refl
times_none m (Plain ∷ fs) e = times_none m fs e
times_none m (Held b ∷ fs) e = by (b.module == m) (is_held m (held_ids fs)) (times m fs) e (λ h. times_none m fs h)
  where
    by : (c x : Bool) (n : ℕ) → (c || x) ≡ false → (x ≡ false → n ≡ 0) → one_if c + n ≡ 0
    by true x n e h = cc
    by false x n e h = let z = h e in omega arith

-- the check of a fetch
abbrev pub check : State → Option Denied
check s = right s.table s.active (held_ids s.frames) (fetch s)

pub right_fetch : (s : State) → check s ≡ None → right_at (place_of s.table (pc_of s)) s.active (held_ids s.frames) Fetch (pc_of s) ≡ None
unfolding right
right_fetch s e = e

pub entry_free : (m : ℕ) (s : State) → check s ≡ None → place_of s.table (pc_of s) ≡ Entry m → is_held m (held_ids s.frames) ≡ false
entry_free m s e p =
    let e' = subst (λ q. right_at q s.active (held_ids s.frames) Fetch (pc_of s) ≡ None) p (right_fetch s e) in
    refused_not (is_held m (held_ids s.frames)) Rule.Reenter (pc_of s) m e'
