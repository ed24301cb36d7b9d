-- The rules against the table of rights.
use Rattle.std.proofs.Common.{◌≡◌, ℕ, ◌%◌, List, Bool, true, false, not, nat_lt, Option, Some, None, refl, ◌∙◌, arith}
use Rattle.std.specs.List.{list_all}
use Rattle.std.proofs.lemmas.Bool.Decides.{nat_tests}
use Rattle.std.proofs.lemmas.Bool.{not-false, not_from_true, and_parts}
use Rattle.std.specs.Option.{option_or}
use Rattle.sm_words.specs.declared.width.Width.{Width}
use Rattle.sm_words.specs.declared.width.Width.TheVariants.{Byte, Word}
use Rattle.mod_layout.specs.declared.TheConstants.{DEVICES_END}
use Rattle.mod_layout.specs.declared.Place.{Place}
use Rattle.mod_layout.specs.declared.Place.TheVariants.{Open, Entry, Text, Data}
use Rattle.mod_layout.specs.Table.{Table, place_of}
use Rattle.mod_layout.specs.Tables.{IsTable}
use Rattle.mod_layout.proofs.TableLemmas.{one_place}
use Rattle.pc_access.specs.declared.Kind.{Kind}
use Rattle.pc_access.specs.declared.Kind.TheVariants.{Fetch, Read, Write}
use Rattle.pc_access.specs.declared.Rule.{Rule}
use Rattle.pc_access.specs.declared.Rule.TheVariants.{Misaligned}
use Rattle.pc_access.specs.declared.Denied.{Denied}
use Rattle.pc_access.specs.Rights.{grants, is_id, is_held, is_own, is_granted, refuse_if, right_at, right, access_of, is_misaligned, touched, is_barred_at, IsRightful}

-- a misaligned access is refused by that rule
pub right_misaligned : (t : Table) (active : Option ℕ) (held : List ℕ) (kind : Kind) (a : ℕ) (w : Width)
    → is_misaligned (access_of kind a w) ≡ true → right t active held (access_of kind a w) ≡ Some record { rule = Misaligned; addr = a; «module» = 0 }
unfolding right
right_misaligned t active held kind a w m = rw m refl

-- any other as the rules of the place say
pub right_aligned : (t : Table) (active : Option ℕ) (held : List ℕ) (kind : Kind) (a : ℕ) (w : Width) (p : Place)
    → is_misaligned (access_of kind a w) ≡ false → p ≡ place_of t a → right t active held (access_of kind a w) ≡ right_at p active held kind a
unfolding right
right_aligned t active held kind a w p m there = rw (m, there) refl

pub refused_not : (b : Bool) (r : Rule) (a id : ℕ) → refuse_if b r a id ≡ None → b ≡ false
refused_not true r a id e = absurd cc
refused_not false r a id e = refl

allowed_by : (b : Bool) (r : Rule) (a id : ℕ) → b ≡ false → refuse_if b r a id ≡ None
allowed_by b r a id e = rw e refl

-- what no rule refuses at a place is granted there, and is not barred
record IsFree (active : Option ℕ) (held : List ℕ) (p : Place) (k : Kind) (a : ℕ) : Type 0 where
  granted : grants (is_own active p) p k ≡ true
  free : is_barred_at p held k a ≡ false

granted_data : (b : Bool) (id : ℕ) → b ≡ true → (grants b (Data id) Read ≡ true) × (grants b (Data id) Write ≡ true) × (grants b (Text id) Fetch ≡ true)
granted_data true id e = (refl, refl, refl)
granted_data false id e = absurd cc

free_at : (active : Option ℕ) (held : List ℕ) (p : Place) (k : Kind) (a : ℕ) → right_at p active held k a ≡ None → IsFree active held p k a
free_at active held Open Fetch a e = record { granted = refl; free = refused_not (nat_lt a DEVICES_END) _ a 0 e }
free_at active held (Entry id) Fetch a e = record { granted = refl; free = refused_not (is_held id held) _ a id e }
free_at active held (Entry id) Write a e = absurd cc
free_at active held (Text id) Fetch a e = record { granted = (granted_data (is_id id active) id (not-false (is_id id active) (refused_not (not (is_id id active)) _ a id e))).2; free = refl }
free_at active held (Text id) Write a e = absurd cc
free_at active held (Data id) Fetch a e = absurd cc
free_at active held (Data id) Read a e = record { granted = (granted_data (is_id id active) id (not-false (is_id id active) (refused_not (not (is_id id active)) _ a id e))).0; free = refl }
free_at active held (Data id) Write a e = record { granted = (granted_data (is_id id active) id (not-false (is_id id active) (refused_not (not (is_id id active)) _ a id e))).1; free = refl }
free_at active held _ _ a e = record { granted = refl; free = refl }

-- of the own module's data and text a grant says that it is the own
data_own : (b : Bool) (id : ℕ) (k : Kind) → grants b (Data id) k ≡ true → b ≡ true
data_own true id k e = refl
data_own false id k e = absurd cc

data_not_fetched : (b : Bool) (id : ℕ) → grants b (Data id) Fetch ≡ true → ⊥
data_not_fetched true id e = cc
data_not_fetched false id e = cc

text_own : (b : Bool) (id : ℕ) → grants b (Text id) Fetch ≡ true → b ≡ true
text_own true id e = refl
text_own false id e = absurd cc

at_free : (active : Option ℕ) (held : List ℕ) (p : Place) (k : Kind) (a : ℕ) → grants (is_own active p) p k ≡ true → is_barred_at p held k a ≡ false → right_at p active held k a ≡ None
at_free active held Open Fetch a g f = allowed_by (nat_lt a DEVICES_END) _ a 0 f
at_free active held (Entry id) Fetch a g f = allowed_by (is_held id held) _ a id f
at_free active held (Entry id) Write a g f = absurd cc
at_free active held (Text id) Fetch a g f = allowed_by (not (is_id id active)) _ a id (not_from_true (is_id id active) (text_own (is_id id active) id g))
at_free active held (Text id) Write a g f = absurd cc
at_free active held (Data id) Fetch a g f = absurd (data_not_fetched (is_id id active) id g)
at_free active held (Data id) k a g f = allowed_by (not (is_id id active)) _ a id (not_from_true (is_id id active) (data_own (is_id id active) id k g))
at_free active held _ _ a g f = refl

pub aligned_both : (b : Bool) (a : ℕ) (rest : Option Denied) → option_or (refuse_if b Misaligned a 0) rest ≡ None → (b ≡ false) × (rest ≡ None)
aligned_both true a rest e = absurd cc
aligned_both false a rest e = (refl, e)

module _ (t : Table) (active : Option ℕ) (held : List ℕ) (ok : IsTable t) where
  -- each byte that an aligned access touches is granted where its first is
  all_granted : (kind : Kind) (a : ℕ) (w : Width) → is_misaligned (access_of kind a w) ≡ false → is_granted t active kind a ≡ true → list_all (λ b. is_granted t active kind b) (touched (access_of kind a w)) ≡ true
  all_granted Read a Word m g = let even : a % 2 ≡ 0 = grind (arith, nat_tests) in rw (one_place t a ok even, g) refl
  all_granted Write a Word m g = let even : a % 2 ≡ 0 = grind (arith, nat_tests) in rw (one_place t a ok even, g) refl
  all_granted _ a _ m g = rw g refl

  first_granted : (kind : Kind) (a : ℕ) (w : Width) → list_all (λ b. is_granted t active kind b) (touched (access_of kind a w)) ≡ true → is_granted t active kind a ≡ true
  first_granted Fetch a w g = (and_parts _ _ g).0
  first_granted _ a Word g = (and_parts _ _ g).0
  first_granted _ a Byte g = (and_parts _ _ g).0

  -- what no rule refuses is rightful
  pub rightful : (kind : Kind) (a : ℕ) (w : Width) → right t active held (access_of kind a w) ≡ None → IsRightful t active held (access_of kind a w)
  unfolding right
  rightful kind a w e =
      let both = aligned_both (is_misaligned (access_of kind a w)) a _ e in
      let f = free_at active held (place_of t a) kind a both.1 in
      record { aligned = both.0; granted = all_granted kind a w both.0 f.granted; free = f.free }

  -- and what is rightful no rule refuses
  pub unrefused : (kind : Kind) (a : ℕ) (w : Width) → IsRightful t active held (access_of kind a w) → right t active held (access_of kind a w) ≡ None
  unrefused kind a w r =
      right_aligned t active held kind a w _ r.aligned refl
      ∙ at_free active held (place_of t a) kind a (first_granted kind a w r.granted) r.free
