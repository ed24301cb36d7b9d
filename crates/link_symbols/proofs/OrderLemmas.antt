-- Refusals one after another, and in two groups.
use Rattle.std.proofs.Common.{◌≡◌, List, [], ◌∷◌, Option, Some, None, refl}
use Rattle.std.specs.Prelude.{Result, Ok, Err, OnOk, IfErr}
use Rattle.elf_objects.specs.Object.{ObjectValue}
use Rattle.mod_layout.specs.First.{first_of}
use Rattle.layout_file.specs.Values.{LayoutValue}
use Rattle.std.specs.Option.{option_or}
use Rattle.link_symbols.specs.Names.{stands_for}
use Rattle.link_symbols.specs.Resolved.{items_of}
use Rattle.link_symbols.specs.Symbols.{named_symbols}
use Rattle.link_symbols.specs.Refusals.{no_place, duplicate, undefined, no_vector, no_entry, elsewhere, unresolved}
use Rattle.link_symbols.specs.internal.Groups.{names_fault, stand_fault}
use Rattle.mod_layout.proofs.FirstLemmas.{or_else_none}

-- functions that agree are one
pub ext : {A B : Type 0} (f g : A → B) → ((x : A) → f x ≡ g x) → f ≡ g
ext f g h = λ i. λ x. h x i

pub skip : {A : Type 0} (a b r : Option A) → a ≡ None → b ≡ r → option_or a b ≡ r
skip None b r e f = f
skip (Some x) b r e f = cc

pub hit : {A : Type 0} (a b : Option A) (f : A) → a ≡ Some f → option_or a b ≡ Some f
hit None b f e = cc
hit (Some x) b f e = e

-- what a result tells of is told of another way
pub on_ok : {T E : Type 0} (r : Result T E) (P Q : Type 0) → (P → Q) → OnOk r P → OnOk r Q
on_ok (Ok x) P Q f p = f p
on_ok (Err e) P Q f p = tt

pub if_err : {T E : Type 0} (r : Result T E) (P Q : E → Type 0) → ((e : E) → P e → Q e) → IfErr r P → IfErr r Q
if_err (Ok x) P Q f p = tt
if_err (Err e) P Q f p = f e p

grouped : {F : Type 0} (a b c d e f : Option F) →
    first_of (a ∷ b ∷ c ∷ d ∷ e ∷ f ∷ []) ≡ option_or (option_or a b) (option_or c (option_or d (option_or e f)))
grouped (Some x) b c d e f = refl
grouped None (Some x) c d e f = refl
grouped None None (Some x) d e f = refl
grouped None None None (Some x) e f = refl
grouped None None None None (Some x) f = refl
grouped None None None None None f = or_else_none f

pub in_groups : (layout : LayoutValue) (os : List ObjectValue) →
    unresolved layout os ≡ option_or (names_fault layout os) (stand_fault (stands_for os) (items_of layout os) layout os)
unfolding unresolved names_fault stand_fault
in_groups layout os =
    let names = stands_for os in
    grouped (no_place layout.modules os) (duplicate [] (named_symbols os)) (undefined names os) (no_vector names layout.vectors) (no_entry names layout.modules)
    (elsewhere names (items_of layout os) layout.modules)
