-- Passes that number the elements, and the objects with their numbers.
use Rattle.std.specs.Prelude.{ℕ, ◌≡◌, ◌≢◌, ◌+◌, List, [], ◌∷◌, length, slice_range, Bool, true, false, Option, Some, None}
use Rattle.elf_objects.specs.declared.object.Span.{Span}
use Rattle.elf_objects.specs.Object.{ObjectValue}
use Rattle.link_symbols.specs.declared.fault.LinkFault.{LinkFault}
use Rattle.link_symbols.specs.declared.fault.LinkFault.TheVariants as fault
pub use Rattle.elf_objects.specs.Passes.{FaultIs}
use Rattle.std.specs.Option.{option_or}

-- this one, where a test says so
abbrev pub some_if : {A : Type 0} → Bool → Option A → Option A
some_if true found = found
some_if false found = None

-- what the first element gives that gives something, the elements being numbered from here on
abbrev pub first_at : {X A : Type 0} → (ℕ → X → Option A) → ℕ → List X → Option A
first_at f i [] = None
first_at f i (x ∷ xs) = option_or (f i x) (first_at f (i + 1) xs)

-- what each element gives, the elements being numbered from here on
abbrev pub map_at : {X A : Type 0} → (ℕ → X → A) → ℕ → List X → List A
map_at f i [] = []
map_at f i (x ∷ xs) = f i x ∷ map_at f (i + 1) xs

-- the elements one after another, numbered from here on
abbrev pub fold_at : {X A : Type 0} → (A → ℕ → X → A) → A → ℕ → List X → A
fold_at f a i [] = a
fold_at f a i (x ∷ xs) = fold_at f (f a i x) (i + 1) xs

-- an object with its number, and with the number of its first section among the sections of all objects
pub record NumberedObject : Type 0 where
  pub number : ℕ
  pub first : ℕ
  pub object : ObjectValue

abbrev pub numbered_object : ℕ → ℕ → ObjectValue → NumberedObject
numbered_object number first o = record { number = number; first = first; object = o }

abbrev pub numbered_objects_from : ℕ → ℕ → List ObjectValue → List NumberedObject
numbered_objects_from number first [] = []
numbered_objects_from number first (o ∷ os) = numbered_object number first o ∷ numbered_objects_from (number + 1) (first + length o.sections) os

abbrev pub numbered_objects : List ObjectValue → List NumberedObject
numbered_objects objects = numbered_objects_from 0 0 objects

-- these bytes of an object's file
abbrev pub part : ObjectValue → Span → List ℕ
part o span = slice_range o.file span.start span.end

-- unless memory ran out, this is the refusal
abbrev pub IsLinkFaultOf : Option LinkFault → LinkFault → Type 0
IsLinkFaultOf refusal f = f ≢ fault.NoMemory → refusal ≡ Some f
