-- Accesses in their order: the reads and the writes among them, and what the writes leave.
use Rattle.std.specs.Prelude.{ℕ, List, filter, fold, zip, Bool, true, false}
use Rattle.pc_access.specs.declared.Kind.{Kind}
use Rattle.pc_access.specs.declared.Kind.TheVariants.{Read, Write}
use Rattle.pc_access.specs.declared.Access.{Access}

abbrev pub is_read : Kind → Bool
is_read Read = true
is_read _ = false

abbrev pub is_write : Kind → Bool
is_write Write = true
is_write _ = false

-- the reads among these accesses
abbrev pub reads_of : List Access → List Access
reads_of xs = filter (λ x. is_read x.kind) xs

-- the writes among them
abbrev pub writes_of : List Access → List Access
writes_of xs = filter (λ x. is_write x.kind) xs

-- what these writes leave of a state, one after another, each with its value
abbrev pub after_writes : {S : Type 0} → (S → Access → ℕ → S) → S → List Access → List ℕ → S
after_writes write s xs values = fold (λ t p. write t p.0 p.1) s (zip xs values)
