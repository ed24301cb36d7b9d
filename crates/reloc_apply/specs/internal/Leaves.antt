-- What a call leaves.
use Rattle.std.specs.Prelude.{◌≡◌, ℕ, List, Result, Ok, Err}
use Rattle.reloc_apply.specs.declared.RelocFault.{RelocFault}

-- what a call leaves is what it gives: a refusal changes nothing
abbrev pub Leaves : List ℕ → List ℕ → Result (Unit {0}) RelocFault → Result (List ℕ) RelocFault → Type 0
Leaves old new result (Ok bytes) = (result ≡ Ok tt) × (new ≡ bytes)
Leaves old new result (Err f) = (result ≡ Err f) × (new ≡ old)
