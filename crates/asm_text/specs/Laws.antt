-- The laws of the assembler. They are what functions of this crate ensure.
use Rattle.std.specs.Prelude.{ℕ, ◌≡◌, ◌%◌}
use Rattle.asm_text.specs.Emission.{reach}
use Rattle.asm_text.specs.Jumps.{target_of}

-- A jump leads to its label.
abbrev pub JumpsLead : Type 0
JumpsLead = (here there : ℕ) → here % 2 ≡ 0 → there % 2 ≡ 0 → target_of here (reach here there) ≡ there
