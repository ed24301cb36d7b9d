-- What the code's own invariants say of: Checked.
use Rattle.std.specs.Prelude.{◌≡◌, ◌⊎◌, Err}
use Rattle.layout_file.specs.declared.fault.LayoutFault.TheVariants.{NoMemory}
use Rattle.layout_file.specs.Checked.{Checked, map_ok}

-- a call answers what is asked, its value seen as `see` says, or it had no memory
abbrev pub ReadsAs : {A B : Type 0} → (A → B) → Checked A → Checked B → Type 0
ReadsAs see result asked = (map_ok see result ≡ asked) ⊎ (result ≡ Err NoMemory)
