-- What the code's own invariants say of: Accesses.
use Rattle.std.specs.Prelude.{ℕ, List, slice_range}
use Rattle.mod_layout.specs.declared.Module.{Module}

-- the text of a module as it stands in a memory
abbrev pub text_in : List ℕ → Module → List ℕ
text_in mem m = slice_range mem m.text.start m.text.end
