-- Whose call it is, as the code holds it.
use Rattle.std.specs.Prelude.{ℕ, ◌-◌, List, false}
use Rattle.cpu_step.specs.Lone as lone

-- where the module stands between two instructions
abbrev pub lone_between : List ℕ → List ℕ → lone.Lone
lone_between core ram = record { core = core; data_bytes = ram; rest = 0; closing = false }
