-- A counted loop that reads two words of the data by its counter, behind a stub.
use Rattle.std.specs.Prelude.{◌≡◌, ℕ, ◌%◌, ◌/◌, List, [], ◌∷◌}
use Rattle.mod_layout.specs.declared.Module.{Module}
use Rattle.flow_rule.specs.Terms.{no_terms}
use Rattle.flow_laws.specs.Exploring.{Complete, explored}

abbrev pub loop_bytes : List ℕ → List ℕ
loop_bytes [] = []
loop_bytes (w ∷ ws) = w % 256 ∷ w / 256 ∷ loop_bytes ws

abbrev pub loop_module : Module
loop_module = record { id = 1; vendor = 7; text = record { start = 0x0800; end = 0x085a }; ram = record { start = 0x0a00; end = 0x0a24 } }

abbrev pub loop_text : List ℕ
loop_text =
    0x9037 ∷ 0x0800 ∷ 0x2804 ∷ 0x9037 ∷ 0x085a ∷ 0x2c01 ∷ 0x3fff ∷ 0x9036 ∷ 0x0001 ∷ 0x2c1a ∷ 0x4182 ∷ 0x0a00 ∷ 0x4782 ∷ 0x0a02 ∷ 0x4031 ∷ 0x0a24 ∷ 0x5606 ∷ 0x1296 ∷ 0x084c ∷ 0x4211 ∷ 0x0a00
    ∷ 0x4304 ∷ 0x4305 ∷ 0x4306 ∷ 0x4307 ∷ 0x4308 ∷ 0x4309 ∷ 0x430a ∷ 0x430b ∷ 0x430d ∷ 0x430e ∷ 0x430f ∷ 0xc032 ∷ 0x0107 ∷ 0x4210 ∷ 0x0a02 ∷ 0x430c ∷ 0x4700 ∷ 0x084e
    ∷ 0x422d ∷ 0x4d1e ∷ 0x0a08 ∷ 0x832d ∷ 0x23fc ∷ 0x4130 ∷ []

-- of 60 steps so many are left
abbrev pub loop_left : ℕ
loop_left = 33

abbrev pub LoopComplete : Type 0
LoopComplete = explored no_terms loop_module (loop_bytes loop_text) [] 60 ≡ Complete loop_left []
