-- Modules by themselves.
use Rattle.std.proofs.Common.{◌≡◌, ℕ, ◌%◌, ◌/◌, List, [], ◌∷◌, refl, map, replicate}
use Rattle.sm_words.specs.Words.{put}
use Rattle.insn_decode.specs.Code.{insn_of}
use Rattle.cycle_table.specs.Cycles.{cycles_of}
use Rattle.mod_layout.specs.Table.{place_of}
use Rattle.attest.specs.Units.{unit_plan, unit_effect}
use Rattle.cpu_step.specs.Asked.{asks, effect}
use Rattle.cpu_step.specs.Effect.{does_freely, confined, does}
use Rattle.cpu_step.specs.Lone.{CallEnd, Exit, Closing, Broken, Running, outcome, job_of, starts, next_insn, lone_does, doing}
use Rattle.cpu_step.specs.Plan.{plan}
use Rattle.worked_rows.proofs.Images.{first_module}
use Rattle.worked_rows.proofs.Balanced.{balanced_text}

-- an end without the data that it leaves
data End : Type 0 where
  Left : (cycles : ℕ) (core : List ℕ) → End
  Shut : (cycles : ℕ) (core : List ℕ) → End
  Broke : (cycles : ℕ) → End
  Runs : End

abbrev end_of : CallEnd → End
end_of (Exit core left c) = Left c core
end_of (Closing core left c) = Shut c core
end_of (Broken left c) = Broke c
end_of Running = Runs

abbrev bytes_of : List ℕ → List ℕ
bytes_of [] = []
bytes_of (w ∷ ws) = w % 256 ∷ w / 256 ∷ bytes_of ws

-- zeros but for PC
abbrev left_core : ℕ → List ℕ
left_core pc = put (replicate 16 0) 0 pc

-- a call of module 1 with this text and these data within n cycles, from a core of zeros
abbrev brief : List ℕ → ℕ → ℕ → List ℕ → ℕ → End
brief text text_end ram_end ram n =
    end_of (outcome (job_of (replicate 16 0) (first_module text_end ram_end) (bytes_of text) 0) n (starts (record { core = left_core 0x0300; caller = 0 }) ram))

-- it leaves after 18 cycles, and is running before
exits : map (brief balanced_text 0x0322 0x0402 (0 ∷ 0 ∷ [])) (100 ∷ 18 ∷ 17 ∷ []) ≡ Left 18 (left_core 0x0214) ∷ Left 18 (left_core 0x0214) ∷ Runs ∷ []
unfolding insn_of cycles_of plan does_freely confined does place_of unit_plan unit_effect asks effect next_insn lone_does doing
exits = refl

-- it gives itself up after 38 cycles
closes : map (brief (0x1380 ∷ 0x4700 ∷ []) 0x0304 0x0440 (replicate 64 5)) (100 ∷ 38 ∷ 37 ∷ []) ≡ Shut 38 (left_core 0x0302) ∷ Shut 38 (left_core 0x0302) ∷ Runs ∷ []
unfolding insn_of cycles_of plan does_freely confined does place_of unit_plan unit_effect asks effect next_insn lone_does doing
closes = refl

-- it asks for the id of an address after one cycle, which no module by itself may
breaks : map (brief (0x4303 ∷ 0x1384 ∷ 0x4700 ∷ []) 0x0306 0x0402 (0 ∷ 0 ∷ [])) (2 ∷ 1 ∷ []) ≡ Broke 1 ∷ Runs ∷ []
unfolding insn_of cycles_of plan does_freely confined does place_of unit_plan unit_effect asks effect next_insn lone_does doing
breaks = refl
