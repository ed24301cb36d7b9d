-- A module whose two arms take equal cycles tells nothing of which it takes, wherever it is interrupted.
use Rattle.std.proofs.Common.{◌≡◌, ℕ, ◌+◌, List, [], ◌∷◌, ◌++◌, refl, map}
use Rattle.std.specs.Prelude.{codes}
use Rattle.std.specs.Fmt.{digits}
use Rattle.insn_decode.specs.Code.{insn_of}
use Rattle.cycle_table.specs.Cycles.{cycles_of}
use Rattle.mod_layout.specs.Table.{place_of}
use Rattle.pc_access.specs.Rights.{right}
use Rattle.devices.specs.Devices.{ticked_devices, line_of, accepted, read_of, after_read, write_of}
use Rattle.image_text.specs.Image.{Image}
use Rattle.attest.specs.Units.{unit_plan, unit_effect}
use Rattle.cpu_step.specs.Asked.{asks, effect, table_after}
use Rattle.cpu_step.specs.Effect.{does_freely, confined, does}
use Rattle.cpu_step.specs.Plan.{plan}
use Rattle.tracer.specs.Lines.{event_line, end_line_at}
use Rattle.written_machine.specs.Cycle.{ticked, settle, due, arrive_inside, arrive_outside, perform, attempt, act, enter, begin, turn, move}
use Rattle.written_machine.specs.Trace.{trace}
use Rattle.std.specs.Fmt.{decimal}
use Rattle.worked_rows.proofs.Images.{with_text, pulse, at_loop}

-- tests the data word and takes one of two arms of equal cycles, clears what it learnt, and goes back to 0x0214
abbrev pub balanced_text : List ℕ
balanced_text = 0x9382 ∷ 0x0400 ∷ 0x2404 ∷ 0x4215 ∷ 0x0400 ∷ 0x4303 ∷ 0x3c05 ∷ 0x4303 ∷ 0x4303 ∷ 0x4303 ∷ 0x4303 ∷ 0x3c00 ∷ 0x4305 ∷ 0xc032 ∷ 0x0107 ∷ 0x4030 ∷ 0x0214 ∷ []

abbrev balanced : ℕ → Image
balanced ram = with_text (0x1300 ∷ []) balanced_text 0x0322 0x0402 ram

-- its second arm's read of the data made two steps of one cycle each
abbrev uneven_text : List ℕ
uneven_text = 0x9382 ∷ 0x0400 ∷ 0x2404 ∷ 0x4303 ∷ 0x4303 ∷ 0x4303 ∷ 0x3c05 ∷ 0x4303 ∷ 0x4303 ∷ 0x4303 ∷ 0x4303 ∷ 0x3c00 ∷ 0x4305 ∷ 0xc032 ∷ 0x0107 ∷ 0x4030 ∷ 0x0214 ∷ []

-- hidden in this cycle
abbrev hidden_at : ℕ → List ℕ
hidden_at c =
    codes "12 enter 1 from 0\n" ++ decimal c ++ codes " hide 1 vector 1\n" ++ decimal (c + 12) ++ codes " handler pc 0500\n" ++ decimal (c + 17) ++ codes " resume 1\n47 leave 1 pc 0214\n" ++ at_loop (codes "60")

-- no interrupt, data 0
quiet_0 : trace (balanced 0) ([]) 60 ≡ codes "12 enter 1 from 0\n30 leave 1 pc 0214\n" ++ at_loop (codes "60")
unfolding insn_of cycles_of plan does_freely confined does place_of right ticked_devices line_of accepted read_of after_read write_of unit_plan unit_effect asks effect table_after ticked settle due arrive_inside arrive_outside perform attempt act enter begin turn move digits event_line end_line_at
quiet_0 = refl

-- no interrupt, data 1
quiet_1 : trace (balanced 1) ([]) 60 ≡ codes "12 enter 1 from 0\n30 leave 1 pc 0214\n" ++ at_loop (codes "60")
unfolding insn_of cycles_of plan does_freely confined does place_of right ticked_devices line_of accepted read_of after_read write_of unit_plan unit_effect asks effect table_after ticked settle due arrive_inside arrive_outside perform attempt act enter begin turn move digits event_line end_line_at
quiet_1 = refl

-- a pulse in each cycle from 13 to 18, data 0
pulses_0_13 : map (λ c. trace (balanced 0) (pulse c) 60) (13 ∷ 14 ∷ 15 ∷ 16 ∷ 17 ∷ 18 ∷ []) ≡ map hidden_at (13 ∷ 14 ∷ 15 ∷ 16 ∷ 17 ∷ 18 ∷ [])
unfolding insn_of cycles_of plan does_freely confined does place_of right ticked_devices line_of accepted read_of after_read write_of unit_plan unit_effect asks effect table_after ticked settle due arrive_inside arrive_outside perform attempt act enter begin turn move digits event_line end_line_at
pulses_0_13 = refl

-- a pulse in each cycle from 19 to 23, data 0
pulses_0_19 : map (λ c. trace (balanced 0) (pulse c) 60) (19 ∷ 20 ∷ 21 ∷ 22 ∷ 23 ∷ []) ≡ map hidden_at (19 ∷ 20 ∷ 21 ∷ 22 ∷ 23 ∷ [])
unfolding insn_of cycles_of plan does_freely confined does place_of right ticked_devices line_of accepted read_of after_read write_of unit_plan unit_effect asks effect table_after ticked settle due arrive_inside arrive_outside perform attempt act enter begin turn move digits event_line end_line_at
pulses_0_19 = refl

-- a pulse in each cycle from 24 to 29, data 0
pulses_0_24 : map (λ c. trace (balanced 0) (pulse c) 60) (24 ∷ 25 ∷ 26 ∷ 27 ∷ 28 ∷ 29 ∷ []) ≡ map hidden_at (24 ∷ 25 ∷ 26 ∷ 27 ∷ 28 ∷ 29 ∷ [])
unfolding insn_of cycles_of plan does_freely confined does place_of right ticked_devices line_of accepted read_of after_read write_of unit_plan unit_effect asks effect table_after ticked settle due arrive_inside arrive_outside perform attempt act enter begin turn move digits event_line end_line_at
pulses_0_24 = refl

-- a pulse in each cycle from 13 to 18, data 1
pulses_1_13 : map (λ c. trace (balanced 1) (pulse c) 60) (13 ∷ 14 ∷ 15 ∷ 16 ∷ 17 ∷ 18 ∷ []) ≡ map hidden_at (13 ∷ 14 ∷ 15 ∷ 16 ∷ 17 ∷ 18 ∷ [])
unfolding insn_of cycles_of plan does_freely confined does place_of right ticked_devices line_of accepted read_of after_read write_of unit_plan unit_effect asks effect table_after ticked settle due arrive_inside arrive_outside perform attempt act enter begin turn move digits event_line end_line_at
pulses_1_13 = refl

-- a pulse in each cycle from 19 to 23, data 1
pulses_1_19 : map (λ c. trace (balanced 1) (pulse c) 60) (19 ∷ 20 ∷ 21 ∷ 22 ∷ 23 ∷ []) ≡ map hidden_at (19 ∷ 20 ∷ 21 ∷ 22 ∷ 23 ∷ [])
unfolding insn_of cycles_of plan does_freely confined does place_of right ticked_devices line_of accepted read_of after_read write_of unit_plan unit_effect asks effect table_after ticked settle due arrive_inside arrive_outside perform attempt act enter begin turn move digits event_line end_line_at
pulses_1_19 = refl

-- a pulse in each cycle from 24 to 29, data 1
pulses_1_24 : map (λ c. trace (balanced 1) (pulse c) 60) (24 ∷ 25 ∷ 26 ∷ 27 ∷ 28 ∷ 29 ∷ []) ≡ map hidden_at (24 ∷ 25 ∷ 26 ∷ 27 ∷ 28 ∷ 29 ∷ [])
unfolding insn_of cycles_of plan does_freely confined does place_of right ticked_devices line_of accepted read_of after_read write_of unit_plan unit_effect asks effect table_after ticked settle due arrive_inside arrive_outside perform attempt act enter begin turn move digits event_line end_line_at
pulses_1_24 = refl

-- with a jump of two cycles made two steps of one each, the arms differ: data 0
uneven_0 : trace (with_text (0x1300 ∷ []) uneven_text 0x0322 0x0402 0) ([]) 60 ≡ codes "12 enter 1 from 0\n30 leave 1 pc 0214\n" ++ at_loop (codes "60")
unfolding insn_of cycles_of plan does_freely confined does place_of right ticked_devices line_of accepted read_of after_read write_of unit_plan unit_effect asks effect table_after ticked settle due arrive_inside arrive_outside perform attempt act enter begin turn move digits event_line end_line_at
uneven_0 = refl

-- and data 1
uneven_1 : trace (with_text (0x1300 ∷ []) uneven_text 0x0322 0x0402 1) ([]) 60 ≡ codes "12 enter 1 from 0\n29 leave 1 pc 0214\n" ++ at_loop (codes "60")
unfolding insn_of cycles_of plan does_freely confined does place_of right ticked_devices line_of accepted read_of after_read write_of unit_plan unit_effect asks effect table_after ticked settle due arrive_inside arrive_outside perform attempt act enter begin turn move digits event_line end_line_at
uneven_1 = refl
