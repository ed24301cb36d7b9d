-- Images without modules.
use Rattle.std.proofs.Common.{◌≡◌, [], ◌∷◌, refl}
use Rattle.std.specs.Prelude.{codes}
use Rattle.std.specs.Fmt.{digits}
use Rattle.insn_decode.specs.Code.{insn_of}
use Rattle.cycle_table.specs.Cycles.{cycles_of}
use Rattle.mod_layout.specs.Table.{place_of}
use Rattle.pc_access.specs.Rights.{right}
use Rattle.devices.specs.Devices.{ticked_devices, line_of, accepted, read_of, after_read, write_of}
use Rattle.attest.specs.Units.{unit_plan, unit_effect}
use Rattle.cpu_step.specs.Asked.{asks, effect, table_after}
use Rattle.cpu_step.specs.Effect.{does_freely, confined, does}
use Rattle.cpu_step.specs.Plan.{plan}
use Rattle.tracer.specs.Lines.{event_line, end_line_at}
use Rattle.written_machine.specs.Cycle.{ticked, settle, due, arrive_inside, arrive_outside, perform, attempt, act, enter, begin, turn, move}
use Rattle.written_machine.specs.Trace.{trace}
use Rattle.worked_rows.proofs.Images.{with_words, zeros, image, bare, pulse}

-- an image of zeros, before its first cycle
nothing : trace (image zeros [] 0 0) ([]) 0 ≡ codes "end 0 outside 0000 0000 0000 0000 0000 0000 0000 0000 0000 0000 0000 0000 0000 0000 0000 0000\n"
unfolding insn_of cycles_of plan does_freely confined does place_of right ticked_devices line_of accepted read_of after_read write_of unit_plan unit_effect asks effect table_after ticked settle due arrive_inside arrive_outside perform attempt act enter begin turn move digits event_line end_line_at
nothing = refl

-- an image of zeros stops at once
fetches_device : trace (image zeros [] 0 0) ([]) 1 ≡ codes "0 stop FetchDevice pc 0000 addr 0000 module 0\nend 0 stopped\n"
unfolding insn_of cycles_of plan does_freely confined does place_of right ticked_devices line_of accepted read_of after_read write_of unit_plan unit_effect asks effect table_after ticked settle due arrive_inside arrive_outside perform attempt act enter begin turn move digits event_line end_line_at
fetches_device = refl

-- MOV takes two cycles, and changes R5 in the first
first_cycle : trace (bare (0x4035 ∷ 0x1234 ∷ 0x4303 ∷ 0x3fff ∷ [])) ([]) 1 ≡ codes "end 1 outside 0204 0000 0000 0000 0000 1234 0000 0000 0000 0000 0000 0000 0000 0000 0000 0000\n"
unfolding insn_of cycles_of plan does_freely confined does place_of right ticked_devices line_of accepted read_of after_read write_of unit_plan unit_effect asks effect table_after ticked settle due arrive_inside arrive_outside perform attempt act enter begin turn move digits event_line end_line_at
first_cycle = refl

-- the first cycle of the jump
in_the_jump : trace (bare (0x4035 ∷ 0x1234 ∷ 0x4303 ∷ 0x3fff ∷ [])) ([]) 4 ≡ codes "end 4 outside 0206 0000 0000 0000 0000 1234 0000 0000 0000 0000 0000 0000 0000 0000 0000 0000\n"
unfolding insn_of cycles_of plan does_freely confined does place_of right ticked_devices line_of accepted read_of after_read write_of unit_plan unit_effect asks effect table_after ticked settle due arrive_inside arrive_outside perform attempt act enter begin turn move digits event_line end_line_at
in_the_jump = refl

-- a byte sent
sends : trace (bare (0x40f2 ∷ 0x0041 ∷ 0x0071 ∷ 0x3fff ∷ [])) ([]) 3 ≡ codes "0 out 41\nend 3 outside 0206 0000 0000 0000 0000 0000 0000 0000 0000 0000 0000 0000 0000 0000 0000 0000\n"
unfolding insn_of cycles_of plan does_freely confined does place_of right ticked_devices line_of accepted read_of after_read write_of unit_plan unit_effect asks effect table_after ticked settle due arrive_inside arrive_outside perform attempt act enter begin turn move digits event_line end_line_at
sends = refl

-- an interrupt ends a sleep, and RETI begins it again
wakes : trace (image (with_words 0xfffe (0x0200 ∷ []) (with_words 0xffe2 (0x0500 ∷ []) (with_words 0x0500 (0x1300 ∷ []) (with_words 0x0200 (0x4031 ∷ 0x0600 ∷ 0x43d2 ∷ 0x0040 ∷ 0xd032 ∷ 0x0018 ∷ 0x4303 ∷ 0x3fff ∷ []) zeros)))) [] 0 0) (pulse 20) 40 ≡ codes "20 irq 1\n26 reti\nend 40 outside 020c 0600 0018 0000 0000 0000 0000 0000 0000 0000 0000 0000 0000 0000 0000 0000\n"
unfolding insn_of cycles_of plan does_freely confined does place_of right ticked_devices line_of accepted read_of after_read write_of unit_plan unit_effect asks effect table_after ticked settle due arrive_inside arrive_outside perform attempt act enter begin turn move digits event_line end_line_at
wakes = refl
