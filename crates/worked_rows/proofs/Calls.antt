-- Calls of a module by the outside.
use Rattle.std.proofs.Common.{◌≡◌, [], ◌∷◌, refl}
use Rattle.std.specs.Prelude.{codes}
use Rattle.std.specs.Fmt.{digits}
use Rattle.insn_decode.specs.Code.{insn_of}
use Rattle.cycle_table.specs.Cycles.{cycles_of}
use Rattle.mod_layout.specs.Table.{place_of}
use Rattle.pc_access.specs.Rights.{right}
use Rattle.devices.specs.Devices.{ticked_devices, line_of, accepted, read_of, after_read, write_of}
use Rattle.attest.specs.Units.{unit_plan, unit_effect}
use Rattle.cpu_step.specs.Asked.{asks, effect, table_after}
use Rattle.cpu_step.specs.Effect.{does_freely, confined, does}
use Rattle.cpu_step.specs.Plan.{plan}
use Rattle.tracer.specs.Lines.{event_line, end_line_at}
use Rattle.written_machine.specs.Cycle.{ticked, settle, due, arrive_inside, arrive_outside, perform, attempt, act, enter, begin, turn, move}
use Rattle.written_machine.specs.Trace.{trace}
use Rattle.worked_rows.proofs.Images.{caller}

-- a call whose data are one thing
called : trace (caller 0x0300 0xab00 (0x4700 ∷ []) 0x0302) ([]) 10 ≡ codes "5 enter 1 from 0\n7 leave 1 pc 0208\nend 10 outside 0208 0000 0000 0000 0000 0000 0000 0208 0000 0000 0000 0000 0000 0000 0000 0000\n"
unfolding insn_of cycles_of plan does_freely confined does place_of right ticked_devices line_of accepted read_of after_read write_of unit_plan unit_effect asks effect table_after ticked settle due arrive_inside arrive_outside perform attempt act enter begin turn move digits event_line end_line_at
called = refl

-- or another
called_with_others : trace (caller 0x0300 0xcd00 (0x4700 ∷ []) 0x0302) ([]) 10 ≡ codes "5 enter 1 from 0\n7 leave 1 pc 0208\nend 10 outside 0208 0000 0000 0000 0000 0000 0000 0208 0000 0000 0000 0000 0000 0000 0000 0000\n"
unfolding insn_of cycles_of plan does_freely confined does place_of right ticked_devices line_of accepted read_of after_read write_of unit_plan unit_effect asks effect table_after ticked settle due arrive_inside arrive_outside perform attempt act enter begin turn move digits event_line end_line_at
called_with_others = refl

-- a jump past the entry
past_the_entry : trace (caller 0x0302 0xab00 (0x4700 ∷ []) 0x0304) ([]) 10 ≡ codes "5 stop FetchNotEntry pc 0302 addr 0302 module 1\nend 5 stopped\n"
unfolding insn_of cycles_of plan does_freely confined does place_of right ticked_devices line_of accepted read_of after_read write_of unit_plan unit_effect asks effect table_after ticked settle due arrive_inside arrive_outside perform attempt act enter begin turn move digits event_line end_line_at
past_the_entry = refl

-- a jump into the data
into_the_data : trace (caller 0x0400 0xab00 (0x4700 ∷ []) 0x0304) ([]) 10 ≡ codes "5 stop FetchData pc 0400 addr 0400 module 1\nend 5 stopped\n"
unfolding insn_of cycles_of plan does_freely confined does place_of right ticked_devices line_of accepted read_of after_read write_of unit_plan unit_effect asks effect table_after ticked settle due arrive_inside arrive_outside perform attempt act enter begin turn move digits event_line end_line_at
into_the_data = refl
