-- Interrupts of a module and of the outside around its call.
use Rattle.std.proofs.Common.{◌≡◌, [], ◌∷◌, ◌++◌, refl}
use Rattle.std.specs.Prelude.{codes}
use Rattle.std.specs.Fmt.{digits}
use Rattle.insn_decode.specs.Code.{insn_of}
use Rattle.cycle_table.specs.Cycles.{cycles_of}
use Rattle.mod_layout.specs.Table.{place_of}
use Rattle.pc_access.specs.Rights.{right}
use Rattle.devices.specs.Devices.{ticked_devices, line_of, accepted, read_of, after_read, write_of}
use Rattle.attest.specs.Units.{unit_plan, unit_effect}
use Rattle.cpu_step.specs.Asked.{asks, effect, table_after}
use Rattle.cpu_step.specs.Effect.{does_freely, confined, does}
use Rattle.cpu_step.specs.Plan.{plan}
use Rattle.tracer.specs.Lines.{event_line, end_line_at}
use Rattle.written_machine.specs.Cycle.{ticked, settle, due, arrive_inside, arrive_outside, perform, attempt, act, enter, begin, turn, move}
use Rattle.written_machine.specs.Trace.{trace}
use Rattle.worked_rows.proofs.Images.{interrupted, with_text, pulse, up_until, at_loop}

-- no interrupt
no_pulse : trace (interrupted 0x0600 0x0500 (0x1300 ∷ []) 0x0600) ([]) 40 ≡ codes "12 enter 1 from 0\n16 leave 1 pc 0214\n" ++ at_loop (codes "40")
unfolding insn_of cycles_of plan does_freely confined does place_of right ticked_devices line_of accepted read_of after_read write_of unit_plan unit_effect asks effect table_after ticked settle due arrive_inside arrive_outside perform attempt act enter begin turn move digits event_line end_line_at
no_pulse = refl

-- an interrupt of the module: 12 cycles until the handler, 5 for RETI, and the rest of the call
pulse_13 : trace (interrupted 0x0600 0x0500 (0x1300 ∷ []) 0x0600) (pulse 13) 40 ≡ codes "12 enter 1 from 0\n13 hide 1 vector 1\n25 handler pc 0500\n30 resume 1\n33 leave 1 pc 0214\n" ++ at_loop (codes "40")
unfolding insn_of cycles_of plan does_freely confined does place_of right ticked_devices line_of accepted read_of after_read write_of unit_plan unit_effect asks effect table_after ticked settle due arrive_inside arrive_outside perform attempt act enter begin turn move digits event_line end_line_at
pulse_13 = refl

-- in its last cycle
pulse_15 : trace (interrupted 0x0600 0x0500 (0x1300 ∷ []) 0x0600) (pulse 15) 40 ≡ codes "12 enter 1 from 0\n15 hide 1 vector 1\n27 handler pc 0500\n32 resume 1\n33 leave 1 pc 0214\n" ++ at_loop (codes "40")
unfolding insn_of cycles_of plan does_freely confined does place_of right ticked_devices line_of accepted read_of after_read write_of unit_plan unit_effect asks effect table_after ticked settle due arrive_inside arrive_outside perform attempt act enter begin turn move digits event_line end_line_at
pulse_15 = refl

-- in the cycle in which it is left
pulse_16 : trace (interrupted 0x0600 0x0500 (0x1300 ∷ []) 0x0600) (pulse 16) 40 ≡ codes "12 enter 1 from 0\n16 leave 1 pc 0214\n16 irq 1\n22 reti\n" ++ at_loop (codes "40")
unfolding insn_of cycles_of plan does_freely confined does place_of right ticked_devices line_of accepted read_of after_read write_of unit_plan unit_effect asks effect table_after ticked settle due arrive_inside arrive_outside perform attempt act enter begin turn move digits event_line end_line_at
pulse_16 = refl

-- before its entry's fetch
pulse_12 : trace (interrupted 0x0600 0x0500 (0x1300 ∷ []) 0x0600) (pulse 12) 40 ≡ codes "12 irq 1\n18 reti\n23 enter 1 from 0\n27 leave 1 pc 0214\n" ++ at_loop (codes "40")
unfolding insn_of cycles_of plan does_freely confined does place_of right ticked_devices line_of accepted read_of after_read write_of unit_plan unit_effect asks effect table_after ticked settle due arrive_inside arrive_outside perform attempt act enter begin turn move digits event_line end_line_at
pulse_12 = refl

-- a line that stays up while it is handled
stays_up : trace (interrupted 0x0600 0x0500 (0x1300 ∷ []) 0x0600) (up_until 13 31) 60 ≡ codes "12 enter 1 from 0\n13 hide 1 vector 1\n25 handler pc 0500\n30 resume 1\n30 hide 1 vector 1\n42 handler pc 0500\n47 resume 1\n50 leave 1 pc 0214\n" ++ at_loop (codes "60")
unfolding insn_of cycles_of plan does_freely confined does place_of right ticked_devices line_of accepted read_of after_read write_of unit_plan unit_effect asks effect table_after ticked settle due arrive_inside arrive_outside perform attempt act enter begin turn move digits event_line end_line_at
stays_up = refl

-- a handler that enters the held module
reenters : trace (interrupted 0x0600 0x0500 (0x4030 ∷ 0x0300 ∷ []) 0x0600) (pulse 13) 40 ≡ codes "12 enter 1 from 0\n13 hide 1 vector 1\n25 handler pc 0500\n28 stop Reenter pc 0300 addr 0300 module 1\nend 28 stopped\n"
unfolding insn_of cycles_of plan does_freely confined does place_of right ticked_devices line_of accepted read_of after_read write_of unit_plan unit_effect asks effect table_after ticked settle due arrive_inside arrive_outside perform attempt act enter begin turn move digits event_line end_line_at
reenters = refl

-- pushes that are refused, since SP is past a module's data
pushes_into_data : trace (interrupted 0x0402 0x0500 (0x1300 ∷ []) 0x0600) (pulse 16) 40 ≡ codes "12 enter 1 from 0\n16 leave 1 pc 0214\n16 stop WriteData pc 0214 addr 0400 module 1\nend 16 stopped\n"
unfolding insn_of cycles_of plan does_freely confined does place_of right ticked_devices line_of accepted read_of after_read write_of unit_plan unit_effect asks effect table_after ticked settle due arrive_inside arrive_outside perform attempt act enter begin turn move digits event_line end_line_at
pushes_into_data = refl

-- a vector that is the module's entry
vector_at_entry : trace (interrupted 0x0600 0x0300 (0x1300 ∷ []) 0x0600) (pulse 16) 40 ≡ codes "12 enter 1 from 0\n16 leave 1 pc 0214\n16 irq 1\n22 enter 1 from 0\n26 leave 1 pc 0214\nend 40 outside 0214 05fc 0000 0000 0000 0000 0000 0214 0000 0000 0000 0000 0000 0000 0000 0000\n"
unfolding insn_of cycles_of plan does_freely confined does place_of right ticked_devices line_of accepted read_of after_read write_of unit_plan unit_effect asks effect table_after ticked settle due arrive_inside arrive_outside perform attempt act enter begin turn move digits event_line end_line_at
vector_at_entry = refl

-- a vector past its entry
vector_past_entry : trace (interrupted 0x0600 0x0302 (0x1300 ∷ []) 0x0600) (pulse 16) 40 ≡ codes "12 enter 1 from 0\n16 leave 1 pc 0214\n16 irq 1\n22 stop FetchNotEntry pc 0302 addr 0302 module 1\nend 22 stopped\n"
unfolding insn_of cycles_of plan does_freely confined does place_of right ticked_devices line_of accepted read_of after_read write_of unit_plan unit_effect asks effect table_after ticked settle due arrive_inside arrive_outside perform attempt act enter begin turn move digits event_line end_line_at
vector_past_entry = refl

-- a vector that is the held module's entry
vector_at_held : trace (interrupted 0x0600 0x0300 (0x1300 ∷ []) 0x0600) (pulse 13) 40 ≡ codes "12 enter 1 from 0\n13 hide 1 vector 1\n25 handler pc 0300\n25 stop Reenter pc 0300 addr 0300 module 1\nend 25 stopped\n"
unfolding insn_of cycles_of plan does_freely confined does place_of right ticked_devices line_of accepted read_of after_read write_of unit_plan unit_effect asks effect table_after ticked settle due arrive_inside arrive_outside perform attempt act enter begin turn move digits event_line end_line_at
vector_at_held = refl

-- a handler that pushes into the data of the held module
handler_in_data : trace (interrupted 0x0600 0x0500 (0x1204 ∷ []) 0x0402) (pulse 13) 40 ≡ codes "12 enter 1 from 0\n13 hide 1 vector 1\n25 handler pc 0500\n25 stop WriteData pc 0500 addr 0400 module 1\nend 25 stopped\n"
unfolding insn_of cycles_of plan does_freely confined does place_of right ticked_devices line_of accepted read_of after_read write_of unit_plan unit_effect asks effect table_after ticked settle due arrive_inside arrive_outside perform attempt act enter begin turn move digits event_line end_line_at
handler_in_data = refl

-- the handler sees none of the module's registers: R4 was 1
registers_cleared : trace (with_text (0x3fff ∷ []) (0x4314 ∷ 0x4303 ∷ 0x4700 ∷ []) 0x0306 0x0402 0) (pulse 13) 40 ≡ codes "12 enter 1 from 0\n13 hide 1 vector 1\n25 handler pc 0500\nend 40 outside 0500 0600 0000 0000 0000 0000 0000 0000 0000 0000 0000 0000 0000 0000 0000 0000\n"
unfolding insn_of cycles_of plan does_freely confined does place_of right ticked_devices line_of accepted read_of after_read write_of unit_plan unit_effect asks effect table_after ticked settle due arrive_inside arrive_outside perform attempt act enter begin turn move digits event_line end_line_at
registers_cleared = refl
