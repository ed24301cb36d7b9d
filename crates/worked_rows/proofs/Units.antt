-- Unit instructions in an interrupted module.
use Rattle.std.proofs.Common.{◌≡◌, [], ◌∷◌, ◌++◌, refl}
use Rattle.std.specs.Prelude.{codes}
use Rattle.std.specs.Fmt.{digits}
use Rattle.insn_decode.specs.Code.{insn_of}
use Rattle.cycle_table.specs.Cycles.{cycles_of}
use Rattle.mod_layout.specs.Table.{place_of}
use Rattle.pc_access.specs.Rights.{right}
use Rattle.devices.specs.Devices.{ticked_devices, line_of, accepted, read_of, after_read, write_of}
use Rattle.attest.specs.Units.{unit_plan, unit_effect}
use Rattle.cpu_step.specs.Asked.{asks, effect, table_after}
use Rattle.cpu_step.specs.Effect.{does_freely, confined, does}
use Rattle.cpu_step.specs.Plan.{plan}
use Rattle.tracer.specs.Lines.{event_line, end_line_at}
use Rattle.written_machine.specs.Cycle.{ticked, settle, due, arrive_inside, arrive_outside, perform, attempt, act, enter, begin, turn, move}
use Rattle.written_machine.specs.Trace.{trace}
use Rattle.written_machine.specs.View.{at}
use Rattle.std.proofs.Common.{take, drop, replicate}
use Rattle.worked_rows.proofs.Images.{with_text, with_second, pulse, at_loop}

-- a module reads its caller, 0, after the handler called module 2
own_caller : trace (with_second (0x4037 ∷ 0x0508 ∷ 0x4030 ∷ 0x0700 ∷ 0x1300 ∷ []) (0x4303 ∷ 0x1386 ∷ 0x4700 ∷ []) (0x4700 ∷ []) 0x0702) (pulse 13) 60 ≡ codes "12 enter 1 from 0\n13 hide 1 vector 1\n25 handler pc 0500\n30 enter 2 from 0\n32 leave 2 pc 0508\n37 resume 1\n45 leave 1 pc 0214\n" ++ at_loop (codes "60")
unfolding insn_of cycles_of plan does_freely confined does place_of right ticked_devices line_of accepted read_of after_read write_of unit_plan unit_effect asks effect table_after ticked settle due arrive_inside arrive_outside perform attempt act enter begin turn move digits event_line end_line_at
own_caller = refl

-- a module gives itself up, interrupted meanwhile
closes : trace (with_text (0x1300 ∷ []) (0x1380 ∷ 0x4700 ∷ []) 0x0304 0x0440 0x1234) (pulse 20) 80 ≡ codes "12 enter 1 from 0\n20 hide 1 vector 1\n32 handler pc 0500\n37 resume 1\n67 close 1\n" ++ at_loop (codes "80")
unfolding insn_of cycles_of plan does_freely confined does place_of right ticked_devices line_of accepted read_of after_read write_of unit_plan unit_effect asks effect table_after ticked settle due arrive_inside arrive_outside perform attempt act enter begin turn move digits event_line end_line_at
closes = refl

-- then its data are 0
data_cleared : take 64 (drop 0x0400 (at (with_text (0x1300 ∷ []) (0x1380 ∷ 0x4700 ∷ []) 0x0304 0x0440 0x1234) (pulse 20) 80).memory) ≡ replicate 64 0
unfolding insn_of cycles_of plan does_freely confined does place_of right ticked_devices line_of accepted read_of after_read write_of unit_plan unit_effect asks effect table_after ticked settle due arrive_inside arrive_outside perform attempt act enter begin turn move digits event_line end_line_at
data_cleared = refl

-- a handler that reads the data of a module that is giving itself up
reads_closing_data : trace (with_text (0x4215 ∷ 0x0400 ∷ []) (0x1380 ∷ 0x4700 ∷ []) 0x0304 0x0440 0x1234) (pulse 20) 80 ≡ codes "12 enter 1 from 0\n20 hide 1 vector 1\n32 handler pc 0500\n32 stop ReadData pc 0500 addr 0400 module 1\nend 32 stopped\n"
unfolding insn_of cycles_of plan does_freely confined does place_of right ticked_devices line_of accepted read_of after_read write_of unit_plan unit_effect asks effect table_after ticked settle due arrive_inside arrive_outside perform attempt act enter begin turn move digits event_line end_line_at
reads_closing_data = refl

-- a module that module 1 called is interrupted, and still reads its caller, 1
caller_kept : trace (with_second (0x1300 ∷ []) (0x4303 ∷ 0x4030 ∷ 0x0700 ∷ []) (0x4303 ∷ 0x1386 ∷ 0x4700 ∷ []) 0x0706) (pulse 17) 60 ≡ codes "12 enter 1 from 0\n16 leave 1 pc 0700\n16 enter 2 from 1\n17 hide 2 vector 1\n29 handler pc 0500\n34 resume 2\n42 leave 2 pc 0214\nend 60 outside 0214 0600 0008 0000 0000 0000 0000 0214 0000 0000 0000 0000 0000 0000 0000 0001\n"
unfolding insn_of cycles_of plan does_freely confined does place_of right ticked_devices line_of accepted read_of after_read write_of unit_plan unit_effect asks effect table_after ticked settle due arrive_inside arrive_outside perform attempt act enter begin turn move digits event_line end_line_at
caller_kept = refl
