-- Interrupts of handlers.
use Rattle.std.proofs.Common.{◌≡◌, ℕ, [], ◌∷◌, ◌++◌, refl, replicate, false, Some, None}
use Rattle.std.specs.Prelude.{codes}
use Rattle.std.specs.Fmt.{digits}
use Rattle.insn_decode.specs.Code.{insn_of}
use Rattle.cycle_table.specs.Cycles.{cycles_of}
use Rattle.mod_layout.specs.Table.{place_of}
use Rattle.pc_access.specs.Rights.{right}
use Rattle.devices.specs.Devices.{ticked_devices, line_of, accepted, read_of, after_read, write_of}
use Rattle.attest.specs.Units.{unit_plan, unit_effect}
use Rattle.cpu_step.specs.Asked.{asks, effect, table_after}
use Rattle.cpu_step.specs.Effect.{does_freely, confined, does}
use Rattle.cpu_step.specs.Plan.{plan}
use Rattle.tracer.specs.Lines.{event_line, end_line_at}
use Rattle.written_machine.specs.Cycle.{ticked, settle, due, arrive_inside, arrive_outside, perform, attempt, act, enter, begin, turn, move}
use Rattle.written_machine.specs.Trace.{trace}
use Rattle.sm_words.specs.declared.width.Width.TheVariants.{Word}
use Rattle.pc_access.specs.declared.Kind.TheVariants.{Fetch}
use Rattle.pc_access.specs.declared.Rule.TheVariants.{Reenter}
use Rattle.reg_backup.specs.Held.{held_ids}
use Rattle.reg_backup.specs.declared.frames.Frame.{Frame}
use Rattle.reg_backup.specs.declared.frames.Frame.TheVariants.{Module as Held}
use Rattle.worked_rows.proofs.Images.{second_table, interrupted, with_second, two_steps, pulse, up_until, at_loop}

-- a handler that sets GIE is interrupted, and RETI takes its own frame off first
handler_interrupted : trace (interrupted 0x0600 0x0500 (0xd232 ∷ 0x4303 ∷ 0x1300 ∷ []) 0x0600) (pulse 13 ++ pulse 26) 60 ≡ codes "12 enter 1 from 0\n13 hide 1 vector 1\n25 handler pc 0500\n26 irq 1\n34 reti\n45 resume 1\n48 leave 1 pc 0214\n" ++ at_loop (codes "60")
unfolding insn_of cycles_of plan does_freely confined does place_of right ticked_devices line_of accepted read_of after_read write_of unit_plan unit_effect asks effect table_after ticked settle due arrive_inside arrive_outside perform attempt act enter begin turn move digits event_line end_line_at
handler_interrupted = refl

-- a handler calls module 2, which is interrupted, and its handler calls it again
both_held : trace (with_second (0xd232 ∷ 0x4037 ∷ 0x050a ∷ 0x4030 ∷ 0x0700 ∷ 0x1300 ∷ []) two_steps (0x4303 ∷ 0x4700 ∷ []) 0x0704) (pulse 13 ++ pulse 32) 60 ≡ codes "12 enter 1 from 0\n13 hide 1 vector 1\n25 handler pc 0500\n31 enter 2 from 0\n32 hide 2 vector 1\n44 handler pc 0500\n50 stop Reenter pc 0700 addr 0700 module 2\nend 50 stopped\n"
unfolding insn_of cycles_of plan does_freely confined does place_of right ticked_devices line_of accepted read_of after_read write_of unit_plan unit_effect asks effect table_after ticked settle due arrive_inside arrive_outside perform attempt act enter begin turn move digits event_line end_line_at
both_held = refl

-- with eight frames a raised vector waits
eight_frames : trace (interrupted 0x0600 0x0500 (0xd232 ∷ 0x3fff ∷ []) 0x0600) (up_until 13 100) 90 ≡ codes "12 enter 1 from 0\n13 hide 1 vector 1\n25 handler pc 0500\n26 irq 1\n33 irq 1\n40 irq 1\n47 irq 1\n54 irq 1\n61 irq 1\n68 irq 1\nend 90 outside 0502 05e4 0008 0000 0000 0000 0000 0000 0000 0000 0000 0000 0000 0000 0000 0000\n"
unfolding insn_of cycles_of plan does_freely confined does place_of right ticked_devices line_of accepted read_of after_read write_of unit_plan unit_effect asks effect table_after ticked settle due arrive_inside arrive_outside perform attempt act enter begin turn move digits event_line end_line_at
eight_frames = refl

held_by : ℕ → Frame
held_by id = Held record { «module» = id; caller = 0; core = replicate 16 0; rest = 0; closing = false }

-- a module of an older frame may not be entered either
older_held : right (second_table 0x0702) None (held_ids (held_by 2 ∷ held_by 1 ∷ [])) (record { kind = Fetch; addr = 0x0300; width = Word }) ≡ Some record { rule = Reenter; addr = 0x0300; «module» = 1 }
unfolding right place_of held_by
older_held = refl
