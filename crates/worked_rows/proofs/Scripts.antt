-- What scripts show.
use Rattle.std.proofs.Common.{◌≡◌, [], ◌∷◌, refl}
use Rattle.std.specs.Prelude.{codes}
use Rattle.std.specs.Fmt.{digits}
use Rattle.insn_decode.specs.Code.{insn_of}
use Rattle.cycle_table.specs.Cycles.{cycles_of}
use Rattle.mod_layout.specs.Table.{place_of}
use Rattle.pc_access.specs.Rights.{right}
use Rattle.devices.specs.Devices.{ticked_devices, line_of, accepted, read_of, after_read, write_of}
use Rattle.attest.specs.Units.{unit_plan, unit_effect}
use Rattle.cpu_step.specs.Asked.{asks, effect, table_after}
use Rattle.cpu_step.specs.Effect.{does_freely, confined, does}
use Rattle.cpu_step.specs.Plan.{plan}
use Rattle.tracer.specs.Lines.{event_line, end_line_at}
use Rattle.written_machine.specs.Cycle.{ticked, settle, due, arrive_inside, arrive_outside, perform, attempt, act, enter, begin, turn, move}
use Rattle.written_machine.specs.Marks.{unmarked}
use Rattle.written_machine.specs.Script.{regs_text, mem_text, mark_text, full_text, back_text, no_mark_text, last_text, not_there_text, play}
use Rattle.written_machine.specs.Standing.{stands_at}
use Rattle.written_machine.specs.View.{boot, view_of}
use Rattle.written_machine.specs.declared.ScriptLine.TheVariants.{Go, Until, Regs, Mem, Mark, Back, Last}
use Rattle.worked_rows.proofs.Images.{caller}

-- what a script sees of a module that is active
looks : play (unmarked 16 (boot (caller 0x0300 0xab00 (0x4700 ∷ []) 0x0302) [])) (Go 6 ∷ Regs ∷ Mem 0x0400 2 ∷ Mem 0x0402 1 ∷ []) ≡ codes "5 enter 1 from 0\nregs 6 inside 1\nrefused ReadData addr 0400 module 1\n0402: 00\nend 6 inside 1\n"
unfolding insn_of cycles_of plan does_freely confined does place_of right ticked_devices line_of accepted read_of after_read write_of unit_plan unit_effect asks effect table_after ticked settle due arrive_inside arrive_outside perform attempt act enter begin turn move digits event_line end_line_at view_of stands_at regs_text mem_text mark_text full_text back_text no_mark_text last_text not_there_text
looks = refl

-- until the outside stands at 0x0208 again
goes_until : play (unmarked 16 (boot (caller 0x0300 0xab00 (0x4700 ∷ []) 0x0302) [])) (Until 0x0208 100 ∷ Regs ∷ []) ≡ codes "5 enter 1 from 0\n7 leave 1 pc 0208\nregs 9 outside 0208 0000 0000 0000 0000 0000 0000 0208 0000 0000 0000 0000 0000 0000 0000 0000\nend 9 outside 0208 0000 0000 0000 0000 0000 0000 0208 0000 0000 0000 0000 0000 0000 0000 0000\n"
unfolding insn_of cycles_of plan does_freely confined does place_of right ticked_devices line_of accepted read_of after_read write_of unit_plan unit_effect asks effect table_after ticked settle due arrive_inside arrive_outside perform attempt act enter begin turn move digits event_line end_line_at view_of stands_at regs_text mem_text mark_text full_text back_text no_mark_text last_text not_there_text
goes_until = refl

-- back to a mark, and on from there
goes_back : play (unmarked 16 (boot (caller 0x0300 0xab00 (0x4700 ∷ []) 0x0302) [])) (Mark ∷ Go 6 ∷ Back 0 ∷ Go 6 ∷ []) ≡ codes "mark 0 at 0\n5 enter 1 from 0\nback 0 at 0\n5 enter 1 from 0\nend 6 inside 1\n"
unfolding insn_of cycles_of plan does_freely confined does place_of right ticked_devices line_of accepted read_of after_read write_of unit_plan unit_effect asks effect table_after ticked settle due arrive_inside arrive_outside perform attempt act enter begin turn move digits event_line end_line_at view_of stands_at regs_text mem_text mark_text full_text back_text no_mark_text last_text not_there_text
goes_back = refl

-- to the last cycle that began the loop
finds_last : play (unmarked 16 (boot (caller 0x0300 0xab00 (0x4700 ∷ []) 0x0302) [])) (Mark ∷ Go 12 ∷ Last 0x0208 0 ∷ Back 3 ∷ []) ≡ codes "mark 0 at 0\n5 enter 1 from 0\n7 leave 1 pc 0208\nlast 0208 at 11\nrefused NoMark 3\nend 11 outside 0208 0000 0000 0000 0000 0000 0000 0208 0000 0000 0000 0000 0000 0000 0000 0000\n"
unfolding insn_of cycles_of plan does_freely confined does place_of right ticked_devices line_of accepted read_of after_read write_of unit_plan unit_effect asks effect table_after ticked settle due arrive_inside arrive_outside perform attempt act enter begin turn move digits event_line end_line_at view_of stands_at regs_text mem_text mark_text full_text back_text no_mark_text last_text not_there_text
finds_last = refl
