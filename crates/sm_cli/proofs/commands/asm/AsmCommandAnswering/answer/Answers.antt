use Rattle.std.proofs.Common.{[], ◌∷◌, refl, ◌∙◌}
use Rattle.asm_text.specs.Unit.{unit_of}
use Rattle.obj_write.specs.Object.{object_of}
use Rattle.cli_files.specs.declared.answers.Status.TheVariants.{Done}
use Rattle.cli_files.specs.Files.{a_unit}
use Rattle.sm_cli.specs.AsmCommand.{asm_command}
use Rattle.cli_calls.proofs.Given.{put_answer}
use Rattle.sm_cli.proofs.commands.asm.AsmCommandAnswering.answer.Goals as goal

pub returns-in-Ok-write_object-clause-ok : goal.returns-in-Ok-write_object-clause-ok
returns-in-Ok-write_object-clause-ok g c =
    let unit = unit_of c.in-Ok.unit in
    put_answer g.O.Sink.taken g.O.Sink.faults g.O.Sink.sure _ _ (g.F.Files.content c.args.files.now) (asm_command c.args.self.now.source.now) (record { text = object_of unit; status = Done }) c.as_slice.result.now _ _
    (record { helds = a_unit unit ∷ []; hold = (c.in-Ok.ensures.holds, tt); is = refl }) refl (c.as_slice.ensures.value ∙ c.in-Ok-write_object.ensures.bytes) c.put_all.ensures.put c.status_after.ensures
