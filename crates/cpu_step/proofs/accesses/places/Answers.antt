use Rattle.std.proofs.Common.{sym}
use Rattle.cpu_step.proofs.Forms.{plan_two_form}
use Rattle.cpu_step.proofs.accesses.places.Goals as goal

pub returns : goal.returns
returns c =
    record {
      planned =
          sym (plan_two_form c.args.insn.now c.args.core.now c.args.op c.args.width c.args.src c.args.dst _ _ _ _ _ _
          c.requires.form c.step_past.ensures c.extension-extension.ensures c.place-source.ensures c.increment.ensures c.second_extension.ensures c.place-destination.ensures);
    }
