use Rattle.std.proofs.Common.{sym, ◌∙◌, ap, subst, arith}
use Rattle.mod_layout.specs.Table.{Table}
use Rattle.image_text.specs.internal.Reading.{ModulesSoFar}
use Rattle.image_text.proofs.StageLemmas.{modules_more, modules_done}
use Rattle.image_text.proofs.reader.read_modules.Goals as goal

pub loop-left-preserved : goal.loop-left-preserved
loop-left-preserved c =
    let a = c.in_ok-add_module.ensures.added in
    let more = modules_more c.args.room c.args.due c.args.lines.now c.loop-left.table c.add_module.new.table c.loop-left.lines c.add_module.new.lines c.loop-left.left c.loop-left.invariant.so_far a c.in_ok-add_module.ensures.table (sym c.is_due.ensures ∙ c.loop-left-test.true) in
    let given = ap (λ (t : Table). t.given) a.table in
    record {
      so_far = subst (λ o. ModulesSoFar c.args.room c.args.due c.args.lines.now c.add_module.new.table c.add_module.new.lines o) (sym c.one_less-left.ensures) more;
      module_is = omega (arith, given, c.loop-left.invariant.module_is);
    }

pub returns-clause-passed : goal.returns-clause-passed
returns-clause-passed c = modules_done c.args.room c.args.due c.args.lines.now c.loop-left.table c.loop-left.lines c.loop-left.left c.loop-left.invariant.so_far (sym c.is_due.ensures ∙ c.loop-left-test.false)
