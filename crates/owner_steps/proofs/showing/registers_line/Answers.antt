use Rattle.std.proofs.Common.{◌≡◌, ◌∙◌, ap, arith}
use Rattle.owner_steps.specs.Registers.{line_if, changed_registers}
use Rattle.owner_steps.proofs.Registers.{register_added}
use Rattle.owner_steps.proofs.showing.registers_line.Goals as goal

pub loop-n-preserved : goal.loop-n-preserved
loop-n-preserved c = record {
  text = register_added c.args.old.now c.args.new.now c.loop-n.n _ _ c.loop-n.invariant.text c.push_register.ensures.text;
  long = omega (arith, c.loop-n.invariant.long, c.push_register.ensures.most);
}

pub returns : goal.returns
returns c =
    let all : c.loop-n.n ≡ 16 = omega (arith, c.loop-n-test.false, c.loop-n.auto.n-end) in
    c.line_if.ensures ∙ ap line_if c.loop-n.invariant.text ∙ ap (λ n. line_if (changed_registers c.args.old.now c.args.new.now n)) all
