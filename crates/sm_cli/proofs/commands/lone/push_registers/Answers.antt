use Rattle.std.proofs.Common.{arith}
use Rattle.tracer.proofs.Registers.{one_more}
use Rattle.sm_cli.proofs.commands.lone.push_registers.Goals as goal

pub loop-number-preserved : goal.loop-number-preserved
loop-number-preserved c = record {
  text = one_more _ _ _ _ _ _ _ c.loop-number.invariant.text c.push_str.ensures.bytes c.get.ensures.word c.push_hex_word.ensures.text;
  length_so_far = omega arith;
}
