use Rattle.std.proofs.Common.{arith}
use Rattle.tracer.proofs.Registers.{one_more}
use Rattle.monitor.proofs.showing.push_registers.Goals as goal

pub loop-n-preserved : goal.loop-n-preserved
loop-n-preserved c = record {
  text = one_more _ _ _ _ _ _ _ c.loop-n.invariant.text c.push_str.ensures.bytes c.register.ensures c.push_hex_word.ensures.text;
  length_so_far = omega arith;
}
