use Rattle.std.proofs.Common.{◌++◌, ◌∙◌, ap, arith}
use Rattle.written_machine.specs.Script.{byte_text}
use Rattle.written_machine.specs.View.{view_of}
use Rattle.monitor.proofs.Pieces.{bytes_next}
use Rattle.monitor.proofs.showing.push_memory.Goals as goal

pub loop-i-preserved : goal.loop-i-preserved
loop-i-preserved c = record {
  text = bytes_next (view_of c.args.view.now.state c.args.view.now.hidden) c.args.addr c.loop-i.i _ _ _ c.loop-i.invariant.text (c.push_seen.ensures.text ∙ ap (λ o. c.loop-i.out.bytes ++ byte_text o) c.byte.ensures.shown);
  length_so_far = omega (arith, c.loop-i.invariant.length_so_far, c.push_seen.ensures.most);
}
