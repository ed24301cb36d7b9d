use Rattle.mem_map.proofs.MarkLemmas.{first_marked}
use Rattle.mem_map.proofs.Memory.with_marks.Goals as goal

pub invariant_of-result : goal.invariant_of-result
invariant_of-result c = rw (c.in_ok-filled.ensures, c.new.ensures) (first_marked c.args.bytes.now c.args.marks c.requires.most)
