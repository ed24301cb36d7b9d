use Rattle.layout_file.specs.Views.{vector_of}
use Rattle.link_map.specs.Map.{vector_line}
use Rattle.link_map.proofs.Steps.{flat_more, flat_end}
use Rattle.link_map.proofs.text.put_vectors.Goals as goal

pub loop-vector-preserved : goal.loop-vector-preserved
loop-vector-preserved c =
    flat_more (vector_line c.args.memory.now) vector_of c.args.vectors.now c.loop-vector.vector-index c.vector-item.result c.vector-item.result c.loop-vector.out.text.items c.put_vector.new.out.text.items _ c.loop-vector-test.true c.vector-item.is c.loop-vector.invariant c.in_ok-put_vector.ensures

pub returns : goal.returns
returns c = flat_end (vector_line c.args.memory.now) vector_of c.args.vectors.now c.loop-vector.vector-index c.loop-vector.out.text.items _ c.loop-vector-test.false c.loop-vector.invariant
