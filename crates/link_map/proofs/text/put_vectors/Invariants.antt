use Rattle.std.proofs.Common.{◌≡◌, ◌++◌, map, drop}
use Rattle.std.specs.List.{flat_map}
use Rattle.layout_file.specs.Views.{vector_of}
use Rattle.link_map.specs.Map.{vector_line}
use Rattle.link_map.proofs.text.put_vectors.Given as goal

abbrev pub invariant-loop-vector : goal.invariant-loop-vector
invariant-loop-vector l = l.out.text.items ++ flat_map (vector_line l.memory) (map vector_of (drop l.vector-index l.vectors)) ≡ l.fn.out.text.items ++ flat_map (vector_line l.memory) (map vector_of l.vectors)
