use Rattle.std.proofs.Common.{◌≡◌, drop, map}
use Rattle.link_symbols.specs.internal.Maps.{meaning_of_name}
use Rattle.layout_file.specs.Views.{vector_of}
use Rattle.mod_layout.specs.First.{first_in}
use Rattle.link_symbols.specs.Refusals.{no_vector_at}
use Rattle.link_symbols.proofs.check.check_vectors.Given as goal

abbrev pub invariant-loop-vector : goal.invariant-loop-vector
invariant-loop-vector l = first_in (no_vector_at (meaning_of_name l.names)) (map vector_of l.vectors) ≡ first_in (no_vector_at (meaning_of_name l.names)) (drop l.vector-index (map vector_of l.vectors))
