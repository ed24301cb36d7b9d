use Rattle.std.proofs.Common.{◌≡◌, take, Ok}
use Rattle.toml.specs.View.{table_view}
use Rattle.layout_file.specs.Checked.{gather}
use Rattle.layout_file.specs.Rows.{vector_at, vector_keys}
use Rattle.layout_file.specs.Views.{vectors_of}
use Rattle.layout_file.proofs.rows.named_vectors.Given as goal

abbrev pub invariant-loop-number : goal.invariant-loop-number
invariant-loop-number l = gather (vector_at l.spot (table_view l.table)) 0 (take l.number vector_keys) ≡ Ok (vectors_of l.vectors)
