-- What the code's own invariants say of: Views.
use Rattle.std.specs.Prelude.{List, [], ◌∷◌, map, Option, Some, None, String, Vec}
use Rattle.std.specs.Borrow.{Bor}
use Rattle.std.specs.BTreeMap.{BTreeMap}
use Rattle.std.specs.declared.alloc.Global.{Global}
use Rattle.toml.specs.Data.{Members}
use Rattle.toml.specs.View.{table_view}
use Rattle.toml.specs.declared.value.Value.{Value}
use Rattle.layout_file.specs.Values.{VectorValue}
use Rattle.layout_file.specs.declared.parts.VectorName.{VectorName}
use Rattle.layout_file.specs.Views.{vector_of}

abbrev pub vector_list : Option VectorName → List VectorValue
vector_list None = []
vector_list (Some v) = vector_of v ∷ []

abbrev pub table_members : Vec (Bor (BTreeMap (String Global) Value)) Global → List Members
table_members v = map (λ t. table_view t.now) v.items
