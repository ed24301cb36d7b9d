use Rattle.std.proofs.Common.{◌≡◌, take, Ok}
use Rattle.toml.specs.View.{items_view}
use Rattle.layout_file.specs.Rows as rows
use Rattle.layout_file.specs.internal.Views.{table_members}
use Rattle.layout_file.proofs.rows.inner_tables.Given as goal

abbrev pub invariant-loop-item : goal.invariant-loop-item
invariant-loop-item l = rows.inner_tables l.spot (rows.item_list (items_view (take l.item-index l.items))) ≡ Ok (table_members l.found)
