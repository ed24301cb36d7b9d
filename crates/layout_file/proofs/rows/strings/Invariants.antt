use Rattle.std.proofs.Common.{◌≡◌, take, Ok}
use Rattle.toml.specs.View.{items_view}
use Rattle.layout_file.specs.Rows as rows
use Rattle.layout_file.specs.Views.{string_values}
use Rattle.layout_file.proofs.rows.strings.Given as goal

abbrev pub invariant-loop-item : goal.invariant-loop-item
invariant-loop-item l = rows.strings l.spot (rows.item_list (items_view (take l.item-index l.items))) ≡ Ok (string_values l.names)
