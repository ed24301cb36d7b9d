use Rattle.std.proofs.Common.{◌≡◌, take, map, length, Ok}
use Rattle.toml.specs.View.{table_view}
use Rattle.layout_file.specs.Layout.{modules_in}
use Rattle.layout_file.specs.Views.{modules_of}
use Rattle.layout_file.proofs.read.modules.Given as goal

abbrev pub invariant-loop-number : goal.invariant-loop-number
invariant-loop-number l = record {
  read : modules_in l.version (take l.number (map (λ t. table_view t.now) l.tables)) ≡ Ok (modules_of l.found);
  count : length l.found.items ≡ l.number;
}
