use Rattle.std.proofs.Common.{◌≡◌, drop, map}
use Rattle.std.specs.Prelude.{slice_index}
use Rattle.layout_file.specs.Views.{module_value}
use Rattle.link_symbols.specs.Passes.{fold_at}
use Rattle.linker.specs.Stubs.{put_stub}
use Rattle.linker.specs.internal.Resolved.{linking_by}
use Rattle.linker.proofs.stubs.put_stubs.Given as goal

abbrev pub invariant-loop-number : goal.invariant-loop-number
invariant-loop-number l = fold_at (put_stub (linking_by l.resolved.objects l.placement.addresses.items) (slice_index l.placement.ends.items)) l.fn.memory 0 (map module_value l.modules) ≡ fold_at (put_stub (linking_by l.resolved.objects l.placement.addresses.items) (slice_index l.placement.ends.items)) l.memory l.number (drop l.number (map module_value l.modules))
