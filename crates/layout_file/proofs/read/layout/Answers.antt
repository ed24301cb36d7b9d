use Rattle.std.proofs.Common.{◌≡◌, Ok, arith}
use Rattle.std.proofs.lemmas.Grind.{common_steps}
use Rattle.toml.specs.View.{table_view}
use Rattle.layout_file.specs.Layout as layout
use Rattle.layout_file.specs.Views.{vectors_of, modules_of}
use Rattle.layout_file.proofs.SoundLemmas.{IsLayout-layout_in}
use Rattle.layout_file.proofs.read.layout.Goals as goal

pub invariant_of-result : goal.invariant_of-result
invariant_of-result c =
    let whole : layout.layout_in (table_view c.args.table.now) ≡ Ok (record {
      room = c.room_of-room.result;
      key = c.in_ok-key.key;
      handler_sp = c.in_ok-handler_sp.handler_sp;
      text = c.in_ok-text.text;
      ram = c.in_ok-ram.ram;
      vectors = vectors_of c.in_ok-vectors.vectors;
      modules = modules_of c.in_ok-modules.modules;
    }) = grind (arith, common_steps) in
    record { sound = IsLayout-layout_in (table_view c.args.table.now) _ whole }
