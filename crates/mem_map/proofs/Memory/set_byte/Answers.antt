use Rattle.std.proofs.Common.{List, ℕ, ◌∙◌, ap}
use Rattle.std.proofs.Math.ListN.{set}
use Rattle.mem_map.specs.internal.Marks.{contents_of}
use Rattle.mem_map.proofs.MarkLemmas.{Tables, written_shown}
use Rattle.mem_map.proofs.Memory.set_byte.Goals as goal

pub returns : goal.returns
returns c =
    let m = c.self.inside in
    record {
      written = ap (λ (tables : Tables). contents_of tables m.present m.marks.items m.room) c.write.ensures.written
          ∙ written_shown m.pool m.present m.marks.items m.room (λ (bytes : List ℕ). set bytes c.args.addr c.args.byte) c.args.self.now c.self.invariant c.self.view_is;
    }
