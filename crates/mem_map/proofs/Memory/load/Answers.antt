use Rattle.std.proofs.Common.{◌<◌, length, arith}
use Rattle.mem_map.proofs.MarkLemmas.{load_all, marked_length}
use Rattle.mem_map.proofs.Memory.load.Goals as goal

pub returns : goal.returns
returns c =
    let m = c.self.inside in
    let sizes = marked_length m.pool m.present m.marks.items m.room c.args.self.now c.self.view_is in
    let inside : c.args.k < length m.marks.items = omega arith in
    record {
      loaded = load_all m.pool c.drop_table.new.self c.copy_table.new.self m.present m.marks.items c.deref.result.now m.room c.args.k c.from.result c.in-Ok.copy c.args.self.now
          c.self.invariant inside c.self.view_is c.drop_table.ensures.ended c.deref.ensures.0 c.from.ensures c.in-Ok.ensures.unused c.in-Ok.ensures.copied;
    }
