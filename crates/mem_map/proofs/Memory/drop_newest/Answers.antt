use Rattle.std.proofs.Common.{◌∙◌, ap}
use Rattle.mem_map.specs.internal.Marks.{contents_of}
use Rattle.mem_map.proofs.MarkLemmas.{Tables, drop_marked, drop_shown}
use Rattle.mem_map.proofs.Memory.drop_newest.Goals as goal

pub invariant_of-self : goal.invariant_of-self
invariant_of-self c =
    let m = c.self.inside in
    rw c.drop_table.ensures.ended (drop_marked m.pool m.present m.marks.items c.pop.new.self.items m.room c.in-Some.mark c.self.invariant c.in-Some.ensures.items)

pub returns-in-Some : goal.returns-in-Some
returns-in-Some c =
    let m = c.self.inside in
    ap (λ (tables : Tables). contents_of tables m.present c.pop.new.self.items m.room) c.drop_table.ensures.ended
    ∙ drop_shown m.pool m.present m.marks.items c.pop.new.self.items m.room c.in-Some.mark c.args.self.now c.self.invariant c.in-Some.ensures.items c.self.view_is
