use Rattle.std.proofs.Common.{rules, ◌≡◌, ◌+◌, ◌≤◌, take, arith}
use Rattle.std.proofs.lemmas.Grind.{common_steps}
use Rattle.std.proofs.lemmas.List.{take_at}
use Rattle.sm_io.proofs.Reading.{reads_on}
use Rattle.sm_io.proofs.whole.read_whole.Goals as goal

pub loop-bytes-preserved : goal.loop-bytes-preserved
loop-bytes-preserved g c =
    let front : take c.len-at.result c.deref_mut.result.now ≡ c.loop-bytes.bytes.items = grind (arith, common_steps, c.resize.ensures.items, c.deref_mut.ensures.value, c.if-is_err.ensures.value, c.make_room.ensures, take_at) in
    let fits : c.len-at.result + c.in-Ok.count ≤ c.resize.new.self.len = omega (arith, c.in-Ok.ensures.bound, c.read_at.auto.buf, c.resize.ensures.len, c.deref_mut.ensures.len) in
    record {
      bytes = reads_on (g.F.Files.content c.args.files.now) c.args.name.now c.loop-bytes.bytes.items c.deref_mut.result.now c.read_at.new.buf _ _ c.truncate.new.self.items c.len-at.result _ c.in-Ok.count c.loop-bytes.invariant.bytes c.in-Ok.ensures.bound (search (rules, c.loop-bytes.invariant.files)) front (search rules) fits c.truncate.ensures.items;
      files = search rules;
      faults = search rules;
      sound = search rules;
    }
