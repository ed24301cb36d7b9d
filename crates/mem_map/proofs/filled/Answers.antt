use Rattle.std.proofs.Common.{refl, get_or}
use Rattle.std.proofs.lemmas.List.{get_or_default}
use Rattle.mem_map.proofs.MarkLemmas.{filled_more}
use Rattle.mem_map.proofs.filled.Goals as goal

pub loop-addr-preserved : goal.loop-addr-preserved
loop-addr-preserved c =
    let byte = get_or c.args.bytes.now c.loop-addr.addr 0 in
    filled_more c.loop-addr.pool c.write.new.self c.args.bytes.now c.args.tables c.loop-addr.addr byte c.loop-addr.addr
    c.requires.size c.loop-addr-test.true c.requires.least (get_or_default c.args.bytes.now c.loop-addr.addr 0 byte c.loop-addr-test.true) refl
    c.loop-addr.invariant c.write.ensures.written
