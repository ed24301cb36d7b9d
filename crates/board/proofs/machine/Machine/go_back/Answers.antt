use Rattle.std.proofs.Common.{◌≡◌, arith, false, is_some}
use Rattle.arrayvec.specs.ArrayVec.{array_vec_len}
use Rattle.board.proofs.Returning.{reti_adds_none}
use Rattle.board.proofs.machine.Machine.go_back.Goals as goal

pub push-requires-2 : goal.push-requires-2
push-requires-2 c =
    let running : false ≡ is_some c.attempt.new.self.stop = cc in
    let same : array_vec_len c.attempt.new.events ≡ array_vec_len c.args.events.now =
    reti_adds_none c.args.self.now c.attempt.new.self c.args.events.now.items c.attempt.new.events.items c.attempt.ensures.events c.attempt.ensures.state running in
    (omega arith, omega (arith, same, c.requires.room))

pub returns-clause-length : goal.returns-clause-length
returns-clause-length c =
    let running : false ≡ is_some c.attempt.new.self.stop = cc in
    let same : array_vec_len c.attempt.new.events ≡ array_vec_len c.args.events.now =
    reti_adds_none c.args.self.now c.attempt.new.self c.args.events.now.items c.attempt.new.events.items c.attempt.ensures.events c.attempt.ensures.state running in
    omega (arith, same, c.push-2.ensures.len)
