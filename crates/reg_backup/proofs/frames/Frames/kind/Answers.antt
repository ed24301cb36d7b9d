-- The slice has the oldest frame first.
use Rattle.std.proofs.Common.{◌<◌, length, ◌≡◌, get_or}
use Rattle.reg_backup.proofs.HeldLemmas.{slice_get-kinds}
use Rattle.reg_backup.proofs.frames.Frames.kind.Goals as goal

pub returns-clause-kind : goal.returns-clause-kind
returns-clause-kind c =
    let found = c.in_ok-get.ensures.lookup in
    let items = c.self.inside.list.items in
    let frame = c.in_ok-get.field-0.now in
    let below : c.args.n < length items = rw (c.deref.ensures.0, c.from.ensures) at found.3.0 in
    let read : frame ≡ get_or items c.args.n frame = rw (c.deref.ensures.0, c.from.ensures) at found.1 in
    rw c.kind.ensures (slice_get-kinds _ items c.args.n frame c.self.view_is below read)
