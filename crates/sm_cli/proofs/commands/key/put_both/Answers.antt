use Rattle.std.proofs.Common.{codes}
use Rattle.sm_io.proofs.Putting.{cut_first, puts_last}
use Rattle.sm_cli.specs.KeyCommand.{named_key_line}
use Rattle.sm_cli.proofs.commands.key.put_both.Goals as goal

pub returns-in-Err : goal.returns-in-Err
returns-in-Err g c = cut_first g.O.Sink.taken g.O.Sink.faults g.O.Sink.sure _ _ (named_key_line (codes "provider ") c.args.provider.now) (named_key_line (codes "module ") c.args.key.now) c.in-Err.ensures

pub returns-in-Ok : goal.returns-in-Ok
returns-in-Ok g c = puts_last g.O.Sink.taken g.O.Sink.faults g.O.Sink.sure _ _ _ (named_key_line (codes "provider ") c.args.provider.now) (named_key_line (codes "module ") c.args.key.now) _ c.in-Ok.ensures c.put_key-in-Ok.ensures
