use Rattle.std.proofs.Common.{◌++◌, codes, ap, ◌∙◌}
use Rattle.layout_file.specs.Keys.{key_name}
use Rattle.sm_io.proofs.Putting.{cut_first, cut_later, puts_last, puts_same}
use Rattle.cli_files.specs.Faults.{module_number}
use Rattle.cli_files.proofs.faults.put_spot.Goals as goal

pub returns-in-Err : goal.returns-in-Err
returns-in-Err g c = cut_first g.S.Sink.taken g.S.Sink.faults g.S.Sink.sure _ _ c.args.name.now _ c.in-Err.ensures.put

pub returns-in-Err-put_module : goal.returns-in-Err-put_module
returns-in-Err-put_module g c = cut_later g.S.Sink.taken g.S.Sink.faults g.S.Sink.sure _ _ _ c.args.name.now _ c.in-Ok.ensures.put
    (cut_first g.S.Sink.taken g.S.Sink.faults g.S.Sink.sure _ _ (codes " " ++ module_number c.args.spot.«module») (codes " " ++ key_name c.args.spot.key) c.in-Err-put_module.ensures)

pub returns : goal.returns
returns g c = puts_last g.S.Sink.taken g.S.Sink.faults g.S.Sink.sure _ _ _ c.args.name.now _ _ c.in-Ok.ensures.put
    (puts_last g.S.Sink.taken g.S.Sink.faults g.S.Sink.sure _ _ _ (codes " " ++ module_number c.args.spot.«module») (codes " " ++ key_name c.args.spot.key) _ c.in-Ok-put_module.ensures
    (puts_same g.S.Sink.taken g.S.Sink.faults g.S.Sink.sure _ _ _ _ _ (ap (λ l. codes " " ++ l) (c.as_bytes.ensures.value ∙ c.name.ensures.name)) c.put_both.ensures))
