use Rattle.std.proofs.Common.{◌++◌, ◌∙◌, List, ℕ}
use Rattle.sm_io.proofs.Putting.{cut_first, cut_later, cut_same, puts_last, took_same, took_then}
use Rattle.owner_steps.specs.Registers.{registers_line}
use Rattle.owner_steps.proofs.stepping.put_found.Goals as goal

pub returns-in-Err : goal.returns-in-Err
returns-in-Err g c =
    let found = c.args.found.now in
    let first : List ℕ = registers_line c.args.old.now found.core in
    cut_first g.S.Sink.taken g.S.Sink.faults g.S.Sink.sure _ _ (first ++ found.lines.bytes) (registers_line found.past c.args.new.now)
    (cut_first g.S.Sink.taken g.S.Sink.faults g.S.Sink.sure _ _ first found.lines.bytes c.in-Err.ensures)

pub returns-in-Err-put_all : goal.returns-in-Err-put_all
returns-in-Err-put_all g c =
    let found = c.args.found.now in
    let first : List ℕ = registers_line c.args.old.now found.core in
    cut_first g.S.Sink.taken g.S.Sink.faults g.S.Sink.sure _ _ (first ++ found.lines.bytes) (registers_line found.past c.args.new.now)
    (cut_later g.S.Sink.taken g.S.Sink.faults g.S.Sink.sure _ _ _ first found.lines.bytes c.in-Ok.ensures
    (cut_same g.S.Sink.taken g.S.Sink.faults g.S.Sink.sure _ _ _ found.lines.bytes (c.as_bytes.ensures.value ∙ c.as_str.ensures.value) c.in-Err-put_all.ensures.put))

pub returns : goal.returns
returns g c =
    let found = c.args.found.now in
    let first : List ℕ = registers_line c.args.old.now found.core in
    puts_last g.S.Sink.taken g.S.Sink.faults g.S.Sink.sure _ _ _ (first ++ found.lines.bytes) (registers_line found.past c.args.new.now) _
    (took_then g.S.Sink.taken g.S.Sink.faults g.S.Sink.sure _ _ _ first found.lines.bytes c.in-Ok.ensures
    (took_same g.S.Sink.taken g.S.Sink.faults g.S.Sink.sure _ _ _ found.lines.bytes (c.as_bytes.ensures.value ∙ c.as_str.ensures.value) c.in-Ok-put_all.ensures.put))
    c.put_registers-2.ensures
