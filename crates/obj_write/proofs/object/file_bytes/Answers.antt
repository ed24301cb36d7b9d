use Rattle.std.proofs.Common.{ap, ◌∙◌, ◌+◌, ◌++◌, List, ℕ}
use Rattle.obj_write.specs.Object.{file_header}
use Rattle.obj_write.proofs.ObjectLemmas.{whole_file}
use Rattle.obj_write.proofs.object.file_bytes.Goals as goal

pub returns : goal.returns
returns c =
    let table = 52 + c.len-table.result in
    let count = c.len.result + 1 in
    whole_file c.args.sections.now c.args.names table count c.put_header.new.out.items c.put.new.out.items
    (ap (λ n. 52 + n) c.len-table.ensures) (ap (λ n. n + 1) c.len.ensures)
    (c.in_ok-put_header.ensures ∙ ap (λ (l : List ℕ). l ++ file_header table count c.args.names) c.new-out.ensures.items) c.in_ok-put.ensures
