use Rattle.std.proofs.Common.{◌<◌, take, arith, refl}
use Rattle.std.proofs.lemmas.List.Elements.{All-get_or}
use Rattle.obj_write.specs.Relocations.{relocation_table}
use Rattle.obj_write.proofs.RelocationLemmas.{no_relocation, counted, tables_stored}
use Rattle.obj_write.proofs.relocations.tables_of.Goals as goal

pub index_mut-requires : goal.index_mut-requires
index_mut-requires c =
    let i = c.loop-relocation.relocation-index in
    let within = All-get_or (λ r. r.section < c.args.count) c.args.relocations.now i no_relocation (omega arith) c.requires in
    let n = counted (λ t. t.items) c.loop-relocation.tables.items (relocation_table (take i c.args.relocations.now)) c.args.count c.loop-relocation.invariant in
    omega (arith, within, n)

pub loop-relocation-preserved : goal.loop-relocation-preserved
loop-relocation-preserved c =
    let i = c.loop-relocation.relocation-index in
    let within = All-get_or (λ r. r.section < c.args.count) c.args.relocations.now i no_relocation (omega arith) c.requires in
    tables_stored (λ t. t.items) c.args.relocations.now i c.args.count no_relocation _ c.loop-relocation.tables.items c.index_mut.result.now c.put_entry.new.out
    (omega arith) refl within c.loop-relocation.invariant c.index_mut.ensures.value c.in_ok-put_entry.ensures
