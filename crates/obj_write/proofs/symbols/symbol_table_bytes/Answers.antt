use Rattle.std.proofs.Common.{List, ℕ, ◌++◌, ap, ◌∙◌, arith, replicate}
use Rattle.elf_objects.specs.Numbers.{symbol_size}
use Rattle.obj_write.proofs.SymbolLemmas.{table_begun, entry_added, table_whole}
use Rattle.obj_write.proofs.symbols.symbol_table_bytes.Goals as goal

pub loop-k-init : goal.loop-k-init
loop-k-init c = table_begun c.args.symbols.now c.extend_from_slice.new.self.items (c.in_ok-extend_from_slice.ensures.items ∙ ap (λ (l : List ℕ). l ++ replicate symbol_size 0) c.new-table.ensures.items)

pub loop-k-preserved : goal.loop-k-preserved
loop-k-preserved c =
    entry_added c.args.symbols.now c.loop-k.k c.place.result c.index-symbols-k.result c.args.strings.now c.loop-k.table.items c.put_entry.new.out.items
    (omega arith) c.index-symbols-k.is c.requires c.place.ensures c.in_ok-put_entry.ensures c.loop-k.invariant

pub returns : goal.returns
returns c = table_whole c.args.symbols.now c.loop-k.table.items c.loop-k.k (omega arith) c.loop-k.invariant
