use Rattle.std.proofs.Common.{ℕ, ◌<◌, [], ◌∷◌, length, inl, ap, sym, arith}
use Rattle.std.proofs.lemmas.List.{map-append}
use Rattle.std.proofs.lemmas.Result.{err_from_is_err_and}
use Rattle.toml.specs.Data.{Data}
use Rattle.toml.specs.View.{table_view}
use Rattle.layout_file.specs.Checked.{map_ok, one}
use Rattle.layout_file.specs.Rows.{inner_table}
use Rattle.layout_file.specs.internal.Views.{table_members}
use Rattle.layout_file.proofs.RowLemmas.{values-stop, values-more}
use Rattle.layout_file.proofs.rows.inner_tables.Goals as goal

pub returns-in_err-inner_table : goal.returns-in_err-inner_table
returns-in_err-inner_table c =
    let p = err_from_is_err_and c.from_residual.result c.from_residual.ensures.1 in
    let inside : c.loop-item.item-index < length c.args.items.now = omega arith in
    let h = c.in_err-inner_table.ensures in
    rw (p.1, p.2) (inl (sym (values-stop (λ (n : ℕ) (d : Data). map_ok one (inner_table c.args.spot d)) c.args.items.now c.loop-item.item-index
    c.item-item.result (table_members c.loop-item.found) c.in_err-inner_table.field-0.0 inside c.loop-item.invariant
    (rw (← c.item-item.is) (ap (map_ok one) (sym h))))))

pub loop-item-preserved : goal.loop-item-preserved
loop-item-preserved c =
    let inside : c.loop-item.item-index < length c.args.items.now = omega arith in
    let h = c.in_ok-inner_table.ensures in
    rw (c.in_ok-push.ensures.items, map-append) (values-more (λ (n : ℕ) (d : Data). map_ok one (inner_table c.args.spot d)) c.args.items.now
    c.loop-item.item-index c.item-item.result (table_members c.loop-item.found) (table_view c.in_ok-inner_table.field-0.now ∷ []) inside
    c.loop-item.invariant (rw (← c.item-item.is) (ap (map_ok one) (sym h))))
