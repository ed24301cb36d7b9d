use Rattle.std.proofs.Common.{◌≡◌, ◌<◌, [], length, inl, inr, sym, arith}
use Rattle.std.proofs.lemmas.List.{map-append, append-nil}
use Rattle.std.proofs.lemmas.Result.{err_from_is_err_and}
use Rattle.toml.specs.View.{table_view}
use Rattle.layout_file.specs.Rows.{vector_at, vector_keys}
use Rattle.layout_file.specs.Views.{vectors_of}
use Rattle.layout_file.specs.internal.Views.{vector_list}
use Rattle.layout_file.specs.declared.fault.LayoutFault.TheVariants.{NoMemory}
use Rattle.layout_file.proofs.RowLemmas.{list-stop, list-more}
use Rattle.layout_file.proofs.rows.named_vectors.Goals as goal
use Rattle.layout_file.proofs.rows.named_vectors.Goals.{in-Some+in_ok-push-in-Some, in-None}

pub returns-in_err-vector : goal.returns-in_err-vector
returns-in_err-vector c =
    let p = err_from_is_err_and c.from_residual.result c.from_residual.ensures.1 in
    let inside : c.loop-number.number < length vector_keys = omega arith in
    rw (p.1, p.2) (elim c.in_err-vector.ensures [
      | inl h ↦ inl (sym (list-stop (vector_at c.args.spot (table_view c.args.table.now)) vector_keys c.loop-number.number
          [] (vectors_of c.loop-number.vectors) c.in_err-vector.field-0.0 inside c.loop-number.invariant
          (rw (← c.vector_key.ensures) (sym h))))
      | inr h ↦ let q : c.in_err-vector.field-0.0 ≡ NoMemory = cc in inr (rw q)
    ])

pub loop-number-preserved : goal.loop-number-preserved
loop-number-preserved c =
    let inside : c.loop-number.number < length vector_keys = omega arith in
    elim c.in_ok-vector.ensures [
      | inl h ↦
          let more = list-more (vector_at c.args.spot (table_view c.args.table.now)) vector_keys c.loop-number.number
          [] (vectors_of c.loop-number.vectors) (vector_list c.in_ok-vector.vector) inside c.loop-number.invariant
          (rw (← c.vector_key.ensures) (sym h)) in
          elim c.match-vector.branch [
            | in-Some+in_ok-push-in-Some w ↦
                let named = w.in-Some.is in
                rw (w.vectors-is, w.in_ok-push-in-Some.ensures.items, map-append) (rw named at more)
            | in-None w ↦ let none = w.in-None.is in rw w.vectors-is (rw (none, append-nil) at more)
          ]
      | inr h ↦ absurd (cc)
    ]
