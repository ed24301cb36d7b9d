use Rattle.std.proofs.Common.{◌≡◌, ℕ, ◌<◌, [], ◌∷◌, length, inl, inr, string_bytes, ap, sym, arith}
use Rattle.std.proofs.lemmas.List.{map-append}
use Rattle.std.proofs.lemmas.Result.{err_from_is_err_and}
use Rattle.toml.specs.Data.{Data}
use Rattle.layout_file.specs.Checked.{map_ok, one}
use Rattle.layout_file.specs.Rows.{string}
use Rattle.layout_file.specs.Views.{string_values}
use Rattle.layout_file.specs.declared.fault.LayoutFault.TheVariants.{NoMemory}
use Rattle.layout_file.proofs.RowLemmas.{values-stop, values-more}
use Rattle.layout_file.proofs.rows.strings.Goals as goal

pub returns-in_err-string : goal.returns-in_err-string
returns-in_err-string c =
    let p = err_from_is_err_and c.from_residual.result c.from_residual.ensures.1 in
    let inside : c.loop-item.item-index < length c.args.items.now = omega arith in
    rw (p.1, p.2) (elim c.in_err-string.ensures [
      | inl h ↦ inl (sym (values-stop (λ (n : ℕ) (d : Data). map_ok one (string c.args.spot d)) c.args.items.now c.loop-item.item-index
          c.item-item.result (string_values c.loop-item.names) c.in_err-string.field-0.0 inside c.loop-item.invariant
          (rw (← c.item-item.is) (ap (map_ok one) (sym h)))))
      | inr h ↦ let q : c.in_err-string.field-0.0 ≡ NoMemory = cc in inr (rw q)
    ])

pub loop-item-preserved : goal.loop-item-preserved
loop-item-preserved c =
    let inside : c.loop-item.item-index < length c.args.items.now = omega arith in
    elim c.in_ok-string.ensures [
      | inl h ↦ rw (c.in_ok-push.ensures.items, map-append) (values-more (λ (n : ℕ) (d : Data). map_ok one (string c.args.spot d)) c.args.items.now
          c.loop-item.item-index c.item-item.result (string_values c.loop-item.names) (string_bytes c.in_ok-string.field-0 ∷ []) inside
          c.loop-item.invariant (rw (← c.item-item.is) (ap (map_ok one) (sym h))))
      | inr h ↦ absurd (cc)
    ]
