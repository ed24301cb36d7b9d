use Rattle.std.proofs.Common.{◌≡◌, ℕ, ◌<◌, [], ◌∷◌, length, get_or, inl, inr, map, ap, sym, ◌∙◌, Bor, String, Global, arith}
use Rattle.std.specs.BTreeMap.{BTreeMap}
use Rattle.std.proofs.lemmas.List.{map-append, length-map, length-append}
use Rattle.std.proofs.lemmas.Result.{err_from_is_err_and}
use Rattle.std.proofs.Math.ListN.{get_or-map}
use Rattle.toml.specs.Data.{Members}
use Rattle.toml.specs.View.{table_view}
use Rattle.toml.specs.declared.value.Value.{Value}
use Rattle.layout_file.specs.Checked.{map_ok, one}
use Rattle.layout_file.specs.Layout.{module_row}
use Rattle.layout_file.specs.Views.{module_value, modules_of}
use Rattle.layout_file.specs.declared.fault.LayoutFault.TheVariants.{NoMemory}
use Rattle.layout_file.proofs.RowLemmas.{list-stop, list-more}
use Rattle.layout_file.proofs.read.modules.Goals as goal

pub returns-in_err-module-clause-modules : goal.returns-in_err-module-clause-modules
returns-in_err-module-clause-modules c =
    let p = err_from_is_err_and c.from_residual.result c.from_residual.ensures.1 in
    let see : Bor (BTreeMap (String Global) Value) → Members = λ t. table_view t.now in
    let inside : c.loop-number.number < length (map see c.args.tables.now) = rw length-map (omega arith) in
    let here : get_or (map see c.args.tables.now) c.loop-number.number (see c.index-tables-number.result) ≡ see c.index-tables-number.result =
    get_or-map see c.args.tables.now c.loop-number.number c.index-tables-number.result ∙ ap see (sym c.index-tables-number.is) in
    rw (p.1, p.2) (elim c.in_err-module.ensures [
      | inl h ↦ inl (sym (list-stop (λ (n : ℕ) (t : Members). map_ok one (module_row c.args.version n t)) (map see c.args.tables.now) c.loop-number.number
          (see c.index-tables-number.result) (modules_of c.loop-number.found) c.in_err-module.field-0.0 inside c.loop-number.invariant.read
          (rw here (ap (map_ok one) (sym h)))))
      | inr h ↦ let q : c.in_err-module.field-0.0 ≡ NoMemory = cc in inr (rw q)
    ])

pub loop-number-preserved : goal.loop-number-preserved
loop-number-preserved c =
    let see : Bor (BTreeMap (String Global) Value) → Members = λ t. table_view t.now in
    let inside : c.loop-number.number < length (map see c.args.tables.now) = rw length-map (omega arith) in
    let here : get_or (map see c.args.tables.now) c.loop-number.number (see c.index-tables-number.result) ≡ see c.index-tables-number.result =
    get_or-map see c.args.tables.now c.loop-number.number c.index-tables-number.result ∙ ap see (sym c.index-tables-number.is) in
    record {
      read = elim c.in_ok-module.ensures [
        | inl h ↦ rw (c.in_ok-push.ensures.items, map-append) (list-more (λ (n : ℕ) (t : Members). map_ok one (module_row c.args.version n t)) (map see c.args.tables.now)
            c.loop-number.number (see c.index-tables-number.result) (modules_of c.loop-number.found) (module_value c.in_ok-module.field-0 ∷ []) inside
            c.loop-number.invariant.read (rw here (ap (map_ok one) (sym h))))
        | inr h ↦ absurd (cc)
      ];
      count = rw (c.in_ok-push.ensures.items, length-append) (omega arith);
    }
