use Rattle.std.proofs.Common.{List, ℕ, ◌++◌, arith, subst}
use Rattle.obj_write.specs.internal.Strings.{IsTableOf}
use Rattle.obj_write.proofs.ObjectLemmas.{name_added, names_added, these_within}
use Rattle.obj_write.proofs.object.name_relocations.Goals as goal

pub index-requires : goal.index-requires
index-requires c =
    let within = these_within c.args.unit.now c.args.relocated.now c.requires c.loop-i.i-index 0 (omega arith) in
    let long = c.args.unit.now.sections.ok.0 in
    omega (arith, within, long)

pub loop-i-preserved : goal.loop-i-preserved
loop-i-preserved c = λ names table.
    name_added c.args.unit.now c.args.relocated.now c.loop-i.i-index c.index.result.now c.as_bytes.result.now names c.add.new.self
    c.requires (omega arith) c.index.ensures c.as_bytes.ensures.value (c.in_ok-add.ensures _ (c.loop-i.invariant names table))

pub returns : goal.returns
returns c = λ names table.
    subst (λ (l : List (List ℕ)). IsTableOf (names ++ l) c.loop-i.strings)
    (names_added c.args.unit.now c.args.relocated.now c.loop-i.i-index c.requires (omega arith)) (c.loop-i.invariant names table)
