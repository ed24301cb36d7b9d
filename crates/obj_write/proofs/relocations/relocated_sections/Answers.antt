use Rattle.std.proofs.Common.{◌≡◌, ◌++◌, ◌∷◌, [], sym, ◌∙◌, true, false, eqb, length, arith}
use Rattle.std.proofs.lemmas.Bool.Decides.{nat_tests}
use Rattle.std.proofs.lemmas.List.{append-nil}
use Rattle.obj_write.proofs.RelocationLemmas.{none_relocated, relocated_more}
use Rattle.obj_write.proofs.relocations.relocated_sections.Goals as goal
use Rattle.obj_write.proofs.relocations.relocated_sections.Goals.{then-not-is_empty+in_ok-push, else-not-is_empty}

pub loop-i-init : goal.loop-i-init
loop-i-init c = λ rs tables. none_relocated rs c.new-sections.result.items c.new-sections.ensures.items

pub loop-i-preserved : goal.loop-i-preserved
loop-i-preserved c = λ rs tables. elim c.if-not-is_empty.branch [
  | then-not-is_empty+in_ok-push w ↦
      let t : false ≡ eqb (length c.index-tables-i.result.items) 0 = grind (arith, nat_tests) in
      let more : c.if-not-is_empty.sections.items ≡ c.loop-i.sections.items ++ c.loop-i.i ∷ [] = grind arith in
      relocated_more (λ t. t.items) c.args.tables.now c.index-tables-i.result c.loop-i.i c.loop-i.sections.items c.if-not-is_empty.sections.items false rs
      (omega arith) c.index-tables-i.is t more tables (c.loop-i.invariant rs tables)
  | else-not-is_empty w ↦
      let t : true ≡ eqb (length c.index-tables-i.result.items) 0 = grind (arith, nat_tests) in
      let same : c.if-not-is_empty.sections.items ≡ c.loop-i.sections.items = grind arith in
      relocated_more (λ t. t.items) c.args.tables.now c.index-tables-i.result c.loop-i.i c.loop-i.sections.items c.if-not-is_empty.sections.items true rs
      (omega arith) c.index-tables-i.is t (same ∙ sym (append-nil c.loop-i.sections.items)) tables (c.loop-i.invariant rs tables)
]
