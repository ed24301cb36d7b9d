use Rattle.std.specs.Prelude.{OnOk, is_err}
use Rattle.std.proofs.Common.{◌≡◌, ◌<◌, false, length, Result, Ok, Err, sym, ◌∙◌, arith}
use Rattle.std.proofs.lemmas.Bool.Decides.{nat_tests}
use Rattle.vendor_tool.proofs.Replying.{IsNext, IsReplied-start, IsReplied-more, IsReplied-ends, IsReplied-follows}
use Rattle.vendor_tool.proofs.replies.read_replies.Goals as goal

on_ok : {E : Type 0} (r : Result (Unit {0}) E) (P : Type 0) → is_err r ≡ false → OnOk r P → P
on_ok (Ok done) P e h = h
on_ok (Err fault) P e h = absurd cc

pub loop-line-init : goal.loop-line-init
loop-line-init c = rw c.new-replies.ensures.items (IsReplied-start c.args.trace.now)

pub returns-then-is_empty-clause-read : goal.returns-then-is_empty-clause-read
returns-then-is_empty-clause-read c =
    let next : IsNext c.loop-line.rest.now c.in-Some.line.now c.in-Some.after.now = record { cut = c.in-Some.ensures.cut; lines = c.in-Some.ensures.lines; behind = c.in-Some.ensures.behind } in
    let nothing : length c.in-Some.after.now ≡ 0 = grind (arith, nat_tests) in
    IsReplied-ends _ _ _ _ _ _ _ _ c.loop-line.invariant next (sym c.told_by.ensures ∙ c.in-Some-told_by.is) (sym c.ends.ensures ∙ c.if-ends.true) nothing

pub returns-else-is_empty-clause-refused : goal.returns-else-is_empty-clause-refused
returns-else-is_empty-clause-refused c other =
    let next : IsNext c.loop-line.rest.now c.in-Some.line.now c.in-Some.after.now = record { cut = c.in-Some.ensures.cut; lines = c.in-Some.ensures.lines; behind = c.in-Some.ensures.behind } in
    let something : 0 < length c.in-Some.after.now = grind (arith, nat_tests) in
    IsReplied-follows _ _ _ _ _ _ _ _ c.loop-line.invariant next (sym c.told_by.ensures ∙ c.in-Some-told_by.is) (sym c.ends.ensures ∙ c.if-ends.true) something

pub loop-line-preserved : goal.loop-line-preserved
loop-line-preserved c =
    let next : IsNext c.loop-line.rest.now c.in-Some.line.now c.in-Some.after.now = record { cut = c.in-Some.ensures.cut; lines = c.in-Some.ensures.lines; behind = c.in-Some.ensures.behind } in
    IsReplied-more _ _ _ _ _ _ _ _ _ c.loop-line.invariant next (sym c.told_by.ensures ∙ c.in-Some-told_by.is) (sym c.ends.ensures ∙ c.if-ends.false)
    (on_ok c.push_byte.result _ (sym c.is_err.ensures.value ∙ c.if-is_err.false) c.push_byte.ensures)
