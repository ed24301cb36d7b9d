use Rattle.std.specs.Result.{is_ok}
use Rattle.std.proofs.Common.{not, true, sym, ◌≡◌, ◌∙◌, ap, ◌≤◌, arith, rules}
use Rattle.texts.proofs.RowLemmas.{IsRead-start, IsRead-push}
use Rattle.arm_balance.specs.Certificates.{arm_rows}
use Rattle.arm_balance.proofs.Reading.{branches_rise}
use Rattle.arm_balance.proofs.certificates.read_arms.Goals as goal

pub loop-line-init : goal.loop-line-init
loop-line-init c = rw c.new-list.ensures.items (IsRead-start arm_rows (λ arm. Unit {0}) c.args.bytes.now)

pub loop-line-preserved : goal.loop-line-preserved
loop-line-preserved c =
    let pushed : is_ok c.push.result ≡ true = c.is_err.ensures.negation ∙ ap not c.if-is_err.false in
    let low : c.from-low.result ≡ c.in-Some-arm_of.arm.branch = Prim.search rules in
    let rises : c.loop-line.low ≤ c.in-Some-arm_of.arm.branch = omega arith in
    rw (c.push.ensures.items, pushed, low)
    (IsRead-push arm_rows (λ arm. Unit {0}) _ _ _ _ _ _ _ c.loop-line.invariant c.in-Some.ensures.lines _ c.if-n-gt-MAX_LINES.false
    (sym c.arm_of.ensures ∙ c.in-Some-arm_of.is) rises (omega arith) tt)

pub invariant_of-result : goal.invariant_of-result
invariant_of-result c = record { branches_rise = branches_rise c.loop-line.list.items c.loop-line.invariant.apart }
