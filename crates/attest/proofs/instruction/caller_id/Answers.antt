use Rattle.std.proofs.Common.{◌∙◌, ap, sym, refl, cond, is_some}
use Rattle.attest.specs.Units.{answer, unit_effect}
use Rattle.attest.proofs.Finished.{answered}
use Rattle.attest.proofs.instruction.caller_id.Goals as goal

pub returns : goal.returns
unfolding unit_effect
returns c = λ key mem.
    let id = c.caller_or_zero.ensures ∙ ap (λ own. cond (is_some own) c.args.who.caller 0) c.own-own.ensures.own in
    answered _ _ _ _ _ _ _ _ _ (ap (λ v. answer c.args.core.now v 6) (sym id)) c.answer.ensures.core c.answer.ensures.done refl refl
