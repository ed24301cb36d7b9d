use Rattle.std.proofs.Common.{◌∙◌, ap, sym, refl}
use Rattle.std.specs.Option.{option_map_or}
use Rattle.mod_layout.specs.declared.Module.{Module}
use Rattle.attest.specs.Units.{answer, unit_effect}
use Rattle.attest.proofs.Finished.{answered}
use Rattle.attest.proofs.instruction.own_id.Goals as goal

pub returns : goal.returns
unfolding unit_effect
returns c = λ key mem.
    let id = c.id_or_zero.ensures ∙ ap (λ own. option_map_or (λ (m : Module). m.id) own 0) c.own-own.ensures.own in
    answered _ _ _ _ _ _ _ _ _ (ap (λ v. answer c.args.core.now v 6) (sym id)) c.answer.ensures.core c.answer.ensures.done refl refl
