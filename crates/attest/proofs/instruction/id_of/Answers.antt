use Rattle.std.proofs.Common.{◌∙◌, ap, sym, refl}
use Rattle.attest.specs.Units.{answer, unit_effect}
use Rattle.mod_layout.specs.Table.{place_id, place_of}
use Rattle.attest.proofs.Finished.{answered}
use Rattle.attest.proofs.instruction.id_of.Goals as goal

pub returns : goal.returns
unfolding unit_effect
returns c = λ key mem.
    let place = ap (place_of c.args.table.now) c.get.ensures.word in
    let id = c.id.ensures ∙ ap place_id (c.at-place.ensures.place ∙ place) in
    answered _ _ _ _ _ _ _ _ _ (ap (λ v. answer c.args.core.now v 6) (sym id)) c.answer.ensures.core c.answer.ensures.done refl refl
