use Rattle.std.proofs.Common.{sym, ◌∙◌, refl}
use Rattle.pc_access.specs.Rights.{access_of, IsRightful}
use Rattle.pc_access.proofs.RightLemmas.{right_misaligned, right_aligned, rightful, unrefused}
use Rattle.pc_access.proofs.allowed.Goals as goal

pub returns-then-breaks_alignment-clause-denied : goal.returns-then-breaks_alignment-clause-denied
returns-then-breaks_alignment-clause-denied c =
    right_misaligned _ _ _ _ _ _ (sym c.breaks_alignment.ensures ∙ c.if-breaks_alignment.true)

pub returns-then-breaks_alignment-clause-rights : goal.returns-then-breaks_alignment-clause-rights
returns-then-breaks_alignment-clause-rights c = (
  (λ e. absurd cc),
  (λ (r : IsRightful c.args.table.now c.args.active c.args.held.now (access_of c.args.kind c.args.addr c.args.width)).
      sym (sym c.if-breaks_alignment.true ∙ c.breaks_alignment.ensures ∙ r.aligned)),
)

pub returns-in-None-clause-allowed : goal.returns-in-None-clause-allowed
returns-in-None-clause-allowed c =
    right_aligned _ _ _ _ _ _ _ (sym c.breaks_alignment.ensures ∙ c.if-breaks_alignment.false) c.at.ensures.place
    ∙ sym c.refusal.ensures ∙ c.in-None.is

pub returns-in-None-clause-rights : goal.returns-in-None-clause-rights
returns-in-None-clause-rights c = (
  (λ e. rightful _ _ _ c.at.ensures.table _ _ _ (returns-in-None-clause-allowed c)),
  (λ r. refl),
)

pub returns-in-Some-clause-denied : goal.returns-in-Some-clause-denied
returns-in-Some-clause-denied c =
    right_aligned _ _ _ _ _ _ _ (sym c.breaks_alignment.ensures ∙ c.if-breaks_alignment.false) c.at.ensures.place
    ∙ sym c.refusal.ensures ∙ c.in-Some.is

pub returns-in-Some-clause-rights : goal.returns-in-Some-clause-rights
returns-in-Some-clause-rights c = (
  (λ e. absurd cc),
  (λ (r : IsRightful c.args.table.now c.args.active c.args.held.now (access_of c.args.kind c.args.addr c.args.width)).
      let e = sym (returns-in-Some-clause-denied c) ∙ unrefused _ _ _ c.at.ensures.table _ _ _ r in absurd cc),
)
