use Rattle.std.proofs.Common.{◌≡◌, ◌∙◌, ◌+◌, ◌/◌, ap, sym, refl, true, ℕ, Some, None}
use Rattle.attest.specs.declared.UnitDone.{UnitDone}
use Rattle.attest.specs.Units.{unprotected, unit_effect}
use Rattle.attest.specs.Done.{own_of}
use Rattle.attest.proofs.Finished.{answered, closed}
use Rattle.attest.proofs.instruction.unprotect.Goals as goal

pub returns-in-None : goal.returns-in-None
unfolding unit_effect
returns-in-None c = λ key mem.
    let outside : own_of c.args.who.active c.args.table.now ≡ None = sym c.own.ensures.own ∙ c.in-None.is in
    answered _ _ _ _ 0 6 _ _ _ (ap (λ o. unprotected o c.args.core.now) outside) c.answer.ensures.core c.answer.ensures.done refl refl

pub returns-in-Some : goal.returns-in-Some
returns-in-Some c = λ key mem.
    let inside : own_of c.args.who.active c.args.table.now ≡ Some c.in-Some.own = sym c.own.ensures.own ∙ c.in-Some.is in
    closed _ c.in-Some.own _ _ _ _ _ inside refl refl (ap (λ (n : ℕ). let d : UnitDone = record { cycles = 6 + n / 2; closing = true; made = 0 } in d) (c.from.ensures ∙ c.len.ensures.size))
