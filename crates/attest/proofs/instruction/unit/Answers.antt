-- Each arm has its instruction.
use Rattle.std.proofs.Common.{◌≡◌, refl}
use Rattle.attest.specs.Units.{unit_plan}
use Rattle.attest.proofs.instruction.unit.Goals as goal

pub returns-in-Unprotect-clause-allowed : goal.returns-in-Unprotect-clause-allowed
unfolding unit_plan
returns-in-Unprotect-clause-allowed c = λ held. rw c.in-Unprotect.is refl

pub returns-in-Unprotect-clause-done : goal.returns-in-Unprotect-clause-done
returns-in-Unprotect-clause-done c = rw c.in-Unprotect.is (c.unprotect.ensures _ _)

pub returns-in-Protect-clause-done : goal.returns-in-Protect-clause-done
returns-in-Protect-clause-done c = rw c.in-Protect.is (c.protect.ensures.done _)

pub returns-in-IdOf-clause-allowed : goal.returns-in-IdOf-clause-allowed
unfolding unit_plan
returns-in-IdOf-clause-allowed c = λ held. rw c.in-IdOf.is refl

pub returns-in-IdOf-clause-done : goal.returns-in-IdOf-clause-done
returns-in-IdOf-clause-done c = rw c.in-IdOf.is (c.id_of.ensures _ _)

pub returns-in-OwnId-clause-allowed : goal.returns-in-OwnId-clause-allowed
unfolding unit_plan
returns-in-OwnId-clause-allowed c = λ held. rw c.in-OwnId.is refl

pub returns-in-OwnId-clause-done : goal.returns-in-OwnId-clause-done
returns-in-OwnId-clause-done c = rw c.in-OwnId.is (c.own_id.ensures _ _)

pub returns-in-CallerId-clause-allowed : goal.returns-in-CallerId-clause-allowed
unfolding unit_plan
returns-in-CallerId-clause-allowed c = λ held. rw c.in-CallerId.is refl

pub returns-in-CallerId-clause-done : goal.returns-in-CallerId-clause-done
returns-in-CallerId-clause-done c = rw c.in-CallerId.is (c.caller_id.ensures _ _)
