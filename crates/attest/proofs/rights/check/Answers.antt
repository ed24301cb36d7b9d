use Rattle.std.proofs.Common.{◌≡◌, ◌∙◌, ◌+◌, ◌-◌, arith, ap}
use Rattle.mod_layout.specs.First.{first_in}
use Rattle.pc_access.specs.Rights.{right}
use Rattle.attest.specs.Units.{each_byte}
use Rattle.attest.proofs.Checks.{denied-later, denied-now}
use Rattle.attest.proofs.rights.check.Goals as goal

pub returns-in-Err-clause-denied : goal.returns-in-Err-clause-denied
returns-in-Err-clause-denied c = λ held.
    c.loop-offset.invariant held
    ∙ denied-now c.args.table.now c.args.active held c.args.kind (c.args.start + c.loop-offset.offset) (c.args.count - c.loop-offset.offset) (c.args.count - (c.loop-offset.offset + 1)) _ c.requires.data (omega arith) c.in-Err.ensures.denied

pub loop-offset-preserved : goal.loop-offset-preserved
loop-offset-preserved c = λ held.
    c.loop-offset.invariant held
    ∙ denied-later c.args.table.now c.args.active held c.args.kind (c.args.start + c.loop-offset.offset) (c.args.count - c.loop-offset.offset) (c.args.count - (c.loop-offset.offset + 1)) c.requires.data (omega arith) c.in_default.ensures.allowed
    ∙ ap (λ a. first_in (right c.args.table.now c.args.active held) (each_byte c.args.kind a (c.args.count - (c.loop-offset.offset + 1)))) (let e : c.args.start + c.loop-offset.offset + 1 ≡ c.args.start + (c.loop-offset.offset + 1) = omega arith in e)
