use Rattle.flow_check.specs.internal.Programs.{domain_of}
use Rattle.std.proofs.Common.{subst, Some, None}
use Rattle.flow_check.specs.internal.Points.{state_of, point_of}
use Rattle.flow_check.specs.internal.Steps.{Tells}
use Rattle.flow_check.specs.internal.Stubs.{IsStub}
use Rattle.flow_check.proofs.Stubs.{base_some, base_none}
use Rattle.flow_check.specs.internal.Terms.{terms_in}
use Rattle.flow_check.proofs.stub.step_base.Goals as goal

pub returns-in-Some : goal.returns-in-Some
returns-in-Some c =
    let p = c.args.program.now in
    let stub : IsStub p.module.now p.text.now (Some c.in-Some.n) = subst (IsStub p.module.now p.text.now) c.in-Some.is p.exact in
    subst (λ s. Tells s c.args.stepped.now c.step_stub.new.stepped (state_of c.step_stub.new.core c.step_stub.new.words))
    (base_some (domain_of c.args.program.now.flags) (terms_in p) p.module.now p.text.now c.in-Some.n (point_of c.args.pc c.args.stepped.now.call_string (state_of c.args.core.now c.args.words.now)) stub) c.step_stub.ensures

pub returns-in-None : goal.returns-in-None
returns-in-None c =
    let p = c.args.program.now in
    let stub : IsStub p.module.now p.text.now None = subst (IsStub p.module.now p.text.now) c.in-None.is p.exact in
    subst (λ s. Tells s c.args.stepped.now c.step.new.stepped (state_of c.step.new.core c.step.new.words))
    (base_none (domain_of c.args.program.now.flags) (terms_in p) p.module.now p.text.now (point_of c.args.pc c.args.stepped.now.call_string (state_of c.args.core.now c.args.words.now)) stub) c.step.ensures
