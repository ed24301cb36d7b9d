use Rattle.std.proofs.Common.{◌≡◌, [], subst, List, ℕ}
use Rattle.mod_layout.specs.declared.Module.{Module}
use Rattle.arm_balance.specs.declared.Arm.{Arm}
use Rattle.flow_rule.specs.Values.{blurred_flags}
use Rattle.flow_rule.specs.declared.Verdict.TheVariants.{Yes}
use Rattle.flow_rule.specs.Terms.{Terms}
use Rattle.flow_rule.specs.Iterations.{PointState}
use Rattle.flow_rule.specs.Verdict.{Decided, known_words}
use Rattle.flow_rule.specs.Arms.{flow_under, VerdictUnder}
use Rattle.flow_laws.specs.Laws.{EvenUnder, KeptUnder}
use Rattle.flow_check.specs.internal.Stubs.{IsStub}
use Rattle.std.proofs.lemmas.Result.{IfOk-weaker}
use Rattle.flow_check.proofs.Stubs.{start_is}
use Rattle.flow_check.proofs.check_under.Goals as goal

pub returns-clause-verdict : goal.returns-clause-verdict
returns-clause-verdict c =
    let terms : Terms = record { answers = c.args.answers.now; public = c.args.public.now } in
    let m : Module = c.args.module.now in
    let text : List ℕ = c.args.text.now in
    let arms : List Arm = c.args.arms.now.list.items in
    let start : PointState = record { point = record { addr = c.begins-start.result; call_string = [] }; state = c.first-state.result } in
    let stub : IsStub m text c.entries-entries.result = record { is = c.entries-entries.ensures.is; high = c.requires.text.high; even = c.requires.text.even_start } in
    IfOk-weaker c.verdict.result (λ v. Decided (flow_under blurred_flags terms m text c.as_slice.result.now) start m.text.start v) (λ v. VerdictUnder terms m text arms v)
    (λ v h. subst (λ s. Decided (flow_under blurred_flags terms m text arms) s m.text.start v)
    (start_is known_words terms m text c.entries-entries.result c.is_some-stub.result c.begins-start.result c.first-state.result stub c.is_some-stub.ensures c.begins-start.ensures.plain c.begins-start.ensures.stub c.first-state.ensures)
    (subst (λ arms. Decided (flow_under blurred_flags terms m text arms) start m.text.start v) c.as_slice.ensures.value h))
    c.verdict.ensures

pub returns-clause-even : goal.returns-clause-even
returns-clause-even c =
    let terms : Terms = record { answers = c.args.answers.now; public = c.args.public.now } in
    let m : Module = c.args.module.now in
    let text : List ℕ = c.args.text.now in
    let arms : List Arm = c.args.arms.now.list.items in
    IfOk-weaker c.verdict.result (λ v. VerdictUnder terms m text arms v) (λ v. v ≡ Yes → EvenUnder terms m text)
    (λ v h yes. c.released.ensures.even terms m text arms c.requires.text c.requires.ram (subst (VerdictUnder terms m text arms) yes h))
    (returns-clause-verdict c)

pub returns-clause-kept : goal.returns-clause-kept
returns-clause-kept c =
    let terms : Terms = record { answers = c.args.answers.now; public = c.args.public.now } in
    let m : Module = c.args.module.now in
    let text : List ℕ = c.args.text.now in
    let arms : List Arm = c.args.arms.now.list.items in
    IfOk-weaker c.verdict.result (λ v. VerdictUnder terms m text arms v) (λ v. v ≡ Yes → KeptUnder terms m text)
    (λ v h yes. c.released.ensures.kept terms m text arms c.requires.text c.requires.ram (subst (VerdictUnder terms m text arms) yes h))
    (returns-clause-verdict c)
