use Rattle.std.proofs.Common.{◌≡◌, ◌∙◌, ℕ, ◌/◌, List, [], ◌∷◌, map, replicate, refl, subst}
use Rattle.mod_layout.specs.declared.Module.{Module}
use Rattle.mod_layout.specs.Table.{size_of}
use Rattle.flow_rule.specs.declared.Val.TheVariants.{Public, Secret}
use Rattle.flow_rule.specs.Terms.{Terms}
use Rattle.flow_rule.specs.Values.{set_each, known_flags}
use Rattle.flow_rule.specs.Does.{word_no}
use Rattle.flow_rule.specs.Arms.{flow_under}
use Rattle.flow_laws.specs.Exploring.{forks, most_states, explore, explored, first_state}
use Rattle.flow_check.specs.internal.Stubs.{IsStub, first_core}
use Rattle.flow_check.specs.internal.Points.{state_of}
use Rattle.flow_check.specs.internal.Exploring.{held_point, Ends}
use Rattle.flow_check.proofs.Stubs.{start_is}
use Rattle.flow_check.proofs.Endings.{yes_complete}
use Rattle.flow_check.proofs.unroll.Goals as goal

pub returns-clause-exact : goal.returns-clause-exact
returns-clause-exact c =
    let terms : Terms = record { answers = c.args.answers.now; public = c.args.public.now } in
    let m : Module = c.args.module.now in
    let text : List ℕ = c.args.text.now in
    let known = size_of m.ram / 2 in
    let state = state_of (first_core c.is_some-stub.result c.begins-start.result) (set_each (map (word_no m) terms.public) Public (replicate known Secret)) in
    let stub : IsStub m text c.entries-entries.result = record { is = c.entries-entries.ensures.is; high = c.requires.text.high; even = c.requires.text.even_start } in
    let start : held_point c.in_ok-first.first ≡ first_state terms m text =
    c.in_ok-first.ensures
    ∙ start_is known terms m text c.entries-entries.result c.is_some-stub.result c.begins-start.result state stub c.is_some-stub.ensures c.begins-start.ensures.plain c.begins-start.ensures.stub refl in
    c.unrolling_of.ensures (explored terms m text [] c.args.steps)
    (subst (λ s. Ends c.in_ok-ending.ending (explore (flow_under known_flags terms m text []) (forks m text) most_states (s ∷ []) [] c.args.steps)) start c.in_ok-ending.ensures)

pub returns-clause-even : goal.returns-clause-even
returns-clause-even c = λ taken yes.
    let terms : Terms = record { answers = c.args.answers.now; public = c.args.public.now } in
    let x = yes_complete c.args.steps (explored terms c.args.module.now c.args.text.now [] c.args.steps) c.unrolling_of.result taken (returns-clause-exact c) yes in
    c.unrolled.ensures.even terms c.args.module.now c.args.text.now [] c.args.steps x.0 x.1 c.requires.text c.requires.ram x.2

pub returns-clause-kept : goal.returns-clause-kept
returns-clause-kept c = λ taken yes.
    let terms : Terms = record { answers = c.args.answers.now; public = c.args.public.now } in
    let x = yes_complete c.args.steps (explored terms c.args.module.now c.args.text.now [] c.args.steps) c.unrolling_of.result taken (returns-clause-exact c) yes in
    c.unrolled.ensures.kept terms c.args.module.now c.args.text.now [] c.args.steps x.0 x.1 c.requires.text c.requires.ram x.2
