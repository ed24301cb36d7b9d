use Rattle.std.proofs.Common.{rules, ◌≡◌, ℕ, max, Some, ap, ap₂, ◌∙◌, true, arith}
use Rattle.std.proofs.lemmas.Result.{IfOk-weaker}
use Rattle.clap.specs.Walk.{rule_of}
use Rattle.clap.specs.Simple.{Shape, app_of, app_of_fields, new_app, with_rule, on_top}
use Rattle.clap.specs.declared.builder.range.ValueRange.{ValueRange}
use Rattle.cli_calls.specs.internal.App.{several}
use Rattle.cli_calls.proofs.Clap.{some_and}
use Rattle.cli_calls.proofs.words.simple_command.Goals as goal

pub returns : goal.returns
returns c =
    let least = c.args.least in
    let most = c.args.most in
    let range = some_and c.num_args-values.result.num_vals _ c.num_args-values.ensures.1 in
    let from : c.new-2.result.start ≡ least = c.new-2.ensures.start in
    let to : max c.new-2.result.end c.new-2.result.start ≡ most = let e : c.new-2.result.end ≡ most = c.new-2.ensures.end in omega arith in
    let bounds : ℕ → ℕ → ValueRange = λ a b. record { start_inclusive = a; end_inclusive = b } in
    let num : c.num_args-values.result.num_vals ≡ Some (record { start_inclusive = least; end_inclusive = most }) =
    range.1 ∙ ap (λ (r : ValueRange). Some r) (range.2 ∙ ap₂ bounds from to) in
    let rule_is : rule_of c.num_args-values.result ≡ several least most = ap rule_of c.num_args-values.ensures.0 ∙ rw num (search rules) in
    let start_is : app_of c.disable_help_flag.result ≡ on_top (λ s. record s { disable_help_flag = true }) (new_app c.args.name.now) =
    ap app_of_fields c.disable_help_flag.ensures ∙ ap (on_top (λ (s : Shape). record s { disable_help_flag = true })) c.new-3.ensures.app in
    IfOk-weaker c.arg.result _ _ (λ command added. added.shape (search rules) ∙ ap₂ with_rule start_is rule_is) c.arg.ensures
