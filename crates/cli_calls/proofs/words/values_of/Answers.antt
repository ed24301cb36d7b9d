use Rattle.std.proofs.Common.{rules, ◌≡◌, List, [], map, string_bytes, ap, sym, subst, ◌∙◌, inl, inr}
use Rattle.clap.specs.Walk.{all_of, Text}
use Rattle.clap.specs.Matches.{found_of}
use Rattle.clap.specs.Simple.{App, app_of, is_simple, matches_of}
use Rattle.clap.specs.Faults.{is_simple_and_free, fault_of}
use Rattle.clap.proofs.WalkLemmas.{raw_values-rows}
use Rattle.clap.specs.Kinds.{IsAmong}
use Rattle.clap.specs.Values.{kind_of}
use Rattle.cli_calls.specs.internal.App.{id, app}
use Rattle.cli_calls.proofs.Clap.{is_plain, is_simple_app, decides-all, decided_ok, decided_err, texts_of_strings, Wanted}
use Rattle.cli_calls.proofs.words.values_of.Goals as goal

pub returns-in-Some : goal.returns-in-Some
returns-in-Some c =
    let name = c.args.name.now in
    let least = c.args.least in
    let most = c.args.most in
    let wanted : Wanted least most = record { some = c.requires.some; order = c.requires.order } in
    let app_is : app_of c.in_ok-command.command ≡ app name least most = c.in_ok-command.ensures in
    let words : List Text = map string_bytes c.args.words.now in
    let judged = decides-all name least most wanted words (texts_of_strings c.args.words.now) in
    let kinds = c.in-Ok.ensures.kinds (ap is_simple_and_free app_is ∙ is_plain name least most) in
    let none : fault_of (app name least most) words ≡ [] = ap (λ (a : App). fault_of a words) (sym app_is) ∙ kinds in
    let got = decided_ok name least most words (fault_of (app name least most) words) judged none in
    let matched = c.in-Ok.ensures.matches (ap is_simple app_is ∙ is_simple_app name least most) in
    let rows = ap (all_of id) (matched.0 ∙ ap (λ (a : App). matches_of a words) app_is) ∙ got.1.1 in
    let raw = c.get_raw.ensures ∙ raw_values-rows (found_of c.in-Ok.matches) id ∙ rows in
    let found = rw c.in-Some.is at raw in
    let same : c.in_ok-to_vec-in-Some.field-0.items ≡ c.in-Some.found.now = c.in_ok-to_vec-in-Some.ensures.items_if_clones_equal (search rules) in
    rw same (found ∙ sym got.1.0)

pub returns-in-Ok : goal.returns-in-Ok
returns-in-Ok c =
    let name = c.args.name.now in
    let least = c.args.least in
    let most = c.args.most in
    let wanted : Wanted least most = record { some = c.requires.some; order = c.requires.order } in
    let app_is : app_of c.in_ok-command.command ≡ app name least most = c.in_ok-command.ensures in
    let words : List Text = map string_bytes c.args.words.now in
    let judged = decides-all name least most wanted words (texts_of_strings c.args.words.now) in
    let kinds = c.in-Ok.ensures.kinds (ap is_simple_and_free app_is ∙ is_plain name least most) in
    let none : fault_of (app name least most) words ≡ [] = ap (λ (a : App). fault_of a words) (sym app_is) ∙ kinds in
    let got = decided_ok name least most words (fault_of (app name least most) words) judged none in
    let matched = c.in-Ok.ensures.matches (ap is_simple app_is ∙ is_simple_app name least most) in
    let rows = ap (all_of id) (matched.0 ∙ ap (λ (a : App). matches_of a words) app_is) ∙ got.1.1 in
    let raw = c.get_raw.ensures ∙ raw_values-rows (found_of c.in-Ok.matches) id ∙ rows in
    let found = rw c.in-None.is at raw in
    absurd (cc)

pub returns : goal.returns
returns c =
    let name = c.args.name.now in
    let least = c.args.least in
    let most = c.args.most in
    let wanted : Wanted least most = record { some = c.requires.some; order = c.requires.order } in
    let app_is : app_of c.in_ok-command.command ≡ app name least most = c.in_ok-command.ensures in
    let words : List Text = map string_bytes c.args.words.now in
    let judged = decides-all name least most wanted words (texts_of_strings c.args.words.now) in
    let kinds = c.in-Err.ensures.kinds (ap is_simple_and_free app_is ∙ is_plain name least most) in
    elim kinds [
      | inl h ↦ absurd (c.in_default.not-OutOfMemory (c.kind.ensures ∙ h))
      | inr h ↦
          let P : App → Type 0 = λ a. IsAmong (kind_of c.in-Err.error) (fault_of a words) in
          sym (decided_err name least most words (fault_of (app name least most) words) (kind_of c.in-Err.error) judged (subst P app_is h))
    ]
