-- Where terms are offered with status 0, they are some of the granted ones, and the verdict under them is yes.
use Rattle.std.proofs.Common.{◌≡◌, ℕ, List, [], length, Some, Option, refl, sym, ◌∙◌, ap, subst}
use Rattle.std.specs.Prelude.{codes}
use Rattle.sm_io.specs.Files.{FileMap}
use Rattle.mod_layout.specs.declared.Module.{Module}
use Rattle.image_text.specs.Image.{Image}
use Rattle.arm_balance.specs.declared.Arm.{Arm}
use Rattle.flow_rule.specs.declared.Verdict.{Verdict}
use Rattle.flow_rule.specs.declared.Verdict.TheVariants.{Yes, No}
use Rattle.flow_rule.specs.Arms.{VerdictUnder}
use Rattle.written_machine.specs.Peers.{section}
use Rattle.terms_file.specs.declared.Term.{Term}
use Rattle.terms_file.specs.Terms.{terms_text}
use Rattle.cli_files.specs.declared.answers.Status.TheVariants.{Done}
use Rattle.cli_calls.specs.Calls.{Serves, called}
use Rattle.cli_calls.specs.Command.{Answer, offers, offer_answer, IsOffer, IsAnswer}
use Rattle.cli_calls.specs.Offers.{terms_by, stands}
use Rattle.cli_calls.specs.Words.{Text}
use Rattle.cli_calls.proofs.Offering.{is_standing}
use Rattle.cli_calls.specs.CommandNames.{command_of}
use Rattle.lab_cli.specs.CommandLine.{lab_commands}
use Rattle.lab_cli.specs.Offerings.{IsOffering, AreAccepted}
use Rattle.lab_cli.specs.TermsCommand.{offer_command}
use Rattle.lab_cli.proofs.UnderTerms.{judged_done}

yes_alone : (text : List ℕ) (v : Verdict) → (offer_answer text v).status ≡ Done → v ≡ Yes
yes_alone text Yes e = refl
yes_alone text (No addr why value) e = cc

-- an offer that is told with status 0, in a text with P
accepted : (value : Image) (owner : Module) (granted : List Term) (arms : List Arm) (answer : Answer)
    (P : List ℕ → Type 0) → answer.status ≡ Done → P answer.text
    → IsOffer granted owner (section owner.text value.memory) arms answer → AreAccepted value owner granted P
accepted value owner granted arms answer P status taken o =
    let text = section owner.text value.memory in
    let yes : o.verdict ≡ Yes =
    yes_alone (terms_text o.terms) o.verdict (ap (λ (b : Answer). b.status) (sym o.tells) ∙ status) in
    let said : answer.text ≡ terms_text o.terms = ap (λ (b : Answer). b.text) o.tells
    ∙ ap (λ (v : Verdict). (offer_answer (terms_text o.terms) v).text) yes in
    let stand = is_standing owner text arms granted (length granted) [] o.terms o.verdict o.is in
    record {
      terms = o.terms;
      text = subst P said taken;
      test = stands stand.0;
      granted_ones = stand.1;
      arms = arms;
      accepted = subst (λ v. VerdictUnder (terms_by o.terms) owner text arms v) yes stand.2;
    }

pub are_accepted : (words : List Text) (files : Option FileMap) (before after : ℕ) (took : List ℕ → Type 0)
    (value : Image) (owner : Module) (granted : List Term) → IsOffering words files value owner granted
    → Serves (called (codes "sancus-lab") (command_of lab_commands words) files before after) Done took
    → AreAccepted value owner granted took
are_accepted words files before after took value owner granted i s =
    let command = offer_command i.name i.id i.terms_name i.arms in
    let both : Some s.command ≡ Some command = sym s.asked ∙ i.command in
    let same : s.command ≡ command = cc in
    let answered : IsAnswer (Some i.map) command s.answer =
    subst (λ k. IsAnswer (Some i.map) k s.answer) same (subst (λ o. IsAnswer o s.command s.answer) i.told s.served) in
    let done = judged_done offers i.map i.name i.terms_name i.arms value i.id owner granted i.owned i.image_is
    i.terms_are s.answer s.status answered in
    accepted value owner granted done.0 s.answer took s.status s.text done.1
