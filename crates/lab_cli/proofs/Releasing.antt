-- Where a module is judged yes under terms, an image that differs in its data, and in no public word, is a peer but for the answers.
use Rattle.std.proofs.Common.{◌≡◌, ℕ, List, Some, Option, refl, sym, ◌∙◌, ap, subst}
use Rattle.std.specs.Prelude.{codes}
use Rattle.sm_io.specs.Files.{FileMap}
use Rattle.mod_layout.specs.declared.Module.{Module}
use Rattle.image_text.specs.Image.{Image}
use Rattle.arm_balance.specs.declared.Arm.{Arm}
use Rattle.flow_rule.specs.declared.Verdict.{Verdict}
use Rattle.flow_rule.specs.declared.Verdict.TheVariants.{Yes, No}
use Rattle.flow_rule.specs.Arms.{VerdictUnder}
use Rattle.flow_laws.specs.Laws.{AgreeOn}
use Rattle.written_machine.specs.Peers.{section, DifferInData, PeersBut}
use Rattle.peer_rows.specs.Laws.{AcceptedButAnswers}
use Rattle.terms_file.specs.declared.Term.{Term}
use Rattle.terms_file.specs.Laws.{AnswersMayBe}
use Rattle.cli_files.specs.declared.answers.Status.TheVariants.{Done}
use Rattle.cli_calls.specs.Calls.{Serves, called}
use Rattle.cli_calls.specs.Command.{Answer, IsJudged, IsAnswer, verdict_answer}
use Rattle.cli_calls.specs.Offers.{terms_by}
use Rattle.cli_calls.specs.Words.{Text}
use Rattle.cli_calls.specs.CommandNames.{command_of}
use Rattle.lab_cli.specs.CommandLine.{lab_commands}
use Rattle.lab_cli.specs.ReleasedCommand.{judged_under, released_command}
use Rattle.lab_cli.specs.Releases.{IsRelease}
use Rattle.lab_cli.proofs.UnderTerms.{judged_done}

only_yes : (v : Verdict) → (verdict_answer v).status ≡ Done → v ≡ Yes
only_yes Yes e = refl
only_yes (No addr why value) e = cc

-- a verdict that is told with status 0
accepted : (terms : List Term) (owner : Module) (text : List ℕ) (arms : List Arm) (answer : Answer)
    → answer.status ≡ Done → IsJudged (terms_by terms) owner text arms answer
    → VerdictUnder (terms_by terms) owner text arms Yes
accepted terms owner text arms answer status j =
    let yes : j.verdict ≡ Yes = only_yes j.verdict (ap (λ (b : Answer). b.status) (sym j.tells) ∙ status) in
    subst (λ v. VerdictUnder (terms_by terms) owner text arms v) yes j.is

pub released_peers : (words : List Text) (files : Option FileMap) (before after : ℕ) (took : List ℕ → Type 0) (value other : Image) (id : ℕ) (owner : Module) (terms : List Term)
    → IsRelease words files value id terms → DifferInData value other id owner → AgreeOn owner (terms_by terms).public (section owner.ram value.memory) (section owner.ram other.memory)
    → Serves (called (codes "sancus-lab") (command_of lab_commands words) files before after) Done took → AcceptedButAnswers → AnswersMayBe → PeersBut value other id (terms_by terms).answers
released_peers words files before after took value other id owner terms i d agree s law registers =
    let command = released_command i.name id i.terms_name i.arms in
    let both : Some s.command ≡ Some command = sym s.asked ∙ i.command in
    let same : s.command ≡ command = cc in
    let answered : IsAnswer (Some i.map) command s.answer =
    subst (λ k. IsAnswer (Some i.map) k s.answer) same (subst (λ o. IsAnswer o s.command s.answer) i.told s.served) in
    let text = section owner.text value.memory in
    let done = judged_done judged_under i.map i.name i.terms_name i.arms value id owner terms d.owned i.image_is
    i.terms_are s.answer s.status answered in
    let yes = accepted terms owner text done.0 s.answer s.status done.1 in
    law value other id owner (terms_by terms) done.0 d agree (registers i.terms_are.bytes terms i.terms_are.is) yes
