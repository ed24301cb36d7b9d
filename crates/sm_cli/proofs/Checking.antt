-- Where the check of a module is answered yes, the rule of flow accepts its text.
use Rattle.std.proofs.Common.{◌≡◌, ℕ, List, [], ◌∷◌, is_some, Some, Option, refl, sym, ◌∙◌, ap, subst}
use Rattle.sm_io.specs.Files.{FileMap}
use Rattle.mod_layout.specs.declared.Module.{Module}
use Rattle.mod_layout.specs.Table.{module_of}
use Rattle.image_text.specs.Image.{Image, IsImage}
use Rattle.image_text.specs.ImageText.{image_text}
use Rattle.arm_balance.specs.declared.Arm.{Arm}
use Rattle.flow_rule.specs.declared.Verdict.{Verdict}
use Rattle.flow_rule.specs.declared.Verdict.TheVariants.{Yes, No}
use Rattle.flow_rule.specs.Arms.{VerdictWith}
use Rattle.flow_rule.specs.Terms.{no_terms}
use Rattle.written_machine.specs.Peers.{section, DifferInData, Peers}
use Rattle.peer_rows.specs.Laws.{AcceptedArePeers}
use Rattle.cli_files.specs.declared.answers.Status.TheVariants.{Done}
use Rattle.cli_files.specs.Files.{Held, an_image, certificates, image_with, arms_file, need, Holds, HoldAll}
use Rattle.cli_calls.specs.Command.{Command, Answer, judges, Comes, Answers, IsJudged, IsAnswer, verdict_answer}
use Rattle.sm_cli.specs.Serve.{call_of}
use Rattle.sm_cli.specs.CheckCommand.{check_outcome, check_command}
use Rattle.sm_cli.specs.BalanceCommand.{balance_outcome, balance_command}
use Rattle.sm_cli.specs.Input.{IsInput}
use Rattle.cli_calls.specs.Calls.{Serves}
use Rattle.sm_cli.proofs.OfModule.{of_module}
use Rattle.sm_cli.proofs.ShortText.{short_text}
use Rattle.cli_calls.proofs.Outcomes.{one_outcome}

only_yes : (v : Verdict) → (verdict_answer v).status ≡ Done → v ≡ Yes
only_yes Yes e = refl
only_yes (No addr why value) e = cc

accepted_by : (map : FileMap) (owner : Module) (text : List ℕ) (command : Command) (arms : List Arm) (answer : Answer) → Comes (Some map) command (judges no_terms owner text arms) → answer.status ≡ Done → IsAnswer (Some map) command answer → VerdictWith owner text arms Yes
accepted_by map owner text command arms answer comes status a =
    let j : IsJudged no_terms owner text arms answer = subst (λ o. Answers o answer) (one_outcome map command a.outcome (judges no_terms owner text arms) a.comes comes) a.is in
    let yes : j.verdict ≡ Yes = only_yes j.verdict (ap (λ (b : Answer). b.status) (sym j.tells) ∙ status) in
    subst (λ v. VerdictWith owner text arms v) yes j.is

module _ (map : FileMap) (name : List ℕ) (value : Image) (id : ℕ) (owner : Module) (image : IsImage value) (file : map name ≡ Some (image_text value)) (owned : module_of id value.table ≡ Some owner) where
  held : Holds (Some map) (need name (image_with id)) (an_image value)
  held = record { bytes = image_text value; file = file; short = short_text value image; is = (record { image = image; text = refl }, ap is_some owned) }

  pub check_accepted : (answer : Answer) → answer.status ≡ Done → IsAnswer (Some map) (check_command name id) answer → VerdictWith owner (section owner.text value.memory) [] Yes
  check_accepted answer status a =
      accepted_by map owner (section owner.text value.memory) (check_command name id) [] answer (record { helds = an_image value ∷ []; hold = (held, tt); is = of_module check_outcome value id owner [] owned }) status a

  module _ (arms_name : List ℕ) where
    abbrev BalanceComes : Type 0
    BalanceComes = (arms : List Arm) × Comes (Some map) (balance_command name id arms_name) (judges no_terms owner (section owner.text value.memory) arms)

    balance_with : (arms : Held) → Holds (Some map) (need arms_name arms_file) arms → BalanceComes
    balance_with (certificates arms) h = (arms, record { helds = an_image value ∷ certificates arms ∷ []; hold = (held, (h, tt)); is = of_module balance_outcome value id owner (certificates arms ∷ []) owned })
    balance_with _ h = absurd h.is

    balance_comes : (helds : List Held) → HoldAll (Some map) (need name (image_with id) ∷ need arms_name arms_file ∷ []) helds → BalanceComes
    balance_comes [] h = absurd h
    balance_comes (first ∷ []) h = absurd h.1
    balance_comes (first ∷ second ∷ helds) h = balance_with second h.1.0

    pub balance_accepted : (answer : Answer) → answer.status ≡ Done → IsAnswer (Some map) (balance_command name id arms_name) answer → (arms : List Arm) × VerdictWith owner (section owner.text value.memory) arms Yes
    balance_accepted answer status a =
        let found = balance_comes a.comes.helds a.comes.hold in
        (found.0, accepted_by map owner (section owner.text value.memory) (balance_command name id arms_name) found.0 answer found.1 status a)

-- where the check is answered yes, an image that differs in the module's data alone is a peer
pub checked_peers : (words : List (List ℕ)) (files : Option FileMap) (before after : ℕ) (took : List ℕ → Type 0) (value other : Image) (id : ℕ) (owner : Module) (arms : List Arm)
    → IsInput words files (judges no_terms owner (section owner.text value.memory) arms) → DifferInData value other id owner → Serves (call_of words files before after) Done took → AcceptedArePeers → Peers value other id
checked_peers words files before after took value other id owner arms i d s law =
    let both : Some s.command ≡ Some i.command = sym s.asked ∙ i.asked in
    let same : s.command ≡ i.command = cc in
    let answered : IsAnswer (Some i.map) i.command s.answer =
    subst (λ k. IsAnswer (Some i.map) k s.answer) same (subst (λ o. IsAnswer o s.command s.answer) i.told s.served) in
    law value other id owner arms d (accepted_by i.map owner (section owner.text value.memory) i.command arms s.answer i.comes s.status answered)
