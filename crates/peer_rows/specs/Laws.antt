-- A text that the rule of flow accepts makes peers.
use Rattle.std.specs.Prelude.{◌≡◌, ℕ, List, true}
use Rattle.std.specs.List.{list_all}
use Rattle.mod_layout.specs.declared.Module.{Module}
use Rattle.image_text.specs.Image.{Image}
use Rattle.arm_balance.specs.declared.Arm.{Arm}
use Rattle.cpu_step.specs.Lone.{is_answer}
use Rattle.flow_rule.specs.declared.Verdict.TheVariants.{Yes}
use Rattle.flow_rule.specs.Arms.{VerdictUnder, VerdictWith}
use Rattle.flow_laws.specs.Laws.{AgreeOn}
use Rattle.flow_rule.specs.Terms.{Terms}
use Rattle.written_machine.specs.Peers.{section, DifferInData, PeersBut, Peers}

-- where the module's text is accepted, they are peers
abbrev pub AcceptedArePeers : Type 0
AcceptedArePeers = (a b : Image) (m : ℕ) (owner : Module) (arms : List Arm) → DifferInData a b m owner → VerdictWith owner (section owner.text a.memory) arms Yes → Peers a b m

-- where it is accepted under terms, and the two data agree on the public words, they are peers but for the answers
abbrev pub AcceptedButAnswers : Type 0
AcceptedButAnswers = (a b : Image) (m : ℕ) (owner : Module) (terms : Terms) (arms : List Arm) → DifferInData a b m owner
    → AgreeOn owner terms.public (section owner.ram a.memory) (section owner.ram b.memory) → list_all is_answer terms.answers ≡ true
    → VerdictUnder terms owner (section owner.text a.memory) arms Yes → PeersBut a b m terms.answers
