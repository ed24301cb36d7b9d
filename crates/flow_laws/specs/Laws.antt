-- What an accepted text is: even for every two data, or but for the answers.
use Rattle.std.specs.Prelude.{◌≡◌, ◌<◌, ◌*◌, ◌⊎◌, ℕ, List, [], ◌∷◌, length, slice_index, All}
use Rattle.sm_words.specs.Words.{word_at}
use Rattle.mod_layout.specs.declared.Module.{Module}
use Rattle.mod_layout.specs.Table.{size_of}
use Rattle.mod_layout.specs.Tables.{IsSection}
use Rattle.cpu_step.specs.Lone.{Entrance, IsEntry, starts, job_of, outcome, alike_but, AlwaysEven, AlwaysEvenBut}
use Rattle.flow_rule.specs.Terms.{Terms}
use Rattle.flow_rule.specs.declared.Verdict.TheVariants.{Yes}
use Rattle.arm_balance.specs.declared.Arm.{Arm}
use Rattle.flow_rule.specs.Does.{word_no}
use Rattle.flow_rule.specs.Arms.{VerdictWith, VerdictUnder, flow_under}
use Rattle.flow_rule.specs.Iterations.{PointState}
use Rattle.flow_laws.specs.Exploring.{Explored, Complete, explore, explored, forks, most_states, first_state}
use Rattle.flow_rule.specs.Values.{known_flags}
use Rattle.flow_laws.specs.Releases.{Release, releasing, ToldApart}

-- a section's bytes
pub record IsData (m : Module) (d : List ℕ) : Type 0 where
  pub long : length d ≡ size_of m.ram
  pub bytes : (i : ℕ) → slice_index d i < 256

-- the data word at this address
abbrev pub data_word : Module → List ℕ → ℕ → ℕ
data_word m d a = word_at (slice_index d) (2 * word_no m a)

-- two data that agree on the words at these addresses
abbrev pub AgreeOn : Module → List ℕ → List ℕ → List ℕ → Type 0
AgreeOn m addrs d1 d2 = All (λ a. data_word m d1 a ≡ data_word m d2 a) addrs

-- every two data of a module, under every key, end alike in every list of calls and every number of cycles
abbrev pub EvenForAll : Module → List ℕ → Type 0
EvenForAll m text = (key d1 d2 : List ℕ) → IsData m d1 → IsData m d2 → AlwaysEven key m text d1 d2

-- every two data that agree on the public words do so but for the answers
abbrev pub EvenUnder : Terms → Module → List ℕ → Type 0
EvenUnder terms m text =
    (key d1 d2 : List ℕ) → IsData m d1 → IsData m d2 → AgreeOn m terms.public d1 d2 → AlwaysEvenBut terms.answers key m text d1 d2

-- a call from two data that agree on the public words leaves two such data, whatever its answers are
abbrev pub KeptUnder : Terms → Module → List ℕ → Type 0
KeptUnder terms m text =
    (key d1 d2 : List ℕ) → IsData m d1 → IsData m d2 → AgreeOn m terms.public d1 d2 → (e : Entrance) → IsEntry m e → (n : ℕ) →
    let j = job_of key m text e.caller in
    alike_but terms.answers (λ c c' x y. IsData m x × IsData m y × AgreeOn m terms.public x y)
    (outcome j n (starts e d1)) (outcome j n (starts e d2))

-- a text that the rule accepts, under any certificates, is even for every two data
abbrev pub Evenness : Type 0
Evenness = (m : Module) (text : List ℕ) (arms : List Arm) → IsSection m.text → IsSection m.ram → VerdictWith m text arms Yes → EvenForAll m text

-- a text that the rule accepts under terms is even but for the answers for every two data that agree on the public words
abbrev pub Released : Type 0
Released = (terms : Terms) (m : Module) (text : List ℕ) (arms : List Arm) → IsSection m.text → IsSection m.ram → VerdictUnder terms m text arms Yes → EvenUnder terms m text

-- and each call keeps that they agree
abbrev pub Kept : Type 0
Kept = (terms : Terms) (m : Module) (text : List ℕ) (arms : List Arm) → IsSection m.text → IsSection m.ram → VerdictUnder terms m text arms Yes → KeptUnder terms m text

-- the same of a text whose exploration is complete
abbrev pub UnrolledReleased : Type 0
UnrolledReleased = (terms : Terms) (m : Module) (text : List ℕ) (arms : List Arm) (steps left : ℕ) (kept : List PointState) → IsSection m.text → IsSection m.ram →
    explored terms m text arms steps ≡ Complete left kept → EvenUnder terms m text

abbrev pub UnrolledKept : Type 0
UnrolledKept = (terms : Terms) (m : Module) (text : List ℕ) (arms : List Arm) (steps left : ℕ) (kept : List PointState) → IsSection m.text → IsSection m.ram →
    explored terms m text arms steps ≡ Complete left kept → KeptUnder terms m text

-- a text explored under releases
abbrev pub explored_under : List Release → Terms → Module → List ℕ → List Arm → ℕ → Explored
explored_under ps terms m text arms steps =
    explore (releasing ps (flow_under known_flags terms m text arms)) (forks m text) most_states (first_state terms m text ∷ []) [] steps

-- where that is complete, a call from two data that agree on the public words ends alike but for the answers and leaves two such data,
-- or a release tells the two apart
abbrev pub Delimited : Type 0
Delimited = (ps : List Release) (terms : Terms) (m : Module) (text : List ℕ) (arms : List Arm) (steps left : ℕ) (kept : List PointState) → IsSection m.text → IsSection m.ram →
    explored_under ps terms m text arms steps ≡ Complete left kept →
    (key d1 d2 : List ℕ) → IsData m d1 → IsData m d2 → AgreeOn m terms.public d1 d2 → (e : Entrance) → IsEntry m e → (n : ℕ) →
    let j = job_of key m text e.caller in
    alike_but terms.answers (λ c c' x y. IsData m x × IsData m y × AgreeOn m terms.public x y) (outcome j n (starts e d1)) (outcome j n (starts e d2)) ⊎ ToldApart ps j (starts e d1) (starts e d2) n
