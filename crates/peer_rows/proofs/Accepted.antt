-- An accepted text makes peers.
use Rattle.std.proofs.Common.{◌<◌, ℕ, zero, suc, List, [], ◌∷◌, take, drop, slice_index, true, arith, refl, ◌≡◌}
use Rattle.std.specs.List.{list_all}
use Rattle.std.proofs.lemmas.List.Elements.{All-nil}
use Rattle.std.proofs.lemmas.List.{length-drop, length-take}
use Rattle.mod_layout.proofs.Found.{module_found}
use Rattle.mod_layout.specs.declared.Module.{Module}
use Rattle.mod_layout.specs.Table.{size_of}
use Rattle.mod_layout.specs.Tables.{IsSection}
use Rattle.image_text.specs.Image.{Image, IsImage}
use Rattle.arm_balance.specs.declared.Arm.{Arm}
use Rattle.flow_rule.specs.declared.Verdict.TheVariants.{Yes}
use Rattle.flow_rule.specs.Arms.{VerdictUnder, VerdictWith}
use Rattle.flow_laws.specs.Laws.{IsData, AgreeOn}
use Rattle.flow_rule.specs.Terms.{Terms, no_terms}
use Rattle.flow_laws.proofs.Calls.{even_under}
use Rattle.cpu_step.specs.Lone.{is_answer}
use Rattle.written_machine.specs.Peers.{section, DifferInData, PeersBut, Peers}

taken : (n : ℕ) (xs : List ℕ) → ((i : ℕ) → slice_index xs i < 256) → (i : ℕ) → slice_index (take n xs) i < 256
taken (suc n) (x ∷ xs) h zero = h 0
taken (suc n) (x ∷ xs) h (suc i) = taken n xs (λ i. h (suc i)) i
taken _ _ h i = omega arith

dropped : (n : ℕ) (xs : List ℕ) → ((i : ℕ) → slice_index xs i < 256) → (i : ℕ) → slice_index (drop n xs) i < 256
dropped zero xs h i = h i
dropped (suc n) [] h i = omega arith
dropped (suc n) (x ∷ xs) h i = dropped n xs (λ i. h (suc i)) i

is_data : (i : Image) (owner : Module) → IsImage i → IsSection owner.ram → IsData owner (section owner.ram i.memory)
is_data i owner image ram = record {
  long = let order = ram.order in let high = ram.high in let full = image.full in
      let e = length-drop owner.ram.start i.memory in let f = length-take (size_of owner.ram) (drop owner.ram.start i.memory) in omega (arith, e, f, order, high, full);
  bytes = taken (size_of owner.ram) (drop owner.ram.start i.memory) (dropped owner.ram.start i.memory image.bytes);
}

pub accepted_but : (a b : Image) (m : ℕ) (owner : Module) (terms : Terms) (arms : List Arm) → DifferInData a b m owner
    → AgreeOn owner terms.public (section owner.ram a.memory) (section owner.ram b.memory) → list_all is_answer terms.answers ≡ true
    → VerdictUnder terms owner (section owner.text a.memory) arms Yes → PeersBut a b m terms.answers
accepted_but a b m owner terms arms d agree answers v =
    let is = module_found a.table.given m owner a.table.modules d.images.0.table_ok.modules d.owned in
    let da = is_data a owner d.images.0 is.ram_ok in
    let db = is_data b owner d.images.1 is.ram_ok in
    record {
      owner = owner;
      differ = d;
      answers_ok = answers;
      even = λ es n h. even_under terms a.node_key owner (section owner.text a.memory) arms n es (section owner.ram a.memory) (section owner.ram b.memory) is.text_ok is.ram_ok v
          (record { long = da.long; bytes = da.bytes }) (record { long = db.long; bytes = db.bytes }) agree h;
    }

pub accepted : (a b : Image) (m : ℕ) (owner : Module) (arms : List Arm) → DifferInData a b m owner → VerdictWith owner (section owner.text a.memory) arms Yes → Peers a b m
accepted a b m owner arms d v = accepted_but a b m owner no_terms arms d (All-nil _) refl v
