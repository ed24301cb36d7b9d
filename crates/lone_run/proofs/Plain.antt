-- An instruction that is no unit instruction.
use Rattle.std.proofs.Common.{◌≡◌, ℕ, ◌-◌, List, [], ◌∷◌, map, refl, sym, ap, ◌∙◌, true, false, IsFalse, None}
use Rattle.std.proofs.lemmas.List.Elements.{All-cons, All-nil}
use Rattle.std.proofs.lemmas.Bool.{and_parts, not-true}
use Rattle.insn_decode.specs.Code.{is_unit}
use Rattle.insn_decode.specs.declared.insn.Insn.{Insn}
use Rattle.insn_decode.specs.declared.insn.Insn.TheVariants.{Unit as UnitOp}
use Rattle.cycle_table.specs.Cycles.{cycles_of}
use Rattle.pc_access.specs.Rights.{misaligned}
use Rattle.pc_access.specs.declared.Access.{Access}
use Rattle.attest.specs.Accesses.{reads_of, writes_of}
use Rattle.cpu_step.specs.Plan.{plan}
use Rattle.cpu_step.specs.Effect.{does}
use Rattle.cpu_step.specs.Asked.{asks, effect}
use Rattle.cpu_step.specs.Through.{AreAligned, Taken, taken, stored_in, through}
use Rattle.cpu_step.specs.Lone.{Job, lone_read, lone_writes, lone_does, lone_who, all_inside, is_inside}
use Rattle.cpu_step.proofs.ThroughLemmas.{AtMostOne, few_writes}
use Rattle.lone_run.specs.Jobs.{lone_between}
use Rattle.lone_run.specs.internal.Sections.{HeldSections, section_answer, after_held, after_put}

shape : (j : Job) (core ram : List ℕ) (insn : Insn) → IsFalse (is_unit insn) →
    lone_does j insn (lone_between core ram)
    ≡ record {
      core = (does insn core (map (lone_read j ram) (reads_of (plan insn core))) true).core;
      data_bytes = lone_writes j.owner ram (writes_of (plan insn core)) (does insn core (map (lone_read j ram) (reads_of (plan insn core))) true).stored;
      rest = cycles_of insn - 1;
      closing = false;
    }
unfolding lone_does asks effect
shape j core ram (UnitOp n) free = absurd (let h : ⊥ = cc in h)
shape j core ram _ free = refl

-- ---- through the sections

-- the sections before an instruction
abbrev pub before : Job → List ℕ → HeldSections
before j ram = record { job = j; ram = ram; put = None }

taken_is : (s : HeldSections) (xs : List Access) → taken section_answer (λ t w a. t) s xs ≡ record { values = map (lone_read s.job s.ram) xs; state = s }
taken_is s [] = refl
taken_is s (x ∷ xs) = ap (λ (r : Taken HeldSections). let t : Taken HeldSections = record { values = lone_read s.job s.ram x ∷ r.values; state = r.state } in t) (taken_is s xs)

stored_is : (j : Job) (ram : List ℕ) (xs : List Access) (values : List ℕ) → AtMostOne xs →
    after_put j.owner ram (stored_in after_held (before j ram) xs values).put ≡ lone_writes j.owner ram xs values
stored_is j ram (x ∷ xs) [] h = refl
stored_is j ram (x ∷ y ∷ xs) (v ∷ values) h = absurd cc
stored_is j ram _ _ h = refl

pub plain_done : (j : Job) (core ram after left : List ℕ) (insn : Insn) (s : HeldSections) (k : ℕ) → IsFalse (is_unit insn) →
    after ≡ (through section_answer (λ t w a. t) after_held insn core true (before j ram)).core →
    s ≡ (through section_answer (λ t w a. t) after_held insn core true (before j ram)).state →
    left ≡ after_put j.owner ram s.put → k ≡ cycles_of insn →
    lone_does j insn (lone_between core ram) ≡ record { core = after; data_bytes = left; rest = k - 1; closing = false }
plain_done j core ram after left insn s k free ea es el ek =
    let xs : List Access = plan insn core in
    let values : List ℕ = map (lone_read j ram) (reads_of xs) in
    let t : taken section_answer (λ t w a. t) (before j ram) (reads_of xs) ≡ record { values = values; state = before j ram } = taken_is (before j ram) (reads_of xs) in
    let core_is : after ≡ (does insn core values true).core = ea ∙ ap (λ (r : Taken HeldSections). (does insn core r.values true).core) t in
    let state_is : s ≡ stored_in after_held (before j ram) (writes_of xs) (does insn core values true).stored =
    es ∙ ap (λ (r : Taken HeldSections). stored_in after_held r.state (writes_of xs) (does insn core r.values true).stored) t in
    let left_is : left ≡ lone_writes j.owner ram (writes_of xs) (does insn core values true).stored =
    el ∙ ap (λ (z : HeldSections). after_put j.owner ram z.put) state_is ∙ stored_is j ram (writes_of xs) (does insn core values true).stored (few_writes insn core) in
    shape j core ram insn free
    ∙ ap (λ c. record { core = c; data_bytes = lone_writes j.owner ram (writes_of xs) (does insn core values true).stored; rest = cycles_of insn - 1; closing = false }) (sym core_is)
    ∙ ap (λ d. record { core = after; data_bytes = d; rest = cycles_of insn - 1; closing = false }) (sym left_is)
    ∙ ap (λ n. record { core = after; data_bytes = left; rest = n - 1; closing = false }) (sym ek)

-- ---- what stays in the sections is aligned

all_aligned : (j : Job) (xs : List Access) → all_inside j xs ≡ true → AreAligned xs
all_aligned j [] e = All-nil (λ (y : Access). IsFalse (misaligned y.width y.addr))
all_aligned j (x ∷ xs) e =
    All-cons (λ (y : Access). IsFalse (misaligned y.width y.addr)) x xs
    (not-true (misaligned x.width x.addr) (and_parts _ _ (and_parts (is_inside j x) (all_inside j xs) e).0).0)
    (all_aligned j xs (and_parts (is_inside j x) (all_inside j xs) e).1)

pub plain_aligned : (j : Job) (insn : Insn) (core : List ℕ) → IsFalse (is_unit insn) → all_inside j (asks (lone_who j) insn core) ≡ true → AreAligned (plan insn core)
unfolding asks
plain_aligned j (UnitOp n) core free e = absurd (let h : ⊥ = cc in h)
plain_aligned j insn core free e = all_aligned j (plan insn core) e
