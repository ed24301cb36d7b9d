-- What an instruction reads and writes in a settled machine.
use Rattle.std.proofs.Common.{◌≡◌, ℕ, ◌≤◌, List, [], ◌∷◌, length, Bool, true, false, not, refl, sym, ap, subst, ◌∙◌}
use Rattle.std.proofs.lemmas.Bool.{false≢true}
use Rattle.std.proofs.lemmas.List.Sums.{list_all-from_AllPass}
use Rattle.std.specs.List.{list_all}
use Rattle.devices.specs.Bus.{BusState, MarkedBus, marked_bus}
use Rattle.devices.specs.Devices.{Devices}
use Rattle.insn_decode.specs.declared.insn.Insn.{Insn}
use Rattle.insn_decode.specs.declared.insn.Insn.TheVariants.{Reti}
use Rattle.pc_access.specs.Rights.{misaligned}
use Rattle.pc_access.specs.declared.Access.{Access}
use Rattle.reg_backup.specs.declared.frames.Frame.{Frame}
use Rattle.reg_backup.specs.declared.frames.Frame.TheVariants.{Module as Held}
use Rattle.cpu_step.specs.Plan.{plan}
use Rattle.cpu_step.specs.Through.{AreAligned, through}
use Rattle.written_machine.specs.Cycle.{port_of}
use Rattle.written_machine.specs.State.{State}
use Rattle.board.specs.Watched.{is_held_first}
use Rattle.owner_steps.specs.Touched.{Traced, traced_answer, shown_touches, shown_by, touches_of}
use Rattle.owner_steps.specs.internal.Touching.{plan_shown, read_kept, write_kept}
use Rattle.owner_steps.specs.declared.touching.Touch.{Touch}
use Rattle.owner_steps.proofs.Kept.{all_kept}

-- accesses that are aligned pass the test
pub aligned_test : (xs ys : List Access) (b : Bool) → AreAligned xs → ys ≡ xs → b ≡ list_all (λ x. not (misaligned x.width x.addr)) ys → b ≡ false → ⊥
aligned_test xs ys b aligned same test fails =
    let yes : list_all (λ (x : Access). not (misaligned x.width x.addr)) xs ≡ true =
    list_all-from_AllPass (λ (x : Access). not (misaligned x.width x.addr)) xs (λ k d l. ap not (aligned k d l))
    in
    false≢true (sym fails ∙ test ∙ ap (list_all (λ (x : Access). not (misaligned x.width x.addr))) same ∙ yes)

-- devices that are read in place of a bus, with its schedule
pub start_is : (d : Devices) (b : BusState) (m : MarkedBus) → b.devices ≡ d → m ≡ marked_bus b → record m.devices { schedule = d.schedule } ≡ d
start_is d b m same marked =
    ap (λ (x : MarkedBus). let e : Devices = record x.devices { schedule = d.schedule } in e) marked
    ∙ ap (λ (x : Devices). let e : Devices = record x { schedule = d.schedule } in e) same

-- what is kept of an instruction is all that it reads and writes
pub touched_is : (insn : Insn) (s : State) (core : List ℕ) (d : Devices) (xs : List Touch) (after : Traced) → core ≡ s.core → d ≡ s.devices → xs ≡ [] → length (plan insn core) ≤ 3
    → after ≡ (through traced_answer read_kept write_kept insn core false (record { port = record { devices = d; memory = s.memory }; touched = xs })).state → after.touched ≡ touches_of insn s
touched_is insn s core d xs after core_is devices_are none few is =
    let begins : List ℕ → Devices → List Touch → Traced = λ c e l. record { port = record { devices = e; memory = s.memory }; touched = l } in
    let small : length (plan insn s.core) ≤ 3 = subst (λ (c : List ℕ). length (plan insn c) ≤ 3) core_is few in
    let start : Traced = record { port = port_of s; touched = [] } in
    ap (λ (t : Traced). t.touched)
    (is
    ∙ ap (λ (c : List ℕ). (through traced_answer read_kept write_kept insn c false (begins c d xs)).state) core_is
    ∙ ap (λ (e : Devices). (through traced_answer read_kept write_kept insn s.core false (begins s.core e xs)).state) devices_are
    ∙ ap (λ (l : List Touch). (through traced_answer read_kept write_kept insn s.core false (begins s.core s.devices l)).state) none
    ∙ all_kept insn s.core start refl small)

-- RETI that resumes a module
pub resumes : (insn : Insn) (s : State) (xs : List Touch) → insn ≡ Reti → is_held_first s.frames ≡ true → xs ≡ [] → xs ≡ shown_touches insn s
resumes insn s xs is first none = by s.frames first ∙ ap (λ (i : Insn). shown_touches i s) (sym is)
  where
    by : (fs : List Frame) → is_held_first fs ≡ true → xs ≡ shown_by Reti fs s
    by (Held b ∷ fs) h = none
    by _ h = absurd cc

-- and another
pub returns_plain : (insn : Insn) (s : State) (xs : List Touch) → insn ≡ Reti → is_held_first s.frames ≡ false → (AreAligned (plan insn s.core) → xs ≡ touches_of insn s) → AreAligned (plan_shown insn s.frames s.core) → xs ≡ shown_touches insn s
returns_plain insn s xs is first all aligned =
    by s.frames first (subst (λ (i : Insn). AreAligned (plan i s.core) → xs ≡ touches_of i s) is all) (subst (λ (i : Insn). AreAligned (plan_shown i s.frames s.core)) is aligned)
    ∙ ap (λ (i : Insn). shown_touches i s) (sym is)
  where
    by : (fs : List Frame) → is_held_first fs ≡ false → (AreAligned (plan Reti s.core) → xs ≡ touches_of Reti s) → AreAligned (plan_shown Reti fs s.core) → xs ≡ shown_by Reti fs s
    by (Held b ∷ fs) h f a = absurd cc
    by _ h f a = f a
