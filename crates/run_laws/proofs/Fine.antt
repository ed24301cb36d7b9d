-- What every state of a run keeps of its cores, its table and its ids.
use Rattle.std.proofs.Common.{◌≡◌, ℕ, suc, ◌<◌, ◌≤◌, List, [], ◌∷◌, get_or, replicate, refl, sym, subst, arith, Bool, true, false, Option, Some, None, drop}
use Rattle.cpu_step.specs.Asked.{table_after}
use Rattle.image_text.specs.Image.{Image, IsImage}
use Rattle.insn_decode.specs.declared.insn.Insn.{Insn}
use Rattle.insn_decode.specs.declared.insn.Insn.TheVariants.{Reti}
use Rattle.mod_layout.proofs.Found.{place_by}
use Rattle.mod_layout.proofs.TableLemmas.{taken, table_more, table_dropped}
use Rattle.mod_layout.specs.Table.{Table, place_in, place_of, holds}
use Rattle.mod_layout.specs.Tables.{AreModules, IsTable}
use Rattle.mod_layout.specs.declared.Module.{Module}
use Rattle.mod_layout.specs.declared.Place.{Place}
use Rattle.mod_layout.specs.declared.Place.TheVariants.{Entry}
use Rattle.reg_backup.specs.declared.frames.Frame.{Frame}
use Rattle.reg_backup.specs.declared.frames.Frame.TheVariants.{Plain, Module as Held}
use Rattle.schedule_file.specs.declared.Entry.{Entry as Scheduled}
use Rattle.sm_words.specs.Words.{IsCore}
use Rattle.written_machine.specs.Cycle.{Settled, pc_of, settle, ticked, arrive_inside, plain_if, push_both, who_of, perform, enter}
use Rattle.written_machine.specs.State.{State}
use Rattle.written_machine.specs.View.{at}
use Rattle.run_laws.proofs.Each.{Each}
use Rattle.run_laws.proofs.Gie.{effect_keeps, past_keeps}
use Rattle.sm_words.proofs.Cores.{put_core}
use Rattle.run_laws.proofs.Tables.{table_keeps}
use Rattle.run_laws.proofs.Ways.{Lasting, always, enter_ways, settle_ways}
use Rattle.run_laws.proofs.Cases.{interrupted}

-- ---- a write of a register keeps a core
zeros_core : IsCore (replicate 16 0)
zeros_core = record { sixteen = refl; words = λ k. small k; even_pc = refl; even_sp = refl; nine_bits = omega arith; zero_three = refl }
  where
    zeros_at : (n k : ℕ) → get_or {A = ℕ} (replicate n 0) k 0 ≡ 0
    zeros_at (suc n) (suc k) = zeros_at n k
    zeros_at _ _ = refl

    small : (k : ℕ) → get_or {A = ℕ} (replicate 16 0) k 0 < 65536
    small k = subst (λ x. x < 65536) (sym (zeros_at 16 k)) (omega arith)

abbrev pub FineFrame : Frame → Type 0
FineFrame Plain = Unit {0}
FineFrame (Held b) = IsCore b.core × (b.module < 65536)

abbrev pub Small : Option ℕ → Type 0
Small None = Unit {0}
Small (Some id) = id < 65536

pub record FineBy (core : List ℕ) (frames : List Frame) (active : Option ℕ) (table : Table) : Type 0 where
  pub core_ok : IsCore core
  pub frames_ok : Each FineFrame frames
  pub active_small : Small active
  pub table_ok : IsTable table
  pub given_small : table.given < 65536

abbrev pub Fine : State → Type 0
Fine s = FineBy s.core s.frames s.active s.table

pub record FineSettled (u : Settled) : Type 0 where
  pub fine : Fine u.state
  pub left_small : u.left < 65536

pub ticked_fine : (s : State) → Fine s → Fine (ticked s)
unfolding ticked
ticked_fine s f = f

settle_fine : (s : State) → Fine s → FineSettled (settle s)
settle_fine s f =
    settle_ways s FineSettled (record { fine = f; left_small = omega arith })
    (λ b fs e. let h = subst (Each FineFrame) e f.frames_ok in
    record { fine = record { core_ok = h.0.0; frames_ok = h.1; active_small = h.0.1; table_ok = f.table_ok; given_small = f.given_small }; left_small = omega arith })
    (λ id x a o. record { fine = record { core_ok = f.core_ok; frames_ok = f.frames_ok; active_small = tt; table_ok = table_dropped s.table id f.table_ok; given_small = f.given_small }; left_small = omega arith })
    (λ e. record { fine = f; left_small = omega arith })
    (λ id a. record { fine = record { core_ok = f.core_ok; frames_ok = f.frames_ok; active_small = tt; table_ok = f.table_ok; given_small = f.given_small }; left_small = subst Small a f.active_small })

pub settled_fine : (s : State) → Fine s → FineSettled (settle (ticked s))
settled_fine s f = settle_fine (ticked s) (ticked_fine s f)

-- ---- arrivals
inside_fine : (v id : ℕ) (s : State) → Fine s → s.active ≡ Some id → Fine (interrupted v id s).state
unfolding arrive_inside
inside_fine v id s f e =
    record { core_ok = put_core _ 1 _ (put_core _ 0 _ zeros_core); frames_ok = ((f.core_ok, subst Small e f.active_small), f.frames_ok); active_small = tt; table_ok = f.table_ok; given_small = f.given_small }

plain_fine : (fs : List Frame) → Each FineFrame fs → Each FineFrame (plain_if fs)
plain_fine [] h = tt
plain_fine (x ∷ fs) h = (tt, h)

push_fine : (v : ℕ) (s : State) → Fine s → Fine (push_both v s).state
push_fine v s f =
    record { core_ok = put_core _ 0 _ (put_core _ 2 _ (put_core s.core 1 _ f.core_ok)); frames_ok = plain_fine s.frames f.frames_ok; active_small = f.active_small; table_ok = f.table_ok; given_small = f.given_small }

-- ---- instructions
abbrev pub TableFine : Table → Type 0
TableFine t = IsTable t × (t.given < 65536)

pub table_fine : (insn : Insn) (t : Table) (core : List ℕ) → TableFine t → TableFine (table_after t insn core)
table_fine insn t core h = table_keeps TableFine
    (λ u vendor text ram e k. (table_more u vendor text ram k.0 e, let g = (taken u text ram e).given in omega arith)) insn t core h

perform_fine : (insn : Insn) (s : State) → Fine s → Fine (perform insn s).state
unfolding perform
perform_fine insn s f =
    let t = table_fine insn s.table s.core (f.table_ok, f.given_small) in
    record { core_ok = effect_keeps IsCore put_core insn (who_of s) s.core _ f.core_ok; frames_ok = f.frames_ok; active_small = f.active_small; table_ok = t.0; given_small = t.1 }

newest_fine : (fs : List Frame) → Each FineFrame fs → Each FineFrame (drop 1 fs)
newest_fine [] h = tt
newest_fine (x ∷ fs) h = h.1

-- a module of the table has a small number
entry_by : (n id x : ℕ) (e t r : Bool) (rest : Place) → x ≤ n → place_by e t r x rest ≡ Entry id → (rest ≡ Entry id → id ≤ n) → id ≤ n
entry_by n id x true t r rest k h g = let same : x ≡ id = cc in subst (λ i. i ≤ n) same k
entry_by n id x false false false rest k h g = g h
entry_by n id x false _ _ rest k h g = absurd cc

entry_known : (n id : ℕ) (ms : List Module) (a : ℕ) → AreModules n ms → place_in ms a ≡ Entry id → id ≤ n
entry_known n id [] a h e = absurd cc
entry_known n id (x ∷ ms) a h e = entry_by n id x.id _ (holds x.text a) (holds x.ram a) (place_in ms a) h.0.known e (λ f. entry_known n id ms a h.2 f)

entry_small : (id : ℕ) (s : State) → Fine s → place_of s.table (pc_of s) ≡ Entry id → id < 65536
unfolding place_of
entry_small id s f e = let k = entry_known s.table.given id s.table.modules (pc_of s) f.table_ok.modules e in let g = f.given_small in omega arith

pub enter_fine : (left : ℕ) (s : State) → Fine s → Fine (enter left s).state
enter_fine left s f =
    enter_ways s (λ t. Fine t.state) left f
    (λ id p a. record { core_ok = f.core_ok; frames_ok = f.frames_ok; active_small = entry_small id s f p; table_ok = f.table_ok; given_small = f.given_small })

-- ---- a cycle
lasts : Lasting Fine
lasts = record {
  rests = λ s d n p o f. f;
  performs = perform_fine;
  returns = λ s f. record { core_ok = f.core_ok; frames_ok = newest_fine s.frames f.frames_ok; active_small = f.active_small; table_ok = f.table_ok; given_small = f.given_small };
  resumes = λ s e f. record { core_ok = past_keeps IsCore put_core Reti s.core f.core_ok; frames_ok = f.frames_ok; active_small = f.active_small; table_ok = f.table_ok; given_small = f.given_small };
  enters = λ left id s free p a f. record { core_ok = f.core_ok; frames_ok = f.frames_ok; active_small = entry_small id s f p; table_ok = f.table_ok; given_small = f.given_small };
  pads = λ n s f. f;
  inside = λ v id s d a f. inside_fine v id s f a;
  pushes = λ v s d. push_fine v s;
  settles = λ s f. (settle_fine s f).fine;
}

pub fine_at : (i : Image) (schedule : List Scheduled) (k : ℕ) → IsImage i → Fine (at i schedule k)
fine_at i schedule k ok =
    always Fine lasts i schedule k (record { core_ok = put_core (replicate 16 0) 0 _ zeros_core; frames_ok = tt; active_small = tt; table_ok = ok.table_ok; given_small = ok.given_small })
