-- What a run shows of one call of a module, from its entry to its end, and of its end in two runs.
use Rattle.std.specs.Prelude.{◌≡◌, ℕ, zero, suc, ◌+◌, ◌-◌, ◌<◌, ◌≤◌, List, [], ◌∷◌, Bool, true, false, ◌&&◌, ◌==◌, if◌then◌else◌, Option, Some, None, is_none, All}
use Rattle.sm_words.specs.Sums.{one_if}
use Rattle.sm_words.specs.Words.{reg}
use Rattle.schedule_file.specs.declared.Entry.{Entry}
use Rattle.mod_layout.specs.Table.{module_of}
use Rattle.mod_layout.specs.declared.Module.{Module}
use Rattle.pc_access.specs.Rights.{is_id}
use Rattle.image_text.specs.Image.{Image, IsImage}
use Rattle.reg_backup.specs.Saved.{saved}
use Rattle.reg_backup.specs.declared.backup.Backup.{Backup}
use Rattle.reg_backup.specs.declared.frames.Frame.{Frame}
use Rattle.reg_backup.specs.declared.frames.Frame.TheVariants.{Plain, Module as Held}
use Rattle.cpu_step.specs.Lone.{Job, Lone, CallEnd, Exit, Closing, Broken, Running, job_of, starts}
use Rattle.tracer.specs.declared.Event.{Event}
use Rattle.tracer.specs.declared.Event.TheVariants.{Resume as Resumed, Hide as Hid}
use Rattle.written_machine.specs.Cycle.{ticked, settle, due, cycle, after_cycles}
use Rattle.written_machine.specs.Peers.{section}
use Rattle.written_machine.specs.State.{State}
use Rattle.written_machine.specs.View.{at}
use Rattle.run_laws.specs.Events.{Enters, NoEnd, EndsCall}
use Rattle.run_laws.specs.Frames.{times, rest_of}

-- ---- a call in the machine, and the same call by itself

-- the machine in cycle k once that is settled: an entry in this cycle finds it so
abbrev pub entry_state : Image → List Entry → ℕ → State
entry_state a schedule k = (settle (ticked (at a schedule k))).state

-- module m is entered in cycle k, called by from, and is neither left nor closed in the n cycles after it; owner is the
-- module as the table has it then
pub record UnderWay (a : Image) (schedule : List Entry) (m : ℕ) (owner : Module) (k from n : ℕ) : Type 0 where
  pub image : IsImage a
  pub enters : Enters m from (cycle (at a schedule k)).events
  pub owned : module_of m (entry_state a schedule k).table ≡ Some owner
  pub no_end : (i : ℕ) → i < n → NoEnd m (cycle (after_cycles (at a schedule (suc k)) i)).events

-- the call: the image's key, the module with its text as it is then, and the caller
abbrev pub entry_job : Image → List Entry → Module → ℕ → ℕ → Job
entry_job a schedule owner k from = job_of a.node_key owner (section owner.text (entry_state a schedule k).memory) from

-- its beginning: the registers and the data as they are then
abbrev pub entry_lone : Image → List Entry → Module → ℕ → ℕ → Lone
entry_lone a schedule owner k from =
    starts (record { core = (entry_state a schedule k).core; caller = from }) (section owner.ram (entry_state a schedule k).memory)

-- whether a cycle ends in a wait or an instruction of the module that was active once it was settled
abbrev pub works : ℕ → State → Bool
works m s = is_none s.stop && is_id m (settle (ticked s)).state.active && is_none (due (settle (ticked s)).state)

-- the number of such cycles among the next n
abbrev pub worked : ℕ → State → ℕ → ℕ
worked m s zero = 0
worked m s (suc n) = worked m s n + (if works m (after_cycles s n) then 1 else 0)

-- a call by itself that is not broken
abbrev pub NotBroken : CallEnd → Type 0
NotBroken (Broken left c) = ⊥
NotBroken _ = Unit {0}

-- a call by itself that ends after c cycles
abbrev pub Takes : ℕ → CallEnd → Type 0
Takes c (Exit core left k) = k ≡ c
Takes c (Closing core left k) = k ≡ c
Takes c (Broken left k) = ⊥
Takes c Running = ⊥

-- ---- where the module stands

-- this backup where the test says so, and else the rest
abbrev pub found_if : Bool → Backup → Option Backup → Option Backup
found_if true b rest = Some b
found_if false b rest = rest

-- what the module's newest frame holds
abbrev pub find_held : ℕ → List Frame → Option Backup
find_held m [] = None
find_held m (Plain ∷ fs) = find_held m fs
find_held m (Held b ∷ fs) = found_if (b.module == m) b (find_held m fs)

-- what a frame would hold of the module that is active
abbrev pub backup_of : ℕ → State → Backup
backup_of id s = saved id s.caller s.core (rest_of s.phase) s.after

-- as it runs, or as its frame holds it
abbrev pub run_by : Bool → ℕ → State → Option Backup
run_by true m s = Some (backup_of m s)
run_by false m s = find_held m s.frames

-- registers, rest and closing of the module, while it is active or held; none while it is idle
abbrev pub run_of : ℕ → State → Option Backup
run_of m s = run_by (is_id m s.active) m s

-- the same with its data, as a module by itself has them
abbrev pub lone_of : Backup → List ℕ → Lone
lone_of r d = record { core = r.core; data_bytes = d; rest = r.rest; closing = r.closing }

-- the module is active or in its one frame, and its registers, rest, closing and data are those that it has by itself
pub record Stands (m : ℕ) (own : Module) (s : State) (l : Lone) : Type 0 where
  pub backup : Backup
  pub run : run_of m s ≡ Some backup
  pub same : lone_of backup (section own.ram s.memory) ≡ l
  pub once : one_if (is_id m s.active) + times m s.frames ≤ 1

-- ---- how long it was away

-- since which of the counted cycles the module is hidden, if it is, and how many cycles lie between its hides and its
-- resumes so far
pub record Away : Type 0 where
  pub since : Option ℕ
  pub sum : ℕ

-- back in cycle k, if it was hidden
abbrev pub back_from : Option ℕ → ℕ → ℕ → Away
back_from None k sum = record { since = None; sum = sum }
back_from (Some h) k sum = record { since = None; sum = sum + (k - h) }

-- one of two, by whether the event is of the module
abbrev pub away_if : Bool → Away → Away → Away
away_if true x y = x
away_if false x y = y

-- an event of cycle k: a hide of the module, or its next resume
abbrev pub note : ℕ → ℕ → Event → Away → Away
note m k (Hid id v) w = away_if (id == m) (record { since = Some k; sum = w.sum }) w
note m k (Resumed id) w = away_if (id == m) (back_from w.since k w.sum) w
note m k _ w = w

-- the events of cycle k, in their order
abbrev pub notes : ℕ → ℕ → List Event → Away → Away
notes m k [] w = w
notes m k (e ∷ es) w = notes m k es (note m k e w)

-- over the next n cycles, counted from 0
abbrev pub away : ℕ → State → ℕ → Away
away m s zero = record { since = None; sum = 0 }
away m s (suc n) = notes m n (cycle (after_cycles s n)).events (away m s n)

-- ---- two runs

-- the answers are equal in both runs wherever one of the first n cycles ends a call of module m in the first of them: before
-- that cycle the registers are still the module's
abbrev pub AnswersAgree : Image → Image → ℕ → List ℕ → List Entry → ℕ → Type 0
AnswersAgree a b m answers schedule n = (j : ℕ) → j < n → EndsCall m (cycle (at a schedule j)).events →
    All (λ r. reg (at a schedule j).core r ≡ reg (at b schedule j).core r) answers
