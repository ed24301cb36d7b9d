-- An instruction through a port, whose states are S: what a read answers, and what the calls leave.
use Rattle.std.specs.Prelude.{ℕ, List, [], ◌∷◌, Bool, IsFalse, All}
use Rattle.sm_words.specs.declared.width.Width.{Width}
use Rattle.insn_decode.specs.declared.insn.Insn.{Insn}
use Rattle.pc_access.specs.Rights.{misaligned}
use Rattle.pc_access.specs.declared.Access.{Access}
use Rattle.pc_access.specs.Accesses.{reads_of, writes_of, after_writes}
use Rattle.cpu_step.specs.Effect.{does}
use Rattle.cpu_step.specs.Plan.{plan}

-- each word access among these is at an even address
abbrev pub AreAligned : List Access → Type 0
AreAligned xs = All (λ x. IsFalse (misaligned x.width x.addr)) xs

-- the values that reads gave, and the state after them
pub record Taken (S : Type 0) : Type 0 where
  pub values : List ℕ
  pub state : S

-- these reads, one after another
abbrev pub taken : {S : Type 0} → (S → Width → ℕ → ℕ) → (S → Width → ℕ → S) → S → List Access → Taken S
taken answer after_read s [] = record { values = []; state = s }
taken answer after_read s (x ∷ xs) =
    let r = taken answer after_read (after_read s x.width x.addr) xs in
    record { values = answer s x.width x.addr ∷ r.values; state = r.state }

-- the state after these writes, one after another, each with its value
abbrev pub stored_in : {S : Type 0} → (S → Width → ℕ → ℕ → S) → S → List Access → List ℕ → S
stored_in after_write s xs values = after_writes (λ t x v. after_write t x.width x.addr v) s xs values

-- the core and the port's state after an instruction
pub record After (S : Type 0) : Type 0 where
  pub core : List ℕ
  pub state : S

-- the planned reads, the effect, the planned writes
abbrev pub through : {S : Type 0} → (S → Width → ℕ → ℕ) → (S → Width → ℕ → S) → (S → Width → ℕ → ℕ → S) → Insn → List ℕ → Bool → S → After S
through answer after_read after_write insn core inside s =
    let accesses = plan insn core in
    let r = taken answer after_read s (reads_of accesses) in
    let d = does insn core r.values inside in
    record { core = d.core; state = stored_in after_write r.state (writes_of accesses) d.stored }
