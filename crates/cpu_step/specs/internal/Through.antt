-- What the code's own invariants say of: Through.
use Rattle.std.specs.Prelude.{ℕ, List, Bool, true, false}
use Rattle.sm_words.specs.declared.width.Width.{Width}
use Rattle.insn_decode.specs.declared.insn.Insn.{Insn}
use Rattle.pc_access.specs.Accesses.{reads_of, writes_of}
use Rattle.cpu_step.specs.Effect.{does_freely}
use Rattle.cpu_step.specs.Plan.{plan}
use Rattle.cpu_step.specs.Through.{taken, stored_in, After}

-- the same with no regard to who runs it
abbrev pub freely_through : {S : Type 0} → (S → Width → ℕ → ℕ) → (S → Width → ℕ → S) → (S → Width → ℕ → ℕ → S) → Insn → List ℕ → S → After S
freely_through answer after_read after_write insn core s =
    let accesses = plan insn core in
    let r = taken answer after_read s (reads_of accesses) in
    let d = does_freely insn core r.values in
    record { core = d.core; state = stored_in after_write r.state (writes_of accesses) d.stored }

-- the old value of a destination that is read, and else 0, which no result takes
abbrev pub old_value : Bool → ℕ → ℕ
old_value true v = v
old_value false v = 0
