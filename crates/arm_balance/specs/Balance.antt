-- The arms of a branch: which instructions may stand there, and where they go on.
use Rattle.std.specs.Prelude.{ℕ, ◌+◌, ◌*◌, ◌==◌, nat_lt, nat_le, if◌then◌else◌, Bool, true, ◌&&◌, not, List, Option, Some, None}
use Rattle.sm_words.specs.Words.{add16}
use Rattle.insn_decode.specs.Code.{length_of, distance, is_always}
use Rattle.insn_decode.specs.declared.insn.Insn.{Insn}
use Rattle.insn_decode.specs.declared.insn.Insn.TheVariants.{Two, One, Jump}
use Rattle.insn_decode.specs.declared.insn.OneOp.TheVariants.{Call}
use Rattle.insn_decode.specs.declared.insn.Operand.{Operand}
use Rattle.insn_decode.specs.declared.insn.Operand.TheVariants.{Reg}
use Rattle.mod_layout.specs.declared.Section.{Section}
use Rattle.mod_layout.specs.Table.{holds}
use Rattle.arm_balance.specs.Met.{met}

abbrev pub not_pc : Operand → Bool
not_pc (Reg r) = not (r == 0)
not_pc _ = true

-- the end of an instruction at pc, where PC is not written and it ends at most at the join
abbrev pub ends_by : Operand → Insn → ℕ → ℕ → Option ℕ
ends_by o insn join pc = let to = pc + 2 * length_of insn in if not_pc o && nat_le to join then Some to else None

-- where an instruction of an arm goes on; none where it may not stand there: no call, no return from an interrupt, no
-- unit instruction and no conditional jump, no write to PC, and nothing back or past the join
abbrev pub arm_next : ℕ → ℕ → Option Insn → Option ℕ
arm_next join pc None = None
arm_next join pc (Some (Two op w s d)) = ends_by d (Two op w s d) join pc
arm_next join pc (Some (One Call w a)) = None
arm_next join pc (Some (One op w a)) = ends_by a (One op w a) join pc
arm_next join pc (Some (Jump condition off)) =
    let to = add16 (add16 pc 2) (distance off) in if is_always condition && nat_lt pc to && nat_le to join then Some to else None
arm_next join pc (Some insn) = None

-- the instruction at an address of the text below the join
abbrev pub arm_insn : Section → List ℕ → ℕ → ℕ → Option Insn
arm_insn s text join pc = if holds s pc && nat_lt pc join then met s text pc else None

-- where the arm goes on from there
abbrev pub arm_on : Section → List ℕ → ℕ → ℕ → Option ℕ
arm_on s text join pc = arm_next join pc (arm_insn s text join pc)
