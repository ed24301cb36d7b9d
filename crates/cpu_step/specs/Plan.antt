-- Which accesses an instruction makes, from registers and extension words alone: the addressing
-- modes of the MSP430x1xx Family User's Guide (SLAU049), section 3.3.
use Rattle.std.specs.Prelude.{ℕ, ◌*◌, List, [], ◌∷◌, ◌++◌, ◌==◌, if◌then◌else◌, Bool, true, false, Option, Some, None}
use Rattle.sm_words.specs.Words.{reg, put, add16, sub16}
use Rattle.sm_words.specs.declared.registers.TheConstants.{PC, SP}
use Rattle.sm_words.specs.declared.width.Width.{Width}
use Rattle.sm_words.specs.declared.width.Width.TheVariants.{Byte, Word}
use Rattle.insn_decode.specs.Code.{words_of, length_of}
use Rattle.insn_decode.specs.declared.insn.Insn.{Insn}
use Rattle.insn_decode.specs.declared.insn.Insn.TheVariants.{Two, One, Reti}
use Rattle.insn_decode.specs.declared.insn.OneOp.{OneOp}
use Rattle.insn_decode.specs.declared.insn.OneOp.TheVariants.{Push, Call}
use Rattle.insn_decode.specs.declared.insn.Operand.{Operand}
use Rattle.insn_decode.specs.declared.insn.Operand.TheVariants.{Indexed, Symbolic, Absolute, Indirect, Increment}
use Rattle.insn_decode.specs.declared.insn.TwoOp.{TwoOp}
use Rattle.insn_decode.specs.declared.insn.TwoOp.TheVariants.{Mov, Cmp, Bit}
use Rattle.pc_access.specs.declared.Access.{Access}
use Rattle.pc_access.specs.declared.Kind.{Kind}
use Rattle.pc_access.specs.declared.Kind.TheVariants.{Read, Write}

-- the core once PC has moved past the instruction
abbrev pub past : Insn → List ℕ → List ℕ
past insn core = put core PC (add16 (reg core PC) (2 * length_of insn))

-- an operand's address in memory, where it has one; ext is where its extension word stands
abbrev pub place : Operand → List ℕ → ℕ → Option ℕ
place (Indexed r x) core ext = Some (add16 (reg core r) x)
place (Symbolic x) core ext = Some (add16 ext x)
place (Absolute x) core ext = Some x
place (Indirect r) core ext = Some (reg core r)
place (Increment r) core ext = Some (reg core r)
place _ core ext = None

-- by how much a register rises past its operand: SP by 2 always
abbrev pub increment_of : Width → ℕ → ℕ
increment_of Byte r = if r == SP then 2 else 1
increment_of Word r = 2

-- the core after an operand's increment
abbrev pub stepped : Width → Operand → List ℕ → List ℕ
stepped w (Increment r) core = put core r (add16 (reg core r) (increment_of w r))
stepped w _ core = core

-- the core once SP is lowered by 2
abbrev pub lowered : List ℕ → List ℕ
lowered core = put core SP (sub16 (reg core SP) 2)

-- one access, if there is one to make
abbrev pub access_if : Bool → Kind → Width → Option ℕ → List Access
access_if true kind w (Some a) = record { kind = kind; addr = a; width = w } ∷ []
access_if _ kind w _ = []

-- MOV does not read its destination
abbrev pub reads_dst : TwoOp → Bool
reads_dst Mov = false
reads_dst _ = true

-- CMP and BIT do not write
abbrev pub writes_dst : TwoOp → Bool
writes_dst Cmp = false
writes_dst Bit = false
writes_dst _ = true

-- what an instruction of format II writes: PUSH and CALL at the lowered SP, the others where they read
abbrev pub one_writes : OneOp → Width → Option ℕ → ℕ → List Access
one_writes Push w a sp = access_if true Write w (Some sp)
one_writes Call w a sp = access_if true Write Word (Some sp)
one_writes _ w a sp = access_if true Write w a

-- the accesses in their order: the source is read, the increment is done, the destination is read and written
unfoldable pub plan : Insn → List ℕ → List Access
plan (Two op w s d) core =
    let ext = add16 (reg core PC) 2 in
    let core1 = past (Two op w s d) core in
    let a = place s core1 ext in
    let b = place d (stepped w s core1) (add16 ext (2 * words_of s)) in
    access_if true Read w a ++ access_if (reads_dst op) Read w b ++ access_if (writes_dst op) Write w b
plan (One op w arg) core =
    let ext = add16 (reg core PC) 2 in
    let core1 = past (One op w arg) core in
    let a = place arg core1 ext in
    access_if true Read w a ++ one_writes op w a (reg (lowered (stepped w arg core1)) SP)
plan Reti core =
    access_if true Read Word (Some (reg core SP)) ++ access_if true Read Word (Some (add16 (reg core SP) 2))
plan _ core = []
