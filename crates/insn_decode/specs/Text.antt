-- The text of an instruction.
use Rattle.std.specs.Prelude.{ℕ, ◌+◌, ◌*◌, List, [], ◌++◌, ◌==◌, if◌then◌else◌, codes}
use Rattle.std.specs.Fmt.{decimal}
use Rattle.texts.specs.Hexadecimals.{hex_word}
use Rattle.sm_words.specs.Words.{add16}
use Rattle.sm_words.specs.declared.width.Width.{Width}
use Rattle.sm_words.specs.declared.width.Width.TheVariants.{Byte, Word}
use Rattle.insn_decode.specs.declared.insn.TwoOp.{TwoOp}
use Rattle.insn_decode.specs.declared.insn.TwoOp.TheVariants.{Mov, Add, Addc, Subc, Sub, Cmp, Dadd, Bit, Bic, Bis, Xor, And}
use Rattle.insn_decode.specs.declared.insn.OneOp.{OneOp}
use Rattle.insn_decode.specs.declared.insn.OneOp.TheVariants.{Rrc, Swpb, Rra, Sxt, Push, Call}
use Rattle.insn_decode.specs.declared.insn.Operand.{Operand}
use Rattle.insn_decode.specs.declared.insn.Operand.TheVariants.{Reg, Const, Imm, Indexed, Symbolic, Absolute, Indirect, Increment}
use Rattle.insn_decode.specs.declared.insn.Condition.{Condition}
use Rattle.insn_decode.specs.declared.insn.Condition.TheVariants.{NotZero, Zero, NoCarry, Carry, Negative, GreaterOrEqual, Less, Always}
use Rattle.insn_decode.specs.declared.insn.Insn.{Insn}
use Rattle.insn_decode.specs.declared.insn.Insn.TheVariants.{Two, One, Jump, Reti, Unit as UnitOp}
use Rattle.insn_decode.specs.Code.{words_of, distance}
use Rattle.insn_decode.specs.Means.{unit_code}

abbrev pub two_name : TwoOp → List ℕ
two_name Mov = codes "mov"
two_name Add = codes "add"
two_name Addc = codes "addc"
two_name Subc = codes "subc"
two_name Sub = codes "sub"
two_name Cmp = codes "cmp"
two_name Dadd = codes "dadd"
two_name Bit = codes "bit"
two_name Bic = codes "bic"
two_name Bis = codes "bis"
two_name Xor = codes "xor"
two_name And = codes "and"

abbrev pub one_name : OneOp → List ℕ
one_name Rrc = codes "rrc"
one_name Swpb = codes "swpb"
one_name Rra = codes "rra"
one_name Sxt = codes "sxt"
one_name Push = codes "push"
one_name Call = codes "call"

-- the name of a jump by its condition
abbrev pub jump_name : Condition → List ℕ
jump_name NotZero = codes "jne"
jump_name Zero = codes "jeq"
jump_name NoCarry = codes "jnc"
jump_name Carry = codes "jc"
jump_name Negative = codes "jn"
jump_name GreaterOrEqual = codes "jge"
jump_name Less = codes "jl"
jump_name Always = codes "jmp"

abbrev pub suffix_of : Width → List ℕ
suffix_of Byte = codes ".b"
suffix_of Word = []

-- a word by its four hexadecimal digits
abbrev pub hex_text : ℕ → List ℕ
hex_text v = codes "0x" ++ hex_word v

-- a constant; 65,535 is shown as -1
abbrev pub constant_text : ℕ → List ℕ
constant_text c = if c == 65535 then codes "#-1" else codes "#" ++ decimal c

-- an operand; at is the address of its extension word
abbrev pub operand_text : Operand → ℕ → List ℕ
operand_text (Reg r) at = codes "r" ++ decimal r
operand_text (Const c) at = constant_text c
operand_text (Imm x) at = codes "#" ++ hex_text x
operand_text (Indexed r x) at = hex_text x ++ codes "(r" ++ decimal r ++ codes ")"
operand_text (Symbolic x) at = hex_text (add16 at x)
operand_text (Absolute x) at = codes "&" ++ hex_text x
operand_text (Indirect r) at = codes "@r" ++ decimal r
operand_text (Increment r) at = codes "@r" ++ decimal r ++ codes "+"

-- an instruction at an address
abbrev pub insn_text : Insn → ℕ → List ℕ
insn_text (Two op w s d) at = two_name op ++ suffix_of w ++ codes " " ++ operand_text s (add16 at 2) ++ codes ", " ++ operand_text d (add16 at (2 + 2 * words_of s))
insn_text (One op w a) at = one_name op ++ suffix_of w ++ codes " " ++ operand_text a (add16 at 2)
insn_text (Jump condition offset) at = jump_name condition ++ codes " " ++ hex_text (add16 (add16 at 2) (distance offset))
insn_text Reti at = codes "reti"
insn_text (UnitOp name) at = codes "unit " ++ decimal (unit_code name)
