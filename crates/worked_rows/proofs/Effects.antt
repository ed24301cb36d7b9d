-- Single instructions at 0x0200 with SP 0x0300, through a memory of 2,048 bytes.
use Rattle.std.proofs.Common.{◌≡◌, ℕ, ◌+◌, ◌%◌, ◌/◌, List, [], ◌∷◌, refl, Option, Some, None, Bool, true, false, set, replicate, get_or}
use Rattle.sm_words.specs.Words.{reg, word_at}
use Rattle.sm_words.specs.declared.width.Width.{Width}
use Rattle.sm_words.specs.declared.width.Width.TheVariants.{Byte, Word}
use Rattle.insn_decode.specs.Code.{insn_of}
use Rattle.insn_decode.specs.declared.insn.Insn.{Insn}
use Rattle.cycle_table.specs.Cycles.{cycles_of}
use Rattle.cpu_step.specs.Plan.{plan}
use Rattle.cpu_step.specs.Effect.{does_freely, confined, does}
use Rattle.cpu_step.specs.Through.{through}
use Rattle.cpu_step.specs.Lone.{value_at}

-- a word and where it stands
record At : Type 0 where
  addr : ℕ
  word : ℕ

abbrev written_at : Width → List ℕ → ℕ → ℕ → List ℕ
written_at Byte m a v = set m a (v % 256)
written_at Word m a v = set (set m a (v % 256)) (a + 1) (v / 256 % 256)

abbrev with_all : List At → List ℕ → List ℕ
with_all [] m = m
with_all (x ∷ xs) m = with_all xs (written_at Word m x.addr x.word)

-- what is looked at: PC, SP, SR, R4, R5, R6, the word at an address, and the cycles
abbrev seen : ℕ → Option Insn → List ℕ → List ℕ → Bool → List ℕ
seen look None core m inside = []
seen look (Some insn) core m inside =
    let r = through (λ m w a. value_at w (λ x. get_or m x 0) a) (λ m w a. m) (λ m w a v. written_at w m a v) insn core inside m in
    reg r.core 0 ∷ reg r.core 1 ∷ reg r.core 2 ∷ reg r.core 4 ∷ reg r.core 5 ∷ reg r.core 6 ∷ word_at (λ x. get_or r.state x 0) look ∷ cycles_of insn ∷ []

-- two words of code, SR, R4, R5, R6, some words of memory, the address looked at, and whether it runs inside a module
abbrev ran : ℕ → ℕ → ℕ → ℕ → ℕ → ℕ → List At → ℕ → Bool → List ℕ
ran w0 w1 sr r4 r5 r6 words look inside =
    seen look (insn_of w0 w1 0) (0x0200 ∷ 0x0300 ∷ sr ∷ 0 ∷ r4 ∷ r5 ∷ r6 ∷ replicate 9 0) (with_all words (replicate 2048 0)) inside

abbrev at : ℕ → ℕ → At
at a w = record { addr = a; word = w }

-- ADD @R5+, 2(R5): the destination is taken after the increment
add_behind : ran 0x55b5 0x0002 0x0000 0x0000 0x0300 0x0000 (at 0x0300 0x0011 ∷ at 0x0304 0x0022 ∷ []) 0x0304 false ≡ 0x0204 ∷ 0x0300 ∷ 0x0000 ∷ 0x0000 ∷ 0x0302 ∷ 0x0000 ∷ 0x0033 ∷ 5 ∷ []
unfolding insn_of cycles_of plan does_freely confined does
add_behind = refl

-- MOV @SP+, SP: what was read wins over the increment
mov_sp : ran 0x4131 0x0000 0x0000 0x0000 0x0000 0x0000 (at 0x0300 0x0456 ∷ []) 0x0300 false ≡ 0x0202 ∷ 0x0456 ∷ 0x0000 ∷ 0x0000 ∷ 0x0000 ∷ 0x0000 ∷ 0x0456 ∷ 2 ∷ []
unfolding insn_of cycles_of plan does_freely confined does
mov_sp = refl

-- PUSH @SP+: read, raised, lowered, written where it was read
push_popped : ran 0x1231 0x0000 0x0000 0x0000 0x0000 0x0000 (at 0x0300 0x1234 ∷ []) 0x0300 false ≡ 0x0202 ∷ 0x0300 ∷ 0x0000 ∷ 0x0000 ∷ 0x0000 ∷ 0x0000 ∷ 0x1234 ∷ 5 ∷ []
unfolding insn_of cycles_of plan does_freely confined does
push_popped = refl

-- CALL @R1+: the next address is written where the target was read
call_popped : ran 0x12b1 0x0000 0x0000 0x0000 0x0000 0x0000 (at 0x0300 0x0456 ∷ []) 0x0300 false ≡ 0x0456 ∷ 0x0300 ∷ 0x0000 ∷ 0x0000 ∷ 0x0000 ∷ 0x0000 ∷ 0x0202 ∷ 5 ∷ []
unfolding insn_of cycles_of plan does_freely confined does
call_popped = refl

-- MOV PC, &0x0400: PC as a source is the address of the next instruction
mov_pc : ran 0x4082 0x0400 0x0000 0x0000 0x0000 0x0000 [] 0x0400 false ≡ 0x0204 ∷ 0x0300 ∷ 0x0000 ∷ 0x0000 ∷ 0x0000 ∷ 0x0000 ∷ 0x0204 ∷ 4 ∷ []
unfolding insn_of cycles_of plan does_freely confined does
mov_pc = refl

-- BIC.B #1, SR: a byte in a register clears the upper byte, and no flags are set
bic_byte_sr : ran 0xc352 0x0000 0x0109 0x0000 0x0000 0x0000 [] 0x0300 false ≡ 0x0202 ∷ 0x0300 ∷ 0x0008 ∷ 0x0000 ∷ 0x0000 ∷ 0x0000 ∷ 0x0000 ∷ 1 ∷ []
unfolding insn_of cycles_of plan does_freely confined does
bic_byte_sr = refl

-- BIC #8, SR inside a module: GIE stays
bic_gie_inside : ran 0xc232 0x0000 0x0009 0x0000 0x0000 0x0000 [] 0x0300 true ≡ 0x0202 ∷ 0x0300 ∷ 0x0009 ∷ 0x0000 ∷ 0x0000 ∷ 0x0000 ∷ 0x0000 ∷ 1 ∷ []
unfolding insn_of cycles_of plan does_freely confined does
bic_gie_inside = refl

-- BIC #8, SR outside
bic_gie_outside : ran 0xc232 0x0000 0x0009 0x0000 0x0000 0x0000 [] 0x0300 false ≡ 0x0202 ∷ 0x0300 ∷ 0x0001 ∷ 0x0000 ∷ 0x0000 ∷ 0x0000 ∷ 0x0000 ∷ 1 ∷ []
unfolding insn_of cycles_of plan does_freely confined does
bic_gie_outside = refl

-- RRA SR: the result wins, and no flags are set
rra_sr : ran 0x1102 0x0000 0x0103 0x0000 0x0000 0x0000 [] 0x0300 false ≡ 0x0202 ∷ 0x0300 ∷ 0x0081 ∷ 0x0000 ∷ 0x0000 ∷ 0x0000 ∷ 0x0000 ∷ 1 ∷ []
unfolding insn_of cycles_of plan does_freely confined does
rra_sr = refl

-- ADD.B R5, R6: the low bytes alone
add_bytes : ran 0x5546 0x0000 0x0000 0x0000 0x12f0 0x3420 [] 0x0300 false ≡ 0x0202 ∷ 0x0300 ∷ 0x0001 ∷ 0x0000 ∷ 0x12f0 ∷ 0x0010 ∷ 0x0000 ∷ 1 ∷ []
unfolding insn_of cycles_of plan does_freely confined does
add_bytes = refl

-- SUB #1, R5 from 0x8000
subtracts : ran 0x8315 0x0000 0x0000 0x0000 0x8000 0x0000 [] 0x0300 false ≡ 0x0202 ∷ 0x0300 ∷ 0x0101 ∷ 0x0000 ∷ 0x7fff ∷ 0x0000 ∷ 0x0000 ∷ 1 ∷ []
unfolding insn_of cycles_of plan does_freely confined does
subtracts = refl

-- ADD #1, R5 to 0x7fff
adds : ran 0x5315 0x0000 0x0000 0x0000 0x7fff 0x0000 [] 0x0300 false ≡ 0x0202 ∷ 0x0300 ∷ 0x0104 ∷ 0x0000 ∷ 0x8000 ∷ 0x0000 ∷ 0x0000 ∷ 1 ∷ []
unfolding insn_of cycles_of plan does_freely confined does
adds = refl

-- DADD #1, R5 to 9999
adds_decimally : ran 0xa315 0x0000 0x0000 0x0000 0x9999 0x0000 [] 0x0300 false ≡ 0x0202 ∷ 0x0300 ∷ 0x0003 ∷ 0x0000 ∷ 0x0000 ∷ 0x0000 ∷ 0x0000 ∷ 1 ∷ []
unfolding insn_of cycles_of plan does_freely confined does
adds_decimally = refl

-- DADD #1, R5 to 9998 with C
adds_with_carry : ran 0xa315 0x0000 0x0001 0x0000 0x9998 0x0000 [] 0x0300 false ≡ 0x0202 ∷ 0x0300 ∷ 0x0003 ∷ 0x0000 ∷ 0x0000 ∷ 0x0000 ∷ 0x0000 ∷ 1 ∷ []
unfolding insn_of cycles_of plan does_freely confined does
adds_with_carry = refl

-- PUSH.B R5 writes one byte
push_byte : ran 0x1245 0x0000 0x0000 0x0000 0x12ab 0x0000 (at 0x02fe 0x7777 ∷ []) 0x02fe false ≡ 0x0202 ∷ 0x02fe ∷ 0x0000 ∷ 0x0000 ∷ 0x12ab ∷ 0x0000 ∷ 0x77ab ∷ 3 ∷ []
unfolding insn_of cycles_of plan does_freely confined does
push_byte = refl

-- MOV.B @SP+, R5 raises SP by 2
pop_byte : ran 0x4175 0x0000 0x0000 0x0000 0xffff 0x0000 (at 0x0300 0x12ab ∷ []) 0x0300 false ≡ 0x0202 ∷ 0x0302 ∷ 0x0000 ∷ 0x0000 ∷ 0x00ab ∷ 0x0000 ∷ 0x12ab ∷ 2 ∷ []
unfolding insn_of cycles_of plan does_freely confined does
pop_byte = refl

-- MOV.B @R4+, R5 raises R4 by 1
step_byte : ran 0x4475 0x0000 0x0000 0x0300 0x0000 0x0000 (at 0x0300 0x12ab ∷ []) 0x0300 false ≡ 0x0202 ∷ 0x0300 ∷ 0x0000 ∷ 0x0301 ∷ 0x00ab ∷ 0x0000 ∷ 0x12ab ∷ 2 ∷ []
unfolding insn_of cycles_of plan does_freely confined does
step_byte = refl

-- MOV 2(R4), R5
from_indexed : ran 0x4415 0x0002 0x0000 0x0300 0x0000 0x0000 (at 0x0302 0x1234 ∷ []) 0x0302 false ≡ 0x0204 ∷ 0x0300 ∷ 0x0000 ∷ 0x0300 ∷ 0x1234 ∷ 0x0000 ∷ 0x1234 ∷ 3 ∷ []
unfolding insn_of cycles_of plan does_freely confined does
from_indexed = refl

-- MOV with the address 0x0202 + 0x00fe, R5
from_symbolic : ran 0x4015 0x00fe 0x0000 0x0000 0x0000 0x0000 (at 0x0300 0x1234 ∷ []) 0x0300 false ≡ 0x0204 ∷ 0x0300 ∷ 0x0000 ∷ 0x0000 ∷ 0x1234 ∷ 0x0000 ∷ 0x1234 ∷ 3 ∷ []
unfolding insn_of cycles_of plan does_freely confined does
from_symbolic = refl

-- MOV &0x0300, R5
from_absolute : ran 0x4215 0x0300 0x0000 0x0000 0x0000 0x0000 (at 0x0300 0x1234 ∷ []) 0x0300 false ≡ 0x0204 ∷ 0x0300 ∷ 0x0000 ∷ 0x0000 ∷ 0x1234 ∷ 0x0000 ∷ 0x1234 ∷ 3 ∷ []
unfolding insn_of cycles_of plan does_freely confined does
from_absolute = refl

-- MOV @R4, R5
from_indirect : ran 0x4425 0x0000 0x0000 0x0300 0x0000 0x0000 (at 0x0300 0x1234 ∷ []) 0x0300 false ≡ 0x0202 ∷ 0x0300 ∷ 0x0000 ∷ 0x0300 ∷ 0x1234 ∷ 0x0000 ∷ 0x1234 ∷ 2 ∷ []
unfolding insn_of cycles_of plan does_freely confined does
from_indirect = refl

-- MOV @R4+, R5
from_increment : ran 0x4435 0x0000 0x0000 0x0300 0x0000 0x0000 (at 0x0300 0x1234 ∷ []) 0x0300 false ≡ 0x0202 ∷ 0x0300 ∷ 0x0000 ∷ 0x0302 ∷ 0x1234 ∷ 0x0000 ∷ 0x1234 ∷ 2 ∷ []
unfolding insn_of cycles_of plan does_freely confined does
from_increment = refl

-- MOV #0x1234, R5
from_immediate : ran 0x4035 0x1234 0x0000 0x0000 0x0000 0x0000 [] 0x0300 false ≡ 0x0204 ∷ 0x0300 ∷ 0x0000 ∷ 0x0000 ∷ 0x1234 ∷ 0x0000 ∷ 0x0000 ∷ 2 ∷ []
unfolding insn_of cycles_of plan does_freely confined does
from_immediate = refl

-- MOV #-1, R5
from_ones : ran 0x4335 0x0000 0x0000 0x0000 0x0000 0x0000 [] 0x0300 false ≡ 0x0202 ∷ 0x0300 ∷ 0x0000 ∷ 0x0000 ∷ 0xffff ∷ 0x0000 ∷ 0x0000 ∷ 1 ∷ []
unfolding insn_of cycles_of plan does_freely confined does
from_ones = refl

-- MOV R4, 2(R5)
to_indexed : ran 0x4485 0x0002 0x0000 0x1234 0x0300 0x0000 [] 0x0302 false ≡ 0x0204 ∷ 0x0300 ∷ 0x0000 ∷ 0x1234 ∷ 0x0300 ∷ 0x0000 ∷ 0x1234 ∷ 4 ∷ []
unfolding insn_of cycles_of plan does_freely confined does
to_indexed = refl

-- MOV R4, to the address 0x0202 + 0x00fe
to_symbolic : ran 0x4480 0x00fe 0x0000 0x1234 0x0000 0x0000 [] 0x0300 false ≡ 0x0204 ∷ 0x0300 ∷ 0x0000 ∷ 0x1234 ∷ 0x0000 ∷ 0x0000 ∷ 0x1234 ∷ 4 ∷ []
unfolding insn_of cycles_of plan does_freely confined does
to_symbolic = refl

-- CMP R4, R5 writes nothing
compares : ran 0x9405 0x0000 0x0000 0x0005 0x0005 0x0000 [] 0x0300 false ≡ 0x0202 ∷ 0x0300 ∷ 0x0003 ∷ 0x0005 ∷ 0x0005 ∷ 0x0000 ∷ 0x0000 ∷ 1 ∷ []
unfolding insn_of cycles_of plan does_freely confined does
compares = refl

-- JEQ, taken
jumps : ran 0x2401 0x0000 0x0002 0x0000 0x0000 0x0000 [] 0x0300 false ≡ 0x0204 ∷ 0x0300 ∷ 0x0002 ∷ 0x0000 ∷ 0x0000 ∷ 0x0000 ∷ 0x0000 ∷ 2 ∷ []
unfolding insn_of cycles_of plan does_freely confined does
jumps = refl

-- JEQ, not taken
jumps_not : ran 0x2401 0x0000 0x0000 0x0000 0x0000 0x0000 [] 0x0300 false ≡ 0x0202 ∷ 0x0300 ∷ 0x0000 ∷ 0x0000 ∷ 0x0000 ∷ 0x0000 ∷ 0x0000 ∷ 2 ∷ []
unfolding insn_of cycles_of plan does_freely confined does
jumps_not = refl

-- JMP to itself
jumps_back : ran 0x3fff 0x0000 0x0000 0x0000 0x0000 0x0000 [] 0x0300 false ≡ 0x0200 ∷ 0x0300 ∷ 0x0000 ∷ 0x0000 ∷ 0x0000 ∷ 0x0000 ∷ 0x0000 ∷ 2 ∷ []
unfolding insn_of cycles_of plan does_freely confined does
jumps_back = refl

-- RETI
returns : ran 0x1300 0x0000 0x0000 0x0000 0x0000 0x0000 (at 0x0300 0x0008 ∷ at 0x0302 0x0456 ∷ []) 0x0302 false ≡ 0x0456 ∷ 0x0304 ∷ 0x0008 ∷ 0x0000 ∷ 0x0000 ∷ 0x0000 ∷ 0x0456 ∷ 5 ∷ []
unfolding insn_of cycles_of plan does_freely confined does
returns = refl
