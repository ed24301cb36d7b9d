-- A module by itself: what it does from an entry, and what it leaves.
use Rattle.std.specs.Prelude.{◌≡◌, ℕ, zero, suc, ◌+◌, ◌-◌, ◌<◌, List, [], ◌∷◌, map, slice_index, slice_set, if◌then◌else◌, Bool, true, false, ◌&&◌, ◌||◌, ◌==◌, nat_lt, not, Option, Some, None, All}
use Rattle.std.specs.List.{list_all}
use Rattle.sm_words.specs.Words.{IsCore, reg, word_at, low_byte, high_byte}
use Rattle.sm_words.specs.declared.registers.TheConstants.{PC, CG}
use Rattle.sm_words.specs.declared.width.Width.{Width}
use Rattle.sm_words.specs.declared.width.Width.TheVariants.{Byte, Word}
use Rattle.insn_decode.specs.declared.insn.Insn.{Insn}
use Rattle.insn_decode.specs.declared.insn.Insn.TheVariants.{Reti, Unit as UnitOp}
use Rattle.mod_layout.specs.Table.{Table, holds}
use Rattle.mod_layout.specs.declared.Module.{Module}
use Rattle.pc_access.specs.Rights.{misaligned}
use Rattle.pc_access.specs.declared.Access.{Access}
use Rattle.pc_access.specs.declared.Kind.{Kind}
use Rattle.pc_access.specs.declared.Kind.TheVariants.{Fetch, Read, Write}
use Rattle.pc_access.specs.Accesses.{reads_of, writes_of, after_writes}
use Rattle.attest.specs.Units.{Doer, Protect, Attest, IdOf}
use Rattle.cpu_step.specs.Asked.{asks, effect}
use Rattle.cpu_step.specs.Fetched.{insn_in}

-- whose call it is: the image's key, the module, its text, and the caller id
pub record Job : Type 0 where
  pub key : List ℕ
  pub owner : Module
  pub text : List ℕ
  pub caller : ℕ

-- how a call stands: registers, data, the cycles that its instruction still needs, and whether it is closing
pub record Lone : Type 0 where
  pub core : List ℕ
  pub data_bytes : List ℕ
  pub rest : ℕ
  pub closing : Bool

-- an entry: the registers, and a caller id
pub record Entrance : Type 0 where
  pub core : List ℕ
  pub caller : ℕ

-- a call at its entry
abbrev pub starts : Entrance → List ℕ → Lone
starts e d = record { core = e.core; data_bytes = d; rest = 0; closing = false }

-- the bytes of the two sections
abbrev pub lone_byte : Job → List ℕ → ℕ → ℕ
lone_byte j d a = if holds j.owner.text a then slice_index j.text (a - j.owner.text.start) else slice_index d (a - j.owner.ram.start)

-- a table of this module alone
abbrev pub lone_table : Job → Table
lone_table j = record { modules = j.owner ∷ []; given = j.owner.id; room = 8 }

-- the module as the one who does an instruction
abbrev pub lone_who : Job → Doer
lone_who j = record { own = Some j.owner; caller = j.caller; table = lone_table j; key = j.key }

-- an instruction that a module by itself may do
abbrev pub is_alone : Insn → Bool
is_alone Reti = false
is_alone (UnitOp Protect) = false
is_alone (UnitOp Attest) = false
is_alone (UnitOp IdOf) = false
is_alone _ = true

-- an access of this kind that stays in the two sections
abbrev pub inside_by : Kind → Job → ℕ → Bool
inside_by Read j a = holds j.owner.text a || holds j.owner.ram a
inside_by Write j a = holds j.owner.ram a
inside_by Fetch j a = false

-- an access that is aligned and stays in the two sections
abbrev pub is_inside : Job → Access → Bool
is_inside j x = not (misaligned x.width x.addr) && inside_by x.kind j x.addr

-- each of these accesses does
abbrev pub all_inside : Job → List Access → Bool
all_inside j xs = list_all (is_inside j) xs

-- an instruction that it may do, and else none
abbrev pub may_do : Job → Lone → Option Insn → Option Insn
may_do j l None = None
may_do j l (Some insn) = if is_alone insn && all_inside j (asks (lone_who j) insn l.core) then Some insn else None

-- the next instruction, or none where the module is broken: the machine would stop, a byte outside the
-- two sections is accessed, or it is protect, attest or id of address
unfoldable pub next_insn : Job → Lone → Option Insn
next_insn j l = may_do j l (insn_in (lone_byte j l.data_bytes) j.owner.text (reg l.core PC))

-- what a read of this width gives
abbrev pub value_at : Width → (ℕ → ℕ) → ℕ → ℕ
value_at Byte byte a = byte a
value_at Word byte a = word_at byte a

-- what a read gives
abbrev pub lone_read : Job → List ℕ → Access → ℕ
lone_read j d x = value_at x.width (lone_byte j d) x.addr

-- the data after a write of this width
abbrev pub lone_write : Module → Width → List ℕ → ℕ → ℕ → List ℕ
lone_write m Byte d a v = slice_set d (a - m.ram.start) (low_byte v)
lone_write m Word d a v = slice_set (slice_set d (a - m.ram.start) (low_byte v)) (a + 1 - m.ram.start) (high_byte v)

-- the data after these writes, each with its value
abbrev pub lone_writes : Module → List ℕ → List Access → List ℕ → List ℕ
lone_writes m d xs values = after_writes (λ bytes x v. lone_write m x.width bytes x.addr v) d xs values

-- an instruction done in its first cycle; the rest is its cycles less 1
unfoldable pub lone_does : Job → Insn → Lone → Lone
lone_does j insn l =
    let xs = asks (lone_who j) insn l.core in
    let e = effect (lone_who j) insn l.core (map (lone_read j l.data_bytes) (reads_of xs)) in
    record { core = e.core; data_bytes = lone_writes j.owner l.data_bytes (writes_of xs) e.stored; rest = e.cycles - 1; closing = e.closing }

-- how a call ends, with the core, the data that it leaves, and its cycles
pub data CallEnd : Type 0 where
  Exit : (core : List ℕ) (left : List ℕ) (cycles : ℕ) → CallEnd
  Closing : (core : List ℕ) (left : List ℕ) (cycles : ℕ) → CallEnd
  Broken : (left : List ℕ) (cycles : ℕ) → CallEnd
  Running : CallEnd

-- what comes a cycle later
abbrev pub later : CallEnd → CallEnd
later (Exit core left c) = Exit core left (c + 1)
later (Closing core left c) = Closing core left (c + 1)
later (Broken left c) = Broken left (c + 1)
later Running = Running

-- what the module does in its next cycle
pub data Doing : Type 0 where
  Waits : (rest : ℕ) → Doing
  Closes : Doing
  Leaves : Doing
  Breaks : Doing
  Does : (insn : Insn) → Doing

-- of the rest, whether it is closing, whether PC is in the text, and the next instruction
abbrev pub doing_by : ℕ → Bool → Bool → Option Insn → Doing
doing_by (suc r) closing in_text next = Waits r
doing_by zero true in_text next = Closes
doing_by zero false false next = Leaves
doing_by zero false true None = Breaks
doing_by zero false true (Some insn) = Does insn

-- what the module does next
unfoldable pub doing : Job → Lone → Doing
doing j l = doing_by l.rest l.closing (holds j.owner.text (reg l.core PC)) (next_insn j l)

-- an end stays as it is
abbrev pub lone_step_by : Doing → Job → Lone → Lone
lone_step_by (Waits r) j l = record l { rest = r }
lone_step_by (Does insn) j l = lone_does j insn l
lone_step_by _ j l = l

-- one cycle
abbrev pub lone_step : Job → Lone → Lone
lone_step j l = lone_step_by (doing j l) j l

-- the module after c cycles by itself
abbrev pub lone_after : Job → Lone → ℕ → Lone
lone_after j l zero = l
lone_after j l (suc c) = lone_step j (lone_after j l c)

-- with no cycle left
abbrev pub at_once : Doing → Lone → CallEnd
at_once Closes l = Closing l.core l.data_bytes 0
at_once Leaves l = Exit l.core l.data_bytes 0
at_once _ l = Running

-- with a cycle left, where next is what comes after it
abbrev pub in_time : Doing → (Lone → CallEnd) → Job → Lone → CallEnd
in_time Closes next j l = Closing l.core l.data_bytes 0
in_time Leaves next j l = Exit l.core l.data_bytes 0
in_time Breaks next j l = Broken l.data_bytes 0
in_time (Waits r) next j l = later (next (record l { rest = r }))
in_time (Does insn) next j l = later (next (lone_does j insn l))

-- the first end that is reached within n cycles
abbrev pub outcome : Job → ℕ → Lone → CallEnd
outcome j zero l = at_once (doing j l) l
outcome j (suc n) l = in_time (doing j l) (outcome j n) j l

-- the registers that may be answers: all but PC, by which a call leaves, and R3, which is 0
abbrev pub is_answer : ℕ → Bool
is_answer r = not (r == PC) && not (r == CG) && nat_lt r 16

-- a core with the registers of these numbers as 0
abbrev pub blank : List ℕ → List ℕ → List ℕ
blank [] core = core
blank (r ∷ rs) core = slice_set (blank rs core) r 0

-- two ends that are alike, where the cores may differ in the answers; of the cores and of the data left, rest must hold
abbrev pub alike_but : List ℕ → (List ℕ → List ℕ → List ℕ → List ℕ → Type 0) → CallEnd → CallEnd → Type 0
alike_but answers rest Running Running = Unit {0}
alike_but answers rest (Closing c d k) (Closing c' d' k') = (blank answers c ≡ blank answers c') × (k ≡ k')
alike_but answers rest (Exit c d k) (Exit c' d' k') = (blank answers c ≡ blank answers c') × (k ≡ k') × rest c c' d d'
alike_but answers rest _ _ = ⊥

-- the call of a module with this text
abbrev pub job_of : List ℕ → Module → List ℕ → ℕ → Job
job_of key m text caller = record { key = key; owner = m; text = text; caller = caller }

-- these calls, one after another, end alike but for the answers from both data, within n cycles each; where the cores do not differ
-- at all, the later calls do so from the data left
abbrev pub EvenBut : List ℕ → List ℕ → Module → List ℕ → ℕ → List Entrance → List ℕ → List ℕ → Type 0
EvenBut answers key m text n [] d1 d2 = Unit {0}
EvenBut answers key m text n (e ∷ es) d1 d2 =
    let j = job_of key m text e.caller in
    alike_but answers (λ c c' left left'. c ≡ c' → EvenBut answers key m text n es left left')
    (outcome j n (starts e d1)) (outcome j n (starts e d2))

-- an entry of the module: a core whose PC is the text's start, and a caller id
pub record IsEntry (m : Module) (e : Entrance) : Type 0 where
  pub core_ok : IsCore e.core
  pub at_start : reg e.core PC ≡ m.text.start
  pub caller_ok : e.caller < 0x10000

-- two data that no list of calls and no number of cycles tells apart but by the answers
abbrev pub AlwaysEvenBut : List ℕ → List ℕ → Module → List ℕ → List ℕ → List ℕ → Type 0
AlwaysEvenBut answers key m text d1 d2 = (es : List Entrance) (n : ℕ) → All (IsEntry m) es → EvenBut answers key m text n es d1 d2

-- the same where no register is an answer
abbrev pub AlwaysEven : List ℕ → Module → List ℕ → List ℕ → List ℕ → Type 0
AlwaysEven key m text d1 d2 = AlwaysEvenBut [] key m text d1 d2
