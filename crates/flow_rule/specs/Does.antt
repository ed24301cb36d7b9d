-- The transfer functions: what an instruction reaches and does, over abstract values.
use Rattle.flow_rule.specs.declared.Reach.{Reach}
use Rattle.flow_rule.specs.declared.Told.{Told}
use Rattle.std.specs.Prelude.{ℕ, ◌-◌, ◌*◌, ◌/◌, ◌%◌, List, [], ◌∷◌, ◌++◌, drop, filter, fold, zip, slice_set, ◌==◌, if◌then◌else◌, Bool, true, false, ◌&&◌, ◌||◌, not, Option, Some, None}
use Rattle.sm_words.specs.Words.{nth, add16, bit, word_at}
use Rattle.insn_decode.specs.Code.{words_of, length_of, distance}
use Rattle.sm_words.specs.Status.{has_all_flags}
use Rattle.sm_words.specs.Sums.{low}
use Rattle.cpu_step.specs.declared.result.Computed.{Computed}
use Rattle.cpu_step.specs.Effect.{value_of, with_flags, two_result, one_result, in_memory}
use Rattle.cpu_step.specs.Plan.{increment_of, reads_dst, writes_dst}
use Rattle.sm_words.specs.declared.width.Width.{Width}
use Rattle.sm_words.specs.declared.width.Width.TheVariants.{Byte, Word}
use Rattle.insn_decode.specs.declared.insn.TwoOp.{TwoOp}
use Rattle.insn_decode.specs.declared.insn.TwoOp.TheVariants.{Mov, Addc, Subc, Dadd, Bic, Bis}
use Rattle.insn_decode.specs.declared.insn.OneOp.{OneOp}
use Rattle.insn_decode.specs.declared.insn.OneOp.TheVariants.{Rrc, Rra, Sxt, Push, Call}
use Rattle.insn_decode.specs.declared.insn.Operand.{Operand}
use Rattle.insn_decode.specs.declared.insn.Operand.TheVariants.{Reg, Const, Imm, Indexed, Symbolic, Absolute, Indirect, Increment}
use Rattle.insn_decode.specs.declared.insn.Insn.{Insn}
use Rattle.insn_decode.specs.declared.insn.Insn.TheVariants.{Two, One, Jump}
use Rattle.pc_access.specs.declared.Kind.{Kind}
use Rattle.pc_access.specs.declared.Kind.TheVariants.{Fetch, Read, Write}
use Rattle.pc_access.specs.Accesses.{is_read, is_write}
use Rattle.mod_layout.specs.declared.Module.{Module}
use Rattle.mod_layout.specs.Table.{holds}
use Rattle.arm_balance.specs.Met.{text_byte}
use Rattle.pc_access.specs.Rights.{misaligned}
use Rattle.flow_rule.specs.declared.Val.{Val}
use Rattle.flow_rule.specs.declared.Val.TheVariants.{Known, Secret}
use Rattle.flow_rule.specs.Values.{over, over_one, blurred, narrow, val, seen, put_val, FlagDomain}

-- ---- accesses

abbrev pub place_val : Operand → List Val → ℕ → Option Val
place_val (Indexed r x) core ext = Some (over_one (λ v. add16 v x) (seen core r))
place_val (Symbolic x) core ext = Some (Known (add16 ext x))
place_val (Absolute x) core ext = Some (Known x)
place_val (Indirect r) core ext = Some (seen core r)
place_val (Increment r) core ext = Some (seen core r)
place_val _ core ext = None

abbrev pub past_val : Insn → ℕ → List Val → List Val
past_val insn pc core = put_val core 0 (Known (add16 pc (2 * length_of insn)))

abbrev pub stepped_val : Width → Operand → List Val → List Val
stepped_val w (Increment r) core = put_val core r (over_one (λ v. add16 v (increment_of w r)) (val core r))
stepped_val w _ core = core

abbrev pub lowered_val : List Val → List Val
lowered_val core = put_val core 1 (over_one (λ v. add16 v 65534) (val core 1))

abbrev pub reach_if : Bool → Kind → Width → Option Val → List Reach
reach_if true kind w (Some a) = record { kind = kind; addr = a; width = w } ∷ []
reach_if _ kind w _ = []

-- what an instruction of format II writes
abbrev pub one_reach : OneOp → Width → Option Val → Val → List Reach
one_reach Push w a sp = reach_if true Write w (Some sp)
one_reach Call w a sp = reach_if true Write Word (Some sp)
one_reach _ w a sp = reach_if true Write w a

-- the accesses in their order, of an instruction at pc
unfoldable pub plan_val : Insn → ℕ → List Val → List Reach
plan_val (Two op w s d) pc core =
    let ext = add16 pc 2 in
    let core1 = past_val (Two op w s d) pc core in
    let a = place_val s core1 ext in
    let b = place_val d (stepped_val w s core1) (add16 ext (2 * words_of s)) in
    reach_if true Read w a ++ reach_if (reads_dst op) Read w b ++ reach_if (writes_dst op) Write w b
plan_val (One op w arg) pc core =
    let ext = add16 pc 2 in
    let core1 = past_val (One op w arg) pc core in
    let a = place_val arg core1 ext in
    let sp = val (lowered_val (stepped_val w arg core1)) 1 in
    reach_if true Read w a ++ one_reach op w a sp
plan_val _ pc core = []

-- the module reads its two sections and writes its data
abbrev pub may_reach : Module → Kind → Width → ℕ → Bool
may_reach m Read w a = not (misaligned w a) && (holds m.text a || holds m.ram a)
may_reach m Write w a = not (misaligned w a) && holds m.ram a
may_reach m Fetch w a = false

-- ---- the two sections

-- the number of a data word
abbrev pub word_no : Module → ℕ → ℕ
word_no m a = (a - m.ram.start) / 2

abbrev pub half : ℕ → ℕ → ℕ
half a w = if a % 2 == 0 then w % 256 else w / 256

abbrev pub read_at : Module → List ℕ → List Val → Width → ℕ → Val
read_at m text words Word a = if holds m.text a then Known (word_at (text_byte m.text text) a) else nth (word_no m a) words Secret
read_at m text words Byte a = if holds m.text a then Known (text_byte m.text text a) else over_one (half a) (nth (word_no m a) words Secret)

abbrev pub read_val : Module → List ℕ → List Val → Reach → Val
read_val m text words x = elim x.addr [ Known a ↦ read_at m text words x.width a | _ ↦ Secret ]

abbrev pub write_at : Module → List Val → Width → ℕ → Val → List Val
write_at m words Word a v = slice_set words (word_no m a) (narrow Word v)
write_at m words Byte a v = slice_set words (word_no m a) (blurred (nth (word_no m a) words Secret ∷ v ∷ []))

abbrev pub write_val : Module → List Val → Reach → Val → List Val
write_val m words x v = elim x.addr [ Known a ↦ write_at m words x.width a v | _ ↦ words ]

abbrev pub writes_val : Module → List Val → List Reach → List Val → List Val
writes_val m words xs values = fold (λ ws p. write_val m ws p.0 p.1) words (zip xs values)

abbrev pub read_reaches : List Reach → List Reach
read_reaches xs = filter (λ x. is_read x.kind) xs

abbrev pub write_reaches : List Reach → List Reach
write_reaches xs = filter (λ x. is_write x.kind) xs

-- ---- results

pub record Done_val : Type 0 where
  pub core : List Val
  pub stored : List Val

abbrev pub reads_carry : TwoOp → Bool
reads_carry Addc = true
reads_carry Subc = true
reads_carry Dadd = true
reads_carry _ = false

abbrev pub sets_flags : TwoOp → Bool
sets_flags Mov = false
sets_flags Bic = false
sets_flags Bis = false
sets_flags _ = true

abbrev pub one_reads_carry : OneOp → Bool
one_reads_carry Rrc = true
one_reads_carry _ = false

abbrev pub one_sets_flags : OneOp → Bool
one_sets_flags Rrc = true
one_sets_flags Rra = true
one_sets_flags Sxt = true
one_sets_flags _ = false

-- what an operation does not read counts as 0
abbrev pub read_if : Bool → Val → Val
read_if b v = if b then v else Known 0

-- a result's flags
abbrev pub flags_of : Computed → ℕ
flags_of res = with_flags res 0

-- what is told of an operation of three values, where it sets flags or not
abbrev pub told_of : FlagDomain → Bool → (ℕ → ℕ → ℕ → Computed) → Val → Val → Val → Told
told_of flags sets f a b c =
    record { value = over (λ x y z. value_of (f x y z)) a b c; flags = if sets then Some (flags.told (λ x y z. flags_of (f x y z)) a b c) else None }

-- a word MOV copies
abbrev pub two_val : FlagDomain → TwoOp → Width → Val → Val → Val → Told
two_val flags Mov Word s d c = record { value = s; flags = None }
two_val flags op w s d c = told_of flags (sets_flags op) (two_result op w) s (read_if (reads_dst op) d) (read_if (reads_carry op) c)

abbrev pub one_val : FlagDomain → OneOp → Width → Val → Val → Told
one_val flags op w a c = told_of flags (one_sets_flags op) (λ x y z. one_result op w x y) a (read_if (one_reads_carry op) c) (Known 0)

abbrev pub set_flags_by : FlagDomain → Option Val → List Val → List Val
set_flags_by flags None core = core
set_flags_by flags (Some f) core = slice_set core 2 (flags.held f)

abbrev pub given_val : Operand → Width → List Val → List Val → Val
given_val (Reg r) w core values = narrow w (seen core r)
given_val (Const c) w core values = Known (low w c)
given_val (Imm x) w core values = Known (low w x)
given_val _ w core values = narrow w (nth 0 values Secret)

abbrev pub after_val : Operand → List Val → List Val
after_val o values = if in_memory o then drop 1 values else values

-- a result put into a register: SR keeps what is written there, without flags
abbrev pub into_register_val : FlagDomain → Bool → ℕ → Told → List Val → List Val
into_register_val flags true r res core = slice_set core 2 (flags.held res.value)
into_register_val flags false r res core = put_val (set_flags_by flags res.flags core) r res.value

abbrev pub written_val : FlagDomain → Bool → Operand → Told → List Val → Done_val
written_val flags true (Reg r) res core =
    record { core = into_register_val flags (r == 2) r res core; stored = [] }
written_val flags true _ res core = record { core = set_flags_by flags res.flags core; stored = res.value ∷ [] }
written_val flags false _ res core = record { core = set_flags_by flags res.flags core; stored = [] }

-- a word BIC to SR whose source has all four flags makes them 0 in both runs
abbrev pub clears : Val → Bool
clears (Known v) = has_all_flags v
clears _ = false

abbrev pub clears_flags : TwoOp → Width → Operand → Val → Bool
clears_flags Bic Word (Reg r) s = (r == 2) && clears s
clears_flags _ w d s = false

abbrev pub cleared_if : FlagDomain → Bool → Done_val → Done_val
cleared_if flags c x = record { core = if c then slice_set x.core 2 flags.cleared else x.core; stored = x.stored }

-- the carry, as the flags' value has it
abbrev pub carry_val : List Val → Val
carry_val core = over_one (bit 1) (val core 2)

-- format II, where the operand is read, its increment is done and its result is told
abbrev pub one_done_val : FlagDomain → OneOp → Operand → Val → Told → List Val → Done_val
one_done_val flags Push arg a told core = record { core = lowered_val core; stored = over_one (λ v. v) a ∷ [] }
one_done_val flags Call arg a told core = record { core = put_val (lowered_val core) 0 a; stored = val core 0 ∷ [] }
one_done_val flags op arg a told core = written_val flags true arg told core

unfoldable pub does_val : FlagDomain → Insn → ℕ → List Val → List Val → Done_val
does_val flags (Two op w s d) pc core values =
    let core1 = past_val (Two op w s d) pc core in
    let core2 = stepped_val w s core1 in
    let a = given_val s w core1 values in
    let b = given_val d w core2 (after_val s values) in
    cleared_if flags (clears_flags op w d a) (written_val flags (writes_dst op) d (two_val flags op w a b (carry_val core)) core2)
does_val flags (One op w arg) pc core values =
    let core1 = past_val (One op w arg) pc core in
    let core2 = stepped_val w arg core1 in
    let a = given_val arg w core1 values in
    one_done_val flags op arg a (one_val flags op w a (carry_val core)) core2
does_val flags (Jump condition off) pc core values =
    record { core = put_val (past_val (Jump condition off) pc core) 0 (Known (add16 (add16 pc 2) (distance off))); stored = [] }
does_val flags insn pc core values = record { core = past_val insn pc core; stored = [] }
