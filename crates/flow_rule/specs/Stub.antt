-- A text that begins with its entry stub, and the steps there.
use Rattle.std.specs.Prelude.{ℕ, zero, suc, ◌+◌, ◌-◌, ◌*◌, ◌/◌, ◌%◌, List, [], ◌∷◌, ◌++◌, flat_map, ◌==◌, nat_lt, nat_le, if◌then◌else◌, Bool, true, false, ◌&&◌, ◌||◌}
use Rattle.sm_words.specs.Words.{word_at}
use Rattle.sm_words.specs.declared.width.Width.TheVariants.{Word}
use Rattle.insn_decode.specs.declared.insn.OneOp.TheVariants.{Call}
use Rattle.insn_decode.specs.declared.insn.Operand.TheVariants.{Indexed}
use Rattle.insn_decode.specs.declared.insn.Insn.{Insn}
use Rattle.insn_decode.specs.declared.insn.Insn.TheVariants.{One}
use Rattle.pc_access.specs.declared.Kind.TheVariants.{Write}
use Rattle.mod_layout.specs.declared.Module.{Module}
use Rattle.mod_layout.specs.Table.{size_of}
use Rattle.entry_stubs.specs.Stub.{stub_front, front_words, most_entries, count_word, body_word, stack_word, call_word, table_word, unknown_word, stub_size}
use Rattle.arm_balance.specs.Met.{text_byte}
use Rattle.flow_rule.specs.Terms.{Terms}
use Rattle.flow_rule.specs.declared.Val.{Val}
use Rattle.flow_rule.specs.declared.Val.TheVariants.{Known}
use Rattle.flow_rule.specs.Values.{FlagDomain, val, put_val}
use Rattle.flow_rule.specs.declared.Reason.TheVariants.{UnknownTarget}
use Rattle.flow_rule.specs.Iterations.{PointState, RuleViolation, FlowStep}
use Rattle.flow_rule.specs.declared.Reach.{Reach}
use Rattle.flow_rule.specs.Does.{writes_val, past_val, lowered_val}
use Rattle.flow_rule.specs.Violations.{violation_if, reach_violations}
use Rattle.flow_rule.specs.CallStrings.{calls}
use Rattle.flow_rule.specs.Steps.{step_of}

-- word k of the text
abbrev pub text_word : Module → List ℕ → ℕ → ℕ
text_word m text k = word_at (text_byte m.text text) (m.text.start + 2 * k)

-- these words stand from word k on
abbrev pub words_are : Module → List ℕ → ℕ → List ℕ → Bool
words_are m text k [] = true
words_are m text k (w ∷ ws) = (text_word m text k == w) && words_are m text (k + 1) ws

-- the n addresses of the table are even and lie past it
abbrev pub table_fine : Module → List ℕ → ℕ → ℕ → Bool
table_fine m text entries zero = true
table_fine m text entries (suc k) =
    let a = text_word m text (front_words + k) in
    (a % 2 == 0) && nat_le (m.text.start + 2 * front_words + 2 * entries) a && nat_lt a m.text.end && table_fine m text entries k

-- how many entries the stub says that it has
abbrev pub entries_of : Module → List ℕ → ℕ
entries_of m text = text_word m text count_word

-- the text begins with its own stub: 1 to 64 entries, an even private stack within the data, a sound table
unfoldable pub has_stub : Module → List ℕ → Bool
has_stub m text =
    let n = text_word m text count_word in
    let p = text_word m text stack_word in
    nat_le (stub_size n) (size_of m.text) && words_are m text 0 (stub_front m.text.start m.text.end m.ram.start n p)
    && nat_le 1 n && nat_le n most_entries && nat_le (m.ram.start + 4) p && (p % 2 == 0) && nat_le p m.ram.end
    && table_fine m text n n

-- the number of the word at this address
abbrev pub word_number : Module → ℕ → ℕ
word_number m a = (a - m.text.start) / 2

-- words that are met by the stub's own way alone
abbrev pub is_shut : ℕ → Bool
is_shut k = nat_le k table_word || (k == unknown_word) || (k == unknown_word + 1)

-- words that may go on to shut ones
abbrev pub is_open : ℕ → Bool
is_open k = nat_le body_word k && nat_le k (call_word - 1)

-- a step from outside into the stub's closed words
abbrev pub shut_violations : Module → ℕ → List PointState → List RuleViolation
shut_violations m pc xs = flat_map (λ x. violation_if (is_shut (word_number m x.point.addr)) pc UnknownTarget 0) xs

-- an instruction that is none of the open words may not go there
abbrev pub shut_if : Bool → Module → ℕ → FlowStep → FlowStep
shut_if true m pc s = s
shut_if false m pc s = record { violations = s.violations ++ shut_violations m pc s.gives; gives = s.gives }

-- the first k entries of the table, each with this call string and state
abbrev pub to_entries : Module → List ℕ → ℕ → List ℕ → List Val → List Val → List PointState
to_entries m text zero call_string core words = []
to_entries m text (suc k) call_string core words =
    let a = text_word m text (front_words + k) in
    record { point = record { addr = a; call_string = call_string }; state = record { core = put_val core 0 (Known a); words = words } } ∷ to_entries m text k call_string core words

abbrev pub call_entry : Module → Insn
call_entry m = One Call Word (Indexed 6 (m.text.start + 2 * front_words))

-- word 17: each address of the table, with the address of word 19 pushed
abbrev pub step_entries : Module → List ℕ → PointState → FlowStep
step_entries m text x =
    let pc = x.point.addr in
    let core = lowered_val (past_val (call_entry m) pc x.state.core) in
    let push : Reach = record { kind = Write; addr = val core 1; width = Word } in
    let t = calls pc x.point.call_string (pc + 4) in
    record {
      violations = reach_violations m pc (push ∷ []) ++ t.violations;
      gives = to_entries m text (entries_of m text) t.call_string core (writes_val m x.state.words (push ∷ []) (Known (pc + 4) ∷ []));
    }

-- the call goes to each entry; every other word does its own step
abbrev pub step_stub : FlagDomain → Terms → Module → List ℕ → PointState → FlowStep
step_stub flags terms m text x =
    let k = word_number m x.point.addr in
    if k == call_word then step_entries m text x else shut_if (is_open k) m x.point.addr (step_of flags terms m text x)
