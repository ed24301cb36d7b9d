-- What a statement that a line writes keeps.
use Rattle.std.proofs.Common.{ℕ, ◌≡◌, ◌≤◌, Bool, true, false, cond, ◌&&◌, List, [], ◌∷◌, length, take, drop, codes, ◌%◌, Option, Some, None, is_some, nat_eq, nat_le, refl, ap, sym, subst, ◌∙◌, arith, lit<}
use Rattle.std.proofs.lemmas.Bool.Decides.{nat_tests}
use Rattle.std.specs.Prelude.{option_map, option_and_then, slice_get}
use Rattle.std.specs.Str.{bytes_eq}
use Rattle.std.proofs.lemmas.Option.{same_Some, cond_some}
use Rattle.texts.specs.Decimals.{read_decimal}
use Rattle.texts.specs.Hexadecimals.{read_hex_word}
use Rattle.texts.proofs.LawLemmas.{decimals_are_read}
use Rattle.sm_words.specs.declared.width.Width.{Width}
use Rattle.insn_decode.specs.declared.insn.Condition.{Condition}
use Rattle.insn_decode.specs.declared.insn.Insn.{Insn}
use Rattle.insn_decode.specs.declared.insn.Insn.TheVariants.{Two, One, Reti, Unit as UnitOp}
use Rattle.insn_decode.specs.declared.insn.Operand.{Operand}
use Rattle.insn_decode.specs.declared.insn.Operand.TheVariants.{Reg, Const, Imm, Indexed, Absolute, Indirect, Increment}
use Rattle.insn_decode.specs.declared.insn.TwoOp.{TwoOp}
use Rattle.insn_decode.specs.declared.insn.OneOp.{OneOp}
use Rattle.insn_decode.specs.declared.insn.UnitName.{UnitName}
use Rattle.insn_decode.specs.Code.{unit_ops}
use Rattle.asm_line.specs.declared.TheConstants.{MAX_SIZE}
use Rattle.asm_line.specs.declared.statement.SectionKind.{SectionKind}
use Rattle.asm_line.specs.declared.statement.Field.{Field}
use Rattle.asm_line.specs.declared.statement.Field.TheVariants.{Number, Name}
use Rattle.asm_line.specs.declared.statement.Statement.{Statement}
use Rattle.asm_line.specs.declared.statement.Statement.TheVariants.{Section, Label, Global, Word, Space, Jump, Code}
use Rattle.asm_line.specs.Encoding.{leading_word}
use Rattle.texts.specs.Words.{is_space, words}
use Rattle.asm_line.specs.Lines.{coded, mnemonic_width, base_of, two_op_of, one_op_of, condition_of, one_coded, two_coded, section_kind, section_statement, even_size, space_of, numbered_unit, unit_statement, alone, jump_or_one, with_one, two_operands, with_two, by_words, statement_of}
use Rattle.asm_line.specs.Operands.{behind, without_ending, name_of, field_by, field_of, register_of, of_field, plain, number_by, immediate_of, indirect_by, indirect_of, indexed_at, indexed_by, without_end, indexed_of, register_operand, absolute_of, behind_or, operand_of}
use Rattle.asm_line.specs.Identifiers.{is_name}
use Rattle.asm_line.specs.Statements.{OperandValue}

abbrev pub NamedOption : Option (List ℕ) → Type 0
NamedOption None = Unit {0}
NamedOption (Some name) = is_name name ≡ true

abbrev pub NamedField : Field (List ℕ) → Type 0
NamedField (Number n) = Unit {0}
NamedField (Name name) = is_name name ≡ true

abbrev pub IsWritten : Statement (List ℕ) → Type 0
IsWritten (Section name kind) = is_name name ≡ true
IsWritten (Label name) = is_name name ≡ true
IsWritten (Global name) = is_name name ≡ true
IsWritten (Word field) = NamedField field
IsWritten (Space size) = (size ≤ MAX_SIZE) × (size % 2 ≡ 0)
IsWritten (Jump condition target) = is_name target ≡ true
IsWritten (Code insn first second) = NamedOption first × NamedOption second

-- ---- names, fields and operands

name_some : (text name : List ℕ) → name_of text ≡ Some name → is_name name ≡ true
name_some text name e = by (is_name text) refl e
  where
    by : (c : Bool) → is_name text ≡ c → cond c (Some text) None ≡ Some name → is_name name ≡ true
    by true is k = ap is_name (sym (same_Some text name k)) ∙ is
    by false is k = absurd cc

field_some : (text : List ℕ) (f : Field (List ℕ)) → field_of text ≡ Some f → NamedField f
field_some text f e = by (behind (codes "0x") text) e
  where
    by_word : (w : Option ℕ) → option_map Number w ≡ Some f → NamedField f
    by_word (Some n) k = subst NamedField (same_Some (Number n) f k) tt
    by_word None k = absurd cc

    by_name : (o : Option (List ℕ)) → name_of text ≡ o → option_map Name o ≡ Some f → NamedField f
    by_name (Some name) is k = subst NamedField (same_Some (Name name) f k) (name_some text name is)
    by_name None is k = absurd cc

    by : (o : Option (List ℕ)) → field_by o text ≡ Some f → NamedField f
    by (Some digits) k = by_word (read_hex_word digits) k
    by None k = by_name (name_of text) refl k

plain_some : (make : ℕ → Operand) (o : Option ℕ) (v : OperandValue) → option_map (λ r. plain (make r)) o ≡ Some v → NamedOption v.name
plain_some make (Some r) v e = subst (λ (x : OperandValue). NamedOption x.name) (same_Some (plain (make r)) v e) tt
plain_some make None v e = absurd cc

of_field_named : (make : ℕ → Operand) (f : Field (List ℕ)) → NamedField f → NamedOption (of_field make f).name
of_field_named make (Number n) h = tt
of_field_named make (Name name) h = h

number_some : (text : List ℕ) (v : OperandValue) → immediate_of text ≡ Some v → NamedOption v.name
unfolding immediate_of
number_some text v e = by (bytes_eq text (codes "-1")) e
  where
    by_field : (o : Option (Field (List ℕ))) → field_of text ≡ o → number_by o text ≡ Some v → NamedOption v.name
    by_field (Some f) is k = subst (λ (x : OperandValue). NamedOption x.name) (same_Some (of_field Imm f) v k) (of_field_named Imm f (field_some text f is))
    by_field None is k = plain_some Const (read_decimal 8 text) v k

    by : (c : Bool) → cond c (Some (plain (Const 65535))) (number_by (field_of text) text) ≡ Some v → NamedOption v.name
    by true k = subst (λ (x : OperandValue). NamedOption x.name) (same_Some (plain (Const 65535)) v k) tt
    by false k = by_field (field_of text) refl k

absolute_some : (text : List ℕ) (v : OperandValue) → absolute_of text ≡ Some v → NamedOption v.name
absolute_some text v e = by (field_of text) refl e
  where
    by : (o : Option (Field (List ℕ))) → field_of text ≡ o → option_map (of_field Absolute) o ≡ Some v → NamedOption v.name
    by (Some f) is k = subst (λ (x : OperandValue). NamedOption x.name) (same_Some (of_field Absolute f) v k) (of_field_named Absolute f (field_some text f is))
    by None is k = absurd cc

indirect_some : (text : List ℕ) (v : OperandValue) → indirect_of text ≡ Some v → NamedOption v.name
unfolding indirect_of
indirect_some text v e = by (without_ending (codes "+") text) e
  where
    by : (o : Option (List ℕ)) → indirect_by o text ≡ Some v → NamedOption v.name
    by (Some register) k = plain_some Increment (register_of register) v k
    by None k = plain_some Indirect (register_of text) v k

indexed_some : (text : List ℕ) (v : OperandValue) → indexed_of text ≡ Some v → NamedOption v.name
unfolding indexed_of
indexed_some text v e = by (without_end (behind (codes "(r") (drop 4 text))) e
  where
    by_parts : (x r : Option ℕ) → indexed_at x r ≡ Some v → NamedOption v.name
    by_parts (Some x) (Some r) k = subst (λ (y : OperandValue). NamedOption y.name) (same_Some (plain (Indexed r x)) v k) tt
    by_parts _ _ k = absurd cc

    by : (o : Option (List ℕ)) → indexed_by (take 4 text) o ≡ Some v → NamedOption v.name
    by None k = absurd cc
    by (Some register) k = by_parts (read_hex_word (take 4 text)) (register_of register) k

operand_some : (text : List ℕ) (v : OperandValue) → operand_of text ≡ Some v → NamedOption v.name
unfolding operand_of
operand_some text v e = by (behind (codes "r") text) (behind (codes "#") text) (behind (codes "&") text) (behind (codes "@r") text) (behind (codes "0x") text) e
  where
    by : (c d f g h : Option (List ℕ)) → behind_or c register_operand (behind_or d immediate_of (behind_or f absolute_of (behind_or g indirect_of (behind_or h indexed_of None)))) ≡ Some v → NamedOption v.name
    by (Some rest) d f g h k = plain_some Reg (register_of rest) v k
    by None (Some rest) f g h k = number_some rest v k
    by None None (Some rest) g h k = absolute_some rest v k
    by None None None (Some rest) h k = indirect_some rest v k
    by None None None None (Some rest) k = indexed_some rest v k
    by None None None None None k = absurd cc

-- ---- statements

coded_some : (insn : Insn) (a b : Option (List ℕ)) (s : Statement (List ℕ)) → NamedOption a → NamedOption b → coded insn a b ≡ Some s → IsWritten s
coded_some insn a b s x y e = subst IsWritten (cond_some (is_some (leading_word insn)) (Code insn a b) s e).1 (x, y)

one_some : (w : Width) (op : Option OneOp) (text : List ℕ) (s : Statement (List ℕ)) → one_coded w op (operand_of text) ≡ Some s → IsWritten s
one_some w op text s e = by op (operand_of text) refl e
  where
    by : (op : Option OneOp) (o : Option OperandValue) → operand_of text ≡ o → one_coded w op o ≡ Some s → IsWritten s
    by (Some op) (Some a) is k = coded_some (One op w a.operand) a.name None s (operand_some text a is) tt k
    by _ _ is k = absurd cc

two_some : (w : Width) (op : Option TwoOp) (source dest : List ℕ) (s : Statement (List ℕ)) → two_coded w op (operand_of source) (operand_of dest) ≡ Some s → IsWritten s
two_some w op source dest s e = by op (operand_of source) (operand_of dest) refl refl e
  where
    by : (op : Option TwoOp) (o p : Option OperandValue) → operand_of source ≡ o → operand_of dest ≡ p → two_coded w op o p ≡ Some s → IsWritten s
    by (Some op) (Some a) (Some b) i j k = coded_some (Two op w a.operand b.operand) a.name b.name s (operand_some source a i) (operand_some dest b j) k
    by _ _ _ i j k = absurd cc

named_some : (make : List ℕ → Statement (List ℕ)) (text : List ℕ) (s : Statement (List ℕ)) → ((name : List ℕ) → is_name name ≡ true → IsWritten (make name)) → option_map make (name_of text) ≡ Some s → IsWritten s
named_some make text s fine e = by (name_of text) refl e
  where
    by : (o : Option (List ℕ)) → name_of text ≡ o → option_map make o ≡ Some s → IsWritten s
    by (Some name) is k = subst IsWritten (same_Some (make name) s k) (fine name (name_some text name is))
    by None is k = absurd cc

word_some : (text : List ℕ) (s : Statement (List ℕ)) → option_map Word (field_of text) ≡ Some s → IsWritten s
word_some text s e = by (field_of text) refl e
  where
    by : (o : Option (Field (List ℕ))) → field_of text ≡ o → option_map Word o ≡ Some s → IsWritten s
    by (Some f) is k = subst IsWritten (same_Some (Word f) s k) (field_some text f is)
    by None is k = absurd cc

space_some : (text : List ℕ) (s : Statement (List ℕ)) → space_of text ≡ Some s → IsWritten s
space_some text s e = by (read_decimal MAX_SIZE text) refl e
  where
    is_even : (n : ℕ) → (nat_le 2 n && nat_eq (n % 2) 0) ≡ true → n % 2 ≡ 0
    is_even n is = grind (arith, nat_tests)

    by_even : (n : ℕ) (c : Bool) → (nat_le 2 n && nat_eq (n % 2) 0) ≡ c → n ≤ MAX_SIZE → cond c (Some (Space n)) None ≡ Some s → IsWritten s
    by_even n true is low k = subst IsWritten (same_Some (Space n) s k) (low, is_even n is)
    by_even n false is low k = absurd cc

    by : (o : Option ℕ) → read_decimal MAX_SIZE text ≡ o → option_and_then even_size o ≡ Some s → IsWritten s
    by (Some n) is k = by_even n (nat_le 2 n && nat_eq (n % 2) 0) refl ((decimals_are_read MAX_SIZE (lit< tt) text n).0 is).0 k
    by None is k = absurd cc

unit_some : (text : List ℕ) (s : Statement (List ℕ)) → unit_statement text ≡ Some s → IsWritten s
unit_some text s e = by (read_decimal 6 text) e
  where
    by_name : (o : Option UnitName) → option_map (λ name. Code (UnitOp name) None None) o ≡ Some s → IsWritten s
    by_name (Some name) k = subst IsWritten (same_Some (Code (UnitOp name) None None) s k) (tt, tt)
    by_name None k = absurd cc

    by : (o : Option ℕ) → option_and_then numbered_unit o ≡ Some s → IsWritten s
    by (Some n) k = by_name (slice_get unit_ops n) k
    by None k = absurd cc

-- the statement of a number that was read
pub unit_there : (o : Option ℕ) (n : ℕ) (name : UnitName) (s : Statement (List ℕ)) → o ≡ Some n → slice_get unit_ops n ≡ Some name → s ≡ Code (UnitOp name) None None
    → Some s ≡ option_and_then numbered_unit o
unit_there o n name s is there e =
    ap Some e ∙ sym (ap (option_and_then numbered_unit) is ∙ ap (option_map (λ (u : UnitName). Code (UnitOp u) None None)) there)

jump_some : (word text : List ℕ) (s : Statement (List ℕ)) → jump_or_one (condition_of word) word text ≡ Some s → IsWritten s
jump_some word text s e = by (condition_of word) e
  where
    by : (o : Option Condition) → jump_or_one o word text ≡ Some s → IsWritten s
    by (Some c) k = named_some (Jump c) text s (λ name is. is) k
    by None k = one_some (mnemonic_width word) (one_op_of (base_of word)) text s k

with_one_some : (word text : List ℕ) (s : Statement (List ℕ)) → with_one word text ≡ Some s → IsWritten s
with_one_some word text s e = by (bytes_eq word (codes "label")) (bytes_eq word (codes "global")) (bytes_eq word (codes "word")) (bytes_eq word (codes "space")) (bytes_eq word (codes "unit")) e
  where
    by : (c d f g h : Bool) → cond c (option_map Label (name_of text)) (cond d (option_map Global (name_of text)) (cond f (option_map Word (field_of text)) (cond g (space_of text) (cond h (unit_statement text) (jump_or_one (condition_of word) word text))))) ≡ Some s → IsWritten s
    by true d f g h k = named_some Label text s (λ name is. is) k
    by false true f g h k = named_some Global text s (λ name is. is) k
    by false false true g h k = word_some text s k
    by false false false true h k = space_some text s k
    by false false false false true k = unit_some text s k
    by false false false false false k = jump_some word text s k

section_some : (text : List ℕ) (kind : Option SectionKind) (s : Statement (List ℕ)) → section_statement (name_of text) kind ≡ Some s → IsWritten s
section_some text kind s e = by (name_of text) kind refl e
  where
    by : (o : Option (List ℕ)) (kind : Option SectionKind) → name_of text ≡ o → section_statement o kind ≡ Some s → IsWritten s
    by (Some name) (Some kind) is k = subst IsWritten (same_Some (Section name kind) s k) (name_some text name is)
    by _ _ is k = absurd cc

with_two_some : (word first second : List ℕ) (s : Statement (List ℕ)) → with_two word first second ≡ Some s → IsWritten s
with_two_some word first second s e = by (bytes_eq word (codes "section")) e
  where
    by_comma : (o : Option (List ℕ)) → two_operands o word second ≡ Some s → IsWritten s
    by_comma (Some source) k = two_some (mnemonic_width word) (two_op_of (base_of word)) source second s k
    by_comma None k = absurd cc

    by : (c : Bool) → cond c (section_statement (name_of first) (section_kind second)) (two_operands (without_ending (codes ",") first) word second) ≡ Some s → IsWritten s
    by true k = section_some first (section_kind second) s k
    by false k = by_comma (without_ending (codes ",") first) k

alone_some : (word : List ℕ) (s : Statement (List ℕ)) → alone word ≡ Some s → IsWritten s
alone_some word s e = by (bytes_eq word (codes "reti")) e
  where
    by : (c : Bool) → cond c (Some (Code Reti None None)) None ≡ Some s → IsWritten s
    by true k = subst IsWritten (same_Some (Code Reti None None) s k) (tt, tt)
    by false k = absurd cc

pub statement_some : (line : List ℕ) (s : Statement (List ℕ)) → statement_of line ≡ Some s → IsWritten s
unfolding statement_of
statement_some line s e = by (words line) e
  where
    by : (ws : List (List ℕ)) → by_words ws ≡ Some s → IsWritten s
    by [] k = absurd cc
    by (word ∷ []) k = alone_some word s k
    by (word ∷ text ∷ []) k = with_one_some word text s k
    by (word ∷ first ∷ second ∷ []) k = with_two_some word first second s k
    by (word ∷ first ∷ second ∷ third ∷ more) k = absurd cc

-- a statement has two bytes at least
pub two_bytes : (line : List ℕ) (s : Statement (List ℕ)) → statement_of line ≡ Some s → 2 ≤ length line
unfolding statement_of words
two_bytes [] s e = absurd cc
two_bytes (b ∷ c ∷ line) s e = omega arith
two_bytes (b ∷ []) s e = by (is_space b) e
  where
    by_byte : (c : Bool) → cond (c && false) (Some (Code Reti None None)) None ≡ Some s → 2 ≤ 1
    by_byte true k = absurd cc
    by_byte false k = absurd cc

    by : (c : Bool) → by_words (cond c ([] ∷ [] ∷ []) ((b ∷ []) ∷ [])) ≡ Some s → 2 ≤ 1
    by true k = absurd cc
    by false k = by_byte (nat_eq b 114) k
