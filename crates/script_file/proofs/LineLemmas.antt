-- A line of a script and its text.
use Rattle.std.proofs.Common.{ℕ, ◌≡◌, ◌+◌, ◌^◌, ◌<◌, ◌≤◌, Bool, true, false, ◌&&◌, ◌==◌, nat_le, cond, List, ◌∷◌, ◌++◌, length, take, drop, get_or, Option, Some, None, Ok, Err, codes, refl, ap, sym, subst, ◌∙◌, arith}
use Rattle.std.specs.Fmt.{decimal}
use Rattle.std.specs.Option.{option_map}
use Rattle.std.specs.Result.{result_ok}
use Rattle.std.specs.Str.{bytes_eq}
use Rattle.std.proofs.lemmas.Bool.Decides.{nat_tests}
use Rattle.std.proofs.lemmas.Slice.Eq.{bytes_eq-Decides}
use Rattle.std.proofs.lemmas.List.{take-append-drop, at_drop_more}
use Rattle.texts.specs.Decimals.{is_decimal, number_in}
use Rattle.texts.specs.Hexadecimals.{hex_word, read_hex_word}
use Rattle.texts.proofs.DecimalLemmas.{decimal_of_number, is_decimal-decimal, number_in-decimal}
use Rattle.texts.proofs.LawLemmas.{words_are_read}
use Rattle.written_machine.specs.declared.ScriptLine.{ScriptLine}
use Rattle.written_machine.specs.declared.ScriptLine.TheVariants.{Go, Until, Regs, Mem, Mark, Back, Last}
use Rattle.script_file.specs.declared.line.Operands.{Operands}
use Rattle.script_file.specs.declared.line.LineFault.TheVariants as fault
use Rattle.script_file.specs.Bounds.{is_bounded, IsBounded, IsAddressed, IsLine}
use Rattle.script_file.specs.Laws.{ScriptLinesAreRead}
use Rattle.script_file.specs.Line.{read_any_decimal, both_operands, operands_of, go_form, until_form, mem_form, back_form, last_form, bare_form, begins_with, form_of, line_text, checked}

-- ---- from a text to its line

-- a text that begins so
begins_so : (text front : List ℕ) → begins_with text front ≡ true → text ≡ front ++ drop (length front) text
begins_so text front e = sym (take-append-drop (length front) text) ∙ ap (λ t. t ++ drop (length front) text) ((bytes_eq-Decides (take (length front) text) front).0 e)

-- a decimal of a small number
record IsNumber (text : List ℕ) (n : ℕ) : Type 0 where
  decimal_is : is_decimal text ≡ true
  number_is : number_in text ≡ n

number_from : (text : List ℕ) (n : ℕ) → read_any_decimal text ≡ Some n → IsNumber text n
number_from text n e = by (is_decimal text) refl e
  where
    by : (c : Bool) → is_decimal text ≡ c → cond c (Some (number_in text)) None ≡ Some n → IsNumber text n
    by true is e = record { decimal_is = is; number_is = cc }
    by false is e = absurd cc

number_text : (text : List ℕ) (n : ℕ) → read_any_decimal text ≡ Some n → n < 2 ^ 64 → text ≡ decimal n
number_text text n e small =
    let is = number_from text n e in
    sym (decimal_of_number text is.decimal_is (subst (λ m. m < 2 ^ 64) (sym is.number_is) small)) ∙ ap decimal is.number_is

-- what a text with an address and a number has
record IsOperands (text : List ℕ) (a : Operands) : Type 0 where
  addr_is : read_hex_word (take 4 text) ≡ Some a.addr
  number_is : read_any_decimal (drop 5 text) ≡ Some a.number
  long : 5 ≤ length text
  space : get_or text 4 0 ≡ 32

both_parts : (o p : Option ℕ) (a : Operands) → both_operands o p ≡ Some a → (o ≡ Some a.addr) × (p ≡ Some a.number)
both_parts (Some addr) (Some n) a e = (cc, cc)
both_parts _ _ a e = absurd cc

operands_from : (text : List ℕ) (a : Operands) → operands_of text ≡ Some a → IsOperands text a
unfolding operands_of
operands_from text a e = by (nat_le 5 (length text)) (get_or text 4 0 == 32) refl refl e
  where
    by : (c d : Bool) → nat_le 5 (length text) ≡ c → (get_or text 4 0 == 32) ≡ d → cond (c && d) (both_operands (read_hex_word (take 4 text)) (read_any_decimal (drop 5 text))) None ≡ Some a → IsOperands text a
    by true true p q e =
        let parts = both_parts _ _ a e in
        record { addr_is = parts.0; number_is = parts.1; long = grind (arith, nat_tests); space = grind (arith, nat_tests) }
    by true false p q e = absurd cc
    by false d p q e = absurd cc

operands_text : (text : List ℕ) (a : Operands) → operands_of text ≡ Some a → a.number < 2 ^ 64 → (a.addr < 65536) × (text ≡ hex_word a.addr ++ codes " " ++ decimal a.number)
operands_text text a e small =
    let is = operands_from text a e in
    let word = (words_are_read (take 4 text) a.addr).0 is.addr_is in
    let here : 4 < length text = omega (arith, is.long) in
    let behind : drop 4 text ≡ 32 ∷ drop 5 text = at_drop_more (λ t. t) text 4 0 here ∙ ap (λ b. b ∷ drop 5 text) is.space in (
      word.0,
      sym (take-append-drop 4 text) ∙ ap (λ t. t ++ drop 4 text) word.1 ∙ ap (λ t. hex_word a.addr ++ t) (behind ∙ ap (λ t. 32 ∷ t) (number_text (drop 5 text) a.number is.number_is small)),
    )

-- what a line is
abbrev IsText : List ℕ → ScriptLine → Type 0
IsText text l = IsAddressed l × (text ≡ line_text l)

numbered : (make : ℕ → ScriptLine) (o : Option ℕ) (l : ScriptLine) → option_map make o ≡ Some l → (n : ℕ) × (o ≡ Some n) × (make n ≡ l)
numbered make (Some n) l e = (n, refl, cc)
numbered make None l e = absurd cc

operated : (make : Operands → ScriptLine) (o : Option Operands) (l : ScriptLine) → option_map make o ≡ Some l → (a : Operands) × (o ≡ Some a) × (make a ≡ l)
operated make (Some a) l e = (a, refl, cc)
operated make None l e = absurd cc

most_cycles : (n : ℕ) → nat_le n 1000000000 ≡ true → n < 2 ^ 64
most_cycles n e = let low : n ≤ 1000000000 = grind (arith, nat_tests) in omega arith

most_marks : (n : ℕ) → nat_le n 15 ≡ true → n < 2 ^ 64
most_marks n e = let low : n ≤ 15 = grind (arith, nat_tests) in omega arith

last_of_four : (a b c d : Bool) → (a && b && c && d) ≡ true → c ≡ true
last_of_four true true true true e = refl
last_of_four _ _ _ _ e = absurd cc

most_bytes : (addr n : ℕ) → IsBounded (Mem addr n) → n < 2 ^ 64
most_bytes addr n e =
    let t = last_of_four (nat_le 512 addr) (nat_le 1 n) (nat_le n 256) (nat_le (addr + n) 65536) e in
    let low : n ≤ 256 = grind (arith, nat_tests) in
    omega arith

go_from : (text rest : List ℕ) (l : ScriptLine) → text ≡ codes "go " ++ rest → go_form rest ≡ Some l → IsBounded l → IsText text l
go_from text rest l front e =
    let n = numbered Go (read_any_decimal rest) l e in
    subst (λ l. IsBounded l → IsText text l) n.2 (λ bounded. (tt, front ∙ ap (λ t. codes "go " ++ t) (number_text rest n.0 n.1 (most_cycles n.0 bounded))))

until_from : (text rest : List ℕ) (l : ScriptLine) → text ≡ codes "until " ++ rest → until_form rest ≡ Some l → IsBounded l → IsText text l
until_from text rest l front e =
    let a = operated (λ a. Until a.addr a.number) (operands_of rest) l e in
    subst (λ l. IsBounded l → IsText text l) a.2 (λ bounded. let is = operands_text rest a.0 a.1 (most_cycles a.0.number bounded) in (is.0, front ∙ ap (λ t. codes "until " ++ t) is.1))

mem_from : (text rest : List ℕ) (l : ScriptLine) → text ≡ codes "mem " ++ rest → mem_form rest ≡ Some l → IsBounded l → IsText text l
mem_from text rest l front e =
    let a = operated (λ a. Mem a.addr a.number) (operands_of rest) l e in
    subst (λ l. IsBounded l → IsText text l) a.2 (λ bounded. let is = operands_text rest a.0 a.1 (most_bytes a.0.addr a.0.number bounded) in (is.0, front ∙ ap (λ t. codes "mem " ++ t) is.1))

back_from : (text rest : List ℕ) (l : ScriptLine) → text ≡ codes "back " ++ rest → back_form rest ≡ Some l → IsBounded l → IsText text l
back_from text rest l front e =
    let n = numbered Back (read_any_decimal rest) l e in
    subst (λ l. IsBounded l → IsText text l) n.2 (λ bounded. (tt, front ∙ ap (λ t. codes "back " ++ t) (number_text rest n.0 n.1 (most_marks n.0 bounded))))

last_from : (text rest : List ℕ) (l : ScriptLine) → text ≡ codes "last " ++ rest → last_form rest ≡ Some l → IsBounded l → IsText text l
last_from text rest l front e =
    let a = operated (λ a. Last a.addr a.number) (operands_of rest) l e in
    subst (λ l. IsBounded l → IsText text l) a.2 (λ bounded. let is = operands_text rest a.0 a.1 (most_marks a.0.number bounded) in (is.0, front ∙ ap (λ t. codes "last " ++ t) is.1))

bare_from : (text : List ℕ) (l : ScriptLine) → bare_form text ≡ Some l → IsText text l
bare_from text l e = by (bytes_eq text (codes "regs")) (bytes_eq text (codes "mark")) refl refl e
  where
    by : (c d : Bool) → bytes_eq text (codes "regs") ≡ c → bytes_eq text (codes "mark") ≡ d → cond c (Some Regs) (cond d (Some Mark) None) ≡ Some l → IsText text l
    by true d p q e = let is : Regs ≡ l = cc in subst (IsText text) is (tt, (bytes_eq-Decides text (codes "regs")).0 p)
    by false true p q e = let is : Mark ≡ l = cc in subst (IsText text) is (tt, (bytes_eq-Decides text (codes "mark")).0 q)
    by false false p q e = absurd cc

form_from : (text : List ℕ) (l : ScriptLine) → form_of text ≡ Some l → IsBounded l → IsText text l
unfolding form_of
form_from text l e bounded = by (begins_with text (codes "go ")) (begins_with text (codes "until ")) (begins_with text (codes "mem ")) (begins_with text (codes "back ")) (begins_with text (codes "last ")) refl refl refl refl refl e
  where
    by : (g u m b t : Bool) → begins_with text (codes "go ") ≡ g → begins_with text (codes "until ") ≡ u → begins_with text (codes "mem ") ≡ m → begins_with text (codes "back ") ≡ b → begins_with text (codes "last ") ≡ t
        → cond g (go_form (drop 3 text)) (cond u (until_form (drop 6 text)) (cond m (mem_form (drop 4 text)) (cond b (back_form (drop 5 text)) (cond t (last_form (drop 5 text)) (bare_form text))))) ≡ Some l → IsText text l
    by true u m b t p q r s w e = go_from text (drop 3 text) l (begins_so text (codes "go ") p) e bounded
    by false true m b t p q r s w e = until_from text (drop 6 text) l (begins_so text (codes "until ") q) e bounded
    by false false true b t p q r s w e = mem_from text (drop 4 text) l (begins_so text (codes "mem ") r) e bounded
    by false false false true t p q r s w e = back_from text (drop 5 text) l (begins_so text (codes "back ") s) e bounded
    by false false false false true p q r s w e = last_from text (drop 5 text) l (begins_so text (codes "last ") w) e bounded
    by false false false false false p q r s w e = bare_from text l e

taken : (o : Option ScriptLine) (l : ScriptLine) → result_ok (checked o) ≡ Some l → (o ≡ Some l) × IsBounded l
taken None l e = absurd cc
taken (Some k) l e = by (is_bounded k) refl e
  where
    by : (c : Bool) → is_bounded k ≡ c → result_ok (cond c (Ok k) (Err fault.Bounds)) ≡ Some l → (Some k ≡ Some l) × IsBounded l
    by true is e = let same : k ≡ l = cc in (ap Some same, subst IsBounded same is)
    by false is e = absurd cc

-- ---- from a line to its text

number_to : (n : ℕ) → n < 2 ^ 64 → read_any_decimal (decimal n) ≡ Some n
number_to n small = rw (is_decimal-decimal n small, number_in-decimal n small) refl

operands_to : (addr n : ℕ) → addr < 65536 → n < 2 ^ 64 → operands_of (hex_word addr ++ codes " " ++ decimal n) ≡ Some (record { addr = addr; number = n })
unfolding operands_of
operands_to addr n word small =
    let long : nat_le 5 (length (hex_word addr ++ codes " " ++ decimal n)) ≡ true = grind (arith, nat_tests) in
    let read = (words_are_read (hex_word addr) addr).1 (word, refl) in
    rw (long, read, number_to n small) refl

form_to : (l : ScriptLine) → IsLine l → form_of (line_text l) ≡ Some l
unfolding form_of
form_to (Go n) h = ap (option_map Go) (number_to n (most_cycles n h.bounded))
form_to (Until addr n) h = ap (option_map (λ (a : Operands). Until a.addr a.number)) (operands_to addr n h.addressed (most_cycles n h.bounded))
form_to Regs h = refl
form_to (Mem addr n) h = ap (option_map (λ (a : Operands). Mem a.addr a.number)) (operands_to addr n h.addressed (most_bytes addr n h.bounded))
form_to Mark h = refl
form_to (Back k) h = ap (option_map Back) (number_to k (most_marks k h.bounded))
form_to (Last addr k) h = ap (option_map (λ (a : Operands). Last a.addr a.number)) (operands_to addr k h.addressed (most_marks k h.bounded))

taken_to : (l : ScriptLine) → IsBounded l → result_ok (checked (Some l)) ≡ Some l
taken_to l bounded = ap (λ c. result_ok (cond c (Ok l) (Err fault.Bounds))) bounded

pub lines_are_read : ScriptLinesAreRead
lines_are_read text l = (
  λ e. let t = taken (form_of text) l e in let is = form_from text l t.0 t.1 in (record { addressed = is.0; bounded = t.1 }, is.1),
  λ h. ap (λ t. result_ok (checked (form_of t))) h.1 ∙ ap (λ o. result_ok (checked o)) (form_to l h.0) ∙ taken_to l h.0.bounded,
)
