-- A line and the entry that it writes.
use Rattle.std.proofs.Common.{ℕ, ◌≡◌, ◌+◌, ◌-◌, ◌^◌, ◌<◌, ◌≤◌, Bool, true, false, not, ◌&&◌, ◌==◌, nat_le, ◌⊎◌, inl, inr, cond, List, [], ◌∷◌, ◌++◌, length, take, drop, get_or, Option, Some, None, codes, append_assoc, refl, ap, sym, subst, ◌∙◌, arith, lit<}
use Rattle.std.specs.List.{starts_with, before_first, after_first, position_or_len}
use Rattle.std.specs.Option.{option_map}
use Rattle.std.specs.Str.{bytes_eq}
use Rattle.std.specs.Fmt.{decimal}
use Rattle.std.proofs.lemmas.Bool.{cases_lt}
use Rattle.std.proofs.lemmas.Bool.Decides.{nat_tests}
use Rattle.std.proofs.lemmas.Fmt.{decimal_digit}
use Rattle.std.proofs.lemmas.Slice.Eq.{bytes_eq-Decides}
use Rattle.std.proofs.lemmas.List.{take-append-drop}
use Rattle.std.proofs.Math.ListN.{drop_of_length-le}
use Rattle.std.proofs.lemmas.List.Sums.{split_at_first, passes_at_first}
use Rattle.texts.specs.Decimals.{read_decimal}
use Rattle.texts.specs.Hexadecimals.{hex_byte, read_hex_byte}
use Rattle.texts.proofs.WordLemmas.{cut_off, decimal_has_no}
use Rattle.texts.proofs.LawLemmas.{decimals_are_read, bytes_are_read}
use Rattle.schedule_file.specs.declared.Entry.{Entry}
use Rattle.schedule_file.specs.declared.TheConstants.{MAX_CYCLE}
use Rattle.schedule_file.specs.declared.What.{What}
use Rattle.schedule_file.specs.declared.What.TheVariants.{Serial, Up, Down}
use Rattle.schedule_file.specs.Entries.{IsScheduleEntry, IsWhat}
use Rattle.texts.specs.Words.{is_space}
use Rattle.schedule_file.specs.Line.{move_of, what_of, entry_at, entry_of, what_text, entry_text}
use Rattle.schedule_file.specs.Laws.{EntriesAreRead}

-- ---- what happens

-- a text that begins so
begins : (text front : List ℕ) → starts_with (λ a b. a == b) text front ≡ true → text ≡ front ++ drop (length front) text
begins text front e =
    let same = (bytes_eq-Decides front (take (length front) text)).0 e in
    sym (take-append-drop (length front) text) ∙ ap (λ t. t ++ drop (length front) text) (sym same)

number_text : (n : ℕ) → 48 ≤ n → n ≤ 51 → n ∷ [] ≡ decimal (n - 48)
number_text n low high = let e : 48 + (n - 48) ≡ n = omega arith in sym (decimal_digit (n - 48) (omega arith) ∙ ap (λ k. k ∷ []) e)

between : (n : ℕ) → (nat_le 48 n && nat_le n 51) ≡ true → (48 ≤ n) × (n ≤ 51)
between n e = (grind (arith, nat_tests), grind (arith, nat_tests))

move_from : (text : List ℕ) (w : What) → move_of text ≡ Some w → IsWhat w × (codes "line " ++ text ≡ what_text w)
move_from [] w e = absurd cc
move_from (number ∷ word) w e = by (nat_le 48 number && nat_le number 51) (bytes_eq word (codes " up")) (bytes_eq word (codes " down")) refl refl refl e
  where
    moved : (move : List ℕ) → 48 ≤ number → number ≤ 51 → word ≡ move → codes "line " ++ number ∷ word ≡ codes "line " ++ decimal (number - 48) ++ move
    moved move low high is = ap (λ t. codes "line " ++ number ∷ t) is ∙ ap (λ d. codes "line " ++ (d ++ move)) (number_text number low high)

    by : (a b c : Bool) → (nat_le 48 number && nat_le number 51) ≡ a → bytes_eq word (codes " up") ≡ b → bytes_eq word (codes " down") ≡ c
        → cond (not a) None (cond b (Some (Up (number - 48))) (cond c (Some (Down (number - 48))) None)) ≡ Some w → IsWhat w × (codes "line " ++ number ∷ word ≡ what_text w)
    by true true c p q r e =
        let is : Up (number - 48) ≡ w = cc in
        let range = between number p in
        let low = range.0 in
        let high = range.1 in
        subst (λ w. IsWhat w × (codes "line " ++ number ∷ word ≡ what_text w)) is (omega arith, moved (codes " up") low high ((bytes_eq-Decides word (codes " up")).0 q))
    by true false true p q r e =
        let is : Down (number - 48) ≡ w = cc in
        let range = between number p in
        let low = range.0 in
        let high = range.1 in
        subst (λ w. IsWhat w × (codes "line " ++ number ∷ word ≡ what_text w)) is (omega arith, moved (codes " down") low high ((bytes_eq-Decides word (codes " down")).0 r))
    by _ _ _ p q r e = absurd cc

what_from : (text : List ℕ) (w : What) → what_of text ≡ Some w → IsWhat w × (text ≡ what_text w)
what_from text w e = by (starts_with (λ a b. a == b) text (codes "serial ")) (starts_with (λ a b. a == b) text (codes "line ")) refl refl e
  where
    byte : (o : Option ℕ) → read_hex_byte (drop 7 text) ≡ o → text ≡ codes "serial " ++ drop 7 text → option_map Serial o ≡ Some w → IsWhat w × (text ≡ what_text w)
    byte None is front e = absurd cc
    byte (Some b) is front e =
        let same : Serial b ≡ w = cc in
        let r = (bytes_are_read (drop 7 text) b).0 is in
        subst (λ w. IsWhat w × (text ≡ what_text w)) same (r.0, front ∙ ap (λ t. codes "serial " ++ t) r.1)

    by : (a b : Bool) → starts_with (λ a b. a == b) text (codes "serial ") ≡ a → starts_with (λ a b. a == b) text (codes "line ") ≡ b
        → cond a (option_map Serial (read_hex_byte (drop 7 text))) (cond b (move_of (drop 5 text)) None) ≡ Some w → IsWhat w × (text ≡ what_text w)
    by true b p q e = byte (read_hex_byte (drop 7 text)) refl (begins text (codes "serial ") p) e
    by false true p q e = let m = move_from (drop 5 text) w e in (m.0, begins text (codes "line ") q ∙ m.1)
    by false false p q e = absurd cc

moved_to : (line : ℕ) (move : List ℕ) → line < 4 → (w : What) → move_of ((48 + line) ∷ move) ≡ Some w → move_of (decimal line ++ move) ≡ Some w
moved_to line move small w e = ap (λ d. move_of (d ++ move)) (decimal_digit line (omega arith)) ∙ e

what_to : (w : What) → IsWhat w → what_of (what_text w) ≡ Some w
what_to (Serial byte) h = ap (option_map Serial) ((bytes_are_read (hex_byte byte) byte).1 (h, refl))
what_to (Up line) h =
    let same : 48 + line - 48 ≡ line = omega arith in
    let digit : (nat_le 48 (48 + line) && nat_le (48 + line) 51) ≡ true = grind (arith, nat_tests) in
    moved_to line (codes " up") h (Up line) (rw digit (ap (λ n. Some (Up n)) same))
what_to (Down line) h =
    let same : 48 + line - 48 ≡ line = omega arith in
    let digit : (nat_le 48 (48 + line) && nat_le (48 + line) 51) ≡ true = grind (arith, nat_tests) in
    moved_to line (codes " down") h (Down line) (rw digit (ap (λ n. Some (Down n)) same))

-- ---- a line

at_cycle-parts : (o : Option ℕ) (p : Option What) (e : Entry) → entry_at o p ≡ Some e → (o ≡ Some e.cycle) × (p ≡ Some e.what)
at_cycle-parts (Some cycle) (Some what) e h = (cc, cc)
at_cycle-parts (Some cycle) None e h = absurd cc
at_cycle-parts None (Some what) e h = absurd cc
at_cycle-parts None None e h = absurd cc

entry_from : (line : List ℕ) (e : Entry) → entry_of line ≡ Some e → IsScheduleEntry e × (line ≡ entry_text e)
unfolding entry_of
entry_from line e h = by (cases_lt (position_or_len is_space line) (length line))
  where
    parts : (read_decimal MAX_CYCLE (before_first is_space line) ≡ Some e.cycle) × (what_of (after_first is_space line) ≡ Some e.what)
    parts = at_cycle-parts _ _ e h

    by : (position_or_len is_space line < length line) ⊎ (length line ≤ position_or_len is_space line) → IsScheduleEntry e × (line ≡ entry_text e)
    by (inl found) =
        let r = (decimals_are_read MAX_CYCLE (lit< tt) (before_first is_space line) e.cycle).0 parts.0 in
        let w = what_from (after_first is_space line) e.what parts.1 in
        let low = r.0 in
        let space : get_or line (position_or_len is_space line) 0 ≡ 32 = let p = passes_at_first is_space line 0 found in grind (arith, nat_tests) in
        let whole = split_at_first is_space line 0 found in
        ((omega arith, w.0), whole ∙ ap (λ b. before_first is_space line ++ b ∷ after_first is_space line) space ∙ ap (λ d. d ++ 32 ∷ after_first is_space line) r.1 ∙ ap (λ t. decimal e.cycle ++ 32 ∷ t) w.1 ∙ sym (append_assoc (decimal e.cycle) (codes " ") (what_text e.what)))
    by (inr none) =
        let nothing : after_first is_space line ≡ [] = drop_of_length-le line {i = position_or_len is_space line + 1} (omega arith) in
        let what : what_of [] ≡ Some e.what = sym (ap what_of nothing) ∙ parts.1 in
        absurd cc

entry_to : (e : Entry) → IsScheduleEntry e → entry_of (entry_text e) ≡ Some e
unfolding entry_of
entry_to e h =
    let low = h.0 in
    let fits : e.cycle < 2 ^ 64 = omega arith in
    let cut = cut_off is_space 32 (what_text e.what) refl (decimal e.cycle) (decimal_has_no 32 e.cycle (omega arith) fits) in
    let read = (decimals_are_read MAX_CYCLE (lit< tt) (decimal e.cycle) e.cycle).1 (omega arith, refl) in
    ap entry_of (append_assoc (decimal e.cycle) (codes " ") (what_text e.what))
    ∙ ap (λ b. entry_at (read_decimal MAX_CYCLE b) (what_of (after_first is_space (decimal e.cycle ++ 32 ∷ what_text e.what)))) cut.before
    ∙ ap (λ a. entry_at (read_decimal MAX_CYCLE (decimal e.cycle)) (what_of a)) cut.after
    ∙ ap (λ o. entry_at o (what_of (what_text e.what))) read
    ∙ ap (entry_at (Some e.cycle)) (what_to e.what h.1)

pub entries_are_read : EntriesAreRead
entries_are_read line e = (entry_from line e, λ h. ap entry_of h.1 ∙ entry_to e h.0)
