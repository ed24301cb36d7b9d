-- Symbols, one after the other.
use Rattle.std.proofs.Common.{◌≡◌, ℕ, ◌+◌, ◌<◌, ◌≤◌, List, [], ◌∷◌, ◌++◌, map, refl, ap, sym, ◌∙◌, arith, append_assoc, length, get_or, Bool, true, false, not, cond, unwrap_or, Some, None, ltb, replicate}
use Rattle.std.specs.Prelude.{position}
use Rattle.std.specs.List.{position_or_len}
use Rattle.std.proofs.lemmas.List.{get_or-map, append-nil, length-map}
use Rattle.std.proofs.lemmas.Bool.Decides.{nat_tests}
use Rattle.std.proofs.lemmas.List.Sums.{prefix_len-le-length}
use Rattle.elf_objects.specs.Passes.{all_below}
use Rattle.elf_objects.proofs.PassLemmas.{all_below_more, all_below_zero}
use Rattle.asm_text.specs.declared.unit.AsmSymbol.{AsmSymbol}
use Rattle.asm_text.specs.Parts.{SymbolValue}
use Rattle.asm_text.specs.Views.{symbol_value}
use Rattle.obj_write.specs.declared.strings.Strings.{Strings}
use Rattle.elf_objects.specs.Numbers.{symbol_size}
use Rattle.obj_write.specs.Strings.{name_at}
use Rattle.obj_write.specs.internal.Strings.{IsTableOf}
use Rattle.obj_write.specs.Symbols.{symbol_entry, symbol_entry_at, symbol_names, symbol_table_bytes, first_global}
use Rattle.obj_write.proofs.PassLemmas.{all_numbered}

-- a symbol for a place past the end
abbrev pub no_symbol : SymbolValue
no_symbol = record { name = []; global = false; home = None; value = 0 }

-- the entry of this index
abbrev pub entry_at : List SymbolValue → ℕ → List ℕ
entry_at symbols k = symbol_entry_at symbols k (get_or symbols k no_symbol)

pub entries_below : (symbols : List SymbolValue) → symbol_table_bytes symbols ≡ replicate symbol_size 0 ++ all_below (entry_at symbols) (length symbols)
unfolding symbol_table_bytes
entries_below symbols = ap (λ l. replicate symbol_size 0 ++ l) (all_numbered (symbol_entry_at symbols) symbols no_symbol)

entry_at_is : (xs : List AsmSymbol) (i name : ℕ) (x : AsmSymbol) → i < length xs → x ≡ get_or xs i x → name ≡ name_at (symbol_names (map symbol_value xs)) i
    → symbol_entry name (symbol_value x) ≡ entry_at (map symbol_value xs) i
unfolding symbol_entry_at
entry_at_is xs i name x lt is at =
    ap (λ (n : ℕ). symbol_entry n (symbol_value x)) at
    ∙ ap (symbol_entry (name_at (symbol_names (map symbol_value xs)) i)) (ap symbol_value is ∙ sym (get_or-map symbol_value xs i x no_symbol lt))

-- one entry more
pub entry_added : (xs : List AsmSymbol) (i name : ℕ) (x : AsmSymbol) (strings : Strings) (old new : List ℕ) → i < length xs → x ≡ get_or xs i x
    → IsTableOf (symbol_names (map symbol_value xs)) strings
    → ((names : List (List ℕ)) → IsTableOf names strings → i < length names → name ≡ name_at names i)
    → new ≡ old ++ symbol_entry name (symbol_value x)
    → old ≡ replicate symbol_size 0 ++ all_below (entry_at (map symbol_value xs)) i
    → new ≡ replicate symbol_size 0 ++ all_below (entry_at (map symbol_value xs)) (i + 1)
entry_added xs i name x strings old new lt is table place more so_far =
    let z : List ℕ = replicate symbol_size 0 in
    let f : ℕ → List ℕ = entry_at (map symbol_value xs) in
    let counted : length (symbol_names (map symbol_value xs)) ≡ length xs = length-map (map symbol_value xs) (λ (s : SymbolValue). s.name) ∙ length-map xs symbol_value in
    let at : name ≡ name_at (symbol_names (map symbol_value xs)) i = place (symbol_names (map symbol_value xs)) table (omega (arith, counted)) in
    more ∙ (ap (λ l. l ++ symbol_entry name (symbol_value x)) so_far
    ∙ (append_assoc z (all_below f i) (symbol_entry name (symbol_value x))
    ∙ ap (λ l. z ++ l) (ap (λ l. all_below f i ++ l) (entry_at_is xs i name x lt is at) ∙ sym (all_below_more f i))))

pub table_begun : (xs : List AsmSymbol) (table : List ℕ) → table ≡ replicate symbol_size 0 → table ≡ replicate symbol_size 0 ++ all_below (entry_at (map symbol_value xs)) 0
table_begun xs table is =
    is ∙ sym (ap (λ l. replicate symbol_size 0 ++ l) (all_below_zero (entry_at (map symbol_value xs))) ∙ append-nil (replicate symbol_size 0))

pub table_whole : (xs : List AsmSymbol) (table : List ℕ) (n : ℕ) → n ≡ length xs
    → table ≡ replicate symbol_size 0 ++ all_below (entry_at (map symbol_value xs)) n → table ≡ symbol_table_bytes (map symbol_value xs)
table_whole xs table n all is =
    is ∙ (ap (λ k. replicate symbol_size 0 ++ all_below (entry_at (map symbol_value xs)) k) (all ∙ sym (length-map xs symbol_value)) ∙ sym (entries_below (map symbol_value xs)))

-- ---- the first global one

position_value : (xs : List AsmSymbol) → position_or_len (λ (s : SymbolValue). s.global) (map symbol_value xs) ≡ position_or_len (λ (s : AsmSymbol). s.global) xs
position_value [] = refl
position_value (x ∷ xs) = ap (λ n. cond (not x.global) (1 + n) 0) (position_value xs)

found_by : (k n : ℕ) (b : Bool) → ltb k n ≡ b → k ≤ n → unwrap_or (cond b (Some k) None) n ≡ k
found_by k n true is le = refl
found_by k n false is le = let ge : n ≤ k = grind (arith, nat_tests) in omega arith

pub first_global_is : (xs : List AsmSymbol) → 1 + unwrap_or (position (λ (s : AsmSymbol). s.global) xs) (length xs) ≡ first_global (map symbol_value xs)
unfolding first_global
first_global_is xs =
    let k : ℕ = position_or_len (λ (s : AsmSymbol). s.global) xs in
    ap (λ n. 1 + n) (found_by k (length xs) (ltb k (length xs)) refl (prefix_len-le-length (λ (s : AsmSymbol). not s.global) xs) ∙ sym (position_value xs))
