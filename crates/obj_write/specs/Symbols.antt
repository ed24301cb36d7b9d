-- The table of symbols (TIS ELF 1.2, "Symbol Table").
use Rattle.std.specs.Prelude.{ℕ, ◌+◌, ◌*◌, Bool, true, false, List, ◌∷◌, ◌++◌, map, Option, Some, None, replicate}
use Rattle.std.specs.List.{flat_map, enumerate_from, position_or_len}
use Rattle.elf_objects.specs.Numbers.{symbol_size, local_binding, global_binding, undefined_index}
use Rattle.asm_text.specs.Parts.{SymbolValue}
use Rattle.obj_write.specs.Bytes.{half_bytes, long_bytes}
use Rattle.obj_write.specs.Strings.{name_at}

-- the binding in the high four bits; the type, STT_NOTYPE, is 0
abbrev pub info_of : Bool → ℕ
info_of true = global_binding * 16
info_of false = local_binding * 16

-- the unit's section of this index has the next index in the file
abbrev pub home_index : Option ℕ → ℕ
home_index None = undefined_index
home_index (Some section) = section + 1

-- an entry; size, type and visibility are 0
unfoldable pub symbol_entry : ℕ → SymbolValue → List ℕ
symbol_entry name symbol =
    long_bytes name ++ (long_bytes symbol.value ++ (long_bytes 0 ++ (info_of symbol.global ∷ 0 ∷ half_bytes (home_index symbol.home))))

abbrev pub symbol_names : List SymbolValue → List (List ℕ)
symbol_names symbols = map (λ s. s.name) symbols

-- the entry of the symbol of this index
unfoldable pub symbol_entry_at : List SymbolValue → ℕ → SymbolValue → List ℕ
symbol_entry_at symbols k symbol = symbol_entry (name_at (symbol_names symbols) k) symbol

-- entry 0 is zeros, and each symbol has the next index
unfoldable pub symbol_table_bytes : List SymbolValue → List ℕ
symbol_table_bytes symbols =
    replicate symbol_size 0 ++ flat_map (λ (p : ℕ × SymbolValue). symbol_entry_at symbols p.0 p.1) (enumerate_from 0 symbols)

-- the index of the first global entry, or the number of entries where none is global
unfoldable pub first_global : List SymbolValue → ℕ
first_global symbols = 1 + position_or_len (λ s. s.global) symbols
