-- The symbols of names that are there.
use Rattle.std.proofs.Common.{ℕ, zero, suc, ◌≡◌, ◌<◌, Bool, List, [], ◌∷◌, length, map, get_or, Option, Some, None, refl, ap, sym, subst, ◌∙◌, arith}
use Rattle.std.specs.Prelude.{option_map, slice_get}
use Rattle.std.specs.List.{All, Contains, cons_option}
use Rattle.std.proofs.lemmas.List.Elements.{All-cons, All-nil}
use Rattle.std.proofs.lemmas.Option.{slice_get-get_or}
use Rattle.asm_text.specs.declared.placing.Spot.{Spot}
use Rattle.asm_text.specs.internal.Numbering.{AreBelow}
use Rattle.asm_text.specs.Parts.{SymbolValue}
use Rattle.asm_text.specs.Placing.{spot_of}
use Rattle.asm_text.specs.Symbols.{symbol_by, symbol_for, symbols_for}

-- where each number has a name
abbrev pub symbol_at : (ℕ → Bool) → List (List ℕ) → List (Option Spot) → ℕ → SymbolValue
symbol_at is_global names spots k = symbol_by (is_global k) (get_or names k []) (spot_of spots k)

pub symbols_at : (f : ℕ → Bool) (names : List (List ℕ)) (spots : List (Option Spot)) (order : List ℕ) → AreBelow (length names) order → symbols_for f names spots order ≡ map (symbol_at f names spots) order
symbols_at f names spots [] low = refl
symbols_at f names spots (k ∷ ks) low =
    let rest : symbols_for f names spots ks ≡ map (symbol_at f names spots) ks = symbols_at f names spots ks (λ j d h. low (suc j) d (omega arith)) in
    rw (slice_get-get_or names k [] (low 0 0 (omega arith)), rest) refl

pub each_symbol : (P : SymbolValue → Type 0) (f : ℕ → Bool) (names : List (List ℕ)) (spots : List (Option Spot)) (order : List ℕ)
    → ((k : ℕ) (name : List ℕ) → slice_get names k ≡ Some name → P (symbol_by (f k) name (spot_of spots k))) → All P (symbols_for f names spots order)
each_symbol P f names spots [] h = All-nil P
each_symbol P f names spots (k ∷ ks) h = by (slice_get names k) refl (each_symbol P f names spots ks h)
  where
    by : (o : Option (List ℕ)) → slice_get names k ≡ o → All P (symbols_for f names spots ks) → All P (cons_option (option_map (λ name. symbol_by (f k) name (spot_of spots k)) o) (symbols_for f names spots ks))
    by None is rest = rest
    by (Some name) is rest = All-cons P (symbol_by (f k) name (spot_of spots k)) (symbols_for f names spots ks) (h k name is) rest

pub symbol_has : (f : ℕ → Bool) (names : List (List ℕ)) (spots : List (Option Spot)) (order : List ℕ) (i k : ℕ) (s : SymbolValue) → symbol_for f names spots k ≡ Some s → i < length order → get_or order i k ≡ k
    → Contains (symbols_for f names spots order) s
symbol_has f names spots [] i k s is low at = absurd (omega arith)
symbol_has f names spots (j ∷ ks) zero k s is low at = subst (λ o. Contains (cons_option o (symbols_for f names spots ks)) s) (sym (ap (symbol_for f names spots) at ∙ is)) (0, omega arith, refl)
symbol_has f names spots (j ∷ ks) (suc i) k s is low at = by (symbol_for f names spots j) (symbol_has f names spots ks i k s is (omega arith) at)
  where
    by : (o : Option SymbolValue) → Contains (symbols_for f names spots ks) s → Contains (cons_option o (symbols_for f names spots ks)) s
    by None has = has
    by (Some x) has = (suc has.0, (let less = has.1 in omega arith), has.2)
