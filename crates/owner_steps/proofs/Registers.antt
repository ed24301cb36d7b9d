-- The registers that changed, one more at the end.
use Rattle.std.proofs.Common.{◌≡◌, ℕ, zero, suc, ◌+◌, List, [], ◌∷◌, ◌++◌, sym, ◌∙◌, ap, arith}
use Rattle.std.proofs.lemmas.List.{append-nil}
use Rattle.std.proofs.lemmas.Grind.{flat_map-append}
use Rattle.std.specs.List.{flat_map, range_with_len}
use Rattle.owner_steps.specs.Registers.{register_text, changed_registers}

range_more : (a n : ℕ) → range_with_len a (n + 1) ≡ range_with_len a n ++ ((a + n) ∷ [])
range_more a zero = let e : a ≡ a + 0 = omega arith in ap (λ i. i ∷ []) e
range_more a (suc n) =
    let e : suc n + 1 ≡ suc (n + 1) = omega arith in
    let at : a + 1 + n ≡ a + suc n = omega arith in
    ap (range_with_len a) e ∙ ap (λ (l : List ℕ). a ∷ l) (range_more (a + 1) n ∙ ap (λ i. range_with_len (a + 1) n ++ (i ∷ [])) at)

registers_more : (old new : List ℕ) (n : ℕ) → changed_registers old new (n + 1) ≡ changed_registers old new n ++ register_text old new n
registers_more old new n =
    let at : 0 + n ≡ n = omega arith in
    let f : ℕ → List ℕ = register_text old new in
    ap (flat_map f) (range_more 0 n ∙ ap (λ i. range_with_len 0 n ++ (i ∷ [])) at)
    ∙ flat_map-append f (range_with_len 0 n) (n ∷ [])
    ∙ ap (λ (l : List ℕ). flat_map f (range_with_len 0 n) ++ l) (append-nil (f n))

pub register_added : (old new : List ℕ) (n : ℕ) (before after : List ℕ) → before ≡ changed_registers old new n → after ≡ before ++ register_text old new n → after ≡ changed_registers old new (n + 1)
register_added old new n before after is more = more ∙ ap (λ (l : List ℕ). l ++ register_text old new n) is ∙ sym (registers_more old new n)
