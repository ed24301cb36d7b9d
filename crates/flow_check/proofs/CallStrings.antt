-- Call strings.
use Rattle.std.proofs.Common.{◌≡◌, ℕ, ◌-◌, ◌<◌, List, [], ◌∷◌, length, take, get_or, refl, sym, ap, ◌∙◌, arith, true, false, nat_lt, ◌==◌, ◌&&◌}
use Rattle.std.proofs.lemmas.Bool.Decides.{nat_tests}
use Rattle.std.proofs.lemmas.List.{get_or-take, length-take, take-take}
use Rattle.flow_rule.specs.declared.Val.{Val}
use Rattle.flow_rule.specs.declared.Val.TheVariants.{Known}
use Rattle.flow_rule.specs.CallStrings.{last_is, pop_call}
use Rattle.flow_check.specs.internal.Carries.{is_number}

pub but_of : (n k : ℕ) (xs : List ℕ) → k ≡ length (take n xs) → take (k - 1) xs ≡ pop_call (take n xs)
but_of n k xs e =
    let few = length-take n xs in
    sym (take-take (k - 1) n xs (omega (arith, e, few))) ∙ ap (λ k. take (k - 1) (take n xs)) e

pub last_of : (u : Val) (n k : ℕ) (xs : List ℕ) → k ≡ length (take n xs) → 0 < k → is_number u (get_or xs (k - 1) 0) ≡ last_is u (take n xs)
last_of (Known v) n k xs e h =
    let zs : List ℕ = take n xs in
    let few = length-take n xs in
    let some : 0 < length zs = omega (arith, e, h) in
    let is : nat_lt 0 (length zs) ≡ true = grind (arith, nat_tests) in
    ap (λ a. v == a) (sym (get_or-take n xs (k - 1) 0 (omega (arith, e, few, h))) ∙ ap (λ k. get_or zs (k - 1) 0) e)
    ∙ sym (ap (λ b. b && (v == get_or zs (length zs - 1) 0)) is)
last_of _ n k xs e h = refl

pub last_none : (u : Val) (zs : List ℕ) → 0 ≡ length zs → false ≡ last_is u zs
last_none (Known v) [] e = refl
last_none u (z ∷ zs) e = absurd (omega (arith, e))
last_none _ [] e = refl

pub but_none : (zs : List ℕ) → 0 ≡ length zs → zs ≡ pop_call zs
but_none [] e = let none : List ℕ = [] in ap (λ k. take k none) (let f : 0 ≡ length none - 1 = omega arith in f)
but_none (z ∷ zs) e = absurd (omega (arith, e))
