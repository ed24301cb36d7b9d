-- Lemmas on the text of certificates.
use Rattle.std.proofs.Common.{ℕ, ◌≡◌, ◌+◌, ◌<◌, ◌≤◌, Bool, true, cond, ◌&&◌, nat_le, List, [], ◌∷◌, length, map, get_or, refl, arith, Some, None}
use Rattle.std.specs.List.{AllPairs}
use Rattle.std.proofs.lemmas.Bool.Decides.{nat_tests}
use Rattle.std.proofs.lemmas.List.{get_or-map, length-map}
use Rattle.texts.specs.Decimals.{is_decimal, number_in, read_decimal}
use Rattle.arm_balance.specs.declared.Arm.{Arm}
use Rattle.arm_balance.specs.Certificates.{BranchesRise}

-- a decimal that is read is at most the bound
pub decimal_most : (most n : ℕ) (text : List ℕ) → Some n ≡ read_decimal most text → n ≤ most
unfolding read_decimal
decimal_most most n text e = by (is_decimal text) (nat_le (number_in text) most) refl e
  where
    by : (a b : Bool) → nat_le (number_in text) most ≡ b → Some n ≡ cond (a && b) (Some (number_in text)) None → n ≤ most
    by true true f g = let h : n ≡ number_in text = cc in let k : number_in text ≤ most = grind (arith, nat_tests) in omega (arith, h, k)
    by _ _ f g = absurd cc

-- branches of which each is above all earlier ones
pub branches_rise : (arms : List Arm) → AllPairs (λ a b. a.branch + 1 ≤ b.branch) arms → BranchesRise arms
branches_rise arms apart k h = by arms apart h
  where
    by : (xs : List Arm) → AllPairs (λ a b. a.branch + 1 ≤ b.branch) xs → k + 1 < length (map (λ (arm : Arm). arm.branch) xs) → get_or (map (λ (arm : Arm). arm.branch) xs) k 0 < get_or (map (λ (arm : Arm). arm.branch) xs) (k + 1) 0
    by [] apart h = absurd (omega (arith, h))
    by (x ∷ xs) apart h =
        let size = length-map (x ∷ xs) (λ (arm : Arm). arm.branch) in
        let rises : (get_or (x ∷ xs) k x).branch + 1 ≤ (get_or (x ∷ xs) (k + 1) x).branch = apart k (k + 1) x (omega arith) (omega (arith, h, size)) in
        let one = get_or-map (λ (arm : Arm). arm.branch) (x ∷ xs) k x 0 (omega (arith, h, size)) in
        let two = get_or-map (λ (arm : Arm). arm.branch) (x ∷ xs) (k + 1) x 0 (omega (arith, h, size)) in
        omega (arith, rises, one, two)
