-- A jump leads to its label.
use Rattle.std.proofs.Common.{ℕ, zero, suc, ◌≡◌, ◌+◌, ◌-◌, ◌*◌, ◌/◌, ◌<◌, ◌≤◌, Bool, true, false, cond, nat_le, refl, ap, ◌∙◌, arith}
use Rattle.std.specs.Prelude.{pos, negsuc, ◌-ℤ◌}
use Rattle.std.proofs.lemmas.Bool.Decides.{nat_tests}
use Rattle.std.proofs.lemmas.Int.{ints}
use Rattle.asm_text.specs.Jumps.{target_of}
use Rattle.asm_text.specs.Laws.{JumpsLead}

minus : (k : ℕ) → (pos 0 -ℤ pos (suc k)) ≡ negsuc k
minus k = omega (arith, ints)

leads_back : (here there k : ℕ) → here + 2 - there ≡ 2 * k → there < here + 2 → target_of here (pos 0 -ℤ pos k) ≡ there
leads_back here there zero is less = absurd (omega arith)
leads_back here there (suc k) is less = ap (target_of here) (minus k) ∙ (let there_is : here + 2 - 2 * (k + 1) ≡ there = omega arith in there_is)

pub jumps_lead : JumpsLead
jumps_lead here there even_here even_there = by (nat_le (here + 2) there) refl
  where
    by : (c : Bool) → nat_le (here + 2) there ≡ c → target_of here (cond c (pos ((there - (here + 2)) / 2)) (pos 0 -ℤ pos ((here + 2 - there) / 2))) ≡ there
    by true is = let most : here + 2 ≤ there = grind (arith, nat_tests) in omega arith
    by false is = let less : there < here + 2 = grind (arith, nat_tests) in leads_back here there ((here + 2 - there) / 2) (omega arith) less
