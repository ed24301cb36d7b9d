-- Instructions and sums.
use Rattle.std.proofs.Common.{◌≡◌, ℕ, [], ◌∷◌, Option, Some, None, refl, map, option_map, true, false}
use Rattle.sm_words.specs.Sums.{complement, sum_of, dadd_of}
use Rattle.sm_words.specs.declared.width.Width.TheVariants.{Word}
use Rattle.insn_decode.specs.Code.{insn_of}
use Rattle.cycle_table.specs.Cycles.{cycles_of}

-- the cycles of the instruction that begins with this word, if it is one
timed : ℕ → Option ℕ
unfolding insn_of cycles_of
timed w = option_map cycles_of (insn_of w 0x1234 0x0200)

times : map timed (0x4700 ∷ 0x4303 ∷ 0x4130 ∷ 0x4035 ∷ 0x40b2 ∷ 0x4292 ∷ 0x4782 ∷ 0x1105 ∷ 0x1115 ∷ 0x1205 ∷ 0x1235 ∷ 0x1230 ∷ 0x1285 ∷ 0x12a5 ∷ 0x12b0 ∷ 0x3fff ∷ 0x1300 ∷ 0x1130 ∷ 0x1103 ∷ [])
    ≡ Some 2 ∷ Some 1 ∷ Some 3 ∷ Some 2 ∷ Some 5 ∷ Some 6 ∷ Some 4 ∷ Some 1 ∷ Some 4 ∷ Some 3 ∷ Some 5 ∷ Some 4 ∷ Some 4 ∷ Some 4 ∷ Some 5 ∷ Some 2 ∷ Some 5 ∷ None ∷ None ∷ []
unfolding timed
times = refl

-- 1 from 0x8000
subtracts : sum_of Word 0x8000 (complement Word 1) 1 ≡ record { value = 0x7fff; n = false; z = false; c = true; v = true }
subtracts = refl

-- 1 to 0x7fff
adds : sum_of Word 0x7fff 1 0 ≡ record { value = 0x8000; n = true; z = false; c = false; v = true }
adds = refl

-- 1 to 9999, by digits
adds_decimally : dadd_of Word 0x9999 1 0 ≡ record { value = 0; n = false; z = true; c = true; v = false }
adds_decimally = refl
