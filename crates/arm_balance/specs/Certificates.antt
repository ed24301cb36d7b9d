-- The text of certificates: lines `AAAA JJJJ N`.
use Rattle.std.specs.Prelude.{ℕ, ◌+◌, ◌==◌, nat_le, if◌then◌else◌, Bool, ◌&&◌, List, length, map, take, drop, slice_index, Option, Some, None, Result}
use Rattle.std.specs.List.Sorted.{IsStrictlyIncreasing}
use Rattle.texts.specs.Decimals.{read_decimal}
use Rattle.texts.specs.Hexadecimals.{read_hex_word}
use Rattle.texts.specs.Rows.{Rows, rows_of}
use Rattle.arm_balance.specs.declared.Arm.{Arm}
use Rattle.arm_balance.specs.declared.ArmsFault.{ArmsFault}
use Rattle.arm_balance.specs.declared.ArmsFault.TheVariants.{TooMany, Line, NotRising}

-- each branch is above the one before
abbrev pub BranchesRise : List Arm → Type 0
BranchesRise arms = IsStrictlyIncreasing (map (λ arm. arm.branch) arms)

abbrev pub arm_of_parts : Option ℕ → Option ℕ → Option ℕ → Option Arm
arm_of_parts (Some branch) (Some join) (Some cycles) = Some (record { branch = branch; join = join; cycles = cycles })
arm_of_parts _ _ _ = None

-- spaces stand after the four digits of the branch and of the join
abbrev pub has_spaces : List ℕ → Bool
has_spaces line = nat_le 10 (length line) && slice_index line 4 == 32 && slice_index line 9 == 32

-- the certificate that a line writes, where it has the form; the cycles are at most 65,535
unfoldable pub arm_of : List ℕ → Option Arm
arm_of line =
    if has_spaces line then arm_of_parts (read_hex_word (take 4 line)) (read_hex_word (take 4 (drop 5 line))) (read_decimal 65535 (drop 10 line))
    else None

-- each branch is above that of the line before
abbrev pub arm_rows : Rows Arm ArmsFault
arm_rows = record {
  row_of = arm_of;
  place = λ arm. arm.branch;
  behind = λ arm. arm.branch + 1;
  most = 256;
  too_many = TooMany;
  no_row = λ n. Line n;
  not_rising = λ n. NotRising n;
}

-- what a text gives, line by line from 1
unfoldable pub arms_of : List ℕ → Result (List Arm) ArmsFault
arms_of text = rows_of arm_rows text
