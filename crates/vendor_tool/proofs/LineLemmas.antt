-- A line of challenges.
use Rattle.std.proofs.Common.{ℕ, ◌≡◌, ◌+◌, Bool, true, false, cond, List, [], length, nat_lt, Option, Some, None, position, refl, ap, ◌∙◌, arith}
use Rattle.std.specs.List.{before_first, after_first, position_or_len}
use Rattle.std.proofs.lemmas.Bool.Decides.{nat_tests}
use Rattle.std.proofs.Math.ListN.{drop_of_length-le}
use Rattle.texts.specs.Decimals.{read_decimal}
use Rattle.texts.specs.Hexadecimals.{read_hex, read_hex_key}
use Rattle.vendor_tool.specs.Challenges.{last_cycle}
use Rattle.texts.specs.Words.{is_space}
use Rattle.vendor_tool.specs.ChallengeText.{challenge_at, challenge_of}

-- nothing is no nonce's text
pub nothing_is_no_key : read_hex_key [] ≡ None
unfolding read_hex
nothing_is_no_key = refl

without : (cycle : Option ℕ) → challenge_at cycle None ≡ None
without None = refl
without (Some cycle) = refl

-- a line without a space writes no challenge
pub no_nonce : (line : List ℕ) → position is_space line ≡ None → challenge_of line ≡ None
unfolding challenge_of
no_nonce line e = by (nat_lt (position_or_len is_space line) (length line)) refl e
  where
    by : (found : Bool) → nat_lt (position_or_len is_space line) (length line) ≡ found → cond found (Some (position_or_len is_space line)) None ≡ None
        → challenge_at (read_decimal last_cycle (before_first is_space line)) (read_hex_key (after_first is_space line)) ≡ None
    by true is e = absurd cc
    by false is e =
        let nothing : after_first is_space line ≡ [] = drop_of_length-le line {i = position_or_len is_space line + 1} (grind (arith, nat_tests)) in
        ap (λ rest. challenge_at (read_decimal last_cycle (before_first is_space line)) (read_hex_key rest)) nothing
        ∙ ap (challenge_at (read_decimal last_cycle (before_first is_space line))) nothing_is_no_key
        ∙ without (read_decimal last_cycle (before_first is_space line))
