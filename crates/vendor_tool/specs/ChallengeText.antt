-- What the text of challenges gives, lines `CYCLE NONCE`: the challenges, or the first refusal.
use Rattle.std.specs.Prelude.{ℕ, ◌+◌, List, ◌++◌, codes, Option, Some, None, Result}
use Rattle.std.specs.Fmt.{decimal}
use Rattle.std.specs.List.{before_first, after_first}
use Rattle.texts.specs.Decimals.{read_decimal}
use Rattle.texts.specs.Hexadecimals.{hex_key, read_hex_key}
use Rattle.texts.specs.Rows.{Rows, rows_of}
use Rattle.texts.specs.Words.{is_space}
use Rattle.vendor_tool.specs.declared.Challenge.{Challenge}
use Rattle.vendor_tool.specs.declared.ChallengeFault.{ChallengeFault}
use Rattle.vendor_tool.specs.declared.ChallengeFault.TheVariants.{TooMany, Line, NotRising}
use Rattle.vendor_tool.specs.Challenges.{most_challenges, last_cycle, nonce_cycles}

abbrev pub challenge_at : Option ℕ → Option (List ℕ) → Option Challenge
challenge_at (Some cycle) (Some nonce) = Some (record { cycle = cycle; nonce = nonce })
challenge_at _ _ = None

-- the challenge that a line writes: a cycle, a space, and the 32 digits of a nonce
unfoldable pub challenge_of : List ℕ → Option Challenge
challenge_of line = challenge_at (read_decimal last_cycle (before_first is_space line)) (read_hex_key (after_first is_space line))

-- the text of a challenge
abbrev pub challenge_text : Challenge → List ℕ
challenge_text c = decimal c.cycle ++ codes " " ++ hex_key c.nonce

-- each begins no sooner than the whole nonce of the line before is sent
abbrev pub challenge_rows : Rows Challenge ChallengeFault
challenge_rows = record {
  row_of = challenge_of;
  place = λ c. c.cycle;
  behind = λ c. c.cycle + nonce_cycles;
  most = most_challenges;
  too_many = TooMany;
  no_row = λ n. Line n;
  not_rising = λ n. NotRising n;
}

-- what a text gives, line by line from 1
unfoldable pub challenges_of : List ℕ → Result (List Challenge) ChallengeFault
challenges_of text = rows_of challenge_rows text
