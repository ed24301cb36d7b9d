-- Challenges: a cycle and a nonce, one after another.
use Rattle.std.specs.Prelude.{◌≡◌, ℕ, ◌+◌, ◌*◌, ◌≤◌, List, length}
use Rattle.std.specs.List.{All, AllPairs}
use Rattle.hex.specs.Hex.{IsBytes}
use Rattle.vendor_tool.specs.declared.Challenge.{Challenge}

-- there are at most so many challenges
abbrev pub most_challenges : ℕ
most_challenges = 4096

-- the last cycle of at most seventeen digits
abbrev pub last_cycle : ℕ
last_cycle = 99999999999999999

-- the bytes of a nonce
abbrev pub nonce_length : ℕ
nonce_length = 16

-- the cycles from one byte of a nonce to the next
abbrev pub byte_step : ℕ
byte_step = 100

-- the cycles of a whole nonce
abbrev pub nonce_cycles : ℕ
nonce_cycles = nonce_length * byte_step

pub record IsChallenge (c : Challenge) : Type 0 where
  pub cycle : c.cycle ≤ last_cycle
  pub length : length c.nonce ≡ nonce_length
  pub bytes : IsBytes c.nonce

abbrev pub AreFew : List Challenge → Type 0
AreFew cs = length cs ≤ most_challenges

abbrev pub AreChallenges : List Challenge → Type 0
AreChallenges cs = All IsChallenge cs

-- each begins no sooner than the whole nonces before it are sent
abbrev pub AreApart : List Challenge → Type 0
AreApart cs = AllPairs (λ c d. c.cycle + nonce_cycles ≤ d.cycle) cs
