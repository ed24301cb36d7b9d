-- HMAC (FIPS 198-1) over SHA-256 (FIPS 180-4), on lists of bytes.
use Rattle.std.specs.Prelude.{ℕ, ◌-◌, List, ◌++◌, length, take, map, replicate, nat_lt, if◌then◌else◌, bit_xor}
use Rattle.sha2.specs.Sha256.{sha256}
use Rattle.mod_keys.specs.declared.mac.TheConstants.{BLOCK, INNER_PAD, OUTER_PAD, TAG_LENGTH}

-- a key longer than a block is hashed (FIPS 198-1, section 4, steps 1 and 2)
abbrev pub short_key : List ℕ → List ℕ
short_key key = if nat_lt BLOCK (length key) then sha256 key else key

-- the key as one block, with zeros up to its end (step 3)
abbrev pub block_key : List ℕ → List ℕ
block_key key = short_key key ++ replicate (BLOCK - length (short_key key)) 0

-- that block with each byte exclusive-or a pad: ipad for the inner hash, opad for the outer (steps 4 and 7)
abbrev pub padded_key : ℕ → List ℕ → List ℕ
padded_key pad key = map (λ b. bit_xor b pad) (block_key key)

-- the HMAC of a message under a key (steps 5 to 9)
unfoldable pub hmac : List ℕ → List ℕ → List ℕ
hmac key message = sha256 (padded_key OUTER_PAD key ++ sha256 (padded_key INNER_PAD key ++ message))

-- the first bytes of a HMAC: a tag or a key
abbrev pub short_hmac : List ℕ → List ℕ → List ℕ
short_hmac key message = take TAG_LENGTH (hmac key message)
