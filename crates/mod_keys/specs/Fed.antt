-- What a running HMAC stands for.
use Rattle.std.specs.Prelude.{ℕ, List, ◌++◌}
use Rattle.sha2.specs.Hashers.{Holds256}
use Rattle.mod_keys.specs.Mac.{padded_key}
use Rattle.mod_keys.specs.declared.mac.TheConstants.{INNER_PAD, OUTER_PAD}
use Rattle.mod_keys.specs.declared.mac.Hmac.{Hmac}

-- it was begun with this key, and the pieces fed so far, joined, are this message
pub record IsFed (h : Hmac) (key message : List ℕ) : Type 0 where
  pub inner : Holds256 h.inner (padded_key INNER_PAD key ++ message)
  pub outer : Holds256 h.outer (padded_key OUTER_PAD key)
