-- The outer hash is of the outer block and the digest of the inner hash.
use Rattle.std.proofs.Common.{ap, ◌∙◌, ◌++◌}
use Rattle.sha2.specs.Sha256.{sha256}
use Rattle.mod_keys.specs.Mac.{hmac, padded_key}
use Rattle.mod_keys.specs.declared.mac.TheConstants.{INNER_PAD, OUTER_PAD}
use Rattle.mod_keys.proofs.mac.Hmac.finish.Goals as goal

pub returns : goal.returns
unfolding hmac
returns c = record {
  hmac = λ key message fed.
      c.finalize.ensures _ (c.update.ensures _ fed.outer)
      ∙ ap (λ digest. sha256 (padded_key OUTER_PAD key ++ digest)) (c.finalize-digest.ensures (padded_key INNER_PAD key ++ message) fed.inner);
}
