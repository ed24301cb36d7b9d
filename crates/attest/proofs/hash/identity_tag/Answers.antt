use Rattle.std.proofs.Common.{◌∙◌, ap}
use Rattle.mod_keys.specs.Keys.{identity, tag_of}
use Rattle.mod_keys.specs.Mac.{short_hmac}
use Rattle.attest.specs.internal.Accesses.{text_in}
use Rattle.attest.proofs.hash.identity_tag.Goals as goal

pub returns : goal.returns
unfolding tag_of
returns c =
    c.tag.ensures.tag _ _ (c.feed_identity.ensures.fed _ _ c.new-hmac.ensures.empty)
    ∙ ap (λ key. short_hmac key (identity c.args.other.now (text_in c.args.memory.now.bytes c.args.other.now))) c.key_of.ensures.key
