use Rattle.std.proofs.Common.{◌∙◌, ap, slice_range}
use Rattle.mod_keys.specs.Keys.{tag_of}
use Rattle.mod_keys.specs.Mac.{short_hmac}
use Rattle.attest.proofs.hash.message_tag.Goals as goal

pub returns-clause-tag : goal.returns-clause-tag
unfolding tag_of
returns-clause-tag c =
    c.tag.ensures.tag _ _ (c.feed.ensures.fed _ _ c.new-hmac.ensures.empty)
    ∙ ap (λ key. short_hmac key (slice_range c.args.memory.now.bytes c.args.start c.args.end)) c.key_of.ensures.key
