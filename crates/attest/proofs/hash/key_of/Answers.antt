use Rattle.std.proofs.Common.{◌∙◌, ap}
use Rattle.mod_keys.specs.Keys.{identity, module_key}
use Rattle.mod_keys.specs.Mac.{short_hmac}
use Rattle.attest.specs.internal.Accesses.{text_in}
use Rattle.attest.proofs.hash.key_of.Goals as goal

pub returns-clause-key : goal.returns-clause-key
unfolding module_key
returns-clause-key c =
    c.tag.ensures.tag _ _ (c.feed_identity.ensures.fed _ _ c.new-hmac.ensures.empty)
    ∙ ap (λ key. short_hmac key (identity c.args.module.now (text_in c.args.memory.now.bytes c.args.module.now))) c.provider_key.ensures.key
