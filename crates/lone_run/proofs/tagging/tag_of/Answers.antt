use Rattle.std.proofs.Common.{◌∙◌, ap, map}
use Rattle.mod_keys.specs.Keys.{tag_of}
use Rattle.mod_keys.specs.Mac.{short_hmac}
use Rattle.pc_access.specs.declared.Kind.TheVariants.{Read}
use Rattle.attest.specs.Units.{each_byte}
use Rattle.cpu_step.specs.Lone.{lone_read}
use Rattle.lone_run.specs.internal.Jobs.{lone_call}
use Rattle.lone_run.proofs.tagging.tag_of.Goals as goal

pub returns : goal.returns
unfolding tag_of
returns c =
    c.tag.ensures.tag _ _ (c.feed.ensures _ _ c.new-hmac.ensures.empty)
    ∙ ap (λ key. short_hmac key (map (lone_read (lone_call c.args.job.now) c.args.ram.now) (each_byte Read c.args.start c.args.count))) c.module_key-key.ensures.key
