use Rattle.std.proofs.Common.{◌≡◌, ◌∙◌, ap, sym, ◌-◌}
use Rattle.sm_words.specs.Words.{reg}
use Rattle.lone_run.specs.internal.Jobs.{lone_call}
use Rattle.lone_run.proofs.Ranges.{tag_ranges}
use Rattle.lone_run.proofs.next.has_tag.Goals as goal

pub returns : goal.returns
returns c =
    let core = c.args.core.now in
    let n : c.get.result - c.get-start.result ≡ reg core 13 - reg core 12 = ap (λ k. k - c.get-start.result) c.get.ensures.word ∙ ap (λ k. reg core 13 - k) c.get-start.ensures.word in
    c.both.ensures
    ∙ tag_ranges (lone_call c.args.job.now) core c.get-start.result (c.get.result - c.get-start.result) c.get-2.result c.has_bytes-reads.result c.has_bytes-writes.result
    (sym c.has_ranges.ensures.value ∙ c.if-not-has_ranges.false) c.get-start.ensures.word n c.get-2.ensures.word c.has_bytes-reads.ensures c.has_bytes-writes.ensures
