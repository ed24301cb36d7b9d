-- One part of a page more.
use Rattle.std.proofs.Common.{◌≡◌, ◌∙◌, ◌+◌, ◌-◌, ◌*◌, ◌/◌, ◌%◌, ◌++◌, ◌≤◌, arith, ap, append_assoc, subst, slice_range}
use Rattle.mod_keys.specs.Fed.{IsFed}
use Rattle.attest.proofs.Slices.{slice_range-join, slice_range-inner}
use Rattle.attest.proofs.hash.feed.Goals as goal

pub loop-at-preserved : goal.loop-at-preserved
loop-at-preserved c =
    let bytes = c.args.memory.now.bytes in
    let at = c.loop-at.at in
    let low = at % 256 in
    let high = c.min-high.result in
    let below : low ≤ high = omega arith in
    let within : high ≤ 256 = omega arith in
    let start : 256 * (at / 256) + low ≡ at = omega arith in
    let end : 256 * (at / 256) + high ≡ at + (high - low) = omega arith in
    let piece : slice_range c.page.result.now low high ≡ slice_range bytes at (at + (high - low)) =
    ap (λ page. slice_range page low high) c.page.ensures.page
    ∙ slice_range-inner bytes (256 * (at / 256)) 256 low high below within
    ∙ ap (λ n. slice_range bytes n (256 * (at / 256) + high)) start
    ∙ ap (slice_range bytes at) end in
    let from : c.args.start ≤ at = c.loop-at.invariant.low in
    let up : at ≤ at + (high - low) = omega arith in
    record {
      fed = λ key message was.
          let whole : (message ++ slice_range bytes c.args.start at) ++ slice_range c.page.result.now low high ≡ message ++ slice_range bytes c.args.start (at + (high - low)) =
          append_assoc message (slice_range bytes c.args.start at) (slice_range c.page.result.now low high)
          ∙ ap (λ xs. message ++ (slice_range bytes c.args.start at ++ xs)) piece
          ∙ ap (λ xs. message ++ xs) (slice_range-join bytes c.args.start at (at + (high - low)) from up) in
          subst (IsFed c.update.new.self key) whole (c.update.ensures.joined key (message ++ slice_range bytes c.args.start at) (c.loop-at.invariant.fed key message was));
      low = omega arith;
      high = omega arith;
      size = λ _. c.page.ensures.size;
    }
