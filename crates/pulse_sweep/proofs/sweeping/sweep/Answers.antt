use Rattle.std.proofs.Common.{◌≡◌, ◌+◌, ◌-◌, ◌∙◌, not, arith}
use Rattle.pulse_sweep.specs.Sweep.{is_same_at, row_at}
use Rattle.pulse_sweep.proofs.Counts.{row_added, count_added, few_added, swept_text, swept_count}
use Rattle.pulse_sweep.proofs.sweeping.sweep.Goals as goal

pub loop-i-preserved : goal.loop-i-preserved
loop-i-preserved c =
    let p = c.args.pulses.now in
    let a = c.args.first.now in
    let b = c.args.second.now in
    record {
      text = row_added (row_at p a b) p.from c.loop-i.i _ _ c.loop-i.invariant.text c.in_ok-add_row.ensures.text;
      different = count_added (λ k. not (is_same_at p a b k)) p.from c.loop-i.i _ _ c.loop-i.invariant.different c.in_ok-add_row.ensures.different;
      few = few_added (not (is_same_at p a b (p.from + c.loop-i.i))) c.loop-i.i _ _ c.loop-i.invariant.few c.in_ok-add_row.ensures.different;
    }

pub returns-clause-text : goal.returns-clause-text
returns-clause-text c =
    let p = c.args.pulses.now in
    let all : c.loop-i.i ≡ p.to + 1 - p.from = omega (arith, c.loop-i-test.false, c.loop-i.auto.i-end, c.saturating_sub-count.ensures) in
    let same : c.saturating_sub-count.result - c.loop-i.swept.different ≡ c.loop-i.i - c.loop-i.swept.different = omega (arith, all, c.saturating_sub-count.ensures) in
    swept_text p c.args.first.now c.args.second.now c.loop-i.i _ _ _ c.loop-i.swept.different all c.loop-i.invariant.text c.loop-i.invariant.different same c.in_ok-push_end.ensures

pub returns-clause-different : goal.returns-clause-different
returns-clause-different c =
    let p = c.args.pulses.now in
    let all : c.loop-i.i ≡ p.to + 1 - p.from = omega (arith, c.loop-i-test.false, c.loop-i.auto.i-end, c.saturating_sub-count.ensures) in
    swept_count p c.args.first.now c.args.second.now c.loop-i.i _ all c.loop-i.invariant.different

pub returns-clause-peers : goal.returns-clause-peers
returns-clause-peers c m peers = returns-clause-different c ∙ c.peers.ensures.none c.args.pulses.now c.args.first.now c.args.second.now m peers
