use Rattle.std.specs.Result.{is_ok}
use Rattle.std.proofs.Common.{not, true, sym, ◌≡◌, ◌∙◌, ap, arith}
use Rattle.texts.proofs.RowLemmas.{IsRead-start, IsRead-push}
use Rattle.vendor_tool.specs.Challenges.{IsChallenge}
use Rattle.vendor_tool.specs.ChallengeText.{challenge_rows}
use Rattle.vendor_tool.proofs.reading.read_challenges.Goals as goal

pub loop-line-init : goal.loop-line-init
loop-line-init c = rw c.new-list.ensures.items (IsRead-start challenge_rows IsChallenge c.args.bytes.now)

pub loop-line-preserved : goal.loop-line-preserved
loop-line-preserved c =
    let pushed : is_ok c.push.result ≡ true = c.is_err.ensures.negation ∙ ap not c.if-is_err.false in
    rw (c.push.ensures.items, pushed)
    (IsRead-push challenge_rows IsChallenge _ _ _ _ _ _ _ c.loop-line.invariant c.in-Some.ensures.lines _ c.if-n-gt-MAX_CHALLENGES.false
    (sym c.challenge_of.ensures.challenge ∙ c.in-Some-challenge_of.is) c.if-challenge-low.false (omega arith) c.in-Some-challenge_of.ensures.sound)
