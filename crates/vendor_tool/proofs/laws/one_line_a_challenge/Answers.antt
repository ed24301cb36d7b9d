use Rattle.vendor_tool.proofs.ChallengeLines.{challenges_are_read}
use Rattle.vendor_tool.proofs.laws.one_line_a_challenge.Goals as goal

pub returns : goal.returns
returns c = record { read = challenges_are_read }
