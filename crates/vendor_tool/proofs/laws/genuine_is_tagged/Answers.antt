use Rattle.vendor_tool.proofs.Judging.{genuine_is_tagged, genuine_is_modules}
use Rattle.vendor_tool.proofs.laws.genuine_is_tagged.Goals as goal

pub returns : goal.returns
returns c = record { tagged = genuine_is_tagged; modules = genuine_is_modules }
