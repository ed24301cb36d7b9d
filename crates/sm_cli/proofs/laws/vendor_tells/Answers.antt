use Rattle.sm_cli.proofs.Vendor.{vendor_tells}
use Rattle.sm_cli.proofs.laws.vendor_tells.Goals as goal

pub returns : goal.returns
returns c = record { tagged = vendor_tells c.machine_replies.ensures.read c.genuine_is_tagged.ensures.tagged }
