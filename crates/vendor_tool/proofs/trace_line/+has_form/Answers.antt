use Rattle.std.proofs.Common.{sym, arith}
use Rattle.vendor_tool.proofs.Forms.{nothing_fits}
use Rattle.vendor_tool.proofs.trace_line.+has_form.Goals as goal

pub returns-in_default : goal.returns-in_default
returns-in_default t c = sym (nothing_fits c.args.form.now c.args.line.now (omega (arith, c.in_default.len_below)))
