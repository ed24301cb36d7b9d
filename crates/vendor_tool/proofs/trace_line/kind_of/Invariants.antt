use Rattle.std.proofs.Common.{◌≡◌, drop}
use Rattle.std.specs.Prelude.{find}
use Rattle.vendor_tool.specs.TraceLines.{is_of_kind, line_kinds}
use Rattle.vendor_tool.proofs.trace_line.kind_of.Given as goal

-- no kind so far fits
abbrev pub invariant-loop-kind : goal.invariant-loop-kind
invariant-loop-kind l = find (is_of_kind l.line) (drop l.kind-index line_kinds) ≡ find (is_of_kind l.line) line_kinds
