use Rattle.std.proofs.Common.{◌≡◌, drop}
use Rattle.mod_layout.specs.Table.{place_in}
use Rattle.mod_layout.proofs.table.place_among.Given as goal

-- the modules passed are not the address's
abbrev pub invariant-loop-module : goal.invariant-loop-module
invariant-loop-module l = place_in l.modules l.addr ≡ place_in (drop l.module-index l.modules) l.addr
