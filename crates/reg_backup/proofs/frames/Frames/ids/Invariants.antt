use Rattle.std.proofs.Common.{◌≡◌, reverse, take}
use Rattle.reg_backup.specs.Held.{held_ids}
use Rattle.reg_backup.proofs.frames.Frames.ids.Given as goal

-- the ids of the frames gone through
abbrev pub invariant-loop-frame : goal.invariant-loop-frame
invariant-loop-frame l = l.ids.items ≡ reverse (held_ids (reverse (take l.frame-index l.frame-items)))
