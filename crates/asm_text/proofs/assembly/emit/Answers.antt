use Rattle.asm_text.proofs.assembly.emit.Goals as goal

pub emit_all-requires-clause-placed : goal.emit_all-requires-clause-placed
emit_all-requires-clause-placed c = rw (c.deref.ensures.value, c.deref-3.ensures.value, c.requires.sound.spots) (record { end = _; goes = c.requires.placed })
