use Rattle.std.proofs.Common.{arith, ap, sym, ◌∙◌}
use Rattle.elf_objects.specs.internal.Relocation.{count_below}
use Rattle.elf_objects.proofs.PlaceLemmas.{count_zero, within_ends}
use Rattle.elf_objects.proofs.relocation.count_before.Goals as goal

pub returns-then-section-eq0 : goal.returns-then-section-eq0
returns-then-section-eq0 c = sym (ap (count_below c.args.file.now) c.if-section-eq0.true ∙ count_zero c.args.file.now)

pub bounds-ends-section : goal.bounds-ends-section
bounds-ends-section c = let n = within_ends c.args.file.now c.args.ends.now c.requires.ends in omega (arith, n)
