use Rattle.std.proofs.Common.{◌≡◌, ◌≤◌, ◌+◌, ◌*◌, ◌^◌}
use Rattle.elf_objects.specs.Passes.{each_below}
use Rattle.elf_objects.specs.internal.Relocation.{count_below}
use Rattle.elf_objects.proofs.relocation.ends_of.Given as goal

abbrev pub invariant-loop-i : goal.invariant-loop-i
invariant-loop-i l = record {
  ends : l.ends.items ≡ each_below (λ i. count_below l.file (i + 1)) l.i;
  end : l.end ≡ count_below l.file l.i;
  few : l.end ≤ l.i * 2 ^ 32;
}
