use Rattle.std.proofs.Common.{◌≡◌, List, ℕ, ◌++◌, map, drop, length, Bor, All}
use Rattle.linker.specs.Room.{IsSmall}
use Rattle.cli_files.specs.Files.{an_object, object_needs, HoldAll}
use Rattle.cli_files.proofs.loading.load_objects.Given as goal

abbrev pub invariant-loop-name : goal.invariant-loop-name
invariant-loop-name g l = record {
  done : List (List ℕ);
  whole : done ++ map (λ (n : Bor (List ℕ)). n.now) (drop l.name-index l.names) ≡ map (λ (n : Bor (List ℕ)). n.now) l.names;
  hold : HoldAll (g.F.Files.content l.initial.files) (object_needs done) (map an_object l.objects.items);
  small : All IsSmall l.objects.items;
  count : length l.objects.items ≡ l.name-index;
  quiet : g.F.Files.faults l.files ≡ g.F.Files.faults l.initial.files;
  same_sound : g.F.Files.sound l.files ≡ g.F.Files.sound l.initial.files;
  same_files : g.F.Files.content l.files ≡ g.F.Files.content l.initial.files;
}
