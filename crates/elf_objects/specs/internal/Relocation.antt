-- Where the relocations of each section end in the list of all.
use Rattle.std.specs.Prelude.{ℕ, ◌<◌, ◌≤◌, ◌+◌, List, length}
use Rattle.elf_objects.specs.Passes.{each_below, all_below}
use Rattle.elf_objects.specs.Header.{section_count}
use Rattle.elf_objects.specs.Relocation.{relocations_at}

-- how many of them the sections below an index hold
abbrev pub count_below : List ℕ → ℕ → ℕ
count_below file i = length (all_below (relocations_at file) i)

-- and how many there are up to the end of each section
unfoldable pub ends_of : List ℕ → List ℕ
ends_of file = each_below (λ i. count_below file (i + 1)) (section_count file)

-- the section whose table has the relocation of this place among all
pub record IsIn (file : List ℕ) (section place : ℕ) : Type 0 where
  pub within : section < section_count file
  pub begun : count_below file section ≤ place
  pub ends : place < count_below file (section + 1)
