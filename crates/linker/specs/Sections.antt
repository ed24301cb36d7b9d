-- Loaded sections in a memory.
use Rattle.std.specs.Prelude.{ℕ, ◌+◌, List, if◌then◌else◌}
use Rattle.elf_objects.specs.declared.object.SectionHead.{SectionHead}
use Rattle.link_symbols.specs.Passes.{fold_at, NumberedObject, part}
use Rattle.link_symbols.specs.Parts.{is_loaded_head}
use Rattle.linker.specs.Bytes.{bytes_put}

-- where it is loaded
unfoldable pub put_section : (ℕ → ℕ) → NumberedObject → List ℕ → ℕ → SectionHead → List ℕ
put_section address x memory k head =
    if is_loaded_head head then bytes_put memory (address (x.first + k)) (part x.object head.bytes) else memory

abbrev pub put_sections : (ℕ → ℕ) → List ℕ → NumberedObject → List ℕ
put_sections address memory x = fold_at (put_section address x) memory 0 x.object.sections
