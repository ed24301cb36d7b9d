-- What has room where it stands.
use Rattle.std.specs.Prelude.{length, ◌≤◌}
use Rattle.elf_objects.specs.Object.{ObjectValue}

-- a file has at most 1,048,576 bytes
abbrev pub IsSmall : ObjectValue → Type 0
IsSmall o = length o.file ≤ 1048576
