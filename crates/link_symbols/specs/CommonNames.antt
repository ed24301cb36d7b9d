-- The names of commons.
use Rattle.std.specs.Prelude.{ℕ, List, map}
use Rattle.std.specs.Borrow.{Bor}
use Rattle.elf_objects.specs.Object.{ObjectValue}
use Rattle.link_symbols.specs.Commons.{Common, commons_of}
use Rattle.link_symbols.specs.Symbols.{named_symbols}

abbrev pub common_name : Common → List ℕ
common_name c = c.name

-- the names of the commons of objects
abbrev pub common_names : List ObjectValue → List (List ℕ)
common_names objects = map common_name (commons_of (named_symbols objects))

-- what borrowed names are
abbrev pub borrowed : List (Bor (List ℕ)) → List (List ℕ)
borrowed names = map (λ n. n.now) names
