-- Numbered objects as values.
use Rattle.link_symbols.specs.Passes.{NumberedObject}
use Rattle.linker.specs.declared.memory.Numbered.{Numbered}

abbrev pub numbered_of : Numbered → NumberedObject
numbered_of x = record { number = x.number; first = x.first; object = x.object.now }
