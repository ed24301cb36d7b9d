-- What the code's own invariants say of: Sections.
use Rattle.std.specs.Prelude.{◌≡◌, List}
use Rattle.obj_write.specs.declared.sections.Sections.{Sections}
use Rattle.obj_write.specs.Sections.{FileSection, padded_contents, heads_of}

-- the contents and the headers of these sections
pub record AreSections (sections : List FileSection) (s : Sections) : Type 0 where
  pub contents : s.contents.items ≡ padded_contents sections
  pub heads : s.heads.items ≡ heads_of sections
