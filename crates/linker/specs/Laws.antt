-- The laws of linked images. They are what a function of this crate ensures.
use Rattle.std.specs.Prelude.{◌≡◌, ◌<◌, ℕ, List, All, None}
use Rattle.elf_objects.specs.Object.{ObjectValue, IsObject}
use Rattle.image_text.specs.Image.{Image, IsImage}
use Rattle.layout_file.specs.Sound.{IsLayout}
use Rattle.layout_file.specs.Values.{LayoutValue}
use Rattle.linker.specs.Image.{Links, linked_image}
use Rattle.linker.specs.Refusals.{link_fault_of}

abbrev pub AreBytes : List ℕ → Type 0
AreBytes bytes = All (λ b. b < 256) bytes

-- Each image that objects link to keeps what images keep, for any number of objects of any size.
abbrev pub LinksIsImage : Type 0
LinksIsImage = (layout : LayoutValue) (objects : List ObjectValue) (image : Image) → IsLayout layout → AreBytes layout.key →
    All IsObject objects → All (λ o. AreBytes o.file) objects → Links layout objects image → IsImage image

-- So does the one that is defined.
abbrev pub LinkedIsImage : Type 0
LinkedIsImage = (layout : LayoutValue) (objects : List ObjectValue) → IsLayout layout → AreBytes layout.key →
    All IsObject objects → All (λ o. AreBytes o.file) objects → link_fault_of layout objects ≡ None → IsImage (linked_image layout objects)
