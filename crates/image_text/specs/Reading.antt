-- What reading and writing promise of the text.
use Rattle.std.specs.Prelude.{◌≡◌, ◌⊎◌, ℕ, List, Some, Result, Ok, Err}
use Rattle.image_text.specs.declared.ImageFault.{ImageFault}
use Rattle.image_text.specs.declared.ImageFault.TheVariants.{NoMemory}
use Rattle.image_text.specs.Image.{Image, IsImage}
use Rattle.image_text.specs.ImageText.{image_text}
use Rattle.image_text.specs.Refusal.{refusal_of}

-- what reading these bytes may answer: the image whose text they are, or their refusal, or NoMemory
abbrev pub Reads : List ℕ → Result Image ImageFault → Type 0
Reads bytes (Ok image) = IsImage image × (bytes ≡ image_text image)
Reads bytes (Err fault) = (fault ≡ NoMemory) ⊎ (refusal_of bytes ≡ Some fault)

-- ---- modules

-- ---- memory
