-- The laws of an image's text. Each is what a function of this crate ensures.
use Rattle.std.specs.Prelude.{◌≡◌, ◌⊎◌, ℕ, List, Result, Ok, Err, None}
use Rattle.image_text.specs.declared.ImageFault.{ImageFault}
use Rattle.image_text.specs.declared.ImageFault.TheVariants.{NoMemory}
use Rattle.image_text.specs.Image.{Image, IsImage}
use Rattle.image_text.specs.ImageText.{image_text}
use Rattle.image_text.specs.Refusal.{refusal_of}
use Rattle.image_text.specs.Reading.{Reads}

-- The text of an image is not refused.
abbrev pub Accepted : Type 0
Accepted = (i : Image) → IsImage i → refusal_of (image_text i) ≡ None

-- No two images have one text.
abbrev pub Alone : Type 0
Alone = (i j : Image) → IsImage i → IsImage j → image_text i ≡ image_text j → i ≡ j

-- What is written is read back: of an image's text reading gives that image, or want of memory.
abbrev pub ReadsBack : Type 0
ReadsBack = (i : Image) (result : Result Image ImageFault) → IsImage i → Reads (image_text i) result → (result ≡ Ok i) ⊎ (result ≡ Err NoMemory)

-- Bytes of which no refusal holds are some image's text.
abbrev pub Complete : Type 0
Complete = (bytes : List ℕ) → refusal_of bytes ≡ None → (i : Image) × IsImage i × (bytes ≡ image_text i)
