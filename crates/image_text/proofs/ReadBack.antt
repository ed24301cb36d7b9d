-- What is written is read back.
use Rattle.std.specs.Prelude.{Result, Ok, Err}
use Rattle.std.proofs.Common.{◌≡◌, ◌⊎◌, inl, inr, ⊎_elim, Option, Some, None, sym, ap}
use Rattle.image_text.specs.declared.ImageFault.{ImageFault}
use Rattle.image_text.specs.declared.ImageFault.TheVariants.{NoMemory}
use Rattle.image_text.specs.Image.{Image, IsImage}
use Rattle.image_text.specs.ImageText.{image_text}
use Rattle.image_text.specs.Refusal.{refusal_of}
use Rattle.image_text.specs.Reading.{Reads}
use Rattle.image_text.proofs.OneText.{text_has_no_refusal, images_of_one_text}

none_is_none : (o : Option ImageFault) (fault : ImageFault) → o ≡ None → o ≡ Some fault → ⊥
none_is_none o fault e f = cc

-- reading an image's text gives that image, or want of memory
pub read_back : (i : Image) (result : Result Image ImageFault) → IsImage i → Reads (image_text i) result → (result ≡ Ok i) ⊎ (result ≡ Err NoMemory)
read_back i (Ok j) h r = inl (ap (λ k. Ok k) (sym (images_of_one_text i j h r.0 r.1)))
read_back i (Err fault) h r =
    ⊎_elim (λ e. inr (ap (λ f. Err f) e)) (λ e. absurd (none_is_none (refusal_of (image_text i)) fault (text_has_no_refusal i h) e)) r
