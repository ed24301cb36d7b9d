use Rattle.linker.proofs.LinkedLemmas.{links_is_image, linked_is_image}
use Rattle.linker.proofs.laws.linked_is_image.Goals as goal

pub returns : goal.returns
returns c = record { links = links_is_image; image = linked_is_image }
