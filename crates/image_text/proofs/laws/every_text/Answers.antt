use Rattle.image_text.proofs.EveryText.{every_text as every}
use Rattle.image_text.proofs.laws.every_text.Goals as goal

pub returns : goal.returns
returns c = record { complete = every }
