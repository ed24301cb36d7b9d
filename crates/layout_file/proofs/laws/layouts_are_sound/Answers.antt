use Rattle.layout_file.proofs.SoundLemmas.{IsLayout-LayoutOf}
use Rattle.layout_file.proofs.laws.layouts_are_sound.Goals as goal

pub returns : goal.returns
returns c = record { sound = IsLayout-LayoutOf c.args.bytes.now }
